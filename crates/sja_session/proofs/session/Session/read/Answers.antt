use Rattle.std.proofs.Common.{rules, ap, ◌∙◌}
use Rattle.sja_driver.specs.Answered.{value_or}
use Rattle.sja_driver.specs.Kept.{kept_at}
use Rattle.sja_session.proofs.StepsDone.ReadValue.{read_value}
use Rattle.sja_session.proofs.session.Session.read.Goals as goal

-- a read doesn't wait
pub unreachable-requires : goal.unreachable-requires
unreachable-requires c =
    let s = c.stands.ensures in (c.step.ensures.waits (search rules) s.0 s.1).why

pub returns-clause-reads : goal.returns-clause-reads
returns-clause-reads c = λ step_runs at.
    let does = c.step.ensures.done c.in-Answer.answer (search rules) step_runs at in record {
      answer = c.in-Answer.answer;
      does = does;
      is = λ d p. c.value_of.ensures
          ∙ ap (value_or c.in-Answer.answer)
          (c.read.ensures ∙ ap (λ k. kept_at k c.args.address) (c.kept-kept.ensures (search rules) d))
          ∙ read_value does d p;
    }
