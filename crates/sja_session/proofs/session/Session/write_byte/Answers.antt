use Rattle.std.proofs.Common.{rules, [], ◌∷◌}
use Rattle.sja_serial.specs.Stepping.{with_step_runs}
use Rattle.sja_session.specs.ByAddress.DoesSteps.{none, more}
use Rattle.sja_session.proofs.StepsDone.Accessing.{may_of_step}
use Rattle.sja_session.proofs.session.Session.write_byte.Goals as goal

-- a write doesn't wait
pub unreachable-requires : goal.unreachable-requires
unreachable-requires c =
    let s = c.stands.ensures in (c.step.ensures.waits (search rules) s.0 s.1).why

pub returns : goal.returns
returns c = (
  (λ step_runs at.
      let does = c.step.ensures.done c.in-Answer.field-0 (search rules) step_runs at in record {
        answers = c.in-Answer.field-0 ∷ [];
        after = with_step_runs step_runs c.args.node (does.step_run ∷ []);
        does = λ p. rw c.requires.bytes (more does none);
      }),
  (λ step_runs at p. rw c.requires.bytes (may_of_step _ c.args.node (search rules))),
  search rules,
  search rules,
)
