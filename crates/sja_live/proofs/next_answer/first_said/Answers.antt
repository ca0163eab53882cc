use Rattle.std.proofs.Common.{rules, subst}
use Rattle.sja_live.specs.Opening.{IsOpeningFault}
use Rattle.sja_live.proofs.Replies.LineAnswers.{first_fails}
use Rattle.sja_live.proofs.next_answer.first_said.Goals as goal

-- the line opens no session
pub returns-in-Err-Fault-clause-said : goal.returns-in-Err-Fault-clause-said
returns-in-Err-Fault-clause-said g c =
    let fails : IsOpeningFault c.as_str.result.now c.in-Err-Fault.fault = search rules in
    first_fails _ _ c.in-Text.line c.in-Err-Fault.fault (rw c.in-Text.is at c.in_ok-line.ensures.line)
    (subst (λ l. IsOpeningFault l c.in-Err-Fault.fault) c.as_str.ensures.value fails)
