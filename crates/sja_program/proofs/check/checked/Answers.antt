use Rattle.std.proofs.Common.{subst}
use Rattle.sja_program.specs.Replies.{IsSaidOf}
use Rattle.sja_program.proofs.PlanAnswers.PlanRuns.{said_of_input}
use Rattle.sja_program.proofs.check.checked.Goals as goal

-- what is said of the bytes that were read
pub returns-clause-ok : goal.returns-clause-ok
returns-clause-ok g c =
    let read = c.in_ok-bytes.ensures in
    let said = subst (λ bytes. IsSaidOf bytes c.in_ok-said.said) c.as_slice.ensures.value c.in_ok-said.ensures in
    said_of_input _ _ c.in_ok-bytes.bytes.items c.in_ok-said.said (read.taken, read.bound, read.whole) said
