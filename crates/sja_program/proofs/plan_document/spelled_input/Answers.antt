use Rattle.std.proofs.Common.{subst}
use Rattle.std.specs.Prelude.{IfOk, IfErr}
use Rattle.std.proofs.lemmas.Result.{IfOk-weaker, IfErr-weaker}
use Rattle.sja_program.specs.PlanDocument.{IsSpelling, RefusesSpelling}
use Rattle.sja_program.specs.Denials.{DeniesOf}
use Rattle.sja_program.proofs.Denied.{input_unspelled}
use Rattle.sja_program.proofs.plan_document.spelled_input.Goals as goal

-- the text is that of the plan that was read
pub returns-clause-ok : goal.returns-clause-ok
returns-clause-ok g c =
    let bytes = c.in_ok-bytes.bytes.items in
    let read = c.in_ok-bytes.ensures in
    let said = subst (λ b. IfOk c.spelled.result (λ text. IsSpelling b text.items)) c.as_slice.ensures.value
    c.spelled.ensures.ok in
    IfOk-weaker c.spelled.result _ _ (λ text is. (bytes, (read.taken, read.bound, read.whole), is)) said

-- there is none of the bytes that were read
pub returns-clause-err : goal.returns-clause-err
returns-clause-err g c =
    let bytes = c.in_ok-bytes.bytes.items in
    let read = c.in_ok-bytes.ensures in
    let said = subst (λ b. IfErr c.spelled.result (DeniesOf (RefusesSpelling b) b)) c.as_slice.ensures.value
    c.spelled.ensures.err in
    IfErr-weaker c.spelled.result _ _
    (λ why is. input_unspelled _ _ bytes why (read.taken, read.bound, read.whole) is) said
