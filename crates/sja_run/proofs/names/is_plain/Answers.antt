use Rattle.std.proofs.Common.{◌≡◌, ◌==◌, ◌∙◌, sym, false, get_or, arith}
use Rattle.std.proofs.lemmas.Grind.{common_steps}
use Rattle.std.proofs.lemmas.Bool.Decides.{nat_tests}
use Rattle.sja_run.specs.Names.{is_control}
use Rattle.sja_run.proofs.ShownNames.{plain_more, plain_name}
use Rattle.sja_run.proofs.names.is_plain.Goals as goal

pub loop-byte-preserved : goal.loop-byte-preserved
loop-byte-preserved c =
    let byte = get_or c.as_bytes-bytes.result.now c.loop-byte.byte-index 0 in
    let none : is_control byte ≡ false = sym c.is_control.ensures ∙ c.if-is_control.false in
    let begins : (byte == 0xC2) ≡ false = grind (arith, nat_tests, common_steps) in
    plain_more c.as_bytes-bytes.result.now c.loop-byte.byte-index (omega arith) c.loop-byte.invariant none begins

pub returns : goal.returns
returns c = λ yes.
    let same = c.as_bytes-bytes.ensures.value in
    plain_name _ c.loop-byte.byte-index (omega arith) (rw same at c.loop-byte.invariant)
