use Rattle.std.proofs.Common.{◌≡◌, true, false, length, sym, ap₂, ◌∙◌}
use Rattle.sja_sweep.specs.FirstErrors.{is_new, is_new_at}
use Rattle.sja_sweep.proofs.NumberLists.Searches.{find_here, find_more}
use Rattle.sja_sweep.proofs.first_error.first_bit.Goals as goal

pub returns-then-is_new : goal.returns-then-is_new
returns-then-is_new c =
    let is : is_new_at c.args.without.now c.args.now.now c.loop-bit.bit ≡ true =
    sym (ap₂ is_new c.error_at.ensures c.error_at-in-loop-bit.ensures) ∙ sym c.is_new.ensures ∙ c.if-is_new.true in
    find_here (is_new_at c.args.without.now c.args.now.now) c.loop-bit.bit (length c.args.now.now) _
    c.loop-bit-test.true is c.loop-bit.invariant

pub loop-bit-preserved : goal.loop-bit-preserved
loop-bit-preserved c =
    let is : is_new_at c.args.without.now c.args.now.now c.loop-bit.bit ≡ false =
    sym (ap₂ is_new c.error_at.ensures c.error_at-in-loop-bit.ensures) ∙ sym c.is_new.ensures ∙ c.if-is_new.false in
    find_more (is_new_at c.args.without.now c.args.now.now) c.loop-bit.bit (length c.args.now.now) _
    c.loop-bit-test.true is c.loop-bit.invariant
