use Rattle.std.proofs.Common.{◌≡◌, ◌+◌, ◌-◌, ◌≤◌, length, drop, sym, ap, ◌∙◌, arith}
use Rattle.std.proofs.lemmas.List.{length-drop, drop-drop}
use Rattle.sja_journal.specs.Inside.Codes.{is_rest, leading}
use Rattle.sja_journal.proofs.JournalEntries.Blocks.{past_block}
use Rattle.sja_journal.proofs.rest_bits.leading_rest.Goals as goal

pub loop-bits-preserved : goal.loop-bits-preserved
loop-bits-preserved c =
    let codes = c.args.codes.now in
    let bits = c.loop-bits.bits in
    let left = drop bits codes in
    let long = length-drop bits codes in
    let block : bits + 32 - bits ≡ 32 = omega arith in
    let room : bits + 32 - bits ≤ length left = omega (arith, long, c.loop-bits-test.true, c.loop-bits.invariant.few) in
    let past = rw block at (past_block is_rest (bits + 32 - bits) left room (sym c.are_rest.ensures
    ∙ c.if-are_rest.true)) in
    let behind = ap (leading is_rest) (drop-drop 32 bits codes) in
    record {
      counted = omega (arith, past, behind, c.loop-bits.invariant.counted);
      few = omega (arith, long, room, c.loop-bits.invariant.few);
    }
