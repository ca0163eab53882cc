use Rattle.std.proofs.Common.{sym, ap, ◌∙◌, arith}
use Rattle.std.specs.Prelude.{length}
use Rattle.sja_journal.proofs.JournalEntries.Decoding.{between_decoded}
use Rattle.sja_journal.proofs.between_bits.BetweenBits.of.Goals as goal

pub returns-clause-value : goal.returns-clause-value
returns-clause-value c = rw (← c.journal.view_is, ← c.recorder.view_is)
    (c.as_slice.ensures ∙ sym (between_decoded _ _ c.recorder.invariant.0))

pub returns-clause-few : goal.returns-clause-few
returns-clause-few c =
    let all = ap length c.as_slice.ensures in let len = c.len-others.ensures in let fits = c.len-others.type_inv in
    omega (arith, all, len, fits)
