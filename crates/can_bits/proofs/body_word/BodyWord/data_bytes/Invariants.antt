use Rattle.std.proofs.Common.{◌≡◌, ◌<◌, List, length, All}
use Rattle.can_levels.specs.declared.level.Level.{Level}
use Rattle.can_levels.specs.DataBits.{IsWhole}
use Rattle.can_bits.specs.Packing.{Packs}
use Rattle.can_levels.proofs.Whole.Bytes.{Writes}
use Rattle.can_levels.proofs.Packing.Frames.{first_levels}
use Rattle.can_bits.proofs.body_word.BodyWord.data_bytes.Given as goal

-- the first k bytes were pushed
abbrev pub invariant-loop-k : goal.invariant-loop-k
invariant-loop-k l = record {
  written : (w : List Level) → Packs l.self.word l.self.place w → IsWhole w → Writes l.bytes.items (first_levels w l.k);
  count : length l.bytes.items ≡ l.k;
  small : All (λ byte. byte < 256) l.bytes.items;
}
