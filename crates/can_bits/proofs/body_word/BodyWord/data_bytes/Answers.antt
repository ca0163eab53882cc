use Rattle.std.proofs.Common.{◌≡◌, ◌+◌, ◌*◌, ◌≤◌, ◌<◌, ◌∙◌, ◌∷◌, [], ℕ, List}
use Rattle.std.proofs.Common.{length, slice_range, ap, sym, subst, arith, All}
use Rattle.std.proofs.lemmas.List.Elements.{All-nil, All-cons, All-append}
use Rattle.can_levels.specs.Digits.{value}
use Rattle.can_levels.specs.DataBits.{data_place}
use Rattle.can_levels.proofs.Whole.Bytes.{Writes}
use Rattle.can_levels.proofs.SaidCounts.{whole_has_fields}
use Rattle.can_levels.proofs.Packing.Frames.{first_levels, no_bytes, byte_more}
use Rattle.can_bits.proofs.body_word.BodyWord.data_bytes.Goals as goal

pub loop-k-init : goal.loop-k-init
loop-k-init c =
    let P : List ℕ → Type 0 = λ l. All (λ byte. byte < 256) l in
    record {
      written =
          λ w packs whole. (let Q : List ℕ → Type 0 = λ l. Writes l (first_levels w 0) in subst Q
          (sym c.new-bytes.ensures) (no_bytes w));
      count = ap length c.new-bytes.ensures;
      small = subst P (sym c.new-bytes.ensures) (All-nil (λ byte. byte < 256));
    }

pub loop-k-preserved : goal.loop-k-preserved
loop-k-preserved c =
    let before = c.loop-k.bytes.items in
    let k = c.loop-k.k in
    let byte = c.number_at.result in
    let come = c.loop-k.invariant in
    let pushed = c.push.ensures in
    let fits = c.number_at.ensures.fits in
    let P : List ℕ → Type 0 = λ l. All (λ b. b < 256) l in
    record {
      written = λ w packs whole. (
          let fields = whole_has_fields w whole in
          let total = whole.count in
          let many = c.data_count-k-end.ensures.value w packs fields in
          let first = c.head_end-first.ensures.value w packs in
          let below = c.loop-k-test.true in
          let room : data_place w + 8 * k + 8 ≤ length w = omega (arith, total, many, below) in
          let start : c.head_end-first.result + 8 * k ≡ data_place w + 8 * k = ap (λ n. n + 8 * k) first in
          let held : byte ≡ value (slice_range w (data_place w + 8 * k) (data_place w + 8 * k + 8)) =
          c.number_at.ensures.value w packs (omega (arith, start, room))
          ∙ ap (λ n. value (slice_range w n (n + 8))) start in
          let Q : List ℕ → Type 0 = λ l. Writes l (first_levels w (k + 1)) in
          subst Q (sym pushed.items) (byte_more w before k byte room (come.written w packs whole) held)
          );
      count = omega (arith, pushed.len, come.count);
      small = subst P (sym pushed.items)
          (All-append (λ b. b < 256) before (byte ∷ []) come.small
          (All-cons (λ b. b < 256) byte [] (omega (arith, fits)) (All-nil (λ b. b < 256))));
    }
