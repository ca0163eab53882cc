-- How far a picture came.
use Rattle.std.proofs.Common.{◌≡◌, ◌⊎◌, inl, inr, ℕ, ◌+◌, ◌-◌, ◌<◌, ◌≤◌, zero, suc, true, false, ◌||◌, ap, arith}
use Rattle.std.specs.Prelude.{nat_le, nat_lt}
use Rattle.std.proofs.lemmas.Bool.Decides.{nat_tests}
use Rattle.text_picture.specs.PictureText.{start_of, length_of, space_before}
use Rattle.text_picture.specs.Pages.{space_if, IsAt}

-- ---- how far it came

-- past bits that aren't shown
pub at_passed : (first end bit stop start block : ℕ) → bit < stop → stop ≤ first → stop ≤ end →
    IsAt first end bit start block → IsAt first end stop start block
at_passed first end bit stop start block further before within at =
    let is = at.under_way (omega (arith, further, within)) in
    let reached = at.reached (omega (arith, further, within)) in
    record {
      under_way = λ more. is;
      reached = λ more. omega (arith, reached, further);
      short = λ more. omega (arith, is, before);
      over = λ past. omega (arith, is, reached, further, before, past);
    }

-- past some with which the block goes on
pub at_drawn : (first end bit stop start block : ℕ) → bit < stop → stop < end → stop - start < 120 →
    IsAt first end bit start block → IsAt first end stop start block
at_drawn first end bit stop start block further more fewer at =
    let is = at.under_way (omega (arith, further, more)) in
    let reached = at.reached (omega (arith, further, more)) in
    record {
      under_way = λ more. is;
      reached = λ more. omega (arith, reached, further);
      short = λ more. omega (arith, fewer);
      over = λ past. absurd (omega (arith, more, past));
    }

-- past some with which it ends
pub at_ended : (first end bit stop start block : ℕ) → first ≤ bit → bit < stop → stop ≤ end → stop ≤ start + 120 →
    (end ≤ stop) ⊎ (120 ≤ stop - start) → IsAt first end bit start block → IsAt first end stop stop (block + 1)
at_ended first end bit stop start block shown further within few over at =
    let is = at.under_way (omega (arith, further, within)) in
    let reached = at.reached (omega (arith, further, within)) in
    record {
      under_way = λ more. elim over [
        | inl past ↦ absurd (omega (arith, past, more))
        | inr full ↦ omega (arith, is, reached, few, shown, full)
      ];
      reached = λ more. omega (arith, shown, further);
      short = λ more. omega arith;
      over = λ past. omega (arith, is, reached, few, shown, further, within, past);
    }

-- before the first bit
pub first_at : (first end : ℕ) → IsAt first end 0 first 0
first_at first end = record {
  under_way = λ more. omega arith;
  reached = λ more. omega arith;
  short = λ more. omega arith;
  over = λ past. omega (arith, past);
}

-- whether it ends
pub going : (end stop start : ℕ) → (nat_le end stop || nat_le 120 (stop - start)) ≡ false →
    (stop < end) × (stop - start < 120)
going end stop start over = (grind (arith, nat_tests), grind (arith, nat_tests))

pub ending : (end stop start : ℕ) → (nat_le end stop || nat_le 120 (stop - start)) ≡ true →
    (end ≤ stop) ⊎ (120 ≤ stop - start)
ending end stop start over = grind (arith, nat_tests)

-- ---- a block

pub length_is : (first end stop start block : ℕ) → start ≡ start_of first block → stop ≤ start + 120 → stop ≤ end →
    (end ≤ stop) ⊎ (120 ≤ stop - start) → stop - start ≡ length_of first end block
length_is first end stop start block is few within over =
    elim over [
      | inl past ↦ omega (arith, is, few, within, past)
      | inr full ↦ omega (arith, is, few, within, full)
    ]

pub space_is : (first start block : ℕ) → start ≡ start_of first block →
    space_if (nat_lt first start) ≡ space_before block
space_is first start zero is =
    let no : nat_lt first start ≡ false = grind (arith, nat_tests) in ap space_if no
space_is first start (suc block) is =
    let yes : nat_lt first start ≡ true = grind (arith, nat_tests) in ap space_if yes
