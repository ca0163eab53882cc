-- A place code and an early stuff bit mean what the stuffing rule says.
use Rattle.std.proofs.Common.{◌≡◌, ◌-◌, ◌&&◌, ℕ, Bool, true, false, IsTrue, nat_le, nat_lt, Some, None}
use Rattle.std.proofs.Common.{List, reverse, length, refl, ap, sym, subst, ◌∙◌, arith, ◌↔◌, inl, inr}
use Rattle.std.proofs.lemmas.Bool.{cases_Bool, le-leb, leb-true, ltb-true, and_from, lt-ltb}
use Rattle.std.proofs.lemmas.List.{length-reverse, reverse-reverse}
use Rattle.std.proofs.lemmas.Option.{same_Some}
use Rattle.can_levels.specs.declared.level.Level.{Level}
use Rattle.can_levels.specs.Fields.{rtr_place}
use Rattle.can_levels.specs.Stuffing.{IsUnstuffed, EndsInEqual}
use Rattle.can_levels.specs.Arbitration.{IsAtPlace, IsStuffBeforeRtr}
use Rattle.can_levels.specs.Places.{is_full, plain_count, place_code, is_early_stuff}
use Rattle.can_levels.proofs.PlaceLemmas.{five-is, plain_count-is, code_early, stuff_early}
use Rattle.can_levels.proofs.Runs.{run, ends_in_run, run_ends}
use Rattle.can_levels.proofs.Stuffs.{unstuffed, unstuffed_by, is_unstuffed}

-- five equal levels end a list where the test says so
full_ends : (l : List Level) → is_full l ≡ true → EndsInEqual 5 l
full_ends l e =
    let P : List Level → Type 0 = λ m. EndsInEqual 5 m in
    subst P (reverse-reverse l) (run_ends 5 (reverse l) (leb-true 5 (run (reverse l)) (sym (five-is (reverse l)) ∙ e)))

-- and the test says so where they do
ends_full : (l : List Level) → EndsInEqual 5 l → is_full l ≡ true
ends_full l e =
    let P : List Level → Type 0 = λ m. EndsInEqual 5 m in
    five-is (reverse l) ∙ le-leb 5 (run (reverse l)) (ends_in_run 4 (reverse l) (subst P (sym (reverse-reverse l)) e))

-- and else not
not_full : (l : List Level) → ¬ EndsInEqual 5 l → is_full l ≡ false
not_full l h = elim (cases_Bool (is_full l)) [
  | inl t ↦ absurd (h (full_ends l t))
  | inr f ↦ f
]

-- how many levels are no stuff bits
count_by : (l w : List Level) → IsUnstuffed w l → plain_count l ≡ length w
count_by l w h = plain_count-is l ∙ ap length (unstuffed_by h) ∙ length-reverse w

-- some levels are what is left without the stuff bits
some_plain : (l : List Level) → (w : List Level) × IsUnstuffed w l
some_plain l =
    let w = reverse (unstuffed (reverse l)) in
    let P : List Level → Type 0 = λ m. IsUnstuffed w m in
    (w, subst P (reverse-reverse l) (is_unstuffed (reverse l)))

-- a code, and where it comes from
from_code : (ext : Bool) (l : List Level) (code : ℕ) → place_code ext l ≡ Some code → IsAtPlace ext l code
from_code ext l code e =
    let early = code_early ext l code e in
    let there = some_plain l in
    let count = count_by l there.0 there.1 in
    let n = plain_count l in
    elim (cases_Bool (nat_lt 0 n)) [
      | inl some ↦
          let t : (nat_lt 0 n && nat_le n (rtr_place ext)) ≡ true =
          and_from (nat_lt 0 n) (nat_le n (rtr_place ext)) some (le-leb n (rtr_place ext) early.1) in
          let is : place_code ext l ≡ Some (n - 1) = rw (early.0, t) refl in
          let one : n - 1 ≡ code = same_Some (n - 1) code (sym is ∙ e) in
          let few = ltb-true 0 n some in
          record {
            plain = there.0;
            unstuffed = there.1;
            no_stuff_bit = λ five. let f = ends_full l five in let no = early.0 in cc;
            place = omega (count, one, few, arith);
            within = omega (count, early.1, arith);
          }
      | inr none ↦
          let is : place_code ext l ≡ None = rw (early.0, none) refl in
          absurd (let no : None ≡ Some code = sym is ∙ e in cc)
    ]

-- and back
to_code : (ext : Bool) (l : List Level) (code : ℕ) → IsAtPlace ext l code → place_code ext l ≡ Some code
to_code ext l code h =
    let n = plain_count l in
    let count = count_by l h.plain h.unstuffed in
    let place = h.place in
    let within = h.within in
    let some : nat_lt 0 n ≡ true = lt-ltb 0 n (omega (count, place, arith)) in
    let late : nat_le n (rtr_place ext) ≡ true = le-leb n (rtr_place ext) (omega (count, within, arith)) in
    let t = and_from (nat_lt 0 n) (nat_le n (rtr_place ext)) some late in
    let full = not_full l h.no_stuff_bit in
    let one : n - 1 ≡ code = omega (count, place, arith) in
    rw (full, t) (ap (λ m. Some m) one)

-- a place code is that place
pub place_means : (ext : Bool) (l : List Level) (code : ℕ) → (place_code ext l ≡ Some code) ↔ IsAtPlace ext l code
place_means ext l code = (from_code ext l code, to_code ext l code)

-- an early stuff bit stands before RTR
pub early_means : (ext : Bool) (l : List Level) → IsTrue (is_early_stuff ext l) ↔ IsStuffBeforeRtr ext l
early_means ext l = (
  λ h. let early = stuff_early ext l h in let there = some_plain l in let count = count_by l there.0 there.1 in
      record {
        plain = there.0;
        unstuffed = there.1;
        stuff_bit = full_ends l early.0;
        within = omega (count, early.1, arith);
      },
  λ h. let count = count_by l h.plain h.unstuffed in let within = h.within in
      and_from (is_full l) (nat_le (plain_count l) (rtr_place ext)) (ends_full l h.stuff_bit)
      (le-leb (plain_count l) (rtr_place ext) (omega (count, within, arith))),
)
