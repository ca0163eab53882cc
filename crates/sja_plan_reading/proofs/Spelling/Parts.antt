-- Words cut at their bars, and tests of their parts.
use Rattle.std.proofs.Common.{◌≡◌, ◌==◌, ◌<◌, ◌∙◌, Bool, true, false, ◌∷◌, [], length, refl, sym, ap, ap₂, arith}
use Rattle.std.specs.List.{position_or_len, before_first, after_first, list_any, list_all}
use Rattle.std.proofs.lemmas.List.Splits.{slice_split_first, slice_split_none}
use Rattle.std.proofs.lemmas.List.Sums.{fails_before_first}
use Rattle.sja_plan_reading.specs.Words.{Text}
use Rattle.sja_plan_reading.specs.BitNames.{parts}

-- the first part ends at the first bar
pub parts_first : (rest part behind : Text) → position_or_len (λ b. b == 124) rest < length rest →
    part ≡ before_first (λ b. b == 124) rest → behind ≡ after_first (λ b. b == 124) rest →
    parts rest ≡ part ∷ parts behind
parts_first rest part behind h e f =
    slice_split_first (λ b. b == 124) rest 0 h ∙ ap₂ (λ a b. a ∷ parts b) (sym e) (sym f)

-- a word with no bar is one part
pub parts_none : (word : Text) → position_or_len (λ b. b == 124) word ≡ length word → parts word ≡ word ∷ []
parts_none word h =
    slice_split_none (λ b. b == 124) word (λ k x w. fails_before_first (λ b. b == 124) word k x (omega arith))

module _ (test : Text → Bool) (whole rest : Text) where
  -- a part passes, where only the rest is left to be asked
  pub any_found : (part behind : Text) → list_any test (parts whole) ≡ list_any test (parts rest) →
      parts rest ≡ part ∷ parts behind → test part ≡ true → true ≡ list_any test (parts whole)
  any_found part behind so_far is passes = sym (so_far ∙ ap (list_any test) is ∙ rw passes refl)

  -- it doesn't
  pub any_behind : (part behind : Text) → list_any test (parts whole) ≡ list_any test (parts rest) →
      parts rest ≡ part ∷ parts behind → test part ≡ false →
      list_any test (parts whole) ≡ list_any test (parts behind)
  any_behind part behind so_far is fails = so_far ∙ ap (list_any test) is ∙ rw fails refl

  -- the last one decides
  pub any_last : (b : Bool) → list_any test (parts whole) ≡ list_any test (parts rest) → parts rest ≡ rest ∷ [] →
      b ≡ test rest → b ≡ list_any test (parts whole)
  any_last true so_far is passes = sym (so_far ∙ ap (list_any test) is ∙ rw (sym passes) refl)
  any_last false so_far is fails = sym (so_far ∙ ap (list_any test) is ∙ rw (sym fails) refl)

  -- the same of whether all pass
  pub all_failed : (part behind : Text) → list_all test (parts whole) ≡ list_all test (parts rest) →
      parts rest ≡ part ∷ parts behind → test part ≡ false → false ≡ list_all test (parts whole)
  all_failed part behind so_far is fails = sym (so_far ∙ ap (list_all test) is ∙ rw fails refl)

  pub all_behind : (part behind : Text) → list_all test (parts whole) ≡ list_all test (parts rest) →
      parts rest ≡ part ∷ parts behind → test part ≡ true →
      list_all test (parts whole) ≡ list_all test (parts behind)
  all_behind part behind so_far is passes = so_far ∙ ap (list_all test) is ∙ rw passes refl

  pub all_last : (b : Bool) → list_all test (parts whole) ≡ list_all test (parts rest) → parts rest ≡ rest ∷ [] →
      b ≡ test rest → b ≡ list_all test (parts whole)
  all_last true so_far is passes = sym (so_far ∙ ap (list_all test) is ∙ rw (sym passes) refl)
  all_last false so_far is fails = sym (so_far ∙ ap (list_all test) is ∙ rw (sym fails) refl)
