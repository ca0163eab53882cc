-- Lists of which the oldest items may be forgotten.
use Rattle.std.proofs.Common.{◌≡◌, ◌+◌, ◌-◌, ◌≤◌, ℕ, zero, suc, Bor, Option, Some, None, IfSome, List, [], ◌∷◌, ◌++◌}
use Rattle.std.proofs.Common.{length, take, replicate}
use Rattle.std.proofs.Common.{ap, ◌∙◌, sym, append_assoc, arith}
use Rattle.std.proofs.lemmas.List.{replicate-append-replicate}
use Rattle.std.specs.Prelude.{slice_get}
use Rattle.std.specs.Option.{option_copied}
use Rattle.sja_journal.specs.BoundedHistories.{IsLast}

-- the last item ends the list
ends_it : {A : Type 0} (n : ℕ) (xs : List A) (y : A) → Some y ≡ slice_get xs n → length xs ≤ n + 1 →
    xs ≡ take n xs ++ y ∷ []
ends_it n [] y h few = let no : Some y ≡ None = h in absurd cc
ends_it zero (x ∷ []) y h few = let same : Some y ≡ Some x = h in let is : x ≡ y = cc in ap (λ z. z ∷ []) is
ends_it zero (x ∷ z ∷ xs) y h few = absurd (omega (arith, few))
ends_it (suc n) (x ∷ xs) y h few = ap (λ l. x ∷ l) (ends_it n xs y h (omega (arith, few)))

-- the last item that is kept is the last of all
pub last_kept : {A : Type 0} (dropped kept : List A) (r : Option (Bor A)) →
    option_copied r ≡ slice_get kept (length kept - 1) → IfSome r (λ x. IsLast (dropped ++ kept) x.now)
last_kept dropped kept None h = tt
last_kept dropped kept (Some x) h = record {
  before = dropped ++ take (length kept - 1) kept;
  whole = ap (λ l. dropped ++ l) (ends_it (length kept - 1) kept x.now h (omega arith))
      ∙ sym (append_assoc dropped _ (x.now ∷ []));
}

-- ---- copies of an item, some and then more

pub more_copies : {A : Type 0} (x : A) (was now next : List A) (count left some : ℕ) → left ≤ count → some ≤ left →
    now ≡ was ++ replicate (count - left) x → next ≡ now ++ replicate some x →
    next ≡ was ++ replicate (count - (left - some)) x
more_copies x was now next count left some few within is then =
    let n : count - left + some ≡ count - (left - some) = omega (arith, few, within) in
    then ∙ ap (λ l. l ++ replicate some x) is ∙ append_assoc was (replicate (count - left) x) (replicate some x)
    ∙ ap (λ l. was ++ l) (replicate-append-replicate (count - left) some x ∙ ap (λ k. replicate k x) n)
