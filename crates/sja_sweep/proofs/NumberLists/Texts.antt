-- What was written of the elements of a list, and of one more.
use Rattle.std.proofs.Common.{◌≡◌, ℕ, ◌+◌, ◌<◌, List, [], ◌∷◌, ◌++◌, length, map, take, get_or}
use Rattle.std.proofs.Common.{sym, ap, ◌∙◌, append_assoc}
use Rattle.std.proofs.lemmas.List.{map-append, take_more}
use Rattle.lemmas.specs.Gathering.{gathered, total}
use Rattle.lemmas.proofs.Gathered.{gathered_push, total_push}

-- one element more of a list, as it's seen
pub seen_more : {A B : Type 0} (g : A → B) (xs : List A) (i : ℕ) (x : A) → i < length xs → x ≡ get_or xs i x →
    map g (take (i + 1) xs) ≡ map g (take i xs) ++ g x ∷ []
seen_more g xs i x less is =
    ap (map g) (take_more xs i x less) ∙ map-append g (take i xs) (get_or xs i x ∷ [])
    ∙ ap (λ y. map g (take i xs) ++ g y ∷ []) (sym is)

-- what was written of the elements so far, and of one more
pub seen_text : {A B : Type 0} (f : B → List ℕ) (g : A → B) (xs : List A) (i : ℕ) (x : A) (begun text new : List ℕ) →
    i < length xs → x ≡ get_or xs i x → text ≡ begun ++ gathered f (map g (take i xs)) → new ≡ text ++ f (g x) →
    new ≡ begun ++ gathered f (map g (take (i + 1) xs))
seen_text f g xs i x begun text new less is so_far wrote =
    wrote ∙ ap (λ t. t ++ f (g x)) so_far ∙ append_assoc begun (gathered f (map g (take i xs))) (f (g x))
    ∙ ap (λ l. begun ++ l) (sym (ap (gathered f) (seen_more g xs i x less is)
    ∙ gathered_push f (map g (take i xs)) (g x)))

-- what the elements so far count for, and one more
pub seen_count : {A B : Type 0} (f : B → ℕ) (g : A → B) (xs : List A) (i : ℕ) (x : A) (n new : ℕ) →
    i < length xs → x ≡ get_or xs i x → n ≡ total f (map g (take i xs)) → new ≡ n + f (g x) →
    new ≡ total f (map g (take (i + 1) xs))
seen_count f g xs i x n new less is so_far adds =
    adds ∙ ap (λ m. m + f (g x)) so_far
    ∙ sym (ap (total f) (seen_more g xs i x less is) ∙ total_push f (map g (take i xs)) (g x))
