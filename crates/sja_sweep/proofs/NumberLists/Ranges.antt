-- What is written for numbers, one after another.
use Rattle.std.proofs.Common.{◌≡◌, ℕ, ◌+◌, List, ◌++◌, sym, ap, ◌∙◌, append_assoc}
use Rattle.std.specs.List.{range_with_len}
use Rattle.lemmas.specs.Gathering.{gathered}
use Rattle.lemmas.proofs.Ranges.{gathered_to}

-- what was written of the numbers so far, and of one more
pub text_more : {B : Type 0} (f : ℕ → List B) (i : ℕ) (begun text new : List B) →
    text ≡ begun ++ gathered f (range_with_len 0 i) → new ≡ text ++ f i →
    new ≡ begun ++ gathered f (range_with_len 0 (i + 1))
text_more f i begun text new so_far wrote =
    wrote ∙ ap (λ t. t ++ f i) so_far ∙ append_assoc begun (gathered f (range_with_len 0 i)) (f i)
    ∙ ap (λ l. begun ++ l) (sym (gathered_to f i))
