-- How many items an end of a ring has seen.
use Rattle.std.proofs.Common.{◌≡◌, ℕ, ◌+◌, ◌<◌, ◌≤◌, List, [], ◌∷◌, ◌++◌, length, ap, ◌∙◌, arith}
use Rattle.std.specs.Prelude.{Result, Ok, Err, IfOk, OnErr, IsOk}
use Rattle.std.proofs.lemmas.List.{length-append}
use mathlib.Core.List.{IsPrefix}

-- they are no fewer after it took the next one out, or found none
pub seen_popped : {T X : Type 0} (R : T → Type 0) (r : Result T X) (out now shown left : List T) →
    IfOk r (λ x. (now ≡ out ++ x ∷ []) × IsPrefix shown (x ∷ left) × R x) → OnErr r ((now ≡ out) × (left ≡ [])) →
    (0 < length shown → IsOk r) → length out + length shown ≤ length now + length left
seen_popped {T} R (Ok x) out now shown left ok empty some =
    let size : List T → ℕ = λ l. length l in let more = ap size ok.0 ∙ length-append out (x ∷ []) in
    let long = length-append shown ok.1.0 in let far = ap size ok.1.1 in omega (arith, more, long, far)
seen_popped {T} R (Err e) out now [] left ok empty some =
    let size : List T → ℕ = λ l. length l in let same = ap size empty.0 in omega (arith, same)
seen_popped R (Err e) out now (y ∷ shown) left ok empty some = let wrong = some (omega arith) in absurd cc
