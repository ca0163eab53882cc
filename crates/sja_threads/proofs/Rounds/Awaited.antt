-- The most bits that steps wait for, step by step.
use Rattle.std.proofs.Common.{◌≡◌, ◌<◌, ◌≤◌, ◌+◌, ◌++◌, ℕ, max, List, [], ◌∷◌, length, take, sym, ap, ◌∙◌, arith}
use Rattle.std.proofs.Common.{take-suc, suc}
use Rattle.std.specs.Prelude.{slice_index_or}
use Rattle.sja_steps.specs.declared.step.Step.{Step}
use Rattle.sja_thread_promises.specs.Needed.{bits_awaited, most_awaited, last_awaited}

most_push : (steps : List Step) (one : Step) →
    most_awaited (steps ++ one ∷ []) ≡ max (most_awaited steps) (bits_awaited one)
most_push [] one = omega arith
most_push (s ∷ steps) one = let more = most_push steps one in omega (arith, more)

last_push : (nodes : List (List Step)) (steps : List Step) →
    last_awaited (nodes ++ steps ∷ []) ≡ max (last_awaited nodes) (most_awaited steps)
last_push [] steps = omega arith
last_push (s ∷ nodes) steps = let more = last_push nodes steps in omega (arith, more)

pub most_next : (steps : List Step) (i : ℕ) (d : Step) → i < length steps →
    most_awaited (take (i + 1) steps) ≡ max (most_awaited (take i steps)) (bits_awaited (slice_index_or steps i d))
most_next steps i d less =
    ap (λ (n : ℕ). most_awaited (take n steps)) (let e : i + 1 ≡ suc i = omega arith in e)
    ∙ ap (λ (l : List Step). most_awaited l) (take-suc steps i d less) ∙ most_push (take i steps) _

pub last_next : (nodes : List (List Step)) (i : ℕ) → i < length nodes →
    last_awaited (take (i + 1) nodes) ≡ max (last_awaited (take i nodes)) (most_awaited (slice_index_or nodes i []))
last_next nodes i less =
    ap (λ (n : ℕ). last_awaited (take n nodes)) (let e : i + 1 ≡ suc i = omega arith in e)
    ∙ ap (λ (l : List (List Step)). last_awaited l) (take-suc nodes i [] less) ∙ last_push (take i nodes) _
