-- The logs of activations and nodes, one after another.
use Rattle.std.proofs.Common.{◌≡◌, ℕ, zero, suc, ◌+◌, ◌<◌, List, [], ◌∷◌, ◌++◌, length, drop, sym, ap}
use Rattle.std.proofs.Common.{◌∙◌, subst, arith, inl, inr}
use Rattle.std.specs.Prelude.{slice_index_or}
use Rattle.std.proofs.lemmas.Bool.{cases_eq}
use Rattle.std.proofs.lemmas.List.{length-append, get_or_append_left, get_or_push}
use Rattle.sja_journal.specs.declared.down.Down.{Down}
use Rattle.sja_bus_rules.specs.declared.node_log.NodeLog.{NodeLog}
use Rattle.sja_driver.specs.declared.logged_driver.LoggedDriver.{LoggedDriver}
use Rattle.sja_driver.specs.LoggedDrivers.{log_of}
use Rattle.sja_driver.specs.Logs.{KeepsLog}
use Rattle.sja_log.specs.Log.{ActivationValue, NodeValue}
use Rattle.sja_promises.specs.Finishing.{activation_after, AreActivations, IsNodeEnd, AreNodeEnds}

pub activations_push : (driver : LoggedDriver) (down : ℕ → List Down) (n : ℕ) (logs : List ActivationValue)
    (x : ActivationValue) → AreActivations driver down n logs → x ≡ activation_after driver (down (n + 1)) n →
    AreActivations driver down (n + 1) (logs ++ x ∷ [])
activations_push driver down n logs x h is = record {
  count_is = let c = h.count_is in let e = length-append logs (x ∷ []) in omega (arith, c, e);
  each = λ a d less. elim (cases_eq n a) [
    | inl e ↦
        get_or_push logs x d a (h.count_is ∙ e) ∙ is ∙ ap (λ m. activation_after driver (down (m + 1)) m) e
    | inr differ ↦
        let c = h.count_is in
        get_or_append_left logs (x ∷ []) d a (omega (arith, c, less, differ))
        ∙ h.each a d (omega (arith, less, differ))
  ];
}

-- all that the logs of the first so many drivers say can be read, and of one more
pub keeps_push : (drivers : List LoggedDriver) (n : ℕ) (x : LoggedDriver) →
    ((d : LoggedDriver) → x ≡ slice_index_or drivers n d) → KeepsLog (log_of x) →
    ((k : ℕ) (d : LoggedDriver) → k < n → KeepsLog (log_of (slice_index_or drivers k d))) →
    (k : ℕ) (d : LoggedDriver) → k < n + 1 → KeepsLog (log_of (slice_index_or drivers k d))
keeps_push drivers n x is here h k d less = elim (cases_eq n k) [
  | inl e ↦
      subst (λ (m : ℕ). KeepsLog (log_of (slice_index_or drivers m d))) e
      (subst (λ (v : LoggedDriver). KeepsLog (log_of v)) (is d) here)
  | inr differ ↦ h k d (omega (arith, less, differ))
]

pub nodes_push : (logs : List NodeLog) (drivers : List LoggedDriver) (down : ℕ → ℕ → List Down) (n : ℕ)
    (nodes : List NodeValue) (x : NodeValue) → AreNodeEnds logs drivers down n nodes →
    ((g : NodeLog) (d : LoggedDriver) → IsNodeEnd (slice_index_or logs n g) (slice_index_or drivers n d) (down n) x) →
    AreNodeEnds logs drivers down (n + 1) (nodes ++ x ∷ [])
nodes_push logs drivers down n nodes x h is = record {
  count_is = let c = h.count_is in let e = length-append nodes (x ∷ []) in omega (arith, c, e);
  each = λ k g d y less. elim (cases_eq n k) [
    | inl e ↦
        let at : slice_index_or (nodes ++ x ∷ []) k y ≡ x = get_or_push nodes x y k (h.count_is ∙ e) in
        subst (λ (z : NodeValue). IsNodeEnd (slice_index_or logs k g) (slice_index_or drivers k d) (down k) z) (sym at)
        (subst (λ (m : ℕ). IsNodeEnd (slice_index_or logs m g) (slice_index_or drivers m d) (down m) x) e (is g d))
    | inr differ ↦
        let c = h.count_is in
        subst (λ (z : NodeValue). IsNodeEnd (slice_index_or logs k g) (slice_index_or drivers k d) (down k) z)
        (sym (get_or_append_left nodes (x ∷ []) y k (omega (arith, c, less, differ)))) (h.each k g d y (omega
        (arith, less, differ)))
  ];
}

abbrev first_or : {A : Type 0} → A → List A → A
first_or d [] = d
first_or d (x ∷ xs) = x

abbrev after_first : {A : Type 0} → List A → List A
after_first [] = []
after_first (x ∷ xs) = xs

-- the next element of a list that is gone through
pub next_of : {A : Type 0} (xs ys : List A) (n : ℕ) (x d : A) → drop n xs ≡ x ∷ ys → (slice_index_or xs n d ≡ x) ×
    (drop (n + 1) xs ≡ ys) × (n < length xs)
next_of [] ys zero x d e = absurd cc
next_of [] ys (suc n) x d e = absurd cc
next_of (z ∷ xs) ys zero x d e = (ap (first_or z) e, ap after_first e, omega arith)
next_of (z ∷ xs) ys (suc n) x d e =
    let r = next_of xs ys n x d e in
    let m : suc n + 1 ≡ suc (n + 1) = omega arith in
    let less = r.2 in (r.0, ap (λ k. drop k (z ∷ xs)) m ∙ r.1, omega (arith, less))
