-- Bus-off among entries, and a request after it, with an entry more at the end.
use Rattle.std.proofs.Common.{◌≡◌, suc, List, [], ◌∷◌, ◌++◌, length, drop, inl, inr, sym, ap, ◌∙◌, append_assoc, arith}
use Rattle.std.specs.Prelude.{◌⊎◌, slice_index_or}
use Rattle.std.proofs.lemmas.List.{length-append}
use Rattle.can_node_rules.specs.declared.request.Request.{Request}
use Rattle.sja_journal.specs.declared.up.Up.TheVariants.{Send}
use Rattle.sja_journal.specs.declared.entry.Entry.{Entry}
use Rattle.sja_journal.specs.declared.entry.Entry.TheVariants.{Up as Item, Off}
use Rattle.sja_journal.specs.OutOfOrder.{HasOff, HasAskedOff}

-- an element of a list with one more is the last one, or stood there before
abbrev Split : {A : Type 0} → List A → A → A → List A → List A → Type 0
Split {A} p e x before after = (x ≡ e) ⊎ ((rest : List A) × (p ≡ before ++ x ∷ rest))

split : {A : Type 0} (p : List A) (e x : A) (before after : List A) → p ++ e ∷ [] ≡ before ++ x ∷ after →
    Split p e x before after
split [] e x [] after h = inl (ap (λ l. slice_index_or l 0 x) (sym h))
split (y ∷ p) e x [] after h = inr (p, ap (λ z. z ∷ p) (ap (λ l. slice_index_or l 0 x) h))
split [] e x (b ∷ before) after h =
    let n = length-append before (x ∷ after) in
    let m : 1 ≡ suc (length (before ++ x ∷ after)) = ap (λ l. length l) h in absurd (omega (arith, n, m))
split (y ∷ p) e x (b ∷ before) after h = elim (split p e x before after (ap (λ l. drop 1 l) h)) [
  | inl last ↦ inl last
  | inr found ↦ inr (
    found.0,
    ap (λ l. y ∷ l) found.1 ∙ ap (λ z. z ∷ (before ++ x ∷ found.0))
        (ap (λ l. slice_index_or l 0 x) h),
  )
]

pub none_off : HasOff [] → ⊥
none_off h =
    let n = length-append h.before (Off ∷ h.after) in
    let m : 0 ≡ length (h.before ++ Off ∷ h.after) = ap (λ (l : List Entry). length l) h.whole in omega (arith, n, m)

pub off_before : (p : List Entry) (e : Entry) → (e ≡ Off → ⊥) → HasOff (p ++ e ∷ []) → HasOff p
off_before p e other h = elim (split p e Off h.before h.after h.whole) [
  | inl last ↦ absurd (other (sym last))
  | inr found ↦ record { before = h.before; after = found.0; whole = found.1 }
]

pub asked_before : (p : List Entry) (e : Entry) → ((request : Request) → e ≡ Item (Send request) → ⊥) →
    HasAskedOff (p ++ e ∷ []) → HasAskedOff p
asked_before p e other h =
    let whole : p ++ e ∷ [] ≡ (h.before ++ Off ∷ h.between) ++ Item (Send h.request) ∷ h.after = h.whole
    ∙ sym (append_assoc h.before (Off ∷ h.between) (Item (Send h.request) ∷ h.after)) in
    elim (split p e (Item (Send h.request)) (h.before ++ Off ∷ h.between) h.after whole) [
      | inl last ↦ absurd (other h.request (sym last))
      | inr found ↦ record {
        before = h.before;
        between = h.between;
        request = h.request;
        after = found.0;
        whole = found.1 ∙ append_assoc h.before (Off ∷ h.between) (Item (Send h.request) ∷ found.0);
      }
    ]

pub off_of_asked : (p : List Entry) → HasAskedOff p → HasOff p
off_of_asked p h = record { before = h.before; after = h.between ++ Item (Send h.request) ∷ h.after; whole = h.whole }
