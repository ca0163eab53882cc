-- An act more: what the links of a node hold.
use Rattle.std.proofs.Common.{◌≡◌, ◌+◌, ℕ, suc, Bool, cond, List, [], ◌∷◌, ◌++◌, refl, sym, ap, ◌∙◌}
use Rattle.std.proofs.Common.{subst, append_assoc, arith, inl, inr}
use Rattle.std.specs.Prelude.{slice_index_or, false, ◌⊎◌, ◌==◌, if◌then◌else◌}
use Rattle.std.proofs.lemmas.Bool.{cases_eq, eq-eqb, ne_eqb}
use Rattle.sja_journal.specs.declared.down.Down.{Down}
use Rattle.sja_journal.specs.declared.up.Up.{Up}
use Rattle.sja_journal.specs.declared.entry.Entry.{Entry}
use Rattle.sja_journal.specs.Accounts.{account}
use Rattle.sja_journal.specs.Lists.{Lists, messages, on, OthersStand}
use Rattle.sja_link.specs.Looking.{off_among}
use Rattle.sja_link.proofs.Ledger.Pullings.{off_both}
use Rattle.sja_link.proofs.JournalEntries.ListCounts.{messages_both}
use Rattle.sja_driver.specs.declared.release.Release.{Release}
use Rattle.sja_driver.specs.Acting.{Does}
use Rattle.sja_driver.specs.TypedActs.{TypedAct, opens_by, opened_by, given_in, acts_of}
use Rattle.sja_driver.specs.Holding.{Holds}
use Rattle.sja_driver.specs.Logs.{released_of}
use Rattle.sja_driver.proofs.LogOfSteps.Sections.{acts_here, acts_else}

abbrev pub gave_of : TypedAct → List Up
gave_of d = d.gave

other : (d : TypedAct) (n a : ℕ) (t : List TypedAct) → (n ≡ a → ⊥) → (opened_by t + opens_by d ≡ suc n) ⊎
    (d.gave ≡ []) →
    ((opened_by t + opens_by d ≡ suc a) → ⊥) ⊎ (d.gave ≡ [])
other d n a t ne (inl e) = inl (λ q. ne (omega (arith, e, q)))
other d n a t ne (inr q) = inr q

-- one act more at the link of the present activation, of whose number so many ended before, and more after
pub holds_act : {E : Type 0} (stands : E → ℕ → Lists → Type 0) (t : List TypedAct) (rel rel' : List Release)
    (left left' : List (List (List ℕ))) (j : List Entry) (n n' : ℕ) (old new : E)
    (held held' : List (List ℕ)) (off off' now' : Bool) (d : TypedAct) (released : List (List ℕ))
    → (opened_by t + opens_by d ≡ suc n) ⊎ (d.gave ≡ [])
    → Does (on stands (suc n)) old new held held' off now' released d.gave
    → OthersStand stands (suc n) old new
    → released_of rel' (suc n) ≡ released_of rel (suc n) ++ released
    → ((a : ℕ) → (n ≡ a → ⊥) → released_of rel' (suc a) ≡ released_of rel (suc a))
    → slice_index_or left n [] ≡ held → slice_index_or left' n [] ≡ held'
    → ((a : ℕ) → (n ≡ a → ⊥) → slice_index_or left' a [] ≡ slice_index_or left a [])
    → ((n' ≡ n) × (off' ≡ now')) ⊎ ((n' ≡ suc n) × (off' ≡ false))
    → Holds stands t rel left n off j old
    → Holds stands (t ++ d ∷ []) rel' left' n' off' j new
holds_act stands t rel rel' left left' j n n' old new held held' off off' now' d released gi did others r re was now
    rest next h =
    let given' : ℕ → List Up = λ a. given_in (acts_of (t ++ d ∷ []) a) in
    let got' : ℕ → List Down = λ a. if n == a then h.got a ++ did.got else h.got a in
    let lists' : ℕ → Lists = λ a. account j (suc a) (record { got = got' a; given = given' (suc a) }) in
    let same : got' n ≡ h.got n ++ did.got = ap (λ b. cond b (h.got n ++ did.got) (h.got n)) (eq-eqb n n refl) in
    let else' : (a : ℕ) → (n ≡ a → ⊥) → got' a ≡ h.got a =
    λ a ne. ap (λ b. cond b (h.got a ++ did.got) (h.got a)) (ne_eqb n a ne) in
    let g : given' (suc n) ≡ given_in (acts_of t (suc n)) ++ d.gave = acts_here gave_of t d (suc n) gi in
    let here : stands new (suc n) (lists' n) =
    rw (same, g) (did.lists (account j (suc n) (record { got = h.got n; given = given_in (acts_of t (suc n)) }))
    (h.kept n)) in
    let all : messages (got' n) ≡ released_of rel' (suc n) ++ slice_index_or left' n [] =
    ap messages same ∙ messages_both (h.got n) did.got ∙ ap (λ x. x ++ messages did.got) (h.told n)
    ∙ append_assoc (released_of rel (suc n)) (slice_index_or left n []) (messages did.got)
    ∙ ap (λ x. released_of rel (suc n) ++ (x ++ messages did.got)) was
    ∙ ap (λ x. released_of rel (suc n) ++ x) (sym did.told)
    ∙ sym (append_assoc (released_of rel (suc n)) released held')
    ∙ ap (λ x. x ++ held') (sym r) ∙ ap (λ x. released_of rel' (suc n) ++ x) (sym now) in
    let known : now' ≡ off_among false (got' n) = did.off_is ∙ ap (λ b. off_among b did.got) h.off_is
    ∙ sym (off_both false (h.got n) did.got) ∙ ap (off_among false) (sym same) in record {
      got = got';
      kept = λ a. elim (cases_eq n a) [
        | inl q ↦ subst (λ (m : ℕ). stands new (suc m) (lists' m)) q here
        | inr ne ↦ let gs : got' a ≡ h.got a = else' a ne in
            let ga : given' (suc a) ≡ given_in (acts_of t (suc a)) =
            acts_else gave_of t d (suc a) (other d n a t ne gi) in
            rw (gs, ga) (others (suc a) (λ x. ne (omega (arith, x))) _ (h.kept a))
      ];
      told = λ a. elim (cases_eq n a) [
        | inl q ↦ subst (λ (m : ℕ). messages (got' m) ≡ released_of rel' (suc m) ++ slice_index_or left' m []) q all
        | inr ne ↦ let gs : got' a ≡ h.got a = else' a ne in
            ap messages gs ∙ h.told a ∙ ap (λ x. x ++ slice_index_or left a []) (sym (re a ne))
            ∙ ap (λ x. released_of rel' (suc a) ++ x) (sym (rest a ne))
      ];
      off_is = elim next [
        | inl q ↦ q.1 ∙ known ∙ ap (λ m. off_among false (got' m)) (sym q.0)
        | inr q ↦ q.1 ∙ sym (ap (λ m. off_among false (got' m)) q.0
            ∙ ap (off_among false) (else' (suc n) (λ x. omega (arith, x)) ∙ h.later (suc n) (omega arith)))
      ];
      later = λ a l. elim next [
        | inl q ↦ let e = q.0 in else' a (λ x. omega (arith, x, e, l)) ∙ h.later a (omega (arith, e, l))
        | inr q ↦ let e = q.0 in else' a (λ x. omega (arith, x, e, l)) ∙ h.later a (omega (arith, e, l))
      ];
    }
