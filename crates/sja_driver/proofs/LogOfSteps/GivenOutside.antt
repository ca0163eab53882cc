-- A driver gives nothing before it starts, and nothing in an activation that it didn't open.
use Rattle.std.proofs.Common.{◌≡◌, ℕ, ◌+◌, ◌<◌, ◌⊎◌, Bool, true, false, cond, List, [], ◌∷◌, ◌++◌, refl, ap, ap₂}
use Rattle.std.proofs.Common.{◌∙◌, append-nil, arith, inl, inr}
use Rattle.std.specs.Prelude.{◌==◌, if◌then◌else◌}
use Rattle.std.proofs.lemmas.Bool.{ne_eqb}
use Rattle.lemmas.specs.Gathering.{total}
use Rattle.lemmas.specs.Picking.{EachAfter}
use Rattle.lemmas.proofs.Gathered.{gathered_append}
use Rattle.sja_steps.specs.declared.step.Step.{Step}
use Rattle.sja_driver.specs.TypedActs.{TypedAct, opens_by, opened_by, active_after, is_active, FitsState, Gives}
use Rattle.sja_driver.specs.TypedActs.{given_in}
use Rattle.sja_driver.specs.TypedActs.{section_from, acts_of, AreActs}
use Rattle.sja_driver.proofs.LogOfSteps.Sections.{active_push, opened_push}
use Rattle.sja_driver.proofs.Step.GivenKinds.{Kind, kind_of}
use Rattle.sja_driver.proofs.Step.GivenKinds.Kind.{quiet, starts, credits, sends, stops}
use Rattle.sja_journal.proofs.Ledger.Small.{neither}

-- an activation that was opened before, or one that isn't opened, has no more acts
section_past : (n : ℕ) (ds : List TypedAct) (a : ℕ) → a < n → section_from opens_by n ds a ≡ []
section_past n [] a less = refl
section_past n (d ∷ ds) a less =
    ap (λ b. cond b (d ∷ []) [] ++ section_from opens_by (n + opens_by d) ds a)
    (ne_eqb (n + opens_by d) a (λ e. omega (arith, less, e)))
    ∙ section_past (n + opens_by d) ds a (omega (arith, less))

section_later : (n : ℕ) (ds : List TypedAct) (a : ℕ) → n + total opens_by ds < a → section_from opens_by n ds a ≡ []
section_later n [] a less = refl
section_later n (d ∷ ds) a less =
    ap (λ b. cond b (d ∷ []) [] ++ section_from opens_by (n + opens_by d) ds a)
    (ne_eqb (n + opens_by d) a (λ e. omega (arith, less, e)))
    ∙ section_later (n + opens_by d) ds a (omega (arith, less))

-- before it starts a driver is in reset, where it gives nothing
none_first : (version : ℕ) (before ds : List TypedAct) → is_active before ≡ false → opened_by before ≡ 0 →
    EachAfter (λ b (d : TypedAct). FitsState version (is_active b) (opened_by b) d.step d.answer) before ds →
    EachAfter (λ b (d : TypedAct). Gives d.step d.answer d.gave) before ds →
    given_in (section_from opens_by 0 ds 0) ≡ []
none_first version before [] out none fits gives = refl
none_first version before (d ∷ ds) out none fits gives =
    by_kind (kind_of version (is_active before) (opened_by before) d.step d.answer d.gave fits.0 gives.0)
    (λ closed same.
    let opened = opened_push before d in
    none_first version (before ++ d ∷ []) ds (active_push false before d ∙ same ∙ out)
    (omega (arith, opened, none, closed)) fits.1 gives.1)
  where
    here : d.gave ≡ [] → (b : Bool) → given_in (if b then d ∷ [] else []) ≡ []
    here nothing true = append-nil d.gave ∙ nothing
    here nothing false = refl

    by_kind : Kind (is_active before) (opened_by before) d.step d.answer d.gave →
        (opens_by d ≡ 0 → active_after (is_active before) d.step d.answer ≡ is_active before →
        given_in (section_from opens_by 0 ds 0) ≡ []) → given_in (section_from opens_by 0 (d ∷ ds) 0) ≡ []
    by_kind (quiet nothing closed same) later =
        let m : 0 + opens_by d ≡ 0 = omega (arith, closed) in
        gathered_append (λ (x : TypedAct). x.gave) (if (0 + opens_by d) == 0 then d ∷ [] else [])
        (section_from opens_by (0 + opens_by d) ds 0)
        ∙ ap₂ (λ x y. x ++ y) (here nothing ((0 + opens_by d) == 0))
        (ap (λ n. given_in (section_from opens_by n ds 0)) m ∙ later closed same)
    by_kind (starts was few config is one same) later =
        let m : 0 + opens_by d ≡ 1 = omega (arith, one) in
        ap (λ n. given_in (cond (n == 0) (d ∷ []) [] ++ section_from opens_by n ds 0)) m
        ∙ ap given_in (section_past 1 ds 0 (omega arith))
    by_kind (credits was n is closed same) later = absurd (neither (is_active before) was out)
    by_kind (sends was request is closed same) later = absurd (neither (is_active before) was out)
    by_kind (stops was is closed same) later = absurd (neither (is_active before) was out)

pub given_outside : {version : ℕ} (steps : List Step) (acts : List TypedAct) (a : ℕ) → AreActs version steps acts →
    (a ≡ 0) ⊎ (opened_by acts < a) → given_in (acts_of acts a) ≡ []
given_outside {version} steps acts a are (inl e) =
    ap (λ n. given_in (acts_of acts n)) e ∙ none_first version [] acts refl refl are.states are.gives
given_outside steps acts a are (inr late) = ap given_in (section_later 0 acts a (omega (arith, late)))
