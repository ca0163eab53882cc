-- Strikes that were tried, one after another, and their runs.
use Rattle.std.proofs.Common.{◌≡◌, ℕ, ◌+◌, ◌*◌, ◌<◌, ◌≤◌, false, List, [], ◌∷◌, ◌++◌, length, map, take}
use Rattle.std.proofs.Common.{get_or, refl, sym, ap, ap₂, ◌∙◌, subst}
use Rattle.std.specs.Prelude.{Result, Ok, Err, IfOk, string_bytes}
use Rattle.std.proofs.lemmas.List.{map-append, take_more}
use Rattle.sja_sweep.specs.declared.sweep_texts.SweepTexts.{SweepTexts}
use Rattle.sja_sweep.specs.declared.trial_outcome.TrialOutcome.{TrialOutcome}
use Rattle.sja_sweep.specs.declared.sweeping.Sweeping.{Sweeping}
use Rattle.sja_sweep.specs.SweepText.{sweep_text, sweep_rows}
use Rattle.sja_sweep.specs.Sweeps.{strikes_tried, IsSweep}
use Rattle.sja_sweep.specs.Inside.Reaching.{outcome_value}
use Rattle.std.specs.List.{AllZip}
use Rattle.lemmas.proofs.Related.{related_push}
use Rattle.sja_plan.specs.Limits.{most_strikes}
use Rattle.sja_plan.specs.Plan.{PlanValue, times_in}
use Rattle.sja_sweep.specs.Errors.{TrialRunValue, IsRan}
use Rattle.sja_sweep.specs.declared.trial.Trial.{Trial}
use Rattle.sja_sweep.specs.Targets.{strikes_a_run, struck_by}
use Rattle.sja_sweep.specs.Outcome.{Outcome, outcomes_of}
use Rattle.sja_sweep.specs.Inside.Tried.{IsTried, AreTried, IsBegun}

-- the runs of strikes that were tried
pub record HaveRuns (plan : PlanValue) (planned : TrialRunValue) (ts : List Trial) (os : List Outcome) : Type 0 where
  pub runs : List TrialRunValue
  pub are : AllZip (λ (t : Trial) (r : TrialRunValue). IsRan (struck_by plan t) r) ts runs
  pub outcomes : os ≡ outcomes_of plan planned ts runs

pub have_runs : (plan : PlanValue) (planned : TrialRunValue) (ts : List Trial) (os : List Outcome) →
    AreTried plan planned ts os → HaveRuns plan planned ts os
have_runs plan planned [] [] all = record { runs = []; are = tt; outcomes = refl }
have_runs plan planned [] (o ∷ os) all = absurd all
have_runs plan planned (t ∷ ts) [] all = absurd all
have_runs plan planned (t ∷ ts) (o ∷ os) all =
    let rest = have_runs plan planned ts os all.1 in record {
      runs = all.0.ran ∷ rest.runs;
      are = (all.0.run, rest.are);
      outcomes = ap₂ (λ a b. a ∷ b) all.0.outcome rest.outcomes;
    }

-- one more strike was tried
pub tried_more : (plan : PlanValue) (planned : TrialRunValue) (targets : List Trial) (old new : List TrialOutcome)
    (i : ℕ)
    (d : Trial) (told : TrialOutcome) → i < length targets → new ≡ old ++ told ∷ [] →
    AreTried plan planned (take i targets) (map outcome_value old) →
    IsTried plan planned (get_or targets i d) (outcome_value told) →
    AreTried plan planned (take (i + 1) targets) (map outcome_value new)
tried_more plan planned targets old new i d told less pushed so_far one =
    let item = get_or targets i d in
    let ts : take (i + 1) targets ≡ take i targets ++ item ∷ [] = take_more targets i d less in
    let os : map outcome_value new ≡ map outcome_value old ++ outcome_value told ∷ [] =
    ap (map outcome_value) pushed ∙ map-append outcome_value old (told ∷ []) in
    let P : List Trial → Type 0 = λ l. AreTried plan planned l (map outcome_value new) in
    let Q : List Outcome → Type 0 = λ l. AreTried plan planned (take i targets ++ item ∷ []) l in
    subst P (sym ts) (subst Q (sym os)
    (related_push (IsTried plan planned) (take i targets) (map outcome_value old) item (outcome_value told) so_far one))

-- the trials of two parts, one after the other
zip_append : {A B : Type 0} (R : A → B → Type 0) (xs xs' : List A) (ys ys' : List B) → AllZip R xs ys →
    AllZip R xs' ys' → AllZip R (xs ++ xs') (ys ++ ys')
zip_append R [] xs' [] ys' all rest = rest
zip_append R [] xs' (b ∷ ys) ys' all rest = absurd all
zip_append R (a ∷ xs) xs' [] ys' all rest = absurd all
zip_append R (a ∷ xs) xs' (b ∷ ys) ys' all rest = (all.0, zip_append R xs xs' ys ys' all.1 rest)

pub tried_both : (plan : PlanValue) (planned : TrialRunValue) (ts part whole : List Trial)
    (old tolds new : List TrialOutcome) →
    whole ≡ ts ++ part → new ≡ old ++ tolds → AreTried plan planned ts (map outcome_value old) →
    AreTried plan planned part (map outcome_value tolds) → AreTried plan planned whole (map outcome_value new)
tried_both plan planned ts part whole old tolds new both added so_far more =
    let os : map outcome_value new ≡ map outcome_value old ++ map outcome_value tolds =
    ap (map outcome_value) added ∙ map-append outcome_value old tolds in
    let P : List Trial → Type 0 = λ l. AreTried plan planned l (map outcome_value new) in
    let Q : List Outcome → Type 0 = λ l. AreTried plan planned (ts ++ part) l in
    subst P (sym both) (subst Q (sym os)
    (zip_append (IsTried plan planned) ts part (map outcome_value old) (map outcome_value tolds) so_far more))

-- a sweep whose trials were made, and whose texts tell their outcomes
sweep_is : (plan : PlanValue) (s : Sweeping) (planned : TrialRunValue) (trials : List Trial) (outcomes : List Outcome)
    (text rows : List ℕ) → IsBegun plan s planned trials → AreTried plan planned trials outcomes →
    text ≡ sweep_text s.asked planned.log outcomes → rows ≡ sweep_rows outcomes → IsSweep plan s text rows
sweep_is plan s planned trials outcomes text rows begun tried text_is rows_are =
    let P : List Trial → Type 0 = λ ts. AreTried plan planned ts outcomes in
    let Few : List Trial → Type 0 = λ ts.
    s.meant ≡ false → (length ts ≤ 20000) × (length ts * plan.bits ≤ 2000000000) in
    let Room : List Trial → Type 0 = λ ts. 0 < length ts →
    times_in plan.strikes + strikes_a_run s.pairs ≤ most_strikes plan.version in
    let found = have_runs plan planned (strikes_tried plan s planned.log) outcomes (subst P begun.trials_are tried) in
    record {
      planned = planned;
      runs = found.runs;
      as_planned = begun.as_planned;
      as_struck = found.are;
      text_is = text_is ∙ ap (sweep_text s.asked planned.log) found.outcomes;
      rows_are = rows_are ∙ ap sweep_rows found.outcomes;
      few = subst Few begun.trials_are begun.few;
      room = subst Room begun.trials_are begun.room;
      node = begun.node;
    }

-- the same of texts, or of none where memory was refused
pub sweep_texts : {X : Type 0} (plan : PlanValue) (s : Sweeping) (planned : TrialRunValue) (trials : List Trial)
    (outcomes : List Outcome) (texts : Result SweepTexts X) → IsBegun plan s planned trials →
    AreTried plan planned trials outcomes →
    IfOk texts (λ swept. string_bytes swept.text ≡ sweep_text s.asked planned.log outcomes) →
    IfOk texts (λ swept. string_bytes swept.rows ≡ sweep_rows outcomes) →
    IfOk texts (λ swept. IsSweep plan s (string_bytes swept.text) (string_bytes swept.rows))
sweep_texts plan s planned trials outcomes (Ok swept) begun tried text rows =
    sweep_is plan s planned trials outcomes _ _ begun tried text rows
sweep_texts plan s planned trials outcomes (Err fault) begun tried text rows = tt
