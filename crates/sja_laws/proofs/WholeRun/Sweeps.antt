-- A sweep of a plan has one text.
use Rattle.std.proofs.Common.{◌≡◌, ℕ, Option, List, [], ◌∷◌, map, refl, sym, ap, ◌∙◌, subst}
use Rattle.std.specs.List.{AllZip}
use Rattle.can_node_rules.specs.declared.cause.Cause.{Cause}
use Rattle.sja_journal.specs.declared.entry.Entry.{Entry}
use Rattle.sja_plan.specs.Plan.{PlanValue}
use Rattle.sja_log.specs.Log.{NodeValue, RunValue}
use Rattle.sja_promises.specs.Runs.{IsSerialRun}
use Rattle.sja_replay.proofs.Once.Lists.{happened_once}
use Rattle.sja_sweep.specs.declared.sweeping.Sweeping.{Sweeping}
use Rattle.sja_sweep.specs.Errors.{HasErrors, IsRan, TrialRunValue, error_in}
use Rattle.sja_sweep.specs.Outcome.{outcomes_of}
use Rattle.sja_sweep.specs.Sweeps.{IsSweep, strikes_tried}
use Rattle.sja_sweep.specs.SweepText.{sweep_rows, sweep_text}
use Rattle.sja_sweep.specs.Targets.{struck_by}
use Rattle.sja_laws.proofs.WholeRun.Logs.{log_once}

-- the errors of a journal
errors_once : (j : List Entry) (a b : List (Option Cause)) → HasErrors j a → HasErrors j b → a ≡ b
errors_once j a b h g =
    h.are ∙ ap (map error_in) (happened_once [] j h.told g.told h.happened g.happened) ∙ sym g.are

all_errors : (nodes : List NodeValue) (a b : List (List (Option Cause))) →
    AllZip (λ (n : NodeValue) (errors : List (Option Cause)). HasErrors n.journal errors) nodes a →
    AllZip (λ (n : NodeValue) (errors : List (Option Cause)). HasErrors n.journal errors) nodes b → a ≡ b
all_errors [] [] [] h g = refl
all_errors (n ∷ nodes) (x ∷ a) (y ∷ b) h g =
    let first = errors_once n.journal x y h.0 g.0 in
    let rest = all_errors nodes a b h.1 g.1 in
    λ i. first i ∷ rest i
all_errors [] (x ∷ a) b h g = absurd h
all_errors [] [] (y ∷ b) h g = absurd g
all_errors (n ∷ nodes) [] b h g = absurd h
all_errors (n ∷ nodes) (x ∷ a) [] h g = absurd g

-- a run of a plan with its errors
pub ran_once : (plan : PlanValue) (r s : TrialRunValue) → IsRan plan r → IsRan plan s → r ≡ s
ran_once plan r s h g =
    let log = log_once plan r.log s.log h.run g.run in
    let P : RunValue → Type 0 =
    λ l. AllZip (λ (n : NodeValue) (errors : List (Option Cause)). HasErrors n.journal errors) l.nodes s.errors in
    let errors = all_errors r.log.nodes r.errors s.errors h.errors (subst P (sym log) g.errors) in
    λ i. record { log = log i; errors = errors i }

trials_once : {T : Type 0} (struck : T → PlanValue) (ts : List T) (a b : List TrialRunValue) →
    AllZip (λ (t : T) (r : TrialRunValue). IsRan (struck t) r) ts a →
    AllZip (λ (t : T) (r : TrialRunValue). IsRan (struck t) r) ts b → a ≡ b
trials_once struck [] [] [] h g = refl
trials_once struck (t ∷ ts) (x ∷ a) (y ∷ b) h g =
    let first = ran_once (struck t) x y h.0 g.0 in
    let rest = trials_once struck ts a b h.1 g.1 in
    λ i. first i ∷ rest i
trials_once struck [] (x ∷ a) b h g = absurd h
trials_once struck [] [] (y ∷ b) h g = absurd g
trials_once struck (t ∷ ts) [] b h g = absurd h
trials_once struck (t ∷ ts) (x ∷ a) [] h g = absurd g

pub sweep_once : (plan : PlanValue) (s : Sweeping) (text rows other others : List ℕ) → IsSweep plan s text rows →
    IsSweep plan s other others → (text ≡ other) × (rows ≡ others)
sweep_once plan s text rows other others h g =
    let planned = ran_once plan h.planned g.planned h.as_planned g.as_planned in
    let P : TrialRunValue → Type 0 =
    λ p. AllZip (λ t (r : TrialRunValue). IsRan (struck_by plan t) r) (strikes_tried plan s p.log) g.runs in
    let runs = trials_once (struck_by plan) (strikes_tried plan s h.planned.log) h.runs g.runs h.as_struck
    (subst P (sym planned) g.as_struck) in (
      h.text_is ∙ (λ i. sweep_text s.asked (planned i).log
          (outcomes_of plan (planned i) (strikes_tried plan s (planned i).log) (runs i))) ∙ sym g.text_is,
      h.rows_are ∙ (λ i. sweep_rows (outcomes_of plan (planned i) (strikes_tried plan s (planned i).log) (runs i)))
          ∙ sym g.rows_are,
    )

pub row_once : (struck : PlanValue) (r : TrialRunValue) (log : RunValue) → IsRan struck r → IsSerialRun struck log →
    r.log ≡ log
row_once struck r log h g = log_once struck r.log log h.run g
