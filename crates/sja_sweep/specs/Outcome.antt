-- What came of one trial: of one strike, or of two (this project's own rule).
use Rattle.std.specs.Prelude.{◌==◌, ℕ, Bool, not, if◌then◌else◌, Option, Some, None, List, [], ◌∷◌, ◌++◌, length}
use Rattle.std.specs.Prelude.{codes, decimal}
use Rattle.std.specs.List.{range_with_len}
use Rattle.lemmas.specs.Gathering.{gathered}
use Rattle.sja_plan.specs.Plan.{PlanValue}
use Rattle.sja_log.specs.Log.{NodeValue, RunValue}
use Rattle.sja_sweep.specs.declared.first_error.FirstError.{FirstError}
use Rattle.sja_sweep.specs.declared.kinds.Kinds.{Kinds}
use Rattle.sja_sweep.specs.declared.trial.Trial.{Trial}
use Rattle.sja_sweep.specs.Nodes.{node_at}
use Rattle.sja_sweep.specs.Errors.{TrialRunValue}
use Rattle.sja_sweep.specs.FirstErrors.{first_error}
use Rattle.sja_sweep.specs.Changes.{all_items}
use Rattle.sja_sweep.specs.Kinds.{kinds_by}

-- the error counters of a node at the end, as TXERR and RXERR read
abbrev pub counters_item : ℕ → NodeValue → List ℕ
counters_item k n =
    codes "; node " ++ (decimal k ++ (codes " tec " ++ (decimal n.txerr ++ (codes " rec " ++ decimal n.rxerr))))

abbrev pub counters : List NodeValue → List ℕ
counters nodes = gathered (λ k. counters_item k (node_at nodes k)) (range_with_len 0 (length nodes))

-- whether there is an item
abbrev pub is_any : List ℕ → Bool
is_any items = not (length items == 0)

-- what is otherwise than without the strike, that ECC alone tells it, or that nothing is
abbrev pub items_words : Kinds → List ℕ → List ℕ
items_words kinds items =
    if kinds.ecc then codes "; told by ECC"
    else if is_any items then items
    else codes "; as without it"

-- that, and the error counters
abbrev pub outcome_words : Kinds → List ℕ → List NodeValue → List ℕ
outcome_words kinds items nodes = items_words kinds items ++ counters nodes

-- a trial, the first error that its run has and the one as planned hasn't, what came of it in words, and of what kinds
-- that is
pub record Outcome : Type 0 where
  pub trial : Trial
  pub error : Option FirstError
  pub words : List ℕ
  pub kinds : Kinds

-- of what kinds the outcome of a run is, beside the one without the strike
abbrev pub kinds_of : PlanValue → RunValue → RunValue → Kinds
kinds_of plan without now =
    kinds_by without now (is_any (all_items None without now)) (is_any (all_items (Some plan) without now))

-- of a trial of a plan by the run without it and the run with it
abbrev pub outcome_of : PlanValue → TrialRunValue → Trial → TrialRunValue → Outcome
outcome_of plan without trial now = record {
  trial = trial;
  error = first_error without.errors now.errors;
  words = outcome_words (kinds_of plan without.log now.log) (all_items None without.log now.log) now.log.nodes;
  kinds = kinds_of plan without.log now.log;
}

-- of each trial with its run
abbrev pub outcomes_of : PlanValue → TrialRunValue → List Trial → List TrialRunValue → List Outcome
outcomes_of plan without [] runs = []
outcomes_of plan without (t ∷ ts) [] = []
outcomes_of plan without (t ∷ ts) (r ∷ runs) = outcome_of plan without t r ∷ outcomes_of plan without ts runs
