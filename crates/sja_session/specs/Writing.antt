-- The plan that a session writes (this project's own rule).
use Rattle.std.specs.Prelude.{◌++◌, ℕ, zero, suc, List, [], ◌∷◌, set, slice_index_or}
use Rattle.sja_plan.specs.declared.turn.Turn.TheVariants.{Bus, Node}
use Rattle.sja_plan.specs.Plan.{PlanValue}
use Rattle.sja_steps.specs.declared.step.Step.{Step}
use Rattle.sja_session.specs.Turning.{with_turn}

-- to the list of a node one element more
abbrev pub with_more : {A : Type 0} → List (List A) → ℕ → A → List (List A)
with_more lists node x = set lists node (slice_index_or lists node [] ++ x ∷ [])

-- a plan with one step more of a node, done in a turn of its own or in the last one
abbrev pub with_step_done : PlanValue → ℕ → Step → PlanValue
with_step_done p node step = record p {
  nodes = with_more p.nodes node step;
  turns = with_turn p.turns (Node node 1);
}

-- a plan with so many bits more, in a turn of the bus or in the last one; no bits are no turn
abbrev pub with_bits_run : PlanValue → ℕ → PlanValue
with_bits_run p zero = p
with_bits_run p (suc n) = record p { turns = with_turn p.turns (Bus (suc n)) }
