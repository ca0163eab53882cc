-- What a plan says, and the limits that every plan keeps (this project's own rule).
use Rattle.std.specs.Prelude.{◌<◌, ◌≤◌, ℕ, List, [], length, map, slice_index_or, All}
use Rattle.std.specs.List.{sum_by}
use Rattle.sja_steps.specs.declared.step.Step.{Step}
use Rattle.sja_steps.specs.declared.strike.Strike.{Strike}
use Rattle.sja_plan.specs.Limits.{most_bits, most_steps, most_turns, most_strikes}
use Rattle.sja_plan.specs.declared.turn.Turn.{Turn}
use Rattle.sja_plan.specs.declared.turn.Turn.TheVariants.{Bus, Rest, Node, All as AllSteps, Irq, Go}

-- version, bits, of each node its steps, turns and strikes
pub record PlanValue : Type 0 where
  pub version : ℕ
  pub bits : ℕ
  pub nodes : List (List Step)
  pub turns : List Turn
  pub strikes : List Strike

-- the steps of a node
abbrev pub steps_at : PlanValue → ℕ → List Step
steps_at plan node = slice_index_or plan.nodes node []

-- how many steps the driver of each node has
abbrev pub step_counts : PlanValue → List ℕ
step_counts plan = map (λ steps. length steps) plan.nodes

-- a turn of a node is one of so many
abbrev pub NamesNode : ℕ → Turn → Type 0
NamesNode nodes (Bus bits) = Unit {0}
NamesNode nodes Rest = Unit {0}
NamesNode nodes (Node node steps) = node < nodes
NamesNode nodes (AllSteps node) = node < nodes
NamesNode nodes (Irq node bits) = node < nodes
NamesNode nodes Go = Unit {0}

-- a strike is at one of so many nodes, and strikes at least one bit
pub record IsStrikeOn (nodes : ℕ) (s : Strike) : Type 0 where
  pub node : s.node < nodes
  pub every : 1 ≤ s.every
  pub times : 1 ≤ s.times

-- how many bits these strikes strike, each counted as often as it is struck
abbrev pub times_in : List Strike → ℕ
times_in strikes = sum_by (λ (s : Strike). s.times) strikes

-- a plan is within the limits of its version
pub record IsInLimits (p : PlanValue) : Type 0 where
  pub version : (1 ≤ p.version) × (p.version ≤ 3)
  pub bits : (1 ≤ p.bits) × (p.bits ≤ most_bits p.version)
  pub nodes : (1 ≤ length p.nodes) × (length p.nodes ≤ 8)
  pub steps : All (λ steps. length steps ≤ most_steps p.version) p.nodes
  pub turn_count : length p.turns ≤ most_turns p.version
  pub turns : All (NamesNode (length p.nodes)) p.turns
  pub strike_count : times_in p.strikes ≤ most_strikes p.version
  pub strikes : All (IsStrikeOn (length p.nodes)) p.strikes
