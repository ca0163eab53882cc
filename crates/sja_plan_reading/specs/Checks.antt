-- The checks of what a plan's document says, in their order, and the plan that it is (this project's own rule).
use Rattle.std.specs.Prelude.{◌≡◌, ◌≤◌, ℕ, ℤ, pos, negsuc, List, length, All}
use Rattle.std.specs.List.{AllZip}
use Rattle.sja_steps.specs.declared.step.Step.{Step}
use Rattle.sja_plan_reading.specs.StepTexts.{SaysStep}
use Rattle.sja_plan_reading.specs.TurnTexts.{SaysTurn}
use Rattle.sja_plan_reading.specs.StrikeTexts.{SaysStrike, strikes_in}
use Rattle.sja_plan_reading.specs.Document.{DocumentValue}
use Rattle.sja_plan.specs.Limits.{most_bits, most_steps, most_turns, most_strikes}
use Rattle.sja_plan.specs.Plan.{PlanValue}
use Rattle.sja_plan.specs.declared.turn.Turn.{Turn}

-- the number is one from `least` to `most`
abbrev pub IsWithin : ℤ → ℕ → ℕ → Type 0
IsWithin z least most = (n : ℕ) × (z ≡ pos n) × (least ≤ n) × (n ≤ most)

abbrev pub HasVersion : DocumentValue → Type 0
HasVersion d = IsWithin d.version 1 3

-- the number that a whole number is, and 0 for one below 0
abbrev pub natural : ℤ → ℕ
natural (pos n) = n
natural (negsuc n) = 0

-- the version whose limits a document keeps
abbrev pub version_of : DocumentValue → ℕ
version_of d = natural d.version

abbrev pub HasBits : DocumentValue → Type 0
HasBits d = IsWithin d.bits 1 (most_bits (version_of d))

abbrev pub HasNodes : DocumentValue → Type 0
HasNodes d = (1 ≤ length d.nodes) × (length d.nodes ≤ 8)

abbrev pub HasFewSteps : DocumentValue → Type 0
HasFewSteps d = All (λ steps. length steps ≤ most_steps (version_of d)) d.nodes

-- each text of a step says one
abbrev pub HasSteps : DocumentValue → Type 0
HasSteps d = (nodes : List (List Step)) × AllZip (AllZip (SaysStep (version_of d))) d.nodes nodes

abbrev pub HasFewTurns : DocumentValue → Type 0
HasFewTurns d = length d.turns ≤ most_turns (version_of d)

-- each text of a turn says one
abbrev pub HasTurns : DocumentValue → Type 0
HasTurns d = (turns : List Turn) × AllZip (SaysTurn (version_of d) (length d.nodes)) d.turns turns

abbrev pub HasFewStrikes : DocumentValue → Type 0
HasFewStrikes d = strikes_in d.faults ≤ most_strikes (version_of d)

-- every check passes, that of the strikes' texts too, and this is the plan
pub record SaysPlan (d : DocumentValue) (p : PlanValue) : Type 0 where
  pub version : (d.version ≡ pos p.version) × (1 ≤ p.version) × (p.version ≤ 3)
  pub bits : (d.bits ≡ pos p.bits) × (1 ≤ p.bits) × (p.bits ≤ most_bits p.version)
  pub node_count : HasNodes d
  pub step_counts : HasFewSteps d
  pub steps : AllZip (AllZip (SaysStep p.version)) d.nodes p.nodes
  pub turn_count : HasFewTurns d
  pub turns : AllZip (SaysTurn p.version (length d.nodes)) d.turns p.turns
  pub strike_count : HasFewStrikes d
  pub strikes : AllZip (SaysStrike (length d.nodes)) d.faults p.strikes

-- which checks passed before each check
abbrev pub BeforeBits : DocumentValue → Type 0
BeforeBits d = HasVersion d

abbrev pub BeforeNodeCount : DocumentValue → Type 0
BeforeNodeCount d = BeforeBits d × HasBits d

abbrev pub BeforeStepCount : DocumentValue → Type 0
BeforeStepCount d = BeforeNodeCount d × HasNodes d

abbrev pub BeforeSteps : DocumentValue → Type 0
BeforeSteps d = BeforeStepCount d × HasFewSteps d

abbrev pub BeforeTurnCount : DocumentValue → Type 0
BeforeTurnCount d = BeforeSteps d × HasSteps d

abbrev pub BeforeTurns : DocumentValue → Type 0
BeforeTurns d = BeforeTurnCount d × HasFewTurns d

abbrev pub BeforeStrikeCount : DocumentValue → Type 0
BeforeStrikeCount d = BeforeTurns d × HasTurns d

abbrev pub BeforeStrikes : DocumentValue → Type 0
BeforeStrikes d = BeforeStrikeCount d × HasFewStrikes d
