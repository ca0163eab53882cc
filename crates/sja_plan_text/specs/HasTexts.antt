-- Which steps, turns and strikes a text can say, and which plans (this project's own rule). The laws show that it is
-- these and no other.
use Rattle.std.specs.Prelude.{◌<◌, ◌≤◌, ℕ, length, All}
use Rattle.can_frame.specs.Message.{IsMessage}
use Rattle.sja_plan_reading.specs.Words.{greatest}
use Rattle.sja_plan.specs.Limits.{most_steps}
use Rattle.sja_plan.specs.Plan.{PlanValue}
use Rattle.sja_steps.specs.declared.step.Step.{Step}
use Rattle.sja_steps.specs.declared.step.Step.TheVariants.{Start, Stop, Window, Release, Read}
use Rattle.sja_steps.specs.declared.step.Step.TheVariants.{Write, Load, Command, Await, Sent, Interrupt, At}
use Rattle.sja_steps.specs.declared.strike.Strike.{Strike}
use Rattle.sja_plan.specs.declared.turn.Turn.{Turn}
use Rattle.sja_plan.specs.declared.turn.Turn.TheVariants.{Bus, Rest, Node, All as AllSteps, Irq, Go}

-- in this version of the rules: what is read, written or commanded is a byte, what is loaded is a message, and 1 to 21
-- messages are awaited; a wait for the interrupt line, and one for a bit that a run may have, has a text in version 3
-- alone
abbrev pub HasStepText : ℕ → Step → Type 0
HasStepText version Start = Unit {0}
HasStepText version Stop = Unit {0}
HasStepText version Window = Unit {0}
HasStepText version Release = Unit {0}
HasStepText version (Read address) = address < 256
HasStepText version (Write address value) = (address < 256) × (value < 256)
HasStepText version (Load message) = IsMessage message
HasStepText version (Command value) = value < 256
HasStepText version (Await count) = (1 ≤ count) × (count ≤ 21)
HasStepText version Sent = Unit {0}
HasStepText version Interrupt = 3 ≤ version
HasStepText version (At least) = (3 ≤ version) × (least ≤ 2000000)

-- seven digits spell each number, and the bus runs one bit at least; in version 3 alone drivers do all that they can,
-- and there are turns up to an interrupt
abbrev pub HasTurnText : ℕ → Turn → Type 0
HasTurnText version (Bus bits) = (1 ≤ bits) × (bits ≤ greatest)
HasTurnText version Rest = Unit {0}
HasTurnText version (Node node steps) = (node ≤ greatest) × (steps ≤ greatest)
HasTurnText version (AllSteps node) = (3 ≤ version) × (node ≤ greatest)
HasTurnText version (Irq node bits) = (3 ≤ version) × (node ≤ greatest) × (1 ≤ bits) × (bits ≤ greatest)
HasTurnText version Go = 3 ≤ version

-- seven digits spell each number
pub record HasStrikeText (s : Strike) : Type 0 where
  pub node : s.node ≤ greatest
  pub bit : s.bit ≤ greatest
  pub every : s.every ≤ greatest
  pub times : s.times ≤ greatest

-- no node has more steps than a document of this version may have, and each step, turn and strike has a text
pub record HasTexts (p : PlanValue) : Type 0 where
  pub step_counts : All (λ steps. length steps ≤ most_steps p.version) p.nodes
  pub steps : All (λ steps. All (HasStepText p.version) steps) p.nodes
  pub turns : All (HasTurnText p.version) p.turns
  pub strikes : All HasStrikeText p.strikes
