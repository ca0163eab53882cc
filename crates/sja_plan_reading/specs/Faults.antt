-- Which plan bytes are, and why they are none: the first check that fails (this project's own rule).
use Rattle.std.specs.Prelude.{◌≡◌, ◌<◌, ◌≤◌, ℕ, Some, None, List, length, IsUtf8}
use Rattle.toml.specs.Data.{Members}
use Rattle.toml.specs.Parse.{parse_document}
use Rattle.sja_plan_reading.specs.StepTexts.{SaysStep}
use Rattle.sja_plan_reading.specs.TurnTexts.{SaysTurn}
use Rattle.sja_plan_reading.specs.StrikeTexts.{SaysStrike}
use Rattle.sja_plan_reading.specs.Texts.{IsFirstBad, IsFirstBadIn}
use Rattle.sja_plan_reading.specs.Document.{DocumentValue, HasShape, IsMisshapen}
use Rattle.sja_plan.specs.Plan.{PlanValue}
use Rattle.sja_plan_reading.specs.DocumentLimits.{most_bytes}
use Rattle.sja_plan_reading.specs.Checks.{version_of, HasVersion, HasBits, HasNodes, HasFewSteps, HasFewTurns}
use Rattle.sja_plan_reading.specs.Checks.{HasFewStrikes}
use Rattle.sja_plan_reading.specs.Checks.{SaysPlan}
use Rattle.sja_plan_reading.specs.Checks.{BeforeBits, BeforeNodeCount, BeforeStepCount, BeforeSteps}
use Rattle.sja_plan_reading.specs.Checks.{BeforeTurnCount, BeforeTurns, BeforeStrikeCount, BeforeStrikes}
use Rattle.sja_plan_reading.specs.declared.plan_fault.PlanFault.{PlanFault}
use Rattle.sja_plan_reading.specs.declared.plan_fault.PlanFault.TheVariants.{TooLong, NotText, Toml, Key}
use Rattle.sja_plan_reading.specs.declared.plan_fault.PlanFault.TheVariants.{Version, Bits, NodeCount}
use Rattle.sja_plan_reading.specs.declared.plan_fault.PlanFault.TheVariants.{StepCount, Step, TurnCount, Turn}
use Rattle.sja_plan_reading.specs.declared.plan_fault.PlanFault.TheVariants.{StrikeCount, Strike, Memory}

-- the bytes are a text that isn't too long
abbrev pub IsText : List ℕ → Type 0
IsText bytes = (length bytes ≤ most_bytes bytes) × IsUtf8 bytes

-- the text is a TOML document with a plan's keys, and says this
abbrev pub Says : List ℕ → DocumentValue → Type 0
Says bytes d = (ms : Members) × IsText bytes × (parse_document bytes ≡ Some ms) × HasShape ms d

-- the bytes are this plan
abbrev pub IsPlanOf : List ℕ → PlanValue → Type 0
IsPlanOf bytes p = (d : DocumentValue) × Says bytes d × SaysPlan d p

-- of the checks of what a document says, all before this one pass, and this one fails
abbrev pub IsDocumentFault : DocumentValue → PlanFault → Type 0
IsDocumentFault d Version = ¬ HasVersion d
IsDocumentFault d Bits = BeforeBits d × ¬ HasBits d
IsDocumentFault d NodeCount = BeforeNodeCount d × ¬ HasNodes d
IsDocumentFault d StepCount = BeforeStepCount d × ¬ HasFewSteps d
IsDocumentFault d (Step node number) = BeforeSteps d × IsFirstBadIn (SaysStep (version_of d)) d.nodes node number
IsDocumentFault d TurnCount = BeforeTurnCount d × ¬ HasFewTurns d
IsDocumentFault d (Turn number) = BeforeTurns d × IsFirstBad (SaysTurn (version_of d) (length d.nodes)) d.turns number
IsDocumentFault d StrikeCount = BeforeStrikeCount d × ¬ HasFewStrikes d
IsDocumentFault d (Strike number) = BeforeStrikes d × IsFirstBad (SaysStrike (length d.nodes)) d.faults number
IsDocumentFault d Memory = Unit {0}
IsDocumentFault d TooLong = ⊥
IsDocumentFault d NotText = ⊥
IsDocumentFault d Toml = ⊥
IsDocumentFault d Key = ⊥

-- of all checks of the bytes, all before this one pass, and this one fails; memory may be refused once they are a text
abbrev pub IsFirstFault : List ℕ → PlanFault → Type 0
IsFirstFault bytes TooLong = most_bytes bytes < length bytes
IsFirstFault bytes NotText = (length bytes ≤ most_bytes bytes) × ¬ IsUtf8 bytes
IsFirstFault bytes Toml = IsText bytes × (parse_document bytes ≡ None)
IsFirstFault bytes Key = (ms : Members) × IsText bytes × (parse_document bytes ≡ Some ms) × IsMisshapen ms
IsFirstFault bytes Memory = IsText bytes
IsFirstFault bytes fault = (d : DocumentValue) × Says bytes d × IsDocumentFault d fault
