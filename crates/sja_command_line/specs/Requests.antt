-- What the program can be asked for (this project's own rule).
use Rattle.std.specs.Prelude.{ℕ, Bool, List, map, Option}
use Rattle.sja_command_line.specs.declared.task.Task.{Task}
use Rattle.sja_command_line.specs.declared.task.Task.TheVariants.{Encode, Decode, Filter, Arbitrate, Message, Run, Wave}
use Rattle.sja_command_line.specs.declared.task.Task.TheVariants.{Trace, Frames, Picture, Candump, Check, Sweep}
use Rattle.sja_command_line.specs.declared.task.Task.TheVariants.{StruckPlan}
use Rattle.sja_command_line.specs.declared.task.Task.TheVariants.{Registers, Plan, Expected, Files, Live}
use Rattle.sja_command_line.specs.declared.plan_question.PlanQuestion.{PlanQuestion}
use Rattle.sja_command_line.specs.declared.plan_question.PlanQuestion.TheVariants as question
use Rattle.sja_command_line.specs.declared.sweep_words.SweepWords.{SweepWords}

-- what the program is asked for, with the texts of its arguments
pub data Request : Type 0 where
  encode : List ℕ → Request
  decode : List ℕ → Request
  filter : Bool → List ℕ → List ℕ → List ℕ → Request
  arbitrate : List (List ℕ) → Request
  message : List ℕ → Request
  run : Bool → Request
  wave : Bool → Request
  trace : Bool → Request
  frames : Bool → Bool → Request
  picture : ℕ → Option ℕ → Bool → Bool → Bool → Request
  candump : Bool → Bool → Request
  check : Bool → Request
  sweep : SweepWords → Request
  struck_plan : ℕ → ℕ → Request
  registers : Option ℕ → Request
  spelled_plan : Request
  expected : Bool → List ℕ → List ℕ → Request
  files : PlanQuestion → ℕ → List (List ℕ) → Request
  live : Request

-- a task as what it asks for
abbrev pub request_of : Task → Request
request_of (Encode digits) = encode digits.now
request_of (Decode line) = decode line.now
request_of (Filter single acr amr digits) = filter single acr.now amr.now digits.now
request_of (Arbitrate messages) = arbitrate (map (λ digits. digits.now) messages.items)
request_of (Message text) = message text.now
request_of (Run threads) = run threads
request_of (Wave threads) = wave threads
request_of (Trace threads) = trace threads
request_of (Frames bits threads) = frames bits threads
request_of (Picture first last svg threads meant) = picture first last svg threads meant
request_of (Candump errors threads) = candump errors threads
request_of (Check strict) = check strict
request_of (Files w) = files w.question w.jobs (map (λ name. name.now) w.names.items)
request_of Live = live
request_of (Sweep asked_for) = sweep asked_for
request_of (StruckPlan node bit) = struck_plan node bit
request_of (Registers bit) = registers bit
request_of Plan = spelled_plan
request_of (Expected w) = expected w.threads w.plan.now w.report.now

-- what is asked of a plan, as it is asked of the plan on the input
abbrev pub request_about : PlanQuestion → Request
request_about (question.Report threads) = run threads
request_about (question.Check strict) = check strict
request_about (question.Wave threads) = wave threads
request_about (question.Trace threads) = trace threads
request_about (question.Frames bits threads) = frames bits threads
request_about (question.Picture first last svg threads meant) = picture first last svg threads meant
request_about (question.Candump errors threads) = candump errors threads
request_about (question.Sweep w) = sweep w
request_about (question.StruckPlan node bit) = struck_plan node bit
request_about (question.Registers bit) = registers bit
request_about question.Plan = spelled_plan
