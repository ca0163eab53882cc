-- What the steps of a driver did (this project's own rule).
use Rattle.std.specs.Prelude.{◌≡◌, ◌==◌, ◌+◌, ℕ, Bool, true, false, nat_lt}
use Rattle.std.specs.Prelude.{if◌then◌else◌, List, [], ◌∷◌, ◌++◌, length, map, slice_index_or, slice_set, take}
use Rattle.can_node_rules.specs.declared.config.Config.{Config}
use Rattle.can_node_rules.specs.declared.request.Request.{Request}
use Rattle.sja_journal.specs.Sizes.{most_activations}
use Rattle.sja_journal.specs.declared.up.Up.{Up}
use Rattle.sja_journal.specs.declared.up.Up.TheVariants.{Start as StartItem, Credit, Send, Stop as StopItem}
use Rattle.lemmas.specs.Gathering.{gathered, total}
use Rattle.lemmas.specs.Picking.{EachAfter}
use Rattle.sja_regs.specs.Commands.{command_of, requests}
use Rattle.sja_steps.specs.declared.step.Step.{Step}
use Rattle.sja_steps.specs.declared.step.Step.TheVariants.{Start, Stop, Window, Release, Load, Command, Await, Sent}
use Rattle.sja_steps.specs.declared.refusal.Refusal.TheVariants.{NoActivationLeft, WrongState}
use Rattle.sja_steps.specs.declared.step_answer.StepAnswer.{StepAnswer}
use Rattle.sja_steps.specs.declared.step_answer.StepAnswer.TheVariants.{Done as DoneAnswer, Released, Refused}
use Rattle.sja_steps.specs.declared.step_record.StepRecord.{StepRecord}

-- a step that was done: its answer, the number of bits run before it, and what it gave to the bus
pub record TypedAct : Type 0 where
  pub step : Step
  pub answer : StepAnswer
  pub bits : ℕ
  pub gave : List Up

-- of a list of acts for each node, those of this one
abbrev pub acts_at : List (List TypedAct) → ℕ → List TypedAct
acts_at acts node = slice_index_or acts node []

-- with acts more of one node
abbrev pub with_acts : List (List TypedAct) → ℕ → List TypedAct → List (List TypedAct)
with_acts acts node more = slice_set acts node (acts_at acts node ++ more)

-- ---- states

-- a start that is accepted opens an activation
abbrev pub opened : Step → StepAnswer → ℕ
opened Start DoneAnswer = 1
opened other answer = 0

abbrev pub opens_by : TypedAct → ℕ
opens_by d = opened d.step d.answer

-- how many activations were opened
abbrev pub opened_by : List TypedAct → ℕ
opened_by = total opens_by

-- a start that is accepted makes a driver active, a stop that is accepted ends that
abbrev pub active_after : Bool → Step → StepAnswer → Bool
active_after active Start DoneAnswer = true
active_after active Stop DoneAnswer = false
active_after active other answer = active

-- whether a driver is active after these acts, from one that is or isn't
abbrev pub active_from : Bool → List TypedAct → Bool
active_from active [] = active
active_from active (d ∷ acts) = active_from (active_after active d.step d.answer) acts

abbrev pub is_active : List TypedAct → Bool
is_active = active_from false

-- in reset as many starts are accepted as this version has activations, out of it every stop; a step that needs the
-- other state is refused
abbrev pub FitsState : ℕ → Bool → ℕ → Step → StepAnswer → Type 0
FitsState version true opened Start answer = answer ≡ Refused WrongState
FitsState version false opened Start answer =
    answer ≡ (if nat_lt opened (most_activations version) then DoneAnswer else Refused NoActivationLeft)
FitsState version true opened Stop answer = answer ≡ DoneAnswer
FitsState version false opened Stop answer = answer ≡ Refused WrongState
FitsState version false opened Window answer = answer ≡ Refused WrongState
FitsState version false opened Release answer = answer ≡ Refused WrongState
FitsState version false opened (Load m) answer = answer ≡ Refused WrongState
FitsState version false opened (Command value) answer = answer ≡ Refused WrongState
FitsState version false opened (Await count) answer = answer ≡ Refused WrongState
FitsState version false opened Sent answer = answer ≡ Refused WrongState
FitsState version active opened other answer = Unit {0}

-- ---- what a step gives

abbrev pub GivesSend : Bool → List Up → Type 0
GivesSend true gave = (request : Request) × (gave ≡ Send request ∷ [])
GivesSend false gave = gave ≡ []

-- an accepted start gives a start, a release the credit of its length, an accepted command that requests a transmission
-- a request, an accepted stop a stop; no other step gives anything
abbrev pub Gives : Step → StepAnswer → List Up → Type 0
Gives Start DoneAnswer gave = (config : Config) × (gave ≡ StartItem config ∷ [])
Gives Release (Released n) gave = gave ≡ Credit n ∷ []
Gives (Command value) DoneAnswer gave = GivesSend (requests (command_of value)) gave
Gives Stop DoneAnswer gave = gave ≡ StopItem ∷ []
Gives other answer gave = gave ≡ []

-- what was given in these acts, in order
abbrev pub given_in : List TypedAct → List Up
given_in acts = gathered (λ (d : TypedAct). d.gave) acts

-- the length that a release answers
abbrev pub length_in : Step → StepAnswer → List ℕ
length_in Release (Released n) = n ∷ []
length_in other answer = []

-- the lengths of the messages that were released
abbrev pub released_lengths : List TypedAct → List ℕ
released_lengths acts = gathered (λ (d : TypedAct). length_in d.step d.answer) acts

-- ---- the trace of a driver

-- what stands after just so many openings, the opening itself counted
abbrev pub section_from : {X : Type 0} → (X → ℕ) → ℕ → List X → ℕ → List X
section_from opens n [] a = []
section_from opens n (x ∷ xs) a =
    (if (n + opens x) == a then x ∷ [] else []) ++ section_from opens (n + opens x) xs a

-- the acts of an activation: from the start that opened it to the next one
abbrev pub acts_of : List TypedAct → ℕ → List TypedAct
acts_of acts a = section_from opens_by 0 acts a

-- an act as a log has it
abbrev pub step_record_of : TypedAct → StepRecord
step_record_of d = record { answer = d.answer; bits = d.bits }

-- each act answers as in this version the state has it that those before it led to, and gives what its step and answer
-- say
pub record AreAnswered (version : ℕ) (acts : List TypedAct) : Type 0 where
  pub states : EachAfter (λ before (d : TypedAct). FitsState version (is_active before) (opened_by before) d.step
      d.answer)
      []
      acts
  pub gives : EachAfter (λ before (d : TypedAct). Gives d.step d.answer d.gave) [] acts

-- the acts are those of a driver with these steps: a front of them, each answered as in this version its state has it
-- and giving what it gives
pub record AreActs (version : ℕ) (steps : List Step) (acts : List TypedAct) : Type 0 where
  pub first : map (λ (d : TypedAct). d.step) acts ≡ take (length acts) steps
  pub states : EachAfter (λ before (d : TypedAct). FitsState version (is_active before) (opened_by before) d.step
      d.answer)
      []
      acts
  pub gives : EachAfter (λ before (d : TypedAct). Gives d.step d.answer d.gave) [] acts
