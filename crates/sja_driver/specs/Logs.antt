-- What a driver's log says (this project's own rule).
use Rattle.std.specs.Prelude.{◌≡◌, ◌==◌, ◌+◌, ◌≤◌, ◌++◌, ℕ, if◌then◌else◌, List, [], ◌∷◌, length, map}
use Rattle.sja_link.specs.declared.driver_ledger.DriverLedger.{DriverLedger}
use Rattle.sja_link.specs.DriverLedgers.{held_by}
use Rattle.sja_journal.specs.BoundedHistories.{KeepsAll}
use Rattle.lemmas.specs.Gathering.{gathered}
use Rattle.sja_regs.specs.declared.registers.Registers.{Registers}
use Rattle.sja_steps.specs.declared.step_record.StepRecord.{StepRecord}
use Rattle.sja_steps.specs.declared.step.Step.{Step}
use Rattle.sja_steps.specs.declared.step_answer.StepAnswer.{StepAnswer}
use Rattle.sja_steps.specs.declared.step_answer.StepAnswer.TheVariants.{Done as DoneAnswer, Released as ReleasedAnswer}
use Rattle.sja_journal.specs.Sizes.{most_activations}
use Rattle.sja_driver.specs.declared.any_driver.AnyDriver.{AnyDriver}
use Rattle.sja_driver.specs.declared.release.Release.{Release}
use Rattle.sja_driver.specs.declared.work_log.WorkLog.{WorkLog}
use Rattle.sja_driver.specs.AnyDrivers.{is_out, opened_of}
use Rattle.sja_driver.specs.TypedActs.{TypedAct, AreAnswered, opened_by, is_active, acts_of, released_lengths}
use Rattle.sja_driver.specs.Carried.{carried}
use Rattle.sja_driver.specs.Tries.{Tried}
use Rattle.sja_driver.specs.Tries.Tried.{Unmet, Answered, Released, Ended}

-- the steps done, the messages released, and the ledgers of the activations that ended, each oldest first
abbrev pub done_in : WorkLog → List StepRecord
done_in l = l.done.items

abbrev pub releases_in : WorkLog → List Release
releases_in l = l.released.items

abbrev pub left_in : WorkLog → List DriverLedger
left_in l = l.left.items

-- how many of each it was made for
abbrev pub done_room : WorkLog → ℕ
done_room l = l.done.room

abbrev pub release_room : WorkLog → ℕ
release_room l = l.released.room

abbrev pub left_room : WorkLog → ℕ
left_room l = l.left.room

-- nothing was done
pub record IsEmpty (l : WorkLog) : Type 0 where
  pub done : done_in l ≡ []
  pub releases : releases_in l ≡ []
  pub left : left_in l ≡ []

-- it was made for so many steps done, for what so many acts come to, and for all activations of a node in this version
pub record IsMadeFor (version steps acts : ℕ) (l : WorkLog) : Type 0 where
  pub done : done_room l ≡ steps
  pub releases : release_room l ≡ acts
  pub left : left_room l ≡ most_activations version

-- it is made for no more of each than lists that forget none, so all that it says can be read
pub record KeepsLog (l : WorkLog) : Type 0 where
  pub done : KeepsAll (done_room l)
  pub releases : KeepsAll (release_room l)
  pub left : KeepsAll (left_room l)

-- there is room for what so many acts more come to, and for all activations of a node in this version
pub record HasRoom (version steps : ℕ) (l : WorkLog) : Type 0 where
  pub releases : length (releases_in l) + steps ≤ release_room l
  pub left : most_activations version ≤ left_room l

-- ---- what a try adds, where so many activations have ended

abbrev pub releases_by : ℕ → Tried → List Release
releases_by n Unmet = []
releases_by n (Answered answer) = []
releases_by n (Released m) = (record { activation = n + 1; message = m }) ∷ []
releases_by n (Ended ledger) = []

abbrev pub left_by : Tried → List DriverLedger
left_by Unmet = []
left_by (Answered answer) = []
left_by (Released m) = []
left_by (Ended ledger) = ledger ∷ []

-- a step that was done, at these registers and with this answer
abbrev pub act_by : Registers → Step → StepAnswer → ℕ → TypedAct
act_by p step answer bits = record { step = step; answer = answer; bits = bits; gave = carried p step answer }

-- the act that it was, if it was one
abbrev pub acts_by : Registers → Step → Tried → ℕ → List TypedAct
acts_by p one Unmet bits = []
acts_by p one (Answered answer) bits = act_by p one answer bits ∷ []
acts_by p one (Released m) bits = act_by p one (ReleasedAnswer (length m)) bits ∷ []
acts_by p one (Ended ledger) bits = act_by p one DoneAnswer bits ∷ []

-- ---- what it says of each activation

-- the message of a release, if it was in this activation
abbrev pub of_activation : ℕ → Release → List (List ℕ)
of_activation a r = if r.activation == a then r.message ∷ [] else []

-- the messages released in an activation
abbrev pub released_of : List Release → ℕ → List (List ℕ)
released_of rs a = gathered (of_activation a) rs

-- what each activation that ended left, and last what the present one holds
abbrev pub leaves : List DriverLedger → List (List ℕ) → List (List (List ℕ))
leaves left held = map (λ (l : DriverLedger). held_by l) left ++ held ∷ []

-- log and state of a driver are those of these acts, each answered as in this version its state has it: of each
-- activation the messages released are as long as its releases answered
pub record Traces (version : ℕ) (driver : AnyDriver) (log : WorkLog) (acts : List TypedAct) : Type 0 where
  pub released : (a : ℕ) → map (λ (m : List ℕ). length m) (released_of (releases_in log) a)
      ≡ released_lengths (acts_of acts a)
  pub opened : opened_by acts ≡ opened_of driver
  pub out : is_active acts ≡ is_out driver
  pub answered : AreAnswered version acts
