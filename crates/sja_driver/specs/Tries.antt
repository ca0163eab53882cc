-- What comes of a try of a step (this project's own rule).
use Rattle.std.specs.Prelude.{◌≡◌, ◌+◌, ◌++◌, ℕ, Bool, Option, Some, None, List, [], ◌∷◌, length}
use Rattle.sja_link.specs.declared.driver_ledger.DriverLedger.{DriverLedger}
use Rattle.sja_journal.specs.declared.up.Up.{Up}
use Rattle.sja_link.specs.DriverLedgers.{held_by, knows_bus_off}
use Rattle.sja_regs.specs.declared.registers.Registers.{Registers}
use Rattle.sja_steps.specs.declared.step.Step.{Step}
use Rattle.sja_steps.specs.declared.step.Step.TheVariants.{Stop, Release}
use Rattle.sja_steps.specs.declared.step_answer.StepAnswer.{StepAnswer}
use Rattle.sja_steps.specs.declared.step_answer.StepAnswer.TheVariants.{Done as DoneAnswer, Released as ReleasedAnswer}
use Rattle.sja_driver.specs.declared.any_driver.AnyDriver.{AnyDriver}
use Rattle.sja_driver.specs.declared.any_driver.AnyDriver.TheVariants.{InReset, InActive}
use Rattle.sja_driver.specs.AnyDrivers.{held_of, off_of}
use Rattle.sja_driver.specs.Carried.{carried, ported}
use Rattle.sja_driver.specs.TypedActs.{length_in, opened, active_after}

-- what came of a try of a step
pub data Tried : Type 0 where
  -- the step isn't done: it is to be tried again
  Unmet : Tried
  -- it is done with this answer
  Answered : StepAnswer → Tried
  -- it is done: it released this message
  Released : List ℕ → Tried
  -- it is done: it ended the activation that had this ledger
  Ended : DriverLedger → Tried

-- P of the answer, if the step is done
abbrev pub IfAnswered : Tried → (StepAnswer → Type 0) → Type 0
IfAnswered Unmet P = Unit {0}
IfAnswered (Answered answer) P = P answer
IfAnswered (Released m) P = P (ReleasedAnswer (length m))
IfAnswered (Ended ledger) P = P DoneAnswer

-- P, if the step is to be tried again
abbrev pub IfUnmet : Tried → Type 0 → Type 0
IfUnmet Unmet P = P
IfUnmet (Answered answer) P = Unit {0}
IfUnmet (Released m) P = Unit {0}
IfUnmet (Ended ledger) P = Unit {0}

-- its answer, if the step is done
abbrev pub answer_of : Tried → Option StepAnswer
answer_of Unmet = None
answer_of (Answered answer) = Some answer
answer_of (Released m) = Some (ReleasedAnswer (length m))
answer_of (Ended ledger) = Some DoneAnswer

-- only a release releases a message, and only a stop ends an activation
abbrev pub IsOf : Step → Tried → Type 0
IsOf s Unmet = Unit {0}
IsOf s (Answered answer) = length_in s answer ≡ []
IsOf s (Released m) = s ≡ Release
IsOf s (Ended ledger) = s ≡ Stop

-- how many activations it ended
abbrev pub ended_by : Tried → ℕ
ended_by Unmet = 0
ended_by (Answered answer) = 0
ended_by (Released m) = 0
ended_by (Ended ledger) = 1

-- the message that it released
abbrev pub released_by : Tried → List (List ℕ)
released_by Unmet = []
released_by (Answered answer) = []
released_by (Released m) = m ∷ []
released_by (Ended ledger) = []

-- what it gave to the bus
abbrev pub gave_by : Registers → Step → Tried → List Up
gave_by p s Unmet = []
gave_by p s (Answered answer) = carried p s answer
gave_by p s (Released m) = carried p s (ReleasedAnswer (length m))
gave_by p s (Ended ledger) = carried p s DoneAnswer

-- the registers after it
abbrev pub port_after : Registers → Step → Tried → Registers
port_after p s Unmet = p
port_after p s (Answered answer) = ported p s answer
port_after p s (Released m) = ported p s (ReleasedAnswer (length m))
port_after p s (Ended ledger) = ported p s DoneAnswer

-- the messages that the activation which it was tried in holds after it, and whether bus-off was got there
abbrev pub held_after : AnyDriver → Tried → List (List ℕ)
held_after now Unmet = held_of now
held_after now (Answered answer) = held_of now
held_after now (Released m) = held_of now
held_after now (Ended ledger) = held_by ledger

abbrev pub off_after : AnyDriver → Tried → Bool
off_after now Unmet = off_of now
off_after now (Answered answer) = off_of now
off_after now (Released m) = off_of now
off_after now (Ended ledger) = knows_bus_off ledger

-- the window as it saw it: what it released, and what is held after it
abbrev pub window_after : AnyDriver → Tried → List (List ℕ)
window_after now o = released_by o ++ held_after now o

-- how many activations were opened after it, and whether the driver is out of reset
abbrev pub opened_after : ℕ → Step → Tried → ℕ
opened_after n s Unmet = n
opened_after n s (Answered answer) = n + opened s answer
opened_after n s (Released m) = n
opened_after n s (Ended ledger) = n

abbrev pub is_out_after : Bool → Step → Tried → Bool
is_out_after active s Unmet = active
is_out_after active s (Answered answer) = active_after active s answer
is_out_after active s (Released m) = active_after active s (ReleasedAnswer (length m))
is_out_after active s (Ended ledger) = active_after active s DoneAnswer

-- in reset nothing is given but the stop that leads there, and nothing is released
abbrev pub IsQuiet : Registers → Step → AnyDriver → Tried → Type 0
IsQuiet p s (InReset d) Unmet = Unit {0}
IsQuiet p s (InReset d) (Answered answer) = carried p s answer ≡ []
IsQuiet p s (InReset d) (Released m) = ⊥
IsQuiet p s (InReset d) (Ended ledger) = Unit {0}
IsQuiet p s (InActive d) (Ended ledger) = ⊥
IsQuiet p s (InActive d) o = Unit {0}
