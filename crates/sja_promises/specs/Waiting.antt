-- Why a step of a run in one thread isn't done (this project's own rule).
use Rattle.std.specs.Prelude.{◌≡◌, ◌<◌, true, false, List, length}
use Rattle.sja_journal.specs.declared.entry.Entry.{Entry}
use Rattle.sja_journal.specs.Places.{place_of}
use Rattle.sja_journal.specs.Records.{record_of}
use Rattle.sja_regs.specs.declared.registers.Registers.{Registers}
use Rattle.sja_regs.specs.InterruptLine.{is_line_active}
use Rattle.sja_steps.specs.declared.step.Step.{Step}
use Rattle.sja_steps.specs.declared.step.Step.TheVariants.{Await, Sent, Interrupt, At}
use Rattle.sja_driver.specs.StepRuns.{by_bytes}
use Rattle.sja_driver.specs.TypedActs.{TypedAct, is_active, opened_by}
use Rattle.sja_promises.specs.Registering.{seen_now}
use Rattle.sja_driver.specs.NodeRest.{IsHolding}
use Rattle.sja_driver.specs.Windows.{off_by, window_of}

-- too few messages have come, the node holds a request still, by these registers of its port and by what is seen of the
-- messages the interrupt line isn't active, or in version 3 fewer bits have run; no other step waits
abbrev pub HasToWait : Registers → List Entry → List TypedAct → Step → Type 0
HasToWait p j acts (Await count) =
    (is_active acts ≡ true) × (off_by (place_of j).bits j (opened_by acts) ≡ false)
    × (length (window_of j acts (place_of j).bits) < count)
HasToWait p j acts Sent = (is_active acts ≡ true) × IsHolding (record_of j)
HasToWait p j acts Interrupt = is_line_active p (seen_now (is_active acts) j acts) ≡ false
HasToWait p j acts (At least) = (by_bytes p.version ≡ true) × ((place_of j).bits < least)
HasToWait p j acts other = ⊥
