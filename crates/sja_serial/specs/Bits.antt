-- What bits do to a run in one thread (this project's own rule).
use Rattle.std.specs.Prelude.{◌≡◌, ◌+◌, ◌<◌, ◌≤◌, ◌⊎◌, ℕ, suc, true, false, Bool, List, slice_index_or}
use Rattle.sja_journal.specs.Records.{record_of}
use Rattle.sja_journal.specs.BitEntries.{HasOneBit}
use Rattle.sja_bus.specs.BusRest.{RestsAs}
use Rattle.sja_bus_rules.specs.Lawful.{IsBusRun}
use Rattle.sja_bus_rules.specs.Wire.{journal_at}
use Rattle.sja_regs.specs.declared.registers.Registers.{Registers}
use Rattle.sja_driver.specs.TypedActs.{TypedAct}
use Rattle.sja_promises.specs.Registering.{IsPortBit}
use Rattle.sja_serial.specs.Serial.{Setup, SerialValue, StandsAt}

-- one bit of a run, whose drivers did these acts and nothing more: what holds of every bus holds after it, so that all
-- nodes saw one wire, and each port is as the bit leaves it
pub record TakesBit (setup : Setup) (acts : List (List TypedAct)) (was now : SerialValue) : Type 0 where
  pub stands : StandsAt setup now acts
  pub bits : now.bits ≡ was.bits + 1
  pub lawful : IsBusRun setup.strikes now.bits now.bus.journals
  pub nodes : (node : ℕ) → node < setup.nodes →
      HasOneBit (journal_at was.bus.journals node) (journal_at now.bus.journals node)
  pub ports : (node : ℕ) (p : Registers) → node < setup.nodes →
      IsPortBit (slice_index_or was.ports node p) (slice_index_or now.ports node p) (journal_at was.bus.journals node)
      (journal_at now.bus.journals node)
  pub drivers : now.drivers ≡ was.drivers

-- so many bits, before each of which this held
pub data TakesBits (setup : Setup) (acts : List (List TypedAct)) (Before : SerialValue → Type 0) :
    SerialValue → ℕ → SerialValue → Type 0 where
  no_bit : (r : SerialValue) → TakesBits setup acts Before r 0 r
  one_more : (was mid now : SerialValue) (n : ℕ) → TakesBits setup acts Before was n mid → Before mid →
      TakesBit setup acts mid now → TakesBits setup acts Before was (suc n) now

-- every node is at rest
abbrev pub AllRestIn : Setup → SerialValue → Type 0
AllRestIn setup r =
    (node : ℕ) → node < setup.nodes → RestsAs (record_of (journal_at r.bus.journals node)) true

-- some node isn't
abbrev pub SomeWorks : Setup → SerialValue → Type 0
SomeWorks setup r =
    (node : ℕ) × (node < setup.nodes) × RestsAs (record_of (journal_at r.bus.journals node)) false

-- ---- turns

-- `bus` runs so many bits, or as many as are left
pub record TakesBusTurn (setup : Setup) (acts : List (List TypedAct)) (was now : SerialValue) (count : ℕ) (all : Bool) :
    Type 0 where
  pub run : ℕ
  pub bits : TakesBits setup acts (λ r. Unit {0}) was run now
  pub whole : all ≡ true → run ≡ count
  pub spent : all ≡ false → (run < count) × (now.bits ≡ setup.bits)

-- `rest` runs bits until every node is at rest, or until so many were run or the bits are spent while some node isn't
pub record TakesRest (setup : Setup) (acts : List (List TypedAct)) (was now : SerialValue) (most : ℕ) (rests : Bool) :
    Type 0 where
  pub run : ℕ
  pub few : run ≤ most
  pub bits : TakesBits setup acts (SomeWorks setup) was run now
  pub whole : rests ≡ true → AllRestIn setup now
  pub spent : rests ≡ false → SomeWorks setup now × ((run ≡ most) ⊎ (now.bits ≡ setup.bits))
