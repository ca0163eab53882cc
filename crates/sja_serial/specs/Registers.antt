-- What the registers of each node read as at the end of a run (SJA1000 data sheet, 6.4; which are shown is this
-- project's own rule).
use Rattle.std.specs.Prelude.{◌≡◌, ◌++◌, ℕ, zero, suc, Bool, true, false, if◌then◌else◌, Option, Some, None, List}
use Rattle.std.specs.Prelude.{[], ◌∷◌, length, map, replicate, slice_index_or}
use Rattle.std.specs.List.{flat_map}
use Rattle.can_frame.specs.declared.buffer_view.BufferView.{BufferView}
use Rattle.sja_regs.specs.declared.registers.Registers.{Registers}
use Rattle.sja_regs.specs.Addresses.{register_at}
use Rattle.sja_regs.specs.Reading.{value_at}
use Rattle.sja_regs.specs.Registers.{at_power_on}
use Rattle.sja_driver.specs.declared.unmodelled_registers.UnmodelledRegisters.{UnmodelledRegisters}
use Rattle.sja_driver.specs.StepRuns.{StepRun, by_bytes}
use Rattle.sja_driver.specs.TypedActs.{TypedAct, acts_at, is_active}
use Rattle.sja_driver.specs.Kept.{at_power_on as kept_at_power_on}
use Rattle.sja_driver.specs.LoggedDrivers.{kept_of}
use Rattle.sja_driver.specs.Reads.{value_by_bytes}
use Rattle.sja_bus_rules.specs.Lawful.{IsBusRun}
use Rattle.sja_bus_rules.specs.Wire.{journal_at}
use Rattle.sja_plan.specs.Plan.{PlanValue}
use Rattle.sja_log.specs.declared.end.End.{End}
use Rattle.sja_log.specs.declared.register_row.RegisterRow.{RegisterRow}
use Rattle.sja_promises.specs.Registering.{seen_now}
use Rattle.sja_promises.specs.Turns.{RunsTo}
use Rattle.sja_serial.specs.Ending.{AreFirst, progress, setup_of}
use Rattle.sja_serial.specs.Serial.{SerialValue, StandsBy, all_acts}

-- MOD, SR, IR, IER, BTR0, BTR1, OCR, ALC, ECC, EWLR, RXERR and TXERR
abbrev pub first_addresses : List ℕ
first_addresses = 0 ∷ 2 ∷ 3 ∷ 4 ∷ 6 ∷ 7 ∷ 8 ∷ 11 ∷ 12 ∷ 13 ∷ 14 ∷ 15 ∷ []

-- in reset mode ACR0 to ACR3 and AMR0 to AMR3, and out of it the receive buffer (6.4.14 and 6.4.15)
abbrev pub window_addresses : Bool → List ℕ
window_addresses true = 16 ∷ 17 ∷ 18 ∷ 19 ∷ 20 ∷ 21 ∷ 22 ∷ 23 ∷ []
window_addresses false = 16 ∷ 17 ∷ 18 ∷ 19 ∷ 20 ∷ 21 ∷ 22 ∷ 23 ∷ 24 ∷ 25 ∷ 26 ∷ 27 ∷ 28 ∷ []

-- RMC, RBSA and CDR
abbrev pub last_addresses : List ℕ
last_addresses = 29 ∷ 30 ∷ 31 ∷ []

-- the addresses that are shown, in order: those that have a register in this mode which can be read
abbrev pub shown_addresses : Bool → List ℕ
shown_addresses reset = first_addresses ++ (window_addresses reset ++ last_addresses)

-- what a read of an address answers, with what is seen of the messages, before it clears anything: in versions 1 and 2,
-- which keep no BTR0, BTR1, OCR, RBSA and CDR, none of these
abbrev pub shown_value : Registers → UnmodelledRegisters → BufferView → ℕ → Option ℕ
shown_value p kept seen address =
    if by_bytes p.version then Some (value_by_bytes p kept seen address) else value_at p seen
    (register_at p.mode.rm address)

abbrev pub row_by : ℕ → Bool → ℕ → Option ℕ → List RegisterRow
row_by node reset address None = []
row_by node reset address (Some value) =
    record { node = node; reset = reset; address = address; value = value } ∷ []

-- the row of an address of a node, if it is shown
abbrev pub row_of : ℕ → Registers → UnmodelledRegisters → BufferView → ℕ → List RegisterRow
row_of node p kept seen address = row_by node p.mode.rm address (shown_value p kept seen address)

-- the rows of a node
abbrev pub node_rows : ℕ → Registers → UnmodelledRegisters → BufferView → List RegisterRow
node_rows node p kept seen = flat_map (row_of node p kept seen) (shown_addresses p.mode.rm)

-- what a read of a node's registers sees of the messages, where the drivers did these acts
abbrev pub seen_at : SerialValue → List (List TypedAct) → ℕ → BufferView
seen_at r acts node = let ds = acts_at acts node in seen_now (is_active ds) (journal_at r.bus.journals node) ds

-- the bytes that are kept for the driver of a node
abbrev pub kept_in : SerialValue → ℕ → UnmodelledRegisters
kept_in r node = slice_index_or (map kept_of r.drivers) node kept_at_power_on

-- the rows of so many nodes, the first ones, where the drivers did these acts
abbrev pub rows_below : SerialValue → List (List TypedAct) → ℕ → List RegisterRow
rows_below r acts zero = []
rows_below r acts (suc node) =
    rows_below r acts node
    ++ node_rows node (slice_index_or r.ports node (at_power_on 1)) (kept_in r node) (seen_at r acts node)

-- a run of this plan by its turns came to these rows: its drivers did the first steps of theirs, which from power-on
-- have led to the registers of each port and to the bytes that are kept; its bits are what the wire had, struck as the
-- plan says; and each row is what a read answers then
pub record AreRegisters (plan : PlanValue) (rows : List RegisterRow) : Type 0 where
  pub run : SerialValue
  pub step_runs : List (List StepRun)
  pub by : StandsBy (setup_of plan) run step_runs
  pub first : AreFirst plan step_runs
  pub end : End
  pub turns : RunsTo (record { plan = plan; journals = run.bus.journals; step_runs = step_runs })
      (record { bits = 0; done = replicate (length plan.nodes) 0 }) plan.turns (progress run step_runs) end
  pub wire : IsBusRun plan.strikes run.bits run.bus.journals
  pub told : rows ≡ rows_below run (all_acts step_runs) (length plan.nodes)
