-- The rows of the registers of one node more.
use Rattle.std.proofs.Common.{◌≡◌, ◌++◌, ◌<◌, ℕ, suc, List, [], length, refl, sym, ap, ap₂, ◌∙◌, arith}
use Rattle.std.specs.Prelude.{slice_index_or}
use Rattle.std.proofs.lemmas.List.{get_or-map}
use Rattle.sja_regs.specs.Registers.{at_power_on}
use Rattle.sja_regs.specs.declared.registers.Registers.{Registers}
use Rattle.sja_driver.specs.StepRuns.{StepRun}
use Rattle.sja_driver.specs.TypedActs.{TypedAct}
use Rattle.sja_driver.specs.Kept.{at_power_on as kept_at_power_on}
use Rattle.sja_driver.specs.declared.logged_driver.LoggedDriver.{LoggedDriver}
use Rattle.sja_driver.specs.LoggedDrivers.{kept_of}
use Rattle.sja_bus_rules.specs.Buses.{BusValue}
use Rattle.sja_log.specs.declared.register_row.RegisterRow.{RegisterRow}
use Rattle.sja_serial.specs.Inside.Registering.{AddsNode, ReadsAlike}
use Rattle.sja_serial.specs.Registers.{kept_in, node_rows, rows_below, seen_at}
use Rattle.sja_serial.specs.Serial.{Setup, SerialValue, StandsBy, all_acts}
use Rattle.sja_serial.proofs.AllNodes.Several.{first_driver}

-- the rows of so many nodes of a run, which reads as it did
pub record HasRows (setup : Setup) (was now : SerialValue) (rows : List RegisterRow) (node : ℕ) : Type 0 where
  pub by : (step_runs : List (List StepRun)) → StandsBy setup was step_runs → StandsBy setup now step_runs
  pub alike : ReadsAlike was now
  pub told : (step_runs : List (List StepRun)) → StandsBy setup was step_runs →
      rows ≡ rows_below was (all_acts step_runs) node

pub rows_first : (setup : Setup) (r : SerialValue) (rows : List RegisterRow) → rows ≡ [] → HasRows setup r r rows 0
rows_first setup r rows none = record {
  by = λ step_runs h. h;
  alike = record { bus = refl; ports = refl; kept = λ m d less. refl };
  told = λ step_runs h. none;
}

-- so many nodes are all
pub all_rows : (r : SerialValue) (acts : List (List TypedAct)) (many all : ℕ) (rows : List RegisterRow) →
    rows ≡ rows_below r acts many → many ≡ all → rows ≡ rows_below r acts all
all_rows r acts many all rows told same = told ∙ ap (λ (k : ℕ). rows_below r acts k) same

-- the bytes that are kept for a node, by its driver
pub kept_is : (r : SerialValue) (node : ℕ) (d : LoggedDriver) → node < length r.drivers →
    kept_in r node ≡ kept_of (slice_index_or r.drivers node d)
kept_is r node d less = get_or-map kept_of r.drivers node d kept_at_power_on less

kept_alike : (was now : SerialValue) (node : ℕ) → ReadsAlike was now → node < length was.drivers →
    node < length now.drivers → kept_in now node ≡ kept_in was node
kept_alike was now node alike there here =
    let d = first_driver was.drivers (omega (arith, there)) in
    kept_is now node d here ∙ alike.kept node d there ∙ sym (kept_is was node d there)

rows_alike : (setup : Setup) (was now : SerialValue) (step_runs : List (List StepRun)) (node : ℕ) →
    ReadsAlike was now → StandsBy setup was step_runs → StandsBy setup now step_runs → node < setup.nodes →
    node_rows node (slice_index_or now.ports node (at_power_on 1)) (kept_in now node)
    (seen_at now (all_acts step_runs) node)
    ≡ node_rows node (slice_index_or was.ports node (at_power_on 1)) (kept_in was node)
    (seen_at was (all_acts step_runs) node)
rows_alike setup was now step_runs node alike before after less =
    let w = before.stands.count.drivers in let n = after.stands.count.drivers in
    let kept = kept_alike was now node alike (omega (arith, less, w)) (omega (arith, less, n)) in
    let seen = ap (λ (b : BusValue). seen_at (record was { bus = b }) (all_acts step_runs) node) alike.bus in
    λ i. node_rows node (slice_index_or (alike.ports i) node (at_power_on 1)) (kept i) (seen i)

-- one node more
pub rows_next : (setup : Setup) (was mid now : SerialValue) (rows rows_now : List RegisterRow) (node : ℕ)
    (own : List (List StepRun)) → StandsBy setup was own → node < setup.nodes → HasRows setup was mid rows node →
    ((step_runs : List (List StepRun)) → StandsBy setup mid step_runs →
    AddsNode setup step_runs rows rows_now mid now node) → HasRows setup was now rows_now (suc node)
rows_next setup was mid now rows rows_now node own stands less has adds = record {
  by = λ step_runs h. (adds step_runs (has.by step_runs h)).by;
  alike = let one = (adds own (has.by own stands)).alike in let w = stands.stands.count.drivers in
      let n = (has.by own stands).stands.count.drivers in record {
        bus = one.bus ∙ has.alike.bus;
        ports = one.ports ∙ has.alike.ports;
        kept = λ m d within. one.kept m d (omega (arith, w, n, within)) ∙ has.alike.kept m d within;
      };
  told = λ step_runs h.
      (adds step_runs (has.by step_runs h)).rows
      ∙ ap₂ (λ (a b : List RegisterRow). a ++ b) (has.told step_runs h)
      (rows_alike setup was mid step_runs node has.alike h (has.by step_runs h) less);
}
