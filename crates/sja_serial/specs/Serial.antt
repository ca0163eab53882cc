-- A run in one thread, between two steps (this project's own rule).
use Rattle.std.specs.Prelude.{◌≡◌, ◌+◌, ◌/◌, ◌^◌, ◌<◌, ◌≤◌, ℕ, false, None, List, if◌then◌else◌, length, map, min}
use Rattle.std.specs.Prelude.{All, slice_index_or}
use Rattle.sja_journal.specs.declared.entry.Entry.{Entry}
use Rattle.sja_link.specs.Deques.{Deques}
use Rattle.sja_bus_rules.specs.Buses.{BusValue, untold_at}
use Rattle.sja_journal.specs.Links.{AreEnds}
use Rattle.sja_journal.specs.BitEntries.{HasMore}
use Rattle.sja_journal.specs.Sizes.{most_activations}
use Rattle.sja_bus_rules.specs.Wire.{journal_at}
use Rattle.sja_regs.specs.declared.registers.Registers.{Registers}
use Rattle.sja_regs.specs.Registers.{at_power_on}
use Rattle.sja_steps.specs.declared.strike.Strike.{Strike}
use Rattle.sja_driver.specs.declared.logged_driver.LoggedDriver.{LoggedDriver}
use Rattle.sja_driver.specs.TypedActs.{TypedAct, acts_at, with_acts}
use Rattle.sja_driver.specs.StepRuns.{StepRun, step_runs_at, by_bytes, acts_in, step_record_of, most_acts}
use Rattle.sja_driver.specs.LoggedDrivers.{node_of, log_of, kept_of}
use Rattle.sja_driver.specs.Logs.{done_in, done_room}
use Rattle.sja_promises.specs.Registering.{StepRunsLeadTo}
use Rattle.sja_promises.specs.Nodes.{IsNode}
use Rattle.sja_driver.specs.Shown.{ShowsRecord}

-- for what a run was made: by which version of the model, 4 without an end, for how many bits, with which strikes, of
-- how many nodes, and for how many acts of the driver of each
pub record Setup : Type 0 where
  pub version : ℕ
  pub bits : ℕ
  pub strikes : List Strike
  pub nodes : ℕ
  pub steps : List ℕ

-- for how many steps there is room where there is for so many acts: in version 3 a write is three acts at most
abbrev pub most_steps : ℕ → ℕ → ℕ
most_steps version acts = if by_bytes version then acts / 3 else acts

-- by which version of plans a run goes: one after the last goes by the last one's rules
abbrev pub plan_version : ℕ → ℕ
plan_version version = min version 3

-- of as many nodes as numbers of steps are given, each with room for the acts that so many may be
abbrev pub setup_with : ℕ → ℕ → List Strike → List ℕ → Setup
setup_with version bits strikes steps = record {
  version = version;
  bits = bits;
  strikes = strikes;
  nodes = length steps;
  steps = map (most_acts version) steps;
}

-- what a run may be made for: 1 to 2^62 bits, far more than any run comes to, of 1 to 8 nodes, with a number of acts
-- for each. One of no more bits than a plan may have, 2,000,000, goes by the rules of plans: its version is before 4
pub record IsSetup (setup : Setup) : Type 0 where
  pub bits : (1 ≤ setup.bits) × (setup.bits ≤ 2 ^ 62)
  pub few : (1 ≤ setup.nodes) × (setup.nodes ≤ 8)
  pub nodes : length setup.steps ≡ setup.nodes
  pub plans : setup.bits ≤ 2000000 → setup.version < 4

-- a run can be made for so many bits, this many at least and 2^62 at most, of as many nodes as there are of these
-- numbers of steps, 1 to 8, with room for as many steps of each, 2^56 at most
pub record CanBeMade (least count : ℕ) (sizes : List ℕ) : Type 0 where
  pub nodes : (1 ≤ length sizes) × (length sizes ≤ 8)
  pub bits : (least ≤ count) × (count ≤ 2 ^ 62)
  pub steps : All (λ s. s ≤ 2 ^ 56) sizes

-- what a contract sees of a run: its bus; the drivers, their ports and their links, by node; and the bits that were run
pub record SerialValue : Type 0 where
  pub bus : BusValue
  pub drivers : List LoggedDriver
  pub ports : List Registers
  pub links : List Deques
  pub bits : ℕ

-- for what a run was made: its ports are of that version
abbrev pub setup_in : SerialValue → Setup
setup_in r = record {
  version = (slice_index_or r.ports 0 (at_power_on 1)).version;
  bits = r.bus.run + r.bus.left;
  strikes = r.bus.script;
  nodes = length r.bus.steps;
  steps = r.bus.steps;
}

-- as many journals, drivers and ports as there are nodes
pub record HasNodes (nodes : ℕ) (r : SerialValue) : Type 0 where
  pub journals : length r.bus.journals ≡ nodes
  pub drivers : length r.drivers ≡ nodes
  pub ports : length r.ports ≡ nodes

-- a run that was made for this stands where its drivers did these acts, a list for each node
pub record StandsAt (setup : Setup) (r : SerialValue) (acts : List (List TypedAct)) : Type 0 where
  pub may : IsSetup setup
  pub right : r.bus.fault ≡ None
  pub script : r.bus.script ≡ setup.strikes
  pub all_bits : r.bus.run + r.bus.left ≡ setup.bits
  -- the bus has room for the steps of each driver
  pub steps : r.bus.steps ≡ setup.steps
  pub bits : r.bits ≡ r.bus.run
  pub count : HasNodes setup.nodes r
  pub acts_count : length acts ≡ setup.nodes
  -- the links of each node, for as many activations as it has in this version, as the bus knows
  pub links : r.bus.starts ≡ most_activations setup.version
  pub ends : AreEnds (λ (s : Deques). s.node) setup.nodes r.links
  pub starts : (node : ℕ) (l : Deques) → node < setup.nodes →
      (slice_index_or r.links node l).starts ≡ most_activations setup.version
  pub own : (node : ℕ) (d : LoggedDriver) → node < setup.nodes → node_of (slice_index_or r.drivers node d) ≡ node
  pub nodes : (node : ℕ) (d : LoggedDriver) (p : Registers) (l : Deques) → node < setup.nodes →
      IsNode setup.version (slice_index_or setup.steps node 0) (journal_at r.bus.journals node) (acts_at acts node)
      (slice_index_or r.drivers node d) (slice_index_or r.ports node p) (slice_index_or r.links node l)
  -- where nothing is untold of a node its port shows what the node's record says
  pub shown : (node : ℕ) (p : Registers) → node < setup.nodes → untold_at r.bus.untold node ≡ false →
      ShowsRecord (journal_at r.bus.journals node) (slice_index_or r.ports node p)

-- of a node: the steps of its driver that its log has as done are these, from power-on they have led to the bytes that
-- are kept for it and to the registers of its port, and its log was made for so many
pub record HasStepRuns (version size : ℕ) (j : List Entry) (step_runs : List StepRun) (driver : LoggedDriver)
    (port : Registers) : Type 0 where
  pub led : StepRunsLeadTo version j step_runs (kept_of driver) port
  pub done : map step_record_of step_runs ≡ done_in (log_of driver)
  pub room : done_room (log_of driver) ≡ size

-- the acts that these steps were, of each node
abbrev pub all_acts : List (List StepRun) → List (List TypedAct)
all_acts step_runs = map (λ (l : List StepRun). acts_in l) step_runs

-- a run that was made for this stands where its drivers did these steps, a list for each node
pub record StandsBy (setup : Setup) (r : SerialValue) (step_runs : List (List StepRun)) : Type 0 where
  pub stands : StandsAt setup r (all_acts step_runs)
  pub nodes : (node : ℕ) (d : LoggedDriver) (p : Registers) → node < setup.nodes →
      HasStepRuns setup.version (most_steps setup.version (slice_index_or setup.steps node 0))
      (journal_at r.bus.journals node) (step_runs_at step_runs node) (slice_index_or r.drivers node d)
      (slice_index_or r.ports node p)

-- there are such steps
abbrev pub IsRunBy : Setup → SerialValue → Type 0
IsRunBy setup r = (step_runs : List (List StepRun)) × StandsBy setup r step_runs

-- there are such acts
abbrev pub IsRunOf : Setup → SerialValue → Type 0
IsRunOf setup r = (acts : List (List TypedAct)) × StandsAt setup r acts

-- these acts were done then: the driver of this node did them after the bits that had run, and no bit was run; the
-- journals have items more
pub record NodeDoes (setup : Setup) (was now : SerialValue) (node : ℕ) (acts : List (List TypedAct))
    (more : List TypedAct) : Type 0 where
  pub stands : StandsAt setup now (with_acts acts node more)
  pub at_once : (i : ℕ) (d : TypedAct) → i < length more → (slice_index_or more i d).bits ≡ was.bits
  pub bits : now.bits ≡ was.bits
  pub items : (m : ℕ) → m < setup.nodes → HasMore (journal_at was.bus.journals m) (journal_at now.bus.journals m)
