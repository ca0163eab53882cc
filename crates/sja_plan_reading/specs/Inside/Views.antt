-- The private types of the crate: what a read document says, and why a list of texts isn't read.
use Rattle.std.specs.Prelude.{◌≡◌, ◌+◌, ℕ, ℤ, List, map, codes, Some, option_and_then}
use Rattle.toml.specs.Data.{Members, get_member}
use Rattle.sja_plan_reading.specs.Words.{Text}
use Rattle.sja_plan_reading.specs.Texts.{IsFirstBad}
use Rattle.sja_plan_reading.specs.Faults.{IsText, IsFirstFault}
use Rattle.sja_plan_reading.specs.Document.{DocumentValue, nodes_in, strike_texts, turn_texts}
use Rattle.sja_plan_reading.specs.declared.document.Document.{Document}
use Rattle.sja_plan_reading.specs.declared.text_fault.TextFault.{TextFault}
use Rattle.sja_plan_reading.specs.declared.text_fault.TextFault.TheVariants as TextFaults
use Rattle.sja_plan_reading.specs.declared.plan_fault.PlanFault.{PlanFault}
use Rattle.sja_plan_reading.specs.declared.plan_fault.PlanFault.TheVariants as PlanFaults
use Rattle.sja_plan_reading.specs.declared.list_fault.ListFault.{ListFault}
use Rattle.sja_plan_reading.specs.declared.list_fault.ListFault.TheVariants.{Bad, NoMemory}

-- what a read document says
abbrev pub document_view : Document → DocumentValue
document_view d = record {
  version = d.version;
  bits = d.bits;
  nodes = map (λ steps. map (λ s. s.now) steps.items) d.nodes.items;
  turns = map (λ s. s.now) d.turns.items;
  faults = map (λ s. s.now) d.faults.items;
}

-- why a list of texts isn't read; memory may be refused at any
abbrev pub IsListFault : {A : Type 0} → (Text → A → Type 0) → List Text → ListFault → Type 0
IsListFault Says texts NoMemory = Unit {0}
IsListFault Says texts (Bad number) = IsFirstBad Says texts number

-- the fault of a list of which so many texts are good, and the next one has this fault
abbrev pub list_fault : TextFault → ℕ → ListFault
list_fault TextFaults.Bad good = Bad (good + 1)
list_fault TextFaults.NoMemory good = NoMemory

-- what the members say beside these two numbers: each list is of its kind
pub record HasLists (ms : Members) (v b : ℤ) (d : DocumentValue) : Type 0 where
  pub version : d.version ≡ v
  pub bits : d.bits ≡ b
  pub nodes : option_and_then nodes_in (get_member (codes "node") ms) ≡ Some d.nodes
  pub turns : turn_texts v (get_member (codes "turns") ms) ≡ Some d.turns
  pub faults : strike_texts (get_member (codes "faults") ms) (get_member (codes "strikes") ms) ≡ Some d.faults

-- the fault of a plan for that of the list of this node's steps
abbrev pub step_fault : ℕ → ListFault → PlanFault
step_fault node NoMemory = PlanFaults.Memory
step_fault node (Bad number) = PlanFaults.Step node number

-- the fault is one of bytes that are no TOML document or have a key that no plan has, or memory was refused
abbrev pub IsEarlyFault : List ℕ → PlanFault → Type 0
IsEarlyFault bytes PlanFaults.TooLong = IsFirstFault bytes PlanFaults.TooLong
IsEarlyFault bytes PlanFaults.NotText = IsFirstFault bytes PlanFaults.NotText
IsEarlyFault bytes PlanFaults.Toml = IsFirstFault bytes PlanFaults.Toml
IsEarlyFault bytes PlanFaults.Key = IsFirstFault bytes PlanFaults.Key
IsEarlyFault bytes PlanFaults.Memory = IsText bytes
IsEarlyFault bytes fault = ⊥

-- the fault is none of a strike's text
abbrev pub IsOther : PlanFault → Type 0
IsOther (PlanFaults.Strike number) = ⊥
IsOther fault = Unit {0}
