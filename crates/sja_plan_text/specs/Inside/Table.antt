-- The table that a plan's document is, and its lines as they are written.
use Rattle.std.specs.Prelude.{◌≡◌, ℕ, Bool, true, false, pos, List, [], ◌∷◌, ◌++◌, codes, map}
use Rattle.toml.specs.Data.{Data, integer, array, table, Members, no_members, member}
use Rattle.toml.specs.Text.{IsDocumentText}
use Rattle.toml.specs.View.{items_of}
use Rattle.sja_plan_reading.specs.Words.{Text}
use Rattle.sja_plan_reading.specs.Document.{DocumentValue}
use Rattle.sja_plan.specs.Plan.{PlanValue}
use Rattle.sja_steps.specs.declared.step.Step.{Step}
use Rattle.sja_steps.specs.declared.strike.Strike.{Strike}
use Rattle.sja_plan_text.specs.Texts.{spelled_step, turn_text, strike_text}
use Rattle.sja_plan_text.specs.Written.{strikes_key, texts_data}

-- the members of a node: the texts of its steps, with names or without
abbrev pub node_members : Bool → List Step → Members
node_members named steps = member (codes "steps") (texts_data (map (spelled_step named) steps)) no_members

-- a node
abbrev pub node_data : Bool → List Step → Data
node_data named steps = table (node_members named steps)

-- all nodes
abbrev pub nodes_data : Bool → List (List Step) → Data
nodes_data named nodes = array (items_of (map (node_data named) nodes))

-- the strikes, where there are some, in front of other members
abbrev pub with_strikes : Bool → List Strike → Members → Members
with_strikes named [] ms = ms
with_strikes named (s ∷ strikes) ms = member (strikes_key named) (texts_data (map strike_text (s ∷ strikes))) ms

-- the texts of the turns, and the version
abbrev pub last_members : ℕ → List Text → Members
last_members version turns =
    member (codes "turns") (texts_data turns) (member (codes "version") (integer (pos version)) no_members)

-- a plan's version, bits, nodes, the texts of its turns, and its strikes, with the keys in their order
abbrev pub members_of : Bool → ℕ → ℕ → List (List Step) → List Text → List Strike → Members
members_of true version bits nodes turns strikes =
    member (codes "bits") (integer (pos bits))
    (member (codes "node") (nodes_data true nodes) (with_strikes true strikes (last_members version turns)))
members_of false version bits nodes turns strikes =
    member (codes "bits") (integer (pos bits))
    (with_strikes false strikes (member (codes "node") (nodes_data false nodes) (last_members version turns)))

-- a plan
abbrev pub plan_members : Bool → PlanValue → Members
plan_members named p = members_of named p.version p.bits p.nodes (map turn_text p.turns) p.strikes

-- what this table says
abbrev pub plan_document : Bool → PlanValue → DocumentValue
plan_document named p = record {
  version = pos p.version;
  bits = pos p.bits;
  nodes = map (map (spelled_step named)) p.nodes;
  turns = map turn_text p.turns;
  faults = map strike_text p.strikes;
}

-- behind the old text stand these members alone, as they are printed
abbrev pub Adds : Bool → Members → Text → Text → Type 0
Adds pretty ms old new = (more : Text) × (new ≡ old ++ more) × IsDocumentText pretty ms more
