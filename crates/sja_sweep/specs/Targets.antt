-- Which strikes a sweep tries (this project's own rule).
use Rattle.std.specs.Prelude.{◌+◌, ◌-◌, ℕ, nat_lt, if◌then◌else◌, min, Option, Some, None, List, [], ◌∷◌, map}
use Rattle.std.specs.List.{range_with_len}
use Rattle.lemmas.specs.Gathering.{gathered}
use Rattle.sja_plan.specs.Plan.{PlanValue}
use Rattle.sja_plan.specs.Struck.{struck_at}
use Rattle.sja_sweep.specs.declared.sweeping.Sweeping.{Sweeping}
use Rattle.sja_sweep.specs.declared.target.Target.{Target}
use Rattle.sja_sweep.specs.declared.trial.Trial.{Trial}

-- the nodes that are struck, counted from 0, of so many: each of them, or the one that is named
abbrev pub nodes_struck : Option ℕ → ℕ → List ℕ
nodes_struck None nodes = range_with_len 0 nodes
nodes_struck (Some node) nodes = node ∷ []

-- how many bits are struck, of so many that the plan's run has: those from the first one that is asked for to the last
abbrev pub bit_count : Sweeping → ℕ → ℕ
bit_count s bits = min (s.last + 1) bits - s.first

-- this node in this bit
abbrev pub target : ℕ → ℕ → Target
target node bit = record { node = node; bit = bit }

-- ---- one strike more

-- this node in this bit alone
abbrev pub alone : ℕ → ℕ → Trial
alone node bit = record { first = target node bit; second = None }

-- each of the nodes in each of the bits, in turn and each once
abbrev pub single_trials : Sweeping → ℕ → ℕ → List Trial
single_trials s nodes bits =
    gathered (λ node. map (alone node) (range_with_len s.first (bit_count s bits))) (nodes_struck s.node nodes)

-- ---- two strikes more

-- a node in a bit, and another one, or the same, so many bits later
abbrev pub pair : ℕ → ℕ → ℕ → ℕ → Trial
pair node other later bit = record { first = target node bit; second = Some (target other (bit + later)) }

-- two strikes are a pair once: the earlier one before the later one, and in one bit the lower node before the other
abbrev pub least_later : ℕ → ℕ → ℕ
least_later node other = if nat_lt node other then 0 else 1

-- by how many bits the second of these nodes is struck later than the first one: by at most so many, and within so
-- many bits
abbrev pub laters : ℕ → ℕ → ℕ → ℕ → List ℕ
laters within count node other =
    range_with_len (least_later node other) (min (within + 1) count - least_later node other)

-- each two different strikes that are at most so many bits apart, each once: of each two nodes, or of one node with
-- itself, so many bits later, in each bit that leaves the second one among the bits that are asked for
abbrev pub pair_trials : ℕ → Sweeping → ℕ → ℕ → List Trial
pair_trials within s nodes bits =
    gathered (λ node. gathered (λ other. gathered (λ later.
    map (pair node other later) (range_with_len s.first (bit_count s bits - later)))
    (laters within (bit_count s bits) node other))
    (nodes_struck s.node nodes)) (nodes_struck s.node nodes)

-- ---- what is tried

abbrev pub trials_by : Option ℕ → Sweeping → ℕ → ℕ → List Trial
trials_by None s nodes bits = single_trials s nodes bits
trials_by (Some within) s nodes bits = pair_trials within s nodes bits

-- what a sweep tries in a plan of so many nodes whose run has so many bits
abbrev pub trials_of : Sweeping → ℕ → ℕ → List Trial
trials_of s nodes bits = trials_by s.pairs s nodes bits

-- how many strikes more a run has
abbrev pub strikes_a_run : Option ℕ → ℕ
strikes_a_run None = 1
strikes_a_run (Some within) = 2

-- the plan with one strike more, or as it is
abbrev pub also_struck : PlanValue → Option Target → PlanValue
also_struck plan None = plan
also_struck plan (Some t) = struck_at plan t.node t.bit

-- the plan with what is tried
abbrev pub struck_by : PlanValue → Trial → PlanValue
struck_by plan t = also_struck (struck_at plan t.first.node t.first.bit) t.second
