-- What the words of `sweep` ask for, by computing the parser's answer.
use Rattle.std.proofs.Common.{ℕ, List, [], ◌∷◌, codes, refl, true, Some}
use Rattle.sja_command_line.specs.Requests.{Request, struck_plan, sweep}
use Rattle.sja_command_line.specs.Sweeping.{all_swept}
use Rattle.sja_command_line.specs.Words.{ParsesAs, asked, faults}
use Rattle.sja_command_line.proofs.LiteralWords.OnWords.{sja_on_literals}

-- nothing behind it
pub all : (name : List ℕ) → ParsesAs (name ∷ codes "sweep" ∷ []) (sweep all_swept)
unfolding sja_on_literals asked faults
all name = record { taken = refl; asks = refl }

-- a node, and bits
pub named : (name : List ℕ) → ParsesAs
    (name ∷ codes "sweep" ∷ codes "--only" ∷ codes "1" ∷ codes "--from" ∷ codes "23" ∷ codes "--to=60" ∷ [])
    (sweep (record all_swept { node = Some 1; first = 23; last = 60 }))
unfolding sja_on_literals asked faults
named name = record { taken = refl; asks = refl }

-- pairs of bits, and threads
pub pairs : (name : List ℕ) →
    ParsesAs (name ∷ codes "sweep" ∷ codes "--pairs" ∷ codes "2" ∷ codes "--jobs=4" ∷ [])
    (sweep (record all_swept { pairs = Some 2; jobs = 4 }))
unfolding sja_on_literals asked faults
pairs name = record { taken = refl; asks = refl }

-- the flags
pub flags : (name : List ℕ) → ParsesAs
    (name ∷ codes "sweep" ∷ codes "--changed" ∷ codes "--rows" ∷ codes "--yes" ∷ [])
    (sweep (record all_swept { changed = true; rows = true; meant = true }))
unfolding sja_on_literals asked faults
flags name = record { taken = refl; asks = refl }

-- the kinds of outcome
pub kinds : (name : List ℕ) → ParsesAs
    (name ∷ codes "sweep" ∷ codes "--twice" ∷ codes "--lost" ∷ codes "--stuck" ∷ [])
    (sweep (record all_swept { twice = true; lost = true; stuck = true }))
unfolding sja_on_literals asked faults
kinds name = record { taken = refl; asks = refl }

-- a node that no plan has
pub past : (name : List ℕ) (r : Request) → ¬ ParsesAs (name ∷ codes "sweep" ∷ codes "--only" ∷ codes "8" ∷ []) r
unfolding sja_on_literals faults
past name r parses = cc (parses.taken)

-- `--plan` and two numbers
pub plan : (name : List ℕ) →
    ParsesAs (name ∷ codes "sweep" ∷ codes "--plan" ∷ codes "1" ∷ codes "59" ∷ []) (struck_plan 1 59)
unfolding sja_on_literals asked faults
plan name = record { taken = refl; asks = refl }

-- one number
pub one_number : (name : List ℕ) (r : Request) →
    ¬ ParsesAs (name ∷ codes "sweep" ∷ codes "--plan" ∷ codes "1" ∷ []) r
unfolding sja_on_literals faults
one_number name r parses = cc (parses.taken)

-- another option beside it
pub beside : (name : List ℕ) (r : Request) → ¬ ParsesAs
    (name ∷ codes "sweep" ∷ codes "--rows" ∷ codes "--plan" ∷ codes "1" ∷ codes "59" ∷ []) r
unfolding sja_on_literals asked
beside name r parses = cc (parses.asks)
