-- What the words of `picture` and `candump` ask for, by computing the parser's answer.
use Rattle.std.proofs.Common.{ℕ, List, [], ◌∷◌, codes, refl, true, false, Some, None}
use Rattle.sja_command_line.specs.Requests.{Request, candump, files, picture}
use Rattle.sja_command_line.specs.Words.{ParsesAs, asked, faults}
use Rattle.sja_command_line.specs.declared.plan_question.PlanQuestion.TheVariants.{Picture}
use Rattle.sja_command_line.proofs.LiteralWords.OnWords.{sja_on_literals}

-- nothing behind it
pub all : (name : List ℕ) → ParsesAs (name ∷ codes "picture" ∷ []) (picture 0 None false false false)
unfolding sja_on_literals asked faults
all name = record { taken = refl; asks = refl }

-- the first bit
pub first : (name : List ℕ) → ParsesAs (name ∷ codes "picture" ∷ codes "11" ∷ []) (picture 11 None false false false)
unfolding sja_on_literals asked faults
first name = record { taken = refl; asks = refl }

-- the first and the last bit
pub both : (name : List ℕ) → ParsesAs (name ∷ codes "picture" ∷ codes "11" ∷ codes "75" ∷ [])
    (picture 11 (Some 75) false false false)
unfolding sja_on_literals asked faults
both name = record { taken = refl; asks = refl }

-- in threads
pub threads : (name : List ℕ) → ParsesAs (name ∷ codes "picture" ∷ codes "--threads" ∷ codes "11" ∷ [])
    (picture 11 None false true false)
unfolding sja_on_literals asked faults
threads name = record { taken = refl; asks = refl }

-- as a drawing
pub svg : (name : List ℕ) → ParsesAs (name ∷ codes "picture" ∷ codes "--svg" ∷ []) (picture 0 None true false false)
unfolding sja_on_literals asked faults
svg name = record { taken = refl; asks = refl }

-- both bits, as a drawing, in threads
pub all_words : (name : List ℕ) →
    ParsesAs (name ∷ codes "picture" ∷ codes "11" ∷ codes "75" ∷ codes "--svg" ∷ codes "--threads" ∷ codes "--yes" ∷ [])
    (picture 11 (Some 75) true true true)
unfolding sja_on_literals asked faults
all_words name = record { taken = refl; asks = refl }

-- both bits and one name
pub file : (name : List ℕ) →
    ParsesAs (name ∷ codes "picture" ∷ codes "11" ∷ codes "75" ∷ codes "--svg" ∷ codes "a" ∷ [])
    (files (Picture 11 (Some 75) true false false) 1 (codes "a" ∷ []))
unfolding sja_on_literals asked faults
file name = record { taken = refl; asks = refl }

-- eight digits
pub past : (name : List ℕ) (r : Request) → ¬ ParsesAs (name ∷ codes "picture" ∷ codes "10000000" ∷ []) r
unfolding sja_on_literals faults
past name r parses = cc (parses.taken)

-- `candump`
pub plain : (name : List ℕ) → ParsesAs (name ∷ codes "candump" ∷ []) (candump false false)
unfolding sja_on_literals asked faults
plain name = record { taken = refl; asks = refl }

-- `candump --errors`
pub errors : (name : List ℕ) → ParsesAs (name ∷ codes "candump" ∷ codes "--errors" ∷ []) (candump true false)
unfolding sja_on_literals asked faults
errors name = record { taken = refl; asks = refl }

-- `candump --threads`
pub candump_in_threads : (name : List ℕ) →
    ParsesAs (name ∷ codes "candump" ∷ codes "--threads" ∷ []) (candump false true)
unfolding sja_on_literals asked faults
candump_in_threads name = record { taken = refl; asks = refl }
