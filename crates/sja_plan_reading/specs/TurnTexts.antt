-- What the text of a serial run's turn says (this project's own rule).
use Rattle.std.specs.Prelude.{◌≡◌, ◌≤◌, ℕ, List, [], ◌∷◌, codes}
use Rattle.sja_plan_reading.specs.Words.{Text, words, greatest, SpellsWithin, SpellsNode}
use Rattle.sja_plan.specs.declared.turn.Turn.{Turn}
use Rattle.sja_plan.specs.declared.turn.Turn.TheVariants.{Bus, Rest, Node, All, Irq, Go}

-- in this version of the rules these are the words of this turn, in a plan of so many nodes. Only in version 3 drivers
-- do all that they can, and have an interrupt line
abbrev pub AreTurnWords : ℕ → ℕ → List Text → Turn → Type 0
AreTurnWords version nodes ws (Bus bits) =
    (n : Text) × (ws ≡ codes "bus" ∷ n ∷ []) × SpellsWithin 1 greatest n bits
AreTurnWords version nodes ws Rest = ws ≡ codes "rest" ∷ []
AreTurnWords version nodes ws (Node node steps) =
    (k n : Text) × (ws ≡ codes "node" ∷ k ∷ n ∷ []) × SpellsNode nodes k node × SpellsWithin 0 greatest n steps
AreTurnWords version nodes ws (All node) =
    (3 ≤ version) × (k : Text) × (ws ≡ codes "node" ∷ k ∷ []) × SpellsNode nodes k node
AreTurnWords version nodes ws (Irq node bits) =
    (3 ≤ version) × (k n : Text) × (ws ≡ codes "irq" ∷ k ∷ n ∷ []) × SpellsNode nodes k node
    × SpellsWithin 1 greatest n bits
AreTurnWords version nodes ws Go = (3 ≤ version) × (ws ≡ codes "go" ∷ [])

-- in this version the text says this turn
abbrev pub SaysTurn : ℕ → ℕ → Text → Turn → Type 0
SaysTurn version nodes text turn = AreTurnWords version nodes (words text) turn
