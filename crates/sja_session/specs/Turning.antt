-- The turns that a session writes (this project's own rule): what is done of the same node as before, or on the bus as
-- before, goes on with the last turn.
use Rattle.std.specs.Prelude.{◌==◌, ◌+◌, ◌<◌, ◌^◌, ℕ, Bool, true, false, if◌then◌else◌, List, [], ◌∷◌, reverse}
use Rattle.sja_plan.specs.declared.turn.Turn.{Turn}
use Rattle.sja_plan.specs.declared.turn.Turn.TheVariants.{Bus, Rest, Node, All, Irq, Go}

-- a turn goes on with an earlier one where both are of the bus, or both of one node
abbrev pub goes_on : Turn → Turn → Bool
goes_on (Bus n) (Bus m) = true
goes_on (Node k n) (Node j m) = k == j
goes_on earlier later = false

-- how many bits or steps a turn of the bus or of a node has; a session writes no other
abbrev pub size_of : Turn → ℕ
size_of (Bus n) = n
size_of (Node k n) = n
size_of Rest = 0
size_of (All k) = 0
size_of (Irq k n) = 0
size_of Go = 0

-- so many more of the same
abbrev pub enlarged : Turn → ℕ → Turn
enlarged (Bus n) m = Bus (n + m)
enlarged (Node k n) m = Node k (n + m)
enlarged Rest m = Rest
enlarged (All k) m = All k
enlarged (Irq k n) m = Irq k n
enlarged Go m = Go

-- turns, latest first, with one more
abbrev pub on_latest : Turn → List Turn → List Turn
on_latest t [] = t ∷ []
on_latest t (u ∷ earlier) = if goes_on u t then enlarged u (size_of t) ∷ earlier else t ∷ u ∷ earlier

-- turns, in their order, with one more
abbrev pub with_turn : List Turn → Turn → List Turn
with_turn turns t = reverse (on_latest t (reverse turns))

-- whether a turn goes on with the latest of these, latest first
abbrev pub goes_on_latest : List Turn → Turn → Bool
goes_on_latest [] t = false
goes_on_latest (u ∷ earlier) t = goes_on u t

-- how many bits or steps the latest of these has, latest first
abbrev pub latest_size : List Turn → ℕ
latest_size [] = 0
latest_size (u ∷ earlier) = size_of u

-- a number of 32 bits holds the size of the last turn with that of one more
abbrev pub FitsLast : List Turn → Turn → Type 0
FitsLast turns t = latest_size (reverse turns) + size_of t < 2 ^ 32
