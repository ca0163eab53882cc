-- What a node drives and sees in each bit (Bosch CAN 2.0 part A section 2, "Bus values").
use Rattle.std.specs.Prelude.{◌≡◌, List, [], ◌++◌, map}
use Rattle.can_levels.specs.declared.level.Level.{Level}
use Rattle.can_levels.specs.declared.level.Level.TheVariants.{Dominant, Recessive}

-- one bit of the bus: the level that the node drives, and the one that it sees
pub record Bit : Type 0 where
  pub driven : Level
  pub seen : Level

-- the node drives recessive, and sees this level
abbrev pub recessive_bit : Level → Bit
recessive_bit x = record { driven = Recessive; seen = x }

-- the node drives dominant, and sees this level
abbrev pub dominant_bit : Level → Bit
dominant_bit x = record { driven = Dominant; seen = x }

-- the node drives recessive in each of these bits, and sees these levels
abbrev pub recessive_bits : List Level → List Bit
recessive_bits levels = map recessive_bit levels

-- the node drives dominant in each of these bits, and sees these levels
abbrev pub dominant_bits : List Level → List Bit
dominant_bits levels = map dominant_bit levels

-- the levels that were seen
abbrev pub seen_of : List Bit → List Level
seen_of bits = map (λ (b : Bit). b.seen) bits

-- the levels that were driven
abbrev pub driven_of : List Bit → List Level
driven_of bits = map (λ (b : Bit). b.driven) bits

-- the list has the property, and no shorter front of it has
pub record IsFirst {A : Type 0} (P : List A → Type 0) (l : List A) : Type 0 where
  pub holds : P l
  pub first : (front rest : List A) → l ≡ front ++ rest → P front → rest ≡ []
