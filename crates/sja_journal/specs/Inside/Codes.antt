-- How the entries of a journal are kept: a code for each, and those that are no bits in a list of their own.
use Rattle.std.specs.Prelude.{◌≡◌, ℕ, suc, Bool, true, false, if◌then◌else◌, List, [], ◌∷◌, length}
use Rattle.can_levels.specs.declared.level.Level.{Level}
use Rattle.can_levels.specs.declared.level.Level.TheVariants.{Dominant, Recessive}
use Rattle.sja_journal.specs.declared.entry.Entry.{Entry}
use Rattle.sja_journal.specs.declared.entry.Entry.TheVariants.{Bit}
use Rattle.sja_journal.specs.declared.code.Code.{Code}
use Rattle.sja_journal.specs.declared.code.Code.TheVariants.{DominantAsDriven, DominantSeenRecessive}
use Rattle.sja_journal.specs.declared.code.Code.TheVariants.{RecessiveSeenDominant, RecessiveAsDriven, Other}
use Rattle.lemmas.specs.Gathering.{total}

-- the entries of these codes; a code of an entry that is no bit takes the next one of the list
abbrev pub decoded : List Code → List Entry → List Entry
decoded [] others = []
decoded (DominantAsDriven ∷ codes) others = Bit Dominant Dominant ∷ decoded codes others
decoded (DominantSeenRecessive ∷ codes) others = Bit Dominant Recessive ∷ decoded codes others
decoded (RecessiveSeenDominant ∷ codes) others = Bit Recessive Dominant ∷ decoded codes others
decoded (RecessiveAsDriven ∷ codes) others = Bit Recessive Recessive ∷ decoded codes others
decoded (Other ∷ codes) [] = decoded codes []
decoded (Other ∷ codes) (entry ∷ others) = entry ∷ decoded codes others

-- the code of a bit: the level driven, and the level seen
abbrev pub code_of : Level → Level → Code
code_of Dominant Dominant = DominantAsDriven
code_of Dominant Recessive = DominantSeenRecessive
code_of Recessive Dominant = RecessiveSeenDominant
code_of Recessive Recessive = RecessiveAsDriven

-- whether it is that of a bit that was driven and seen recessive
abbrev pub is_rest : Code → Bool
is_rest RecessiveAsDriven = true
is_rest _ = false

-- how many codes stand before the first one that fails a test
abbrev pub leading : (Code → Bool) → List Code → ℕ
leading passes [] = 0
leading passes (code ∷ codes) = if passes code then suc (leading passes codes) else 0

-- 1 for the code of an entry that is no bit
abbrev pub has_other : Code → ℕ
has_other Other = 1
has_other _ = 0

-- an entry is no bit
abbrev pub IsOther : Entry → Type 0
IsOther (Bit driven seen) = ⊥
IsOther _ = Unit {0}

-- none of them is
abbrev pub AreOthers : List Entry → Type 0
AreOthers [] = Unit {0}
AreOthers (entry ∷ entries) = IsOther entry × AreOthers entries

-- each code of an entry that is no bit has its own, and none of these is a bit
pub record AreWhole (codes : List Code) (others : List Entry) : Type 0 where
  pub many : length others ≡ total has_other codes
  pub none : AreOthers others
