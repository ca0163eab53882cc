-- The first line of `sja live`, which opens a session (this project's own rule): `live VERSION BITS NODES`.
use Rattle.std.specs.Prelude.{◌≡◌, ◌<◌, ◌≤◌, ℕ, List, [], ◌∷◌, codes, length, IsUtf8}
use Rattle.std.specs.Prelude.{nat_lt, if◌then◌else◌}
use Rattle.sja_live.specs.Lines.{most_line, IsReadable}
use Rattle.sja_live.specs.declared.opening.Opening.{Opening}
use Rattle.sja_live.specs.declared.opening_fault.OpeningFault.{OpeningFault}
use Rattle.sja_live.specs.declared.opening_fault.OpeningFault.TheVariants.{Long, Text as NoText, Command}
use Rattle.sja_live.specs.declared.opening_fault.OpeningFault.TheVariants.{Version, Bits, Nodes}
use Rattle.sja_plan.specs.Limits.{most_bits}
use Rattle.sja_plan_reading.specs.Words.{Text, words, SpellsWithin}

-- the words of the line
abbrev pub IsLiveLine : List Text → Text → Text → Text → Type 0
IsLiveLine ws v b n = ws ≡ codes "live" ∷ v ∷ b ∷ n ∷ []

-- a word spells a version, a number of bits that this version has, where none ask for a session without an end, and a
-- number of nodes
abbrev pub SpellsVersion : Text → ℕ → Type 0
SpellsVersion v version = SpellsWithin 1 3 v version

abbrev pub least_bits : ℕ → ℕ
least_bits version = if nat_lt version 3 then 1 else 0

abbrev pub SpellsBits : ℕ → Text → ℕ → Type 0
SpellsBits version b bits = SpellsWithin (least_bits version) (most_bits version) b bits

abbrev pub SpellsNodes : Text → ℕ → Type 0
SpellsNodes n nodes = SpellsWithin 1 8 n nodes

-- the line opens a session of this version, of so many bits and nodes
pub record Opens (line : Text) (o : Opening) : Type 0 where
  pub v : Text
  pub b : Text
  pub n : Text
  pub is : IsLiveLine (words line) v b n
  pub version : SpellsVersion v o.version
  pub bits : SpellsBits o.version b o.bits
  pub nodes : SpellsNodes n o.nodes

-- why it opens none: the first mistake in it
abbrev pub IsOpeningFault : Text → OpeningFault → Type 0
IsOpeningFault line Long = most_line < length line
IsOpeningFault line NoText = (length line ≤ most_line) × ¬ IsUtf8 line
IsOpeningFault line Command = IsReadable line × ((v b n : Text) → ¬ IsLiveLine (words line) v b n)
IsOpeningFault line Version =
    IsReadable line × (v b n : Text) × IsLiveLine (words line) v b n × ((version : ℕ) → ¬ SpellsVersion v version)
IsOpeningFault line Bits =
    IsReadable line × (v b n : Text) × (version : ℕ) × IsLiveLine (words line) v b n × SpellsVersion v version
    × ((bits : ℕ) → ¬ SpellsBits version b bits)
IsOpeningFault line Nodes =
    IsReadable line × (v b n : Text) × (version bits : ℕ) × IsLiveLine (words line) v b n × SpellsVersion v version
    × SpellsBits version b bits × ((nodes : ℕ) → ¬ SpellsNodes n nodes)
