-- What holds of every bus: each journal's record has a cut, by which its verdicts are right, its entries are in order,
-- and all journals are of one wire (this project's own rule).
use Rattle.std.specs.Prelude.{◌≡◌, ◌<◌, ℕ, List, length}
use Rattle.can_node_rules.specs.NextBit.{now_in}
use Rattle.sja_journal.specs.NodeWords.{FinishedPiece, IsCut}
use Rattle.sja_journal.specs.declared.entry.Entry.{Entry}
use Rattle.sja_journal.specs.Records.{record_of}
use Rattle.sja_journal.specs.Verdicts.{IsLawful}
use Rattle.sja_steps.specs.declared.strike.Strike.{Strike}
use Rattle.sja_link.specs.Orderly.{AreOrderly}
use Rattle.sja_bus_rules.specs.Wire.{IsWired, journal_at}

-- by every cut of the journal's record these are the error counters at its end
abbrev pub CountersAre : List Entry → ℕ → ℕ → Type 0
CountersAre j tec rec =
    (found : List FinishedPiece) (cut : IsCut (record_of j) found) → (tec ≡ (now_in cut).tec) × (rec ≡ (now_in cut).rec)

-- the journals of a bus: by every cut of each record the verdicts are right, what was entered of each activation is in
-- order, and what each node saw is what the wire had
pub record IsBusRun (script : List Strike) (bits : ℕ) (journals : List (List Entry)) : Type 0 where
  pub lawful : (node : ℕ) → node < length journals → IsLawful (journal_at journals node)
  pub orderly : (node : ℕ) → node < length journals → AreOrderly (journal_at journals node)
  pub wired : IsWired script bits journals
