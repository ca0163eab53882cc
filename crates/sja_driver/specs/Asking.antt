-- A port and its node's record, as to a request (SJA1000 data sheet, 6.4.5: transmit buffer status).
use Rattle.std.specs.Prelude.{◌≡◌, not, List}
use Rattle.can_node_rules.specs.Context.{is_held}
use Rattle.can_node_rules.specs.NextBit.{now_in}
use Rattle.sja_journal.specs.NodeWords.{FinishedPiece, IsCut}
use Rattle.sja_journal.specs.declared.entry.Entry.{Entry}
use Rattle.sja_journal.specs.Records.{record_of}
use Rattle.sja_regs.specs.declared.registers.Registers.{Registers}

-- by every cut of the record TBS is 0 exactly where the node holds a request
abbrev pub IsAsked : List Entry → Registers → Type 0
IsAsked j p = (found : List FinishedPiece) (cut : IsCut (record_of j) found) → p.tbs ≡ not (is_held (now_in cut).held)
