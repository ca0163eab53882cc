-- The record of a node with a bit more in its journal.
use Rattle.std.proofs.Common.{◌≡◌, ℕ, Bool, true, false, Option, Some, None, List, [], ◌∷◌, ◌++◌, sym, ap, ◌∙◌}
use Rattle.std.proofs.Common.{append_assoc, append-nil}
use Rattle.std.specs.Prelude.{if◌then◌else◌}
use Rattle.can_levels.specs.declared.level.Level.{Level}
use Rattle.can_node_rules.specs.Bits.{Bit as Levels}
use Rattle.can_node_rules.specs.Record.{RecordEntry as Event}
use Rattle.can_node_rules.specs.Record.RecordEntry.{OneBit as Took, BusOff as WentOff}
use Rattle.sja_journal.specs.declared.verdict.Verdict.{Verdict}
use Rattle.sja_journal.specs.declared.verdict.Verdict.TheVariants.{Stored as ToStore, Overrun as ToLose}
use Rattle.sja_journal.specs.declared.entry.Entry.{Entry}
use Rattle.sja_journal.specs.declared.entry.Entry.TheVariants.{Bit, Stored, Overrun, Off}
use Rattle.sja_journal.specs.Records.{record_of}
use Rattle.sja_journal.proofs.JournalEntries.Entering.{record_push}
use Rattle.sja_journal.specs.BitEntries.{HasBit, judged_as, off_as}
use Rattle.sja_journal.specs.Entries.{off_left}

judged_silent : (l : List Entry) (v : Option (Verdict × List ℕ)) → record_of (l ++ judged_as v) ≡ record_of l
judged_silent l None = ap record_of (append-nil l)
judged_silent l (Some (ToStore, m)) = record_push l (Stored m) ∙ append-nil (record_of l)
judged_silent l (Some (ToLose, m)) = record_push l (Overrun m) ∙ append-nil (record_of l)

off_told : (l : List Entry) (off : Bool) → record_of (l ++ off_as off) ≡ record_of l ++ off_left off
off_told l true = record_push l Off
off_told l false = ap record_of (append-nil l) ∙ sym (append-nil (record_of l))

pub record_bit : (j k : List Entry) (x seen : Level) (h : HasBit j x seen k) →
    record_of k ≡ (record_of j ++ Took (record { driven = x; seen = seen }) ∷ []) ++ off_left h.off
record_bit j k x seen h =
    ap record_of h.whole ∙ off_told ((j ++ Bit x seen ∷ []) ++ judged_as h.verdict) h.off
    ∙ ap (λ l. l ++ off_left h.off) (judged_silent (j ++ Bit x seen ∷ []) h.verdict ∙ record_push j (Bit x seen))

-- the entry of the bit, and then that of bus-off
pub entries_split : (r : List Event) (b : Levels) (went : Bool) → r
    ++ (if went then Took b ∷ WentOff ∷ [] else Took b ∷ []) ≡ (r ++ Took b ∷ []) ++ off_left went
entries_split r b true = sym (append_assoc r (Took b ∷ []) (WentOff ∷ []))
entries_split r b false = sym (append-nil (r ++ Took b ∷ []))
