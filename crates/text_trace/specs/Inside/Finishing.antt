-- How a node trace that tells all bits that are left has come along (this project's own rule).
use Rattle.std.specs.Prelude.{◌+◌, ℕ, List}
use Rattle.sja_journal.specs.declared.entry.Entry.{Entry}
use Rattle.sja_replay.specs.declared.bit_event.BitEvent.{BitEvent}
use Rattle.sja_replay.specs.ReplayProgress.{HasCome}
use Rattle.text_trace.specs.declared.node_bits.NodeBits.{NodeBits}
use Rattle.text_trace.specs.Telling.{IsUnderway, HaveSame}

-- several bits more were told of a journal
pub record ToldOn (journal : List Entry) (bits : ℕ) (old : List BitEvent) (new : NodeBits) : Type 0 where
  pub more : ℕ
  pub told : List BitEvent
  pub come : HasCome new.over journal (bits + more) new.replay told
  pub same : HaveSame bits old told

-- several are told
pub record IsFinishing (old new : NodeBits) : Type 0 where
  pub underway : IsUnderway new
  pub tells : (journal : List Entry) (bits : ℕ) (told : List BitEvent) →
      HasCome old.over journal bits old.replay told → ToldOn journal bits told new
