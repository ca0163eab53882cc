-- Bits of which nothing is told, gone over one behind the other (this project's own rule).
use Rattle.std.specs.Prelude.{List, [], ◌∷◌}
use Rattle.sja_journal.specs.declared.entry.Entry.{Entry}
use Rattle.sja_replay.specs.declared.bit_event.BitEvent.{BitEvent}
use Rattle.sja_replay.specs.declared.replay.Replay.{Replay}
use Rattle.sja_replay.specs.declared.short_bit.ShortBit.{ShortBit}
use Rattle.sja_replay.specs.Replaying.{IsAt, GoesOn}
use Rattle.sja_replay.specs.Short.{IsInShort}

-- each of these can be said in short
abbrev pub AreShort : List BitEvent → Type 0
AreShort [] = Unit {0}
AreShort (h ∷ hs) = ((q : ShortBit) × IsInShort h q) × AreShort hs

-- the replay went on past some bits, each of which brought what can be said in short
pub record SilentOn (old new : Replay) (before : List Entry) : Type 0 where
  pub told : List BitEvent
  pub short : AreShort told
  pub goes : GoesOn old new before told

abbrev pub PassesSilently : Replay → Replay → Type 0
PassesSilently old new = (before : List Entry) → IsAt old before → SilentOn old new before
