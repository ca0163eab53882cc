-- The bit at hand of a node, in short where it told nothing. A bit in short leaves open which bit event it was: each
-- that it may have been has the same line.
use Rattle.std.specs.Prelude.{◌≡◌, ◌<◌, ◌≤◌, ◌+◌, ℕ, suc, not, Bool, false, Option, Some, None, List, slice_get}
use Rattle.can_levels.specs.declared.level.Level.{Level}
use Rattle.can_node_rules.specs.declared.counters.Counters.{Counters}
use Rattle.can_node_rules.specs.Outcomes.{nothing}
use Rattle.sja_journal.specs.declared.entry.Entry.{Entry}
use Rattle.sja_replay.specs.declared.bit_event.BitEvent.{BitEvent}
use Rattle.sja_replay.specs.declared.short_bit.ShortBit.{ShortBit}
use Rattle.sja_replay.specs.declared.view.View.{View}
use Rattle.sja_replay.specs.Short.{IsInShort}
use Rattle.text_trace.specs.declared.node_bits.NodeBits.{NodeBits}
use Rattle.text_trace.specs.BitEvents.{counters_after}
use Rattle.sja_replay.specs.ReplayProgress.{HasCome}
use Rattle.text_trace.specs.Telling.{HaveSame, at_hand}
use Rattle.text_trace.specs.TraceText.{driven_in, event_line}

-- ---- what is known of a bit in short, or of the one at hand where it isn't in short

abbrev pub counters_of : Option ShortBit → Option BitEvent → Counters
counters_of None own = counters_after own
counters_of (Some q) own = q.counters

abbrev pub driven_of : Option ShortBit → Option BitEvent → Level
driven_of None own = driven_in own
driven_of (Some q) own = q.driven

-- one of the bit events that a bit in short may have been
abbrev pub view_of : ShortBit → View
view_of q = record {
  phase = q.phase;
  segment = q.segment;
  transmits = q.transmits;
  counters = q.counters;
  held = None;
  flag = q.flag;
}

abbrev pub bit_event_of : ShortBit → BitEvent
bit_event_of q = record {
  bit = 0;
  driven = q.driven;
  seen = q.seen;
  aborted = false;
  before = view_of q;
  events = nothing (not q.transmits);
  after = view_of q;
  reception = None;
}

-- its line
abbrev pub hand_line : Bool → Level → ℕ → ℕ → Counters → Option ShortBit → Option BitEvent → List ℕ
hand_line by_bytes bus bit node left None own = event_line by_bytes bus bit node left own
hand_line by_bytes bus bit node left (Some q) own = event_line by_bytes bus bit node left (Some (bit_event_of q))

-- ---- which bit event is at hand

-- there is one, and this is it in short
pub record IsBit (q : ShortBit) (o : Option BitEvent) : Type 0 where
  pub happened : BitEvent
  pub is : o ≡ Some happened
  pub short : IsInShort happened q

-- that one, where a bit is at hand in short; else the one that is at hand in full (`own`), if there is one
abbrev pub IsHand : Option ShortBit → Option BitEvent → Option BitEvent → Type 0
IsHand None own o = o ≡ own
IsHand (Some q) own o = IsBit q o

-- ---- one bit more

-- of a journal one bit more was told, which is at hand
pub record ToldHand (journal : List Entry) (bits : ℕ) (old : List BitEvent) (new : NodeBits)
    (short : Option ShortBit) : Type 0 where
  pub told : List BitEvent
  pub come : HasCome new.over journal (suc bits) new.replay told
  pub hand : IsHand short (at_hand new) (slice_get told bits)
  pub same : HaveSame bits old told

abbrev pub HandGoesOn : NodeBits → NodeBits → Option ShortBit → Type 0
HandGoesOn old new short = (journal : List Entry) (bits : ℕ) (told : List BitEvent) →
    HasCome old.over journal bits old.replay told → ToldHand journal bits told new short

-- so many bits more were told, each of which brought this in short
pub record RestedMore (n : ℕ) (q : ShortBit) (journal : List Entry) (bits : ℕ) (old : List BitEvent)
    (new : NodeBits) : Type 0 where
  pub told : List BitEvent
  pub come : HasCome new.over journal (bits + n) new.replay told
  pub silent : (i : ℕ) → bits ≤ i → i < bits + n → IsBit q (slice_get told i)
  pub same : HaveSame bits old told

abbrev pub RestsOn : ℕ → ShortBit → NodeBits → NodeBits → Type 0
RestsOn n q old new = (journal : List Entry) (bits : ℕ) (told : List BitEvent) →
    HasCome old.over journal bits old.replay told → RestedMore n q journal bits told new
