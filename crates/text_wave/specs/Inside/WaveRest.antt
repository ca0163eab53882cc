-- Bits in which nothing changes of a node, shown at once: it is at rest.
use Rattle.std.specs.Prelude.{◌≡◌, ◌≤◌, ◌<◌, ℕ, suc, false, List, drop, length, slice_index_or}
use Rattle.can_levels.specs.declared.level.Level.TheVariants.{Recessive}
use Rattle.sja_journal.specs.declared.entry.Entry.{Entry}
use Rattle.sja_journal.specs.RestBits.{rest_before}
use Rattle.sja_replay.specs.declared.short_bit.ShortBit.{ShortBit}
use Rattle.sja_replay.specs.Replaying.{IsAt}
use Rattle.sja_replay.specs.ReplayRest.{RestsFor, rested}
use Rattle.sja_replay.specs.Short.{LooksAt, PassesBit}
use Rattle.text_wave.specs.declared.cursor.Cursor.{Cursor}
use Rattle.text_wave.specs.declared.meter.Meter.{Meter}
use Rattle.text_wave.specs.declared.probe.Probe.{Probe}
use Rattle.text_wave.specs.Inside.Meters.{gauges_by}

-- ---- what the journal says

-- the node drives and sees recessive, and so it does in so many bits that come next
pub record CursorRests (n : ℕ) (c : Cursor) : Type 0 where
  pub driven : c.shows.driven ≡ Recessive
  pub seen : c.shows.seen ≡ Recessive
  pub bits : n ≤ rest_before c.entries

abbrev pub rested_cursor : ℕ → Cursor → Cursor
rested_cursor n c = record { entries = drop n c.entries; showed = c.shows; shows = c.shows }

-- ---- the numbers

-- they are those of the node in the next bit, if it drives and sees recessive
pub record ShowsRest (m : Meter) : Type 0 where
  pub bit : ShortBit
  pub looks : LooksAt m.replay.node Recessive Recessive bit
  pub shows : m.shows ≡ gauges_by bit.counters bit.phase bit.flag

pub record MeterRests (n : ℕ) (m : Meter) : Type 0 where
  pub under : m.over ≡ false
  pub rests : RestsFor m.replay n
  pub alike : ShowsRest m

-- it went past so many such bits, each of which brought the same in short
pub record MeterRested (n : ℕ) (old new : Meter) : Type 0 where
  pub short : ShortBit
  pub looks : LooksAt old.replay.node Recessive Recessive short
  pub passes : (i : ℕ) (before : List Entry) → i < n → IsAt (rested i old.replay) before →
      PassesBit (rested i old.replay) (rested (suc i) old.replay) before short
  pub replay : new.replay ≡ rested n old.replay
  pub over : new.over ≡ old.over
  pub showed : new.showed ≡ old.shows
  pub shows : new.shows ≡ old.shows
  pub after : new.after ≡ old.shows

-- ---- both

pub record ProbeRests (n : ℕ) (p : Probe) : Type 0 where
  pub cursor : CursorRests n p.cursor
  pub meter : MeterRests n p.meter

pub record ProbeRested (n : ℕ) (old new : Probe) : Type 0 where
  pub cursor : new.cursor ≡ rested_cursor n old.cursor
  pub meter : MeterRested n old.meter new.meter

-- of all nodes
abbrev pub AllRest : ℕ → List Probe → Type 0
AllRest n probes = (k : ℕ) (p : Probe) → k < length probes → ProbeRests n (slice_index_or probes k p)
