-- The numbers of a node, read bit by bit.
use Rattle.std.specs.Prelude.{◌≡◌, ◌<◌, ◌≤◌, ℕ, suc, false, Option, List, [], length}
use Rattle.can_node_rules.specs.declared.counters.Counters.{Counters}
use Rattle.can_node_rules.specs.declared.flag_kind.FlagKind.{FlagKind}
use Rattle.can_node_rules.specs.declared.phase.Phase.{Phase}
use Rattle.sja_journal.specs.declared.entry.Entry.{Entry}
use Rattle.sja_replay.specs.declared.bit_event.BitEvent.{BitEvent}
use Rattle.sja_replay.specs.declared.view.View.{View}
use Rattle.sja_replay.specs.ReplayProgress.{HasCome, left_in}
use Rattle.sja_replay.specs.Happened.{Happened}
use Rattle.text_wave.specs.declared.gauges.Gauges.{Gauges}
use Rattle.text_wave.specs.declared.meter.Meter.{Meter}
use Rattle.text_wave.specs.Views.{view_in, tec_of, rec_of, phase_code, phase_of}

abbrev pub gauges_of : Option View → Gauges
gauges_of v = record { tec = tec_of v; rec = rec_of v; phase = phase_of v }

-- by these error counters, this phase and this flag
abbrev pub gauges_by : Counters → Phase → FlagKind → Gauges
gauges_by counters phase flag = record { tec = counters.tec; rec = counters.rec; phase = phase_code phase flag }

-- ---- how far a journal was read

-- the meter has gone past so many bits of a journal, of which these were told
pub record HasRead (journal : List Entry) (bits : ℕ) (m : Meter) (hs : List BitEvent) : Type 0 where
  pub come : HasCome m.over journal bits m.replay hs
  pub after : m.after ≡ gauges_of (view_in (length hs) hs)

-- past some bits of some journal
pub record IsReading (m : Meter) : Type 0 where
  pub journal : List Entry
  pub bits : ℕ
  pub told : List BitEvent
  pub has : HasRead journal bits m told

-- ---- it goes on

-- in the bits before this one a node shows the same
abbrev pub ShowSame : ℕ → List BitEvent → List BitEvent → Type 0
ShowSame bits old new = (i : ℕ) → i < bits → view_in i new ≡ view_in i old

-- one bit more was read, and is shown
pub record ReadMore (journal : List Entry) (bits : ℕ) (old : List BitEvent) (new : Meter) : Type 0 where
  pub told : List BitEvent
  pub has : HasRead journal (suc bits) new told
  pub shows : new.shows ≡ gauges_of (view_in bits told)
  pub same : ShowSame bits old told

pub record ReadsOn (old new : Meter) : Type 0 where
  pub showed : new.showed ≡ old.shows
  pub fewer : old.over ≡ false → IsReading old → left_in new.over new.replay < left_in old.over old.replay
  pub reads : (journal : List Entry) (bits : ℕ) (told : List BitEvent) →
      HasRead journal bits old told → ReadMore journal bits told new

-- ---- it goes on to the end

-- several bits more were read
pub record ReadFurther (journal : List Entry) (bits : ℕ) (old : List BitEvent) (new : Meter) : Type 0 where
  pub now : ℕ
  pub told : List BitEvent
  pub has : HasRead journal now new told
  pub further : bits ≤ now
  pub same : ShowSame bits old told

pub record IsFinishing (old new : Meter) : Type 0 where
  pub reading : IsReading new
  pub reads : (journal : List Entry) (bits : ℕ) (told : List BitEvent) →
      HasRead journal bits old told → ReadFurther journal bits told new

-- all of a journal was told
pub record ReadAll (journal : List Entry) (bits : ℕ) (old : List BitEvent) : Type 0 where
  pub told : List BitEvent
  pub are : Happened [] journal told
  pub same : ShowSame bits old told

abbrev pub ReadsAll : Meter → Meter → Type 0
ReadsAll old new =
    (journal : List Entry) (bits : ℕ) (told : List BitEvent) →
    HasRead journal bits old told → ReadAll journal bits told
