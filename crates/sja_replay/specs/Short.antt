-- What a bit brought that told nothing, in short (this project's own rule).
use Rattle.std.specs.Prelude.{◌≡◌, false, None, List, [], ◌∷◌}
use Rattle.can_levels.specs.declared.level.Level.{Level}
use Rattle.can_levels.specs.declared.level.Level.TheVariants.{Recessive}
use Rattle.can_node.specs.declared.node.Node.{Node}
use Rattle.can_node_rules.specs.declared.phase.Phase.TheVariants.{Idle}
use Rattle.can_node.specs.NextField.{ShowsSegment, ShowsRole, ShowsFlag}
use Rattle.can_node.specs.Stands.{ShowsPhase, ShowsCounters}
use Rattle.can_node_rules.specs.Outcomes.{nothing}
use Rattle.sja_journal.specs.declared.entry.Entry.{Entry}
use Rattle.sja_replay.specs.declared.bit_event.BitEvent.{BitEvent}
use Rattle.sja_replay.specs.declared.replay.Replay.{Replay}
use Rattle.sja_replay.specs.declared.short_bit.ShortBit.{ShortBit}
use Rattle.sja_replay.specs.Replaying.{GoesOn, TellsBit}

-- where the bus is idle, the node drives and sees recessive: no frame begins (Bosch CAN 2.0 part A section 3.1.1)
abbrev pub IsNoStart : ShortBit → Type 0
IsNoStart q = q.phase ≡ Idle → (q.driven ≡ Recessive) × (q.seen ≡ Recessive)

-- these are the levels, the node showed this before the bit, the bit told nothing, and phase and counters stay. No
-- abort changed the node right before it, and no frame was received with it
pub record IsInShort (h : BitEvent) (q : ShortBit) : Type 0 where
  pub driven : h.driven ≡ q.driven
  pub seen : h.seen ≡ q.seen
  pub aborted : h.aborted ≡ false
  pub phase : h.before.phase ≡ q.phase
  pub segment : h.before.segment ≡ q.segment
  pub transmits : h.before.transmits ≡ q.transmits
  pub counters : h.before.counters ≡ q.counters
  pub flag : h.before.flag ≡ q.flag
  pub told : h.events ≡ nothing h.events.receiving
  pub phase_stays : h.after.phase ≡ q.phase
  pub counters_stay : h.after.counters ≡ q.counters
  pub reception : h.reception ≡ None
  pub no_start : IsNoStart q

-- what a node shows of a bit with these levels
pub record LooksAt (node : Node) (driven seen : Level) (q : ShortBit) : Type 0 where
  pub driven_is : q.driven ≡ driven
  pub seen_is : q.seen ≡ seen
  pub phase : ShowsPhase node q.phase
  pub segment : ShowsSegment node q.segment
  pub transmits : ShowsRole node q.transmits
  pub counters : ShowsCounters node q.counters
  pub flag : ShowsFlag node q.flag

-- the replay went on past one bit, as `next` does, and what the bit brought is this in short. Its number is how many
-- bits came before
pub record PassesBit (old new : Replay) (before : List Entry) (q : ShortBit) : Type 0 where
  pub happened : BitEvent
  pub short : IsInShort happened q
  pub goes : GoesOn old new before (happened ∷ [])
  pub tells : TellsBit old new before happened
  pub number : happened.bit ≡ old.bits
