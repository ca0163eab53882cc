-- A replay goes on past a bit of a frame that its node receives, of which another reader takes the level.
use Rattle.std.proofs.Common.{◌≡◌, ◌+◌, ◌<◌, ◌^◌, false, Some, List, refl, ap, ◌∙◌, subst, sym, arith}
use Rattle.can_levels.specs.declared.level.Level.{Level}
use Rattle.can_levels.specs.declared.level.Level.TheVariants.{Recessive}
use Rattle.can_levels.specs.declared.segment.Segment.{Segment}
use Rattle.can_bits.specs.declared.shift.Shift.{Shift}
use Rattle.can_bits.specs.Sending.{TakesInside}
use Rattle.can_node.specs.declared.node.Node.{Node}
use Rattle.can_node_rules.specs.declared.role.Role.{Role}
use Rattle.can_node_rules.specs.declared.role.Role.TheVariants.{Receiver}
use Rattle.can_node.specs.declared.stage.Stage.{Stage}
use Rattle.can_node.specs.declared.stage.Stage.TheVariants.{InFrame}
use Rattle.can_node_rules.specs.declared.phase.Phase.TheVariants.{Frame}
use Rattle.can_node_rules.specs.Context.{ContextValue, is_transmitter}
use Rattle.can_node_rules.specs.NextBit.{now_in, open_bits}
use Rattle.can_node.specs.NextField.{ShowsSegment}
use Rattle.can_node.specs.Stages.{At}
use Rattle.can_node.specs.Stands.{DrivesNext, Samples, ShowsSame, phase_of_stage, is_receiving}
use Rattle.can_node_rules.specs.Outcomes.{nothing}
use Rattle.can_node.specs.Together.{kept_level, reading_as}
use Rattle.can_node.proofs.Machine.Segments.{frame_segment}
use Rattle.can_node.proofs.Machine.Shown.{phase_shown}
use Rattle.can_node.proofs.Machine.Together.{reads_one, reads_same}
use Rattle.sja_journal.specs.declared.entry.Entry.{Entry}
use Rattle.sja_journal.specs.declared.entry.Entry.TheVariants.{Bit}
use Rattle.sja_replay.specs.declared.replay.Replay.{Replay}
use Rattle.sja_replay.specs.Inside.Walking.{IsTakenFrom}
use Rattle.sja_replay.specs.Reading.{Receives, Hears, SaysSegment, reading, heard}
use Rattle.sja_replay.specs.Replaying.{IsAt}
use Rattle.sja_replay.specs.Short.{LooksAt, PassesBit}
use Rattle.sja_replay.proofs.BitTaken.Passed.{HasSampled, passed_bit}

-- ---- what the node shows with another reader

segment_shown : (node : Node) (reader : Shift) (segment : Segment) → node.stage ≡ InFrame →
    SaysSegment reader segment → ShowsSegment (reading_as node reader) (Some segment)
segment_shown node reader segment stage says = λ entries found h.
    let P : Stage → Type 0 = λ s. At s reader h.cut.context (now_in h.cut) h.cut.place (open_bits h.cut) in
    frame_segment reader h.cut.context (now_in h.cut) h.cut.place (open_bits h.cut) segment (subst P stage h.at) says

looks : (node : Node) (reader : Shift) (level : Level) (segment : Segment) → node.stage ≡ InFrame →
    node.context.role ≡ Receiver → SaysSegment reader segment →
    LooksAt (reading_as node reader) Recessive level (heard level segment node)
looks node reader level segment stage role says = record {
  driven_is = refl;
  seen_is = refl;
  phase = λ entries found h.
      ap phase_of_stage (sym stage) ∙ phase_shown (reading_as node reader) entries found h;
  segment = segment_shown node reader segment stage says;
  transmits = λ entries found h.
      ap is_transmitter (sym role) ∙ ap (λ (c : ContextValue). is_transmitter c.role) h.shows;
  counters = λ entries found h. (
    ap (λ (c : ContextValue). c.tec) h.shows,
    ap (λ (c : ContextValue). c.rec) h.shows,
    ap (λ (c : ContextValue). c.off) h.shows,
  );
  flag = λ entries found h. ap (λ (c : ContextValue). c.flag) h.shows;
}

drives_recessive : (node : Node) → kept_level node ≡ Recessive → DrivesNext node Recessive
drives_recessive node is = λ entries found h.
    subst (λ (x : Level). DrivesNext node x) is (λ e f k. k.next) entries found h

-- ---- past the bit

-- one bit more was counted
pub record HasCounted (old mid : Replay) : Type 0 where
  pub node : mid.node ≡ old.node
  pub bits : mid.bits ≡ old.bits + 1
  pub aborted : mid.aborted ≡ old.aborted
  pub off : mid.off ≡ old.off
  pub free : mid.free ≡ old.free
  pub entries : mid.entries ≡ old.entries

pub heard_bit : (old new : Replay) (before after : Shift) (level : Level) (segment next : Segment) →
    Hears old level → Receives old → TakesInside before level after → SaysSegment before segment →
    SaysSegment after next → (mid : Replay) → HasCounted old mid → IsTakenFrom mid new old.ahead →
    (j : List Entry) → IsAt (reading before old) j →
    PassesBit (reading before old) (reading after new) j (heard level segment old.node)
heard_bit old new before after level segment next hears r takes says then counted k took j at =
    let was : Replay = reading before old in
    let mid : Replay = record counted { node = reading_as counted.node after } in
    let few = hears.few in
    let bits = k.bits in
    let same = ap (λ (n : Node). reading_as n after) k.node in
    let sampled : HasSampled was mid = record {
      bits = bits;
      few = omega (arith, bits, few);
      aborted = k.aborted;
      off = k.off;
      free = k.free;
      entries = k.entries;
    } in
    let taken : IsTakenFrom mid (reading after new) old.ahead = record {
      same = record {
        node = ap (λ (n : Node). reading_as n after) took.same.node;
        bits = took.same.bits;
        aborted = took.same.aborted;
      };
      off = took.off;
      free = took.free;
      given = took.given;
      left = took.left;
      looked = took.looked;
    } in
    passed_bit was mid (reading after new) Recessive level Recessive (heard level segment old.node) (Some next)
    old.ahead j at hears.ahead r.unmarked (drives_recessive (reading_as old.node before) r.drives) refl
    (looks old.node before level segment r.in_frame r.role says)
    (subst (λ n. Samples (reading_as old.node before) n level (nothing (is_receiving old.node))) (sym same)
    (reads_one (reading_as old.node before) level after r.in_frame r.role takes))
    (subst (λ n. ShowsSame (reading_as old.node before) n) (sym same) (reads_same (reading_as old.node before) after))
    (subst (λ n. ShowsSegment n (Some next)) (sym same) (segment_shown old.node after next r.in_frame then))
    (λ idle. cc) sampled taken
