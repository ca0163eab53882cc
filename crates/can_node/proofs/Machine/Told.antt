-- What a bit tells is what the cut has there.
use Rattle.std.proofs.Common.{◌≡◌, ◌<◌, ◌≤◌, ◌+◌, ◌-◌, ◌%◌, ◌==◌, ◌&&◌, ◌||◌, not, fold, length}
use Rattle.std.proofs.Common.{ℕ, Bool, true, false, nat_le, Option, Some, None, is_some, List}
use Rattle.std.proofs.Common.{[], ◌∷◌, refl, sym, subst, arith, if◌then◌else◌}
use Rattle.can_frame.specs.Frame.{FrameValue}
use Rattle.can_levels.specs.declared.level.Level.{Level}
use Rattle.can_levels.specs.declared.level.Level.TheVariants.{Dominant, Recessive}
use Rattle.can_levels.specs.declared.segment.Segment.{Segment}
use Rattle.can_node_rules.specs.declared.role.Role.{Role}
use Rattle.can_node_rules.specs.declared.role.Role.TheVariants.{Transmitter, Receiver}
use Rattle.can_node_rules.specs.declared.flag_kind.FlagKind.{FlagKind}
use Rattle.can_node_rules.specs.declared.flag_kind.FlagKind.TheVariants.{ActiveError, PassiveError, Overload}
use Rattle.can_node_rules.specs.declared.cause.Cause.{Cause}
use Rattle.can_node_rules.specs.declared.outcome.Outcome.{Outcome}
use Rattle.can_node_rules.specs.declared.request.Request.{Request}
use Rattle.can_node.specs.declared.after_bit.AfterBit.{AfterBit}
use Rattle.can_node.specs.declared.after_bit.AfterBit.TheVariants.{InPiece, Ended}
use Rattle.can_node_rules.specs.declared.bit_events.BitEvents.{BitEvents}
use Rattle.can_node_rules.specs.Bits.{Bit, seen_of}
use Rattle.can_node_rules.specs.Context.{ContextValue, is_transmitter, is_held}
use Rattle.can_node_rules.specs.Pieces.{Place, sent_at}
use Rattle.can_node_rules.specs.Pieces.Place.{AtReset, AtIntegration, AtIdle, AfterSof}
use Rattle.can_node_rules.specs.Pieces.Place.{AtLastEofBit, AtFlag, AtDelimiter, AtInterframeSpace}
use Rattle.can_node_rules.specs.Counting.{at_bit, next_run, ends_eleven, first_bit, frame_bit, lost_by}
use Rattle.can_node_rules.specs.Counting.{lose, drop_failed, if_acknowledged, if_ack_step_owed}
use Rattle.can_node_rules.specs.Counting.{delimiter_level, if_eighth, are_dominant, after_error_flag, more_by}
use Rattle.can_node_rules.specs.Events.{Step, stepped, received_in, fault_in, ended_in, lost_in, events_of}
use Rattle.can_node.specs.Inside.Turns.{step_of, resulted}

-- ---- a bit lifts the transmit error counter by eight at most

at_all : (c d : ContextValue) → d.tec ≡ c.tec → d.tec ≤ c.tec + 8
at_all c d e = omega (arith, e)

near_if : (test : Bool) (c d e : ContextValue) → d.tec ≤ c.tec + 8 → e.tec ≤ c.tec + 8 →
    (if test then d else e).tec ≤ c.tec + 8
near_if true c d e h k = h
near_if false c d e h k = k

drop_near : (held : Option Request) (c : ContextValue) → (drop_failed held c).tec ≡ c.tec
drop_near None c = refl
drop_near (Some request) c = chosen (request.single_shot || c.aborted)
  where
    chosen : (test : Bool) → (if test then record c { held = None; aborted = false } else c).tec ≡ c.tec
    chosen true = refl
    chosen false = refl

frame_near : (role : Role) (c : ContextValue) (l : List Level) (b : Bit) → (frame_bit role c l b).tec ≤ c.tec + 8
frame_near Transmitter c l b =
    near_if (is_some (lost_by c.held l b.driven b.seen)) c (lose c) c (at_all c (lose c) (drop_near c.held c))
    (at_all c c refl)
frame_near Receiver c l b = acknowledged b.driven b.seen
  where
    acknowledged : (x y : Level) → (if_acknowledged x y c).tec ≤ c.tec + 8
    acknowledged Dominant Dominant = at_all c c refl
    acknowledged Dominant Recessive = at_all c c refl
    acknowledged Recessive y = at_all c c refl

first_near : (sent : Option Request) (c : ContextValue) → (first_bit sent c).tec ≤ c.tec + 8
first_near None c = at_all c c refl
first_near (Some request) c = at_all c c refl

late_near : (x : Level) (c : ContextValue) → (if_ack_step_owed x c).tec ≤ c.tec + 8
late_near Dominant c = near_if c.ack_step_owed c (record c { tec = c.tec + 8; ack_step_owed = false }) c (omega arith)
    (at_all c c refl)
late_near Recessive c = at_all c c refl

role_near : (role : Role) (c : ContextValue) → (more_by role 8 8 c).tec ≤ c.tec + 8
role_near Transmitter c = omega arith
role_near Receiver c = at_all c c refl

flag_near : (done : List Bit) (role : Role) (flag : FlagKind) (c : ContextValue) →
    (after_error_flag done role flag c).tec ≡ c.tec
flag_near [] Receiver ActiveError c = refl
flag_near [] Receiver PassiveError c = refl
flag_near [] Receiver Overload c = refl
flag_near [] Transmitter flag c = refl
flag_near (b ∷ done) role flag c = refl

tail_near : (x : Level) (done : List Bit) (c : ContextValue) → (delimiter_level x done c).tec ≤ c.tec + 8
tail_near Dominant done c =
    let d = after_error_flag done c.role c.flag c in
    let same : d.tec ≡ c.tec = flag_near done c.role c.flag c in
    let more = near_if (are_dominant (seen_of done) && (length done + 1) % 8 == 0) d (more_by d.role 8 8 d) d
    (role_near d.role d) (at_all d d refl) in
    near_if c.listen c c (if_eighth done d) (at_all c c refl) (omega (arith, same, more))
tail_near Recessive done c = at_all c c refl

bit_near : (c : ContextValue) (place : Place) (done : List Bit) (b : Bit) → (at_bit c place done b).tec ≤ c.tec + 8
bit_near c AtReset done b = at_all c c refl
bit_near c AtIntegration done b =
    near_if ((c.off && not c.listen) && ends_eleven (fold next_run 0 (seen_of done)) b.seen) c
    (record c { tec = c.tec - 1 }) c (omega arith) (at_all c c refl)
bit_near c AtIdle [] b = first_near (sent_at c AtIdle) c
bit_near c AtIdle (x ∷ done) b = frame_near c.role c (seen_of (x ∷ done)) b
bit_near c AfterSof done b = frame_near c.role c (Dominant ∷ seen_of done) b
bit_near c AtLastEofBit done b = at_all c c refl
bit_near c AtFlag done b = late_near b.seen c
bit_near c AtDelimiter done b = tail_near b.seen done c
bit_near c AtInterframeSpace done b = at_all c c refl

-- so it stays far below the greatest number that is kept
pub bit_few : (c : ContextValue) (place : Place) (done : List Bit) (b : Bit) → c.tec < 256 →
    (at_bit c place done b).tec < 900
bit_few c place done b few = let near = bit_near c place done b in omega (arith, near, few)

-- ---- the events

-- the context after the bit
pub stepped_is : (turn : AfterBit) (c : ContextValue) (place : Place) (bits : List Bit) (b : Bit) →
    stepped (step_of turn) c place bits b ≡ resulted turn (at_bit c place bits b)
stepped_is (InPiece stage) c place bits b = refl
stepped_is (Ended done) c place bits b = refl

-- a request is held or not
pub held_is : (held : Option Request) → is_some held ≡ is_held held
held_is None = refl
held_is (Some request) = refl

-- events from their parts
abbrev pub made_of : Option FrameValue → Option Outcome → Option ℕ → Option (Cause × Segment) → Bool → Bool → Bool →
    BitEvents
made_of received ended lost fault receiving went recovered = record {
  received = received;
  ended = ended;
  lost = lost;
  fault = fault;
  receiving = receiving;
  went_off = went;
  recovered = recovered;
}

-- all that the bit tells
pub told_all : (c n : ContextValue) (place : Place) (bits : List Bit) (b : Bit) (step : Step)
    (received : Option FrameValue) (ended : Option Outcome) (lost : Option ℕ)
    (fault : Option (Cause × Segment)) (receiving went recovered : Bool) → stepped step c place bits b ≡ n →
    received ≡ received_in step → ended ≡ ended_in step c n → lost ≡ lost_in c place bits b → fault ≡ fault_in step →
    receiving ≡ not (is_transmitter n.role) → went ≡ nat_le 256 n.tec → recovered ≡ (c.off && not n.off) →
    made_of received ended lost fault receiving went recovered ≡ events_of step c place bits b
told_all c n place bits b step received ended lost fault receiving went recovered same r e l f i w v =
    let P : ContextValue → Type 0 = λ d. made_of received ended lost fault receiving went recovered
    ≡ made_of (received_in step) (ended_in step c d) (lost_in c place bits b) (fault_in step)
    (not (is_transmitter d.role)) (nat_le 256 d.tec) (c.off && not d.off) in
    subst P (sym same) (λ j. made_of (r j) (e j) (l j) (f j) (i j) (w j) (v j))
