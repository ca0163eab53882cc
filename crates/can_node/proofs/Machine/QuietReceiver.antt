-- The quick way of a bit of a frame for its receiver.
use Rattle.std.proofs.Common.{◌≡◌, ◌≢◌, ◌&&◌, ◌||◌, not, ℕ, false, nat_lt, None, List, [], ◌∷◌, ◌++◌}
use Rattle.std.proofs.Common.{refl, ap, sym, subst, ◌∙◌, arith}
use Rattle.std.proofs.lemmas.Bool.{ltb-false}
use Rattle.can_levels.specs.declared.level.Level.{Level}
use Rattle.can_levels.specs.declared.level.Level.TheVariants.{Dominant, Recessive}
use Rattle.can_bits.specs.declared.shift.Shift.{Shift}
use Rattle.can_frame.specs.Frame.{FrameValue}
use Rattle.can_levels.specs.Fields.{is_recessive}
use Rattle.can_levels.specs.Acknowledging.{IsAckDue}
use Rattle.can_levels.specs.Reading.{IsPastPart}
use Rattle.can_bits.specs.Shifts.{StandsFor}
use Rattle.can_levels.specs.Streaming.{IsReadable, IsRightInside, IsRightPast, IsLineButFor, ShowsFrame, IsOver}
use Rattle.can_node_rules.specs.declared.role.Role.{Role}
use Rattle.can_node_rules.specs.declared.role.Role.TheVariants.{Receiver}
use Rattle.can_node.specs.declared.stage.Stage.{Stage}
use Rattle.can_node.specs.declared.stage.Stage.TheVariants.{InFrame as StageInFrame}
use Rattle.can_node.specs.declared.after_bit.AfterBit.TheVariants.{InPiece}
use Rattle.can_node.specs.declared.node.Node.{Node}
use Rattle.can_node_rules.specs.Bits.{Bit, dominant_bit, seen_of}
use Rattle.can_node_rules.specs.Context.{ContextValue}
use Rattle.can_node_rules.specs.Pieces.{Place}
use Rattle.can_node_rules.specs.Counting.{at_bit, frame_bit, if_acknowledged, rec_acknowledged}
use Rattle.can_node_rules.specs.Events.{lost_in, lost_as}
use Rattle.can_node_rules.specs.Frames.{Acknowledges}
use Rattle.can_node_rules.specs.Driving.{Drives, FrameDrives}
use Rattle.can_node.specs.Standing.{context_of}
use Rattle.can_node_rules.specs.KeptContexts.{IsKept}
use Rattle.can_node.specs.Stages.{At, IsReading}
use Rattle.can_node_rules.specs.UnfinishedPieces.{IsReceiving, frame_bits}
use Rattle.can_node_rules.proofs.Bits.FramePlaces.{frame_seen}
use Rattle.can_node.proofs.Machine.Ats.{at_is}
use Rattle.can_node.proofs.Machine.FrameDrives.{receiving_drives}
use Rattle.can_node.proofs.Machine.FrameTurns.{frame_drives, lost_at, receive_turn}
use Rattle.can_node_rules.proofs.Bits.FrameSites.{frame_at, place_of}
use Rattle.can_node.proofs.Machine.Quiet.{GoesQuietly, IsQuiet}
use Rattle.can_node_rules.proofs.Reception.Acknowledging.{acknowledges_once, quiet}
use Rattle.can_node_rules.proofs.Reception.ReceiverBits.{goes_on, kept_if, not_lost_driven}

-- within the stuffed part no acknowledgement is due
pub inside_not_due : (l : List Level) (x : Level) → IsRightInside l x → IsAckDue l → ⊥
inside_not_due l x h due =
    let past : IsPastPart l = record {
      frame = due.frame;
      body = due.body;
      check = due.check;
      part = due.part;
      rest = Recessive ∷ [];
      is_part = due.is_part;
      whole = due.whole;
    } in
    h.inside.before_end past

-- it drives as a receiver does
answers_at : (shift : Shift) (c now : ContextValue) (place : Place) (bits : List Bit) (x : Level) →
    now.role ≡ Receiver → IsReading shift c now place bits →
    Drives now place bits x → Acknowledges now.listen (seen_of (frame_bits place bits)) x
answers_at shift c now place bits x receiver reading drives =
    let P : Role → Type 0 = λ r. FrameDrives r now (frame_bits place bits) x in
    subst P receiver (frame_drives now place bits x reading.site drives)

-- its acknowledgement, where that is seen and REC is 0, counts nothing; nor does any other bit of a frame
uncounted : (driven seen : Level) (now : ContextValue) →
    (not (is_recessive driven) && (is_recessive seen || nat_lt 0 now.rec)) ≡ false →
    now ≡ if_acknowledged driven seen now
uncounted Dominant Dominant now none =
    let low = ltb-false 0 now.rec none in
    let at_zero : now.rec ≡ 0 = omega (arith, low) in
    let counts : now.rec ≡ rec_acknowledged now.rec =
    subst (λ n. n ≡ rec_acknowledged n) (sym at_zero) refl in
    ap (λ n. record now { rec = n }) counts
uncounted Dominant Recessive now none = refl
uncounted Recessive seen now none = refl

-- and it is seen, where it is one
seen_if : (driven seen : Level) (n : ℕ) → (not (is_recessive driven) && (is_recessive seen || nat_lt 0 n)) ≡ false →
    record { driven = driven; seen = seen } ≢ dominant_bit Recessive
seen_if Dominant Dominant n none = kept_if Dominant Dominant refl
seen_if Dominant Recessive n none = absurd cc
seen_if Recessive seen n none = kept_if Recessive seen refl

-- a bit of a frame with which its receiver counts nothing, and that the frame goes on with
pub receives_quietly : (old : Node) (shift : Shift) (next seen : Level) (c : ContextValue) (place : Place)
    (bits : List Bit) → old.stage ≡ StageInFrame →
    old.context.role ≡ Receiver → context_of old.context ≡ if_acknowledged old.next seen (context_of old.context) →
    At old.stage old.shift c (context_of old.context) place bits → IsKept place c (context_of old.context) →
    Drives (context_of old.context) place bits old.next →
    ((l : List Level) → StandsFor old.shift l → StandsFor shift (l ++ seen ∷ [])) →
    ((c : ContextValue) (place : Place) (bits : List Bit) → StandsFor old.shift (seen_of (frame_bits place bits)) →
    IsReceiving c place bits →
    Acknowledges c.listen (seen_of (frame_bits place bits)) old.next →
    IsReceiving c place (bits ++ record { driven = old.next; seen = seen } ∷ [])) →
    (StandsFor old.shift (seen_of (frame_bits place bits)) →
    Acknowledges old.context.listen (seen_of (frame_bits place bits) ++ seen ∷ []) next) →
    GoesQuietly (record old { shift = shift; next = next }) c (context_of old.context) place bits
    (record { driven = old.next; seen = seen })
receives_quietly old shift next seen c place bits stage receiver same at kept drives stands receives answers =
    let now = context_of old.context in
    let b : Bit = record { driven = old.next; seen = seen } in
    let l = seen_of (frame_bits place bits) in
    let reading = at_is StageInFrame old.stage old.shift c now place bits stage at in
    let lost : None ≡ lost_in now place bits b =
    sym (lost_at now place bits b reading.site ∙ ap (λ r. lost_as r now l b) receiver) in
    let steps : now ≡ at_bit now place bits b =
    sym (frame_at now place bits b reading.site ∙ ap (λ r. frame_bit r now l b) receiver
    ∙ sym same) in
    let turn : At StageInFrame shift c (at_bit now place bits b) place (bits ++ b ∷ []) =
    receive_turn old.shift shift c now place bits old.next seen (InPiece StageInFrame) receiver reading kept drives
    stands
    (λ c place bits stood h due. (refl, receives c place bits stood h due)) in
    let there : IsReading shift c now place (bits ++ b ∷ []) =
    subst (λ k. At StageInFrame shift c k place (bits ++ b ∷ [])) (sym steps) turn in
    let P : Stage → Type 0 = λ s. At s shift c now place (bits ++ b ∷ []) in
    let Answers : List Level → Type 0 = λ m. Acknowledges now.listen m next in
    record {
      turn = record { lost = lost; steps = steps; at = subst P (sym stage) there };
      next = receiving_drives shift c now place (bits ++ b ∷ []) next receiver there
          (λ stood. subst Answers (sym (frame_seen place bits b (place_of place bits reading.site)))
          (answers reading.stands));
    }

-- a right level of the stuffed part: the node drives recessive there, and goes on so
pub receives_inside : (old : Node) (shift : Shift) (seen : Level) → old.stage ≡ StageInFrame →
    old.context.role ≡ Receiver →
    ((l : List Level) → StandsFor old.shift l → IsRightInside l seen) →
    ((l : List Level) → StandsFor old.shift l → StandsFor shift (l ++ seen ∷ [])) →
    ((l : List Level) → StandsFor old.shift l →
    IsReadable (l ++ seen ∷ []) × ShowsFrame (l ++ seen ∷ []) None × (¬ IsOver (l ++ seen ∷ [])) × ¬ IsAckDue
    (l ++ seen ∷ [])) →
    IsQuiet old (record old { shift = shift }) seen
receives_inside old shift seen stage receiver right stands inside c place bits at kept body drives =
    let now = context_of old.context in
    let l = seen_of (frame_bits place bits) in
    let reading = at_is StageInFrame old.stage old.shift c now place bits stage at in
    let recessive : old.next ≡ Recessive =
    acknowledges_once now.listen l old.next Recessive
    (answers_at old.shift c now place bits old.next receiver reading drives)
    (quiet now.listen l (inside_not_due l seen (right l reading.stands))) in
    let Answers : Level → Type 0 = λ x. Acknowledges now.listen (l ++ seen ∷ []) x in
    receives_quietly old shift old.next seen c place bits stage receiver
    (sym (ap (λ x. if_acknowledged x seen now) recessive)) at kept drives stands
    (λ c place bits stood h answers.
    (let m = seen_of (frame_bits place bits) in
    let on = inside m stood in
    goes_on c place bits (record { driven = old.next; seen = seen }) h answers
    (not_lost_driven (record { driven = old.next; seen = seen }) recessive) on.0 on.1))
    (λ stood. subst Answers (sym recessive) (quiet now.listen (l ++ seen ∷ []) (inside l stood).3))

-- no frame is shown where none has come
shows_none : (l : List Level) → ((f : FrameValue) × IsLineButFor 1 f l → ⊥) → ShowsFrame l None
shows_none l none = record { some = tt; only = λ f but. absurd (none (f, but)) }

-- a right level past it with which nothing is counted or lost, and that brings no frame
pub receives_past : (old : Node) (shift : Shift) (next seen : Level) → old.stage ≡ StageInFrame →
    old.context.role ≡ Receiver →
    (not (is_recessive old.next) && (is_recessive seen || nat_lt 0 old.context.counters.rec)) ≡ false →
    ((l : List Level) → StandsFor old.shift l → IsRightPast l seen) →
    ((l : List Level) → StandsFor old.shift l → StandsFor shift (l ++ seen ∷ [])) →
    ((l : List Level) → StandsFor old.shift l → IsReadable (l ++ seen ∷ []) →
    (f : FrameValue) × IsLineButFor 1 f (l ++ seen ∷ []) → ⊥) →
    ((l : List Level) → StandsFor shift l → Acknowledges old.context.listen l next) →
    IsQuiet old (record old { shift = shift; next = next }) seen
receives_past old shift next seen stage receiver none right stands no_frame answers c place bits at kept body drives =
    let b : Bit = record { driven = old.next; seen = seen } in
    receives_quietly old shift next seen c place bits stage receiver
    (uncounted old.next seen (context_of old.context) none) at kept drives stands
    (λ d place bits stood h acknowledges.
    (let l = seen_of (frame_bits place bits) in
    let on = (right l stood).right in
    goes_on d place bits b h acknowledges (seen_if old.next seen old.context.counters.rec none) on
    (shows_none (l ++ seen ∷ []) (no_frame l stood on))))
    (λ stood. answers (seen_of (frame_bits place bits) ++ seen ∷ []) (stands (seen_of (frame_bits place bits)) stood))
