-- The quick way of a bit of a frame for its transmitter.
use Rattle.std.proofs.Common.{◌≡◌, ◌↔◌, IsTrue, Bool, true, false, Option, Some, None, is_some}
use Rattle.std.proofs.Common.{List, [], ◌∷◌, ◌++◌, refl, ap, sym, subst, ◌∙◌, if◌then◌else◌}
use Rattle.can_levels.specs.declared.level.Level.{Level}
use Rattle.can_levels.specs.declared.level.Level.TheVariants.{Dominant, Recessive}
use Rattle.can_bits.specs.declared.shift.Shift.{Shift}
use Rattle.can_levels.specs.Acknowledging.{IsAckDue}
use Rattle.can_levels.specs.Places.{is_early_stuff}
use Rattle.can_bits.specs.Shifts.{StandsFor}
use Rattle.can_levels.specs.Streaming.{IsReadable, IsRightInside, ShowsFrame, IsOver}
use Rattle.can_bits.proofs.PackedLevels.{IsNextOf}
use Rattle.can_node_rules.specs.declared.role.Role.TheVariants.{Transmitter}
use Rattle.can_node_rules.specs.declared.request.Request.{Request}
use Rattle.can_node.specs.declared.stage.Stage.{Stage}
use Rattle.can_node.specs.declared.stage.Stage.TheVariants.{InFrame as StageInFrame}
use Rattle.can_node.specs.declared.after_bit.AfterBit.TheVariants.{InPiece}
use Rattle.can_node.specs.declared.node.Node.{Node}
use Rattle.can_node_rules.specs.Bits.{Bit, seen_of}
use Rattle.can_node_rules.specs.Context.{ContextValue}
use Rattle.can_node_rules.specs.Pieces.{Place}
use Rattle.can_node_rules.specs.Counting.{at_bit, frame_bit, lost_by, lose}
use Rattle.can_node_rules.specs.Events.{lost_in, lost_as}
use Rattle.can_node_rules.specs.Driving.{Drives, TransmitsNext}
use Rattle.can_node.specs.Standing.{context_of, HasBody}
use Rattle.can_node_rules.specs.KeptContexts.{IsKept}
use Rattle.can_node.specs.Stages.{At, IsReading}
use Rattle.can_node_rules.specs.UnfinishedPieces.{IsFramePlace, IsTransmitting, frame_bits}
use Rattle.can_node_rules.specs.TransmitterCauses.{cause_of_bit, kind_of}
use Rattle.can_node.proofs.Machine.Ats.{at_is}
use Rattle.can_node.proofs.Machine.FrameDrives.{transmitting_drives}
use Rattle.can_node.proofs.Machine.FrameTurns.{lost_at, transmit_turn, transmitting_by}
use Rattle.can_node_rules.proofs.Bits.FrameSites.{frame_at}
use Rattle.can_node.proofs.Machine.QuietReceiver.{inside_not_due}
use Rattle.can_node.proofs.Machine.Quiet.{GoesQuietly, IsQuiet}
use Rattle.can_node_rules.proofs.Transmission.OwnBits.{IsOwnBit}
use Rattle.can_node.proofs.Transmission.TransmitterBits.{transmits_more}

-- with a level that is seen as driven nothing is lost
pub none_lost : (held : Option Request) (l : List Level) (x : Level) → lost_by held l x x ≡ None
none_lost None l x = refl
none_lost (Some request) l Dominant = refl
none_lost (Some request) l Recessive = refl

-- nor is anything wrong with it, where the ACK slot is one in self test
none_wrong : (x : Level) (slot early self_test : Bool) → (slot ≡ true → self_test ≡ true) →
    cause_of_bit x x (kind_of slot early false) self_test ≡ None
none_wrong Dominant slot early self_test strict = refl
none_wrong Recessive false true self_test strict = refl
none_wrong Recessive false false self_test strict = refl
none_wrong Recessive true early true strict = refl
none_wrong Recessive true early false strict = absurd (let wrong : false ≡ true = strict refl in cc)

-- the next level of the line is what the transmitter drives
pub transmitter_goes : (old : Node) (shift : Shift) (next : Level) (c : ContextValue) (place : Place)
    (bits : List Bit) → old.context.role ≡ Transmitter →
    HasBody old.context old.body → IsNextOf shift old.body next →
    IsReading shift c (context_of old.context) place bits →
    Drives (context_of old.context) place bits next
transmitter_goes old shift next c place bits transmitter body next_of reading =
    let h = transmitting_by shift c (context_of old.context) place bits transmitter reading in
    transmitting_drives shift c (context_of old.context) place bits h.request next transmitter reading h.held
    (λ l others check part before rest y ack. next_of h.request.frame l others check part before rest y ack
    (body h.request h.held).1)

-- a bit of a frame that its transmitter sees as driven, and that the frame goes on with
pub transmits_quietly : (old : Node) (shift : Shift) (next seen : Level) (c : ContextValue) (place : Place)
    (bits : List Bit) → old.stage ≡ StageInFrame →
    old.context.role ≡ Transmitter → seen ≡ old.next → At old.stage old.shift c (context_of old.context) place bits →
    IsKept place c (context_of old.context) →
    Drives (context_of old.context) place bits old.next →
    ((l : List Level) → StandsFor old.shift l → StandsFor shift (l ++ seen ∷ [])) →
    ((request : Request) → old.context.held ≡ Some request →
    (c now : ContextValue) (place : Place) (bits : List Bit) → StandsFor old.shift (seen_of (frame_bits place bits)) →
    IsFramePlace place →
    old.context.self_test ≡ c.self_test → (h : IsTransmitting c now place bits) → request ≡ h.request →
    TransmitsNext h.request (frame_bits place bits) old.next →
    IsTransmitting c now place (bits ++ record { driven = old.next; seen = seen } ∷ [])) →
    (IsReading shift c (context_of old.context) place (bits ++ record { driven = old.next; seen = seen } ∷ []) →
    Drives (context_of old.context) place (bits ++ record { driven = old.next; seen = seen } ∷ []) next) →
    GoesQuietly (record old { shift = shift; next = next }) c (context_of old.context) place bits
    (record { driven = old.next; seen = seen })
transmits_quietly old shift next seen c place bits stage transmitter sees at kept drives stands transmits goes =
    let now = context_of old.context in
    let b : Bit = record { driven = old.next; seen = seen } in
    let l = seen_of (frame_bits place bits) in
    let reading = at_is StageInFrame old.stage old.shift c now place bits stage at in
    let none : lost_by now.held l old.next seen ≡ None =
    ap (λ x. lost_by now.held l old.next x) sees ∙ none_lost now.held l old.next in
    let lost : None ≡ lost_in now place bits b =
    sym (lost_at now place bits b reading.site ∙ ap (λ r. lost_as r now l b) transmitter ∙ none) in
    let steps : now ≡ at_bit now place bits b =
    sym (frame_at now place bits b reading.site ∙ ap (λ r. frame_bit r now l b) transmitter
    ∙ ap (λ o. if is_some o then lose now else now) none) in
    let h = transmitting_by old.shift c now place bits transmitter reading in
    let turn : At StageInFrame shift c (at_bit now place bits b) place (bits ++ b ∷ []) =
    transmit_turn old.shift shift c now place bits old.next seen old.context.self_test false h.request
    (InPiece StageInFrame) transmitter reading.site reading.stands h
    kept.self_test h.held drives (ap is_some lost) stands
    (λ d later place bits stood site same k one sends loses.
    (refl, transmits h.request h.held d later place bits stood site same k one sends)) in
    let there : IsReading shift c now place (bits ++ b ∷ []) =
    subst (λ k. At StageInFrame shift c k place (bits ++ b ∷ [])) (sym steps) turn in
    let P : Stage → Type 0 = λ s. At s shift c now place (bits ++ b ∷ []) in
    record {
      turn = record { lost = lost; steps = steps; at = subst P (sym stage) there };
      next = goes there;
    }

-- a right level that isn't the last one of the line
pub transmits_right : (old : Node) (shift : Shift) (next seen : Level) (slot : Bool) → old.stage ≡ StageInFrame →
    old.context.role ≡ Transmitter → seen ≡ old.next →
    ((l : List Level) → StandsFor old.shift l → IsTrue slot ↔ IsAckDue l) →
    (slot ≡ true → old.context.self_test ≡ true) →
    ((l : List Level) → StandsFor old.shift l → StandsFor shift (l ++ seen ∷ [])) →
    ((l : List Level) → StandsFor old.shift l → IsOver (l ++ seen ∷ []) → ⊥) →
    IsNextOf shift old.body next → IsQuiet old (record old { shift = shift; next = next }) seen
transmits_right old shift next seen slot stage transmitter sees due strict stands unended next_of c place bits at kept
    body drives =
    transmits_quietly old shift next seen c place bits stage transmitter sees at kept drives stands
    (λ request held c now place bits stood site same h one sends.
    (let l = seen_of (frame_bits place bits) in
    let early = is_early_stuff h.request.frame.ext l in
    let Wrong : Level → Type 0 = λ x. cause_of_bit old.next x (kind_of slot early false) old.context.self_test
    ≡ None in
    let Lost : Level → Type 0 = λ x. None ≡ lost_by (Some h.request) l old.next x in
    let told : IsOwnBit c now place bits old.next seen old.context.self_test slot early false None = record {
      site = site;
      same = same;
      transmitting = h;
      sends = sends;
      early_is = refl;
      lost_is = ap is_some (subst Lost (sym sees) (sym (none_lost (Some h.request) l old.next)));
      slot_is = due l stood;
      cause_is = subst Wrong (sym sees) (none_wrong old.next slot early old.context.self_test strict);
    } in
    transmits_more told (unended l stood)))
    (transmitter_goes old shift next c place (bits ++ record { driven = old.next; seen = seen } ∷ []) transmitter body
    next_of)

-- one of the stuffed part
pub transmits_inside : (old : Node) (shift : Shift) (next seen : Level) → old.stage ≡ StageInFrame →
    old.context.role ≡ Transmitter → seen ≡ old.next →
    ((l : List Level) → StandsFor old.shift l → IsRightInside l seen) →
    ((l : List Level) → StandsFor old.shift l → StandsFor shift (l ++ seen ∷ [])) →
    ((l : List Level) → StandsFor old.shift l →
    IsReadable (l ++ seen ∷ []) × ShowsFrame (l ++ seen ∷ []) None × (¬ IsOver (l ++ seen ∷ [])) × ¬ IsAckDue
    (l ++ seen ∷ [])) →
    IsNextOf shift old.body next → IsQuiet old (record old { shift = shift; next = next }) seen
transmits_inside old shift next seen stage transmitter sees right stands inside next_of =
    transmits_right old shift next seen false stage transmitter sees
    (λ l stood. (
      λ wrong. absurd (let no : false ≡ true = wrong in cc),
      λ due. absurd (inside_not_due l seen (right l stood) due),
    ))
    (λ wrong. absurd cc) stands (λ l stood. (inside l stood).2) next_of
