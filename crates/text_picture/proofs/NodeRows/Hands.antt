-- A bit at hand in short or in full: its letter, and the run of equal levels past it.
use Rattle.std.proofs.Common.{◌≡◌, inl, inr, not, Bool, true, false, if◌then◌else◌, Option, Some, None}
use Rattle.std.proofs.Common.{codes, refl, sym, ap, ap₂, ◌∙◌}
use Rattle.std.specs.Prelude.{option_map}
use Rattle.std.proofs.lemmas.Bool.{cases_Bool}
use Rattle.can_levels.specs.declared.level.Level.{Level}
use Rattle.can_levels.specs.declared.level.Level.TheVariants.{Recessive}
use Rattle.can_levels.specs.declared.segment.Segment.{Segment}
use Rattle.can_levels.specs.Places.{are_same}
use Rattle.can_node_rules.specs.declared.flag_kind.FlagKind.{FlagKind}
use Rattle.can_node_rules.specs.declared.phase.Phase.{Phase}
use Rattle.can_node_rules.specs.declared.phase.Phase.TheVariants.{Reset, Waiting, Idle, Frame, Flag, Delimiter}
use Rattle.can_node_rules.specs.declared.phase.Phase.TheVariants.{Intermission, Suspension}
use Rattle.text_frames.specs.declared.field.Field.TheVariants.{Intermission as IntermissionField}
use Rattle.text_frames.specs.declared.run.Run.{Run}
use Rattle.text_frames.specs.Fields.{field_if}
use Rattle.text_frames.specs.FrameBits.{is_intermission, one_level, run_on}
use Rattle.sja_replay.specs.declared.bit_event.BitEvent.{BitEvent}
use Rattle.sja_replay.specs.declared.short_bit.ShortBit.{ShortBit}
use Rattle.sja_replay.specs.Short.{IsInShort}
use Rattle.text_trace.specs.Hands.{IsHand}
use Rattle.text_trace.proofs.BitSaid.Shorts.{no_start}
use Rattle.text_picture.specs.EqualLevels.{is_start}
use Rattle.text_picture.specs.Letters.{frame_letter, phase_letter, letter}
use Rattle.text_picture.specs.Drawing.{run_past, hand_run, is_full, shown_letter, short_letter, letter_after}
use Rattle.text_picture.specs.Drawing.{hand_letter}

-- ---- in short

-- no frame begins with it
start_no : (h : BitEvent) (q : ShortBit) → IsInShort h q → is_start h ≡ false
start_no h q s =
    let idle : h.before.phase ≡ Idle → (h.driven ≡ Recessive) × (h.seen ≡ Recessive) = λ e.
    (let both = s.no_start (sym s.phase ∙ e) in (s.driven ∙ both.0, s.seen ∙ both.1)) in
    no_start h.before.phase h idle (s.phase_stays ∙ sym s.phase)

phase_shown : (p : Phase) (after_five : Bool) (h : BitEvent) → h.before.phase ≡ p →
    phase_letter p after_five h ≡ shown_letter p after_five h.before.segment h.before.flag
phase_shown Reset after_five h is = refl
phase_shown Waiting after_five h is = refl
phase_shown Idle after_five h is = refl
phase_shown Frame after_five h is =
    ap (λ p. frame_letter after_five (if is_intermission p then IntermissionField else field_if h.before.segment)) is
phase_shown Flag after_five h is = refl
phase_shown Delimiter after_five h is = refl
phase_shown Intermission after_five h is = refl
phase_shown Suspension after_five h is = refl

pub letter_shown : (bus : Level) (after_five : Bool) (h : BitEvent) → are_same h.seen bus ≡ true →
    is_start h ≡ false →
    letter bus after_five h ≡ shown_letter h.before.phase after_five h.before.segment h.before.flag
letter_shown bus after_five h seen start =
    let by_phase = phase_letter h.before.phase after_five h in
    ap₂ (λ (s b : Bool). if not s then codes "x" else if b then codes "S" else by_phase) seen start
    ∙ phase_shown h.before.phase after_five h refl

shown_same : (after_five : Bool) (p r : Phase) (s t : Option Segment) (f g : FlagKind) → p ≡ r → s ≡ t → f ≡ g →
    shown_letter p after_five s f ≡ shown_letter r after_five t g
shown_same after_five p r s t f g phase segment flag =
    ap (λ x. shown_letter x after_five s f) phase ∙ ap₂ (λ x y. shown_letter r after_five x y) segment flag

pub short_same : (bus : Level) (after_five : Bool) (h : BitEvent) (q : ShortBit) → IsInShort h q →
    letter bus after_five h ≡ short_letter bus after_five q
short_same bus after_five h q s =
    let shown = shown_letter q.phase after_five q.segment q.flag in
    let struck : are_same q.seen bus ≡ are_same h.seen bus = ap (λ l. are_same l bus) (sym s.seen) in
    elim (cases_Bool (are_same h.seen bus)) [
      | inl same ↦ letter_shown bus after_five h same (start_no h q s)
          ∙ shown_same after_five h.before.phase q.phase h.before.segment q.segment h.before.flag q.flag s.phase
          s.segment s.flag
          ∙ sym (ap (λ (b : Bool). if b then shown else codes "x") (struck ∙ same))
      | inr other ↦
          ap (λ (b : Bool). if not b then codes "x" else if is_start h then codes "S"
          else phase_letter h.before.phase after_five h) other
          ∙ sym (ap (λ (b : Bool). if b then shown else codes "x") (struck ∙ other))
    ]

-- ---- at hand

pub hand_run_is : (r : Option Run) (short : Option ShortBit) (own o : Option BitEvent) → IsHand short own o →
    hand_run r short own ≡ run_past r o
hand_run_is r None own o hand = ap (run_past r) (sym hand)
hand_run_is r (Some q) own o hand =
    let h = hand.happened in
    let anew : Option Run = Some (one_level h.seen) in
    let on = option_map (λ (run : Run). run_on run h.seen) r in
    ap (λ (l : Level). option_map (λ (run : Run). run_on run l) r) (sym hand.short.seen)
    ∙ sym (ap (λ (b : Bool). if b then anew else on) (start_no h q hand.short))
    ∙ sym (ap (run_past r) hand.is)

pub hand_letter_is : (bus : Level) (r : Option Run) (short : Option ShortBit) (own o : Option BitEvent) →
    IsHand short own o → hand_letter bus r short own ≡ letter_after bus r o
hand_letter_is bus r None own o hand = ap (letter_after bus r) (sym hand)
hand_letter_is bus r (Some q) own o hand =
    sym (short_same bus (is_full r) hand.happened q hand.short) ∙ sym (ap (letter_after bus r) hand.is)
