-- A bit of which nothing is told has no line, but that of a restart right before it.
use Rattle.std.proofs.Common.{◌≡◌, ℕ, Bool, true, false, Option, Some, None, [], ◌++◌}
use Rattle.std.proofs.Common.{refl, sym, ap, ap₂, ◌∙◌, append-nil}
use Rattle.std.specs.Prelude.{if◌then◌else◌}
use Rattle.can_node_rules.specs.declared.bit_events.BitEvents.{BitEvents}
use Rattle.can_node_rules.specs.declared.counters.Counters.{Counters}
use Rattle.can_node_rules.specs.Outcomes.{nothing}
use Rattle.sja_replay.specs.declared.reception.Reception.{Reception}
use Rattle.sja_replay.specs.declared.bit_event.BitEvent.{BitEvent}
use Rattle.sja_replay.specs.declared.short_bit.ShortBit.{ShortBit}
use Rattle.sja_replay.specs.Short.{IsInShort}
use Rattle.text_trace.proofs.BitSaid.Shorts.{hand_counters}
use Rattle.text_trace.specs.BitEvents.{counters_after}
use Rattle.text_trace.specs.TraceText.{line_where}
use Rattle.text_trace.specs.Hands.{IsBit, IsHand}
use Rattle.text_candump.specs.ControllerStates.{state_by, new_state}
use Rattle.text_candump.specs.declared.controller_state.ControllerState.{ControllerState}
use Rattle.text_candump.specs.declared.controller_state.ControllerState.TheVariants.{Active, Warning, Passive}
use Rattle.text_candump.specs.declared.error_frame.ErrorFrame.{ErrorFrame}
use Rattle.text_candump.specs.declared.error_frame.ErrorFrame.TheVariants.{Restarted}
use Rattle.text_candump.specs.BitErrors.{bit_error, bit_error_by, is_overrun, change_in, is_restart}
use Rattle.text_candump.specs.CandumpText.{stored_frame, stored_line, error_line, restart_line, bit_lines, node_lines}
use Rattle.text_candump.specs.Inside.CandumpProgress.{counters_in, left_by, short_lines}

-- a state isn't new after itself
same_state : (s : ControllerState) → new_state s s ≡ None
same_state Active = refl
same_state Warning = refl
same_state Passive = refl

nowhere : (b : Bool) → line_where b [] ≡ []
nowhere true = refl
nowhere false = refl

module _ (h : BitEvent) (q : ShortBit) (s : IsInShort h q) where
  -- the states before and after the bit are the same
  no_change : change_in h ≡ None
  no_change =
      ap (λ (k : Counters). new_state (state_by h.before.counters) (state_by k)) (s.counters_stay ∙ sym s.counters)
      ∙ same_state (state_by h.before.counters)

  no_error : bit_error h ≡ None
  no_error =
      let still = nothing h.events.receiving in
      ap (λ (e : BitEvents). bit_error_by e (is_overrun h.reception) (change_in h) h.after.counters) s.told
      ∙ ap (λ (f : Option Reception). bit_error_by still (is_overrun f) (change_in h) h.after.counters) s.reception
      ∙ ap (λ (c : Option ControllerState). bit_error_by still false c h.after.counters) no_change

  stored : stored_frame h.events.received h.reception ≡ None
  stored = ap (λ (e : BitEvents). stored_frame e.received h.reception) s.told

  -- its lines are that of a restart right before it
  pub short_lines_are : (errors : Bool) (bit node : ℕ) (left : Counters) →
      bit_lines errors bit node left h ≡ restart_line errors bit node left q.counters
  short_lines_are errors bit node left =
      let last = restart_line errors bit node left q.counters in
      ap₂ (λ a b. a ++ b)
      (ap₂ (λ a b. a ++ b) (ap (λ (k : Counters). restart_line errors bit node left k) s.counters)
      (ap (stored_line bit node) stored))
      (ap (λ (e : Option ErrorFrame). line_where errors (error_line bit node e)) no_error ∙ nowhere errors)
      ∙ append-nil (last ++ []) ∙ append-nil last

-- none, where the driver started nothing that was bus-off
pub silent_lines : (errors : Bool) (bit node : ℕ) (left : Counters) (q : ShortBit) (o : Option BitEvent) →
    IsBit q o → is_restart left q.counters ≡ false → node_lines errors bit node left o ≡ []
silent_lines errors bit node left q o b none =
    ap (node_lines errors bit node left) b.is ∙ short_lines_are b.happened q b.short errors bit node left
    ∙ ap (λ (r : Bool). line_where errors (error_line bit node (if r then Some Restarted else None))) none
    ∙ nowhere errors

-- ---- what is at hand

pub hand_lines_are : (errors : Bool) (bit node : ℕ) (left : Counters) (short : Option ShortBit)
    (own o : Option BitEvent) → IsHand short own o →
    short_lines errors bit node left (counters_in short) own ≡ node_lines errors bit node left o
hand_lines_are errors bit node left None own o hand = ap (node_lines errors bit node left) (sym hand)
hand_lines_are errors bit node left (Some q) own o hand =
    sym (ap (node_lines errors bit node left) hand.is
    ∙ short_lines_are hand.happened q hand.short errors bit node left)

-- the counters that it left
pub hand_left : (short : Option ShortBit) (own o : Option BitEvent) → IsHand short own o →
    left_by (counters_in short) own ≡ counters_after o
hand_left None own o hand = hand_counters None own o hand
hand_left (Some q) own o hand = hand_counters (Some q) own o hand
