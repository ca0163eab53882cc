-- What is said of a bit in short.
use Rattle.std.proofs.Common.{◌≡◌, ◌&&◌, ◌||◌, not, ℕ, Bool, true, false, Option, Some, None, List, [], ◌∷◌, ◌++◌}
use Rattle.std.proofs.Common.{if◌then◌else◌, codes, refl, sym, ap, ap₂, ◌∙◌, append-nil}
use Rattle.std.proofs.lemmas.Bool.{eq-eqb}
use Rattle.can_levels.specs.declared.level.Level.{Level}
use Rattle.can_levels.specs.declared.level.Level.TheVariants.{Recessive}
use Rattle.can_levels.specs.Places.{are_same}
use Rattle.can_node_rules.specs.declared.counters.Counters.{Counters}
use Rattle.can_node_rules.specs.declared.phase.Phase.{Phase}
use Rattle.can_node_rules.specs.declared.phase.Phase.TheVariants.{Reset, Waiting, Idle, Frame, Flag, Delimiter}
use Rattle.can_node_rules.specs.declared.phase.Phase.TheVariants.{Intermission, Suspension}
use Rattle.can_node_rules.specs.declared.bit_events.BitEvents.{BitEvents}
use Rattle.can_node_rules.specs.Context.{is_held}
use Rattle.sja_replay.specs.declared.bit_event.BitEvent.{BitEvent}
use Rattle.sja_replay.specs.declared.short_bit.ShortBit.{ShortBit}
use Rattle.sja_replay.specs.declared.view.View.{View}
use Rattle.sja_replay.specs.Short.{IsInShort, IsNoStart}
use Rattle.sja_replay.proofs.BitTaken.Passed.{in_short}
use Rattle.text_trace.specs.Events.{said_if, abort_text, abort_said, start_text, start_said, strike_text, strike_said}
use Rattle.text_trace.specs.Events.{is_frame, is_dominant, is_start_in, acknowledgement_said, loss_in, loss_said}
use Rattle.text_trace.specs.Events.{fault_in, fault_said, is_flag, has_fault, flag_said, reception_in, reception_said}
use Rattle.text_trace.specs.Events.{end_in, end_said}
use Rattle.text_trace.specs.Names.{flag_name, level_name}
use Rattle.text_trace.specs.Places.{phase_text, where_text, segment_text, owner_text}
use Rattle.text_trace.specs.BitEvents.{begins_suspension, suspension_said, confinement_said, states_said, have_same}
use Rattle.text_trace.specs.BitEvents.{counters_text, counters_said, restart_said, events_said, counters_after}
use Rattle.text_trace.specs.Causes.{start_cause, bit_cause, cause_text, all_said}
use Rattle.text_trace.specs.Hands.{view_of, bit_event_of, hand_line, IsHand, counters_of, driven_of}
use Rattle.text_trace.proofs.BitSaid.Sayings.{confinement_none}
use Rattle.text_trace.specs.TraceText.{driven_in, event_line, bit_line}

none_both : {A : Type 0} (a b : List A) → a ≡ [] → b ≡ [] → a ++ b ≡ []
none_both a b none nor = ap₂ (λ x y. x ++ y) none nor

behind_none : {A : Type 0} (a b c : List A) → a ≡ [] → b ≡ c → a ++ b ≡ c
behind_none a b c none is = ap₂ (λ x y. x ++ y) none is

before_none : {A : Type 0} (a b c : List A) → a ≡ c → b ≡ [] → a ++ b ≡ c
before_none a b c is none = ap₂ (λ x y. x ++ y) is none ∙ append-nil c

-- ---- what doesn't begin where the phase stays

pub no_flag : (b : Bool) → (b && (not b || false)) ≡ false
no_flag true = refl
no_flag false = refl

no_suspension : (p : Phase) → begins_suspension p p ≡ false
no_suspension Reset = refl
no_suspension Waiting = refl
no_suspension Idle = refl
no_suspension Frame = refl
no_suspension Flag = refl
no_suspension Delimiter = refl
no_suspension Intermission = refl
no_suspension Suspension = refl

pub no_start : (p : Phase) (h : BitEvent) → (p ≡ Idle → (h.driven ≡ Recessive) × (h.seen ≡ Recessive)) →
    h.after.phase ≡ p → is_start_in p h ≡ false
no_start Reset h idle stays = refl
no_start Waiting h idle stays = refl
no_start Idle h idle stays =
    let both = idle refl in ap₂ (λ a b. is_dominant a || is_dominant b) both.0 both.1
no_start Frame h idle stays = refl
no_start Flag h idle stays = refl
no_start Delimiter h idle stays = refl
no_start Intermission h idle stays = ap is_frame stays
no_start Suspension h idle stays = ap is_frame stays

-- nor do counters change where they stay
pub same_counters : (k : Counters) → have_same k k ≡ true
same_counters k = ap₂ (λ a b. a && b) (eq-eqb k.tec k.tec refl) (eq-eqb k.rec k.rec refl)

-- ---- the place

place_same : (p : Phase) (v w : View) → v.segment ≡ w.segment → v.transmits ≡ w.transmits → v.flag ≡ w.flag →
    phase_text p v ≡ phase_text p w
place_same Reset v w segment transmits flag = refl
place_same Waiting v w segment transmits flag = refl
place_same Idle v w segment transmits flag = refl
place_same Frame v w segment transmits flag =
    ap₂ (λ s t. segment_text s ++ owner_text t) segment transmits
place_same Flag v w segment transmits flag = ap flag_name flag
place_same Delimiter v w segment transmits flag = refl
place_same Intermission v w segment transmits flag = refl
place_same Suspension v w segment transmits flag = refl

where_same : (h : BitEvent) (q : ShortBit) → IsInShort h q → where_text h.before ≡ where_text (view_of q)
where_same h q s =
    ap (λ p. phase_text p h.before) s.phase
    ∙ place_same q.phase h.before (view_of q) s.segment s.transmits s.flag

-- ---- event by event

restart_is : (left : Counters) (h : BitEvent) (q : ShortBit) → IsInShort h q →
    restart_said left h ≡ restart_said left (bit_event_of q)
restart_is left h q s = ap (λ (k : Counters). said_if (not (have_same left k)) (counters_text k)) s.counters

strike_is : (bus : Level) (h : BitEvent) (q : ShortBit) → IsInShort h q →
    strike_said bus h ≡ strike_said bus (bit_event_of q)
strike_is bus h q s =
    let said : Level → List ℕ → List (List ℕ) = λ l t.
    said_if (not (are_same l bus)) (codes "struck: sees " ++ (level_name l ++ codes " (") ++ t ++ codes ")") in
    ap₂ said s.seen (where_same h q s)

acknowledgement_is : (h : BitEvent) (q : ShortBit) → IsInShort h q →
    acknowledgement_said h ≡ acknowledgement_said (bit_event_of q)
acknowledgement_is h q s =
    let said : Phase → Bool → Level → List (List ℕ) = λ p t d.
    said_if (is_frame p && not t && is_dominant d) (codes "acknowledges") in
    ap₂ (λ p t. said p t h.driven) s.phase s.transmits ∙ ap (λ d. said q.phase q.transmits d) s.driven

start_none : (h : BitEvent) (q : ShortBit) → IsInShort h q → start_said h ≡ []
start_none h q s =
    let idle : h.before.phase ≡ Idle → (h.driven ≡ Recessive) × (h.seen ≡ Recessive) = λ e.
    (let both = s.no_start (sym s.phase ∙ e) in (s.driven ∙ both.0, s.seen ∙ both.1)) in
    ap (λ b. said_if b (start_text h.after.transmits h.before.held))
    (no_start h.before.phase h idle (s.phase_stays ∙ sym s.phase))

flag_none : (h : BitEvent) (q : ShortBit) → IsInShort h q → flag_said h ≡ []
flag_none h q s =
    let said : Bool → List (List ℕ) = λ b. said_if b (flag_name h.after.flag ++ codes " follows") in
    let fault = ap (λ (e : BitEvents). e.fault) s.told in
    ap₂ (λ p f. said (is_flag p && (not (is_flag h.before.phase) || has_fault f))) (s.phase_stays ∙ sym s.phase) fault
    ∙ ap said (no_flag (is_flag h.before.phase))

suspension_none : (h : BitEvent) (q : ShortBit) → IsInShort h q → suspension_said h ≡ []
suspension_none h q s =
    let said : Bool → List (List ℕ) = λ b. said_if b (codes "suspend transmission") in
    ap (λ p. said (begins_suspension h.before.phase p)) (s.phase_stays ∙ sym s.phase)
    ∙ ap said (no_suspension h.before.phase)

states_none : (h : BitEvent) (q : ShortBit) → IsInShort h q → states_said h ≡ []
states_none h q s =
    ap₂ (λ o r. if o then codes "BUS-OFF" ∷ [] else if r then codes "back from bus-off" ∷ []
    else confinement_said h.before.counters h.after.counters) (ap (λ (e : BitEvents). e.went_off) s.told)
    (ap (λ (e : BitEvents). e.recovered) s.told)
    ∙ ap (λ k. confinement_said h.before.counters k) (s.counters_stay ∙ sym s.counters)
    ∙ confinement_none h.before.counters

counters_none : (h : BitEvent) (q : ShortBit) → IsInShort h q → counters_said h ≡ []
counters_none h q s =
    ap (λ k. said_if (not (have_same k h.after.counters)) (counters_text h.after.counters))
    (s.counters ∙ sym s.counters_stay)
    ∙ ap (λ b. said_if (not b) (counters_text h.after.counters)) (same_counters h.after.counters)

-- ---- all of them

-- after these events none is said
abbrev short_said : Level → Counters → ShortBit → List (List ℕ)
short_said bus left q =
    restart_said left (bit_event_of q) ++ (strike_said bus (bit_event_of q) ++ acknowledgement_said (bit_event_of q))

all_is : (bus : Level) (left : Counters) (h : BitEvent) (q : ShortBit) → IsInShort h q →
    events_said bus left h ≡ short_said bus left q
all_is bus left h q s =
    let told = s.told in
    let abort : abort_said h ≡ [] = ap (λ b. said_if b (abort_text (is_held h.before.held))) s.aborted in
    let loss : loss_said h ≡ [] = ap (λ (e : BitEvents). loss_in e.lost) told in
    let fault : fault_said h ≡ [] = ap (λ (e : BitEvents). fault_in e.fault h.events.receiving) told in
    let reception : reception_said h ≡ [] = ap (λ (e : BitEvents). reception_in e.received h.reception) told in
    let end : end_said h ≡ [] = ap (λ (e : BitEvents). end_in e.ended h.before.held) told in
    let begun = none_both _ _ abort (start_none h q s) in
    let struck = behind_none _ _ _ begun (strike_is bus h q s) in
    let said = ap₂ (λ x y. x ++ y) struck (acknowledgement_is h q s) in
    let faults = before_none _ _ _ (before_none _ _ _ said loss) fault in
    let frames = before_none _ _ _ (before_none _ _ _ faults (flag_none h q s)) reception in
    let ends = before_none _ _ _ (before_none _ _ _ frames end) (suspension_none h q s) in
    ap₂ (λ x y. x ++ y) (restart_is left h q s)
    (before_none _ _ _ (before_none _ _ _ ends (states_none h q s)) (counters_none h q s))

-- the bit event that stands for the bit is one of those that it may be
own_short : (q : ShortBit) → IsNoStart q → IsInShort (bit_event_of q) q
own_short q quiet = in_short q (bit_event_of q) None (not q.transmits) refl refl refl refl refl refl refl refl quiet

events_same : (bus : Level) (left : Counters) (h : BitEvent) (q : ShortBit) → IsInShort h q →
    events_said bus left (bit_event_of q) ≡ events_said bus left h
events_same bus left h q s =
    all_is bus left (bit_event_of q) q (own_short q s.no_start) ∙ sym (all_is bus left h q s)

-- ---- causes

-- none where the counters stay
no_cause : (by_bytes : Bool) → (by_bytes && not true) ≡ false
no_cause true = refl
no_cause false = refl

cause_none : (by_bytes : Bool) (h : BitEvent) (q : ShortBit) → IsInShort h q → bit_cause by_bytes h ≡ []
cause_none by_bytes h q s =
    ap (λ k. said_if (by_bytes && not (have_same k h.after.counters)) (cause_text h)) (s.counters ∙ sym s.counters_stay)
    ∙ ap (λ b. said_if (by_bytes && not b) (cause_text h)) (same_counters h.after.counters)
    ∙ ap (λ b. said_if b (cause_text h)) (no_cause by_bytes)

start_is : (by_bytes : Bool) (left : Counters) (h : BitEvent) (q : ShortBit) → IsInShort h q →
    start_cause by_bytes left (bit_event_of q) ≡ start_cause by_bytes left h
start_is by_bytes left h q s =
    ap (λ (k : Counters). said_if (by_bytes && not (have_same left k)) (codes "set by its start")) (sym s.counters)

pub all_same : (by_bytes : Bool) (bus : Level) (left : Counters) (h : BitEvent) (q : ShortBit) → IsInShort h q →
    all_said by_bytes bus left (bit_event_of q) ≡ all_said by_bytes bus left h
all_same by_bytes bus left h q s =
    let causes = ap₂ (λ x y. x ++ y) (start_is by_bytes left h q s)
    (cause_none by_bytes (bit_event_of q) q (own_short q s.no_start) ∙ sym (cause_none by_bytes h q s)) in
    ap₂ (λ x y. x ++ y) (events_same bus left h q s) causes

-- ---- a bit at hand

pub hand_counters : (short : Option ShortBit) (own o : Option BitEvent) → IsHand short own o →
    counters_of short own ≡ counters_after o
hand_counters None own o hand = ap counters_after (sym hand)
hand_counters (Some q) own o hand = sym hand.short.counters_stay ∙ ap counters_after (sym hand.is)

pub hand_driven : (short : Option ShortBit) (own o : Option BitEvent) → IsHand short own o →
    driven_of short own ≡ driven_in o
hand_driven None own o hand = ap driven_in (sym hand)
hand_driven (Some q) own o hand = sym hand.short.driven ∙ ap driven_in (sym hand.is)

pub hand_said : (by_bytes : Bool) (bus : Level) (bit node : ℕ) (left : Counters) (short : Option ShortBit)
    (own o : Option BitEvent) → IsHand short own o →
    hand_line by_bytes bus bit node left short own ≡ event_line by_bytes bus bit node left o
hand_said by_bytes bus bit node left None own o hand = ap (λ x. event_line by_bytes bus bit node left x) (sym hand)
hand_said by_bytes bus bit node left (Some q) own o hand =
    ap (bit_line bit node) (all_same by_bytes bus left hand.happened q hand.short)
    ∙ ap (λ x. event_line by_bytes bus bit node left x) (sym hand.is)

-- nothing is said where the node saw what the bus had, acknowledged nothing and has the counters that it had
pub plain_none : (by_bytes : Bool) (bus : Level) (left : Counters) (q : ShortBit) → are_same q.seen bus ≡ true →
    have_same left q.counters ≡ true → IsNoStart q →
    (is_frame q.phase && not q.transmits && is_dominant q.driven) ≡ false →
    all_said by_bytes bus left (bit_event_of q) ≡ []
plain_none by_bytes bus left q seen kept quiet silent =
    let events : events_said bus left (bit_event_of q) ≡ [] =
    all_is bus left (bit_event_of q) q (own_short q quiet)
    ∙ none_both _ _ (ap (λ b. said_if (not b) (counters_text q.counters)) kept)
    (none_both _ _ (ap (λ b. said_if (not b) (strike_text (bit_event_of q))) seen)
    (ap (λ b. said_if b (codes "acknowledges")) silent)) in
    let started : start_cause by_bytes left (bit_event_of q) ≡ [] =
    ap (λ b. said_if (by_bytes && not b) (codes "set by its start")) kept
    ∙ ap (λ b. said_if b (codes "set by its start")) (no_cause by_bytes) in
    none_both _ _ events (none_both _ _ started (cause_none by_bytes (bit_event_of q) q (own_short q quiet)))
