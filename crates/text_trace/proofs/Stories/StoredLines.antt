-- The line of a bit with which a node stored a frame stands in the trace.
use Rattle.std.proofs.Common.{◌≡◌, ◌<◌, ◌+◌, inl, inr, ℕ, zero, suc, false, Some, List, [], ◌∷◌, ◌++◌, length}
use Rattle.std.proofs.Common.{Bool, refl, sym, ap, ◌∙◌, subst, arith, append_assoc, append-nil}
use Rattle.std.specs.Prelude.{codes, slice_get}
use Rattle.std.proofs.lemmas.Bool.{cases_eq}
use Rattle.can_levels.specs.declared.level.Level.{Level}
use Rattle.can_frame.specs.Frame.{FrameValue}
use Rattle.can_node_rules.specs.declared.counters.Counters.{Counters}
use Rattle.sja_log.specs.Log.{NodeValue}
use Rattle.sja_plan.specs.Plan.{PlanValue}
use Rattle.sja_replay.specs.declared.reception.Reception.TheVariants.{Stored}
use Rattle.sja_replay.specs.declared.bit_event.BitEvent.{BitEvent}
use Rattle.text_report.specs.ReportLines.{numbered}
use Rattle.text_trace.specs.BitEvents.{restart_said, events_said, suspension_said, states_said, counters_said}
use Rattle.text_trace.specs.Causes.{start_cause, bit_cause, all_said}
use Rattle.text_trace.specs.Events.{abort_said, start_said, strike_said, acknowledgement_said, loss_said}
use Rattle.text_trace.specs.Events.{fault_said, flag_said, reception_in, end_said}
use Rattle.text_trace.specs.TraceText.{behind, joined, told_line, bit_line, steps_due, event_line, node_lines, bus_in}
use Rattle.text_trace.specs.TraceText.{NodeStory, counters_left, bit_lines, lines_to, late_steps, stories_text}
use Rattle.text_trace.specs.StoredLines.{stored_text, HasStoredLine}
use Rattle.text_trace.proofs.Stories.LogStories.{StoryAt}
use Rattle.text_report.proofs.WrittenLines.Numbered.{numbered_both}

-- texts that stand somewhere in another one
pub record Holds (whole part : List ℕ) : Type 0 where
  pub before : List ℕ
  pub after : List ℕ
  pub is : whole ≡ before ++ (part ++ after)

holds_self : (part : List ℕ) → Holds part part
holds_self part = record { before = []; after = []; is = sym (append-nil part) }

holds_left : (a b part : List ℕ) → Holds a part → Holds (a ++ b) part
holds_left a b part h = record {
  before = h.before;
  after = h.after ++ b;
  is = ap (λ l. l ++ b) h.is ∙ append_assoc h.before (part ++ h.after) b
      ∙ ap (λ l. h.before ++ l) (append_assoc part h.after b);
}

holds_right : (a b part : List ℕ) → Holds b part → Holds (a ++ b) part
holds_right a b part h = record {
  before = a ++ h.before;
  after = h.after;
  is = ap (λ l. a ++ l) h.is ∙ sym (append_assoc a h.before (part ++ h.after));
}

-- ---- among events

behind_holds : (es more : List (List ℕ)) (e : List ℕ) → Holds (behind (es ++ e ∷ more)) e
behind_holds [] more e = holds_right (codes "; ") (e ++ behind more) e (holds_left e (behind more) e (holds_self e))
behind_holds (x ∷ es) more e =
    holds_right (codes "; ") (x ++ behind (es ++ e ∷ more)) e
    (holds_right x (behind (es ++ e ∷ more)) e (behind_holds es more e))

joined_holds : (es more : List (List ℕ)) (e : List ℕ) → Holds (joined (es ++ e ∷ more)) e
joined_holds [] more e = holds_left e (behind more) e (holds_self e)
joined_holds (x ∷ es) more e = holds_right x (behind (es ++ e ∷ more)) e (behind_holds es more e)

-- the line has all events
line_is : (bit node : ℕ) (es more : List (List ℕ)) (e : List ℕ) →
    bit_line bit node (es ++ e ∷ more) ≡ told_line bit node (joined (es ++ e ∷ more))
line_is bit node [] more e = refl
line_is bit node (x ∷ es) more e = refl

-- among lists of texts one that has one text alone
said_with : (a r e s t c : List (List ℕ)) (x : List ℕ) → r ≡ x ∷ [] →
    a ++ r ++ e ++ s ++ t ++ c ≡ a ++ x ∷ (e ++ s ++ t ++ c)
said_with a r e s t c x is =
    ap (λ l. a ++ l ++ e ++ s ++ t ++ c) is
    ∙ ap (λ l. l ++ s ++ t ++ c) (append_assoc a (x ∷ []) e)
    ∙ ap (λ l. l ++ t ++ c) (append_assoc a (x ∷ e) s)
    ∙ ap (λ l. l ++ c) (append_assoc a (x ∷ (e ++ s)) t)
    ∙ append_assoc a (x ∷ (e ++ s ++ t)) c

-- what is said of a bit with which a frame was stored
event_stored : (bus : Level) (left : Counters) (h : BitEvent) (f : FrameValue) → h.events.received ≡ Some f →
    h.reception ≡ Some Stored →
    (es : List (List ℕ)) × (more : List (List ℕ)) × (events_said bus left h ≡ es ++ stored_text f ∷ more)
event_stored bus left h f received reception =
    let started = restart_said left h in
    let front = abort_said h ++ start_said h ++ strike_said bus h ++ acknowledgement_said h ++ loss_said h
    ++ fault_said h ++ flag_said h in
    let back = end_said h ++ suspension_said h ++ states_said h ++ counters_said h in (
      started ++ front,
      back,
      ap (λ l. started ++ l)
          (said_with front (reception_in h.events.received h.reception) (end_said h) (suspension_said h) (states_said h)
          (counters_said h) (stored_text f)
          (ap (λ r. reception_in r h.reception) received ∙ ap (λ x. reception_in (Some f) x) reception))
          ∙ sym (append_assoc started front (stored_text f ∷ back)),
    )

said_stored : (by_bytes : Bool) (bus : Level) (left : Counters) (h : BitEvent) (f : FrameValue) →
    h.events.received ≡ Some f → h.reception ≡ Some Stored →
    (es : List (List ℕ)) × (more : List (List ℕ)) × (all_said by_bytes bus left h ≡ es ++ stored_text f ∷ more)
said_stored by_bytes bus left h f received reception =
    let said = event_stored bus left h f received reception in
    let causes = start_cause by_bytes left h ++ bit_cause by_bytes h in (
      said.0,
      said.1 ++ causes,
      ap (λ l. l ++ causes) said.2 ∙ append_assoc (said.0) (stored_text f ∷ said.1) causes,
    )

-- ---- among lines

node_holds : (bus : Level) (bit node : ℕ) (s : NodeStory) (h : BitEvent) (f : FrameValue) →
    slice_get s.bits bit ≡ Some h → h.events.received ≡ Some f → h.reception ≡ Some Stored →
    (told : List ℕ) × Holds told (stored_text f) × Holds (node_lines bus bit node s) (told_line bit node told)
node_holds bus bit node s h f there received reception =
    let left = counters_left bit s.bits in
    let said = said_stored s.by_bytes bus left h f received reception in
    let told = joined (said.0 ++ stored_text f ∷ said.1) in
    let steps = steps_due false bit node 1 s.steps s.done in
    let is : event_line s.by_bytes bus bit node left (slice_get s.bits bit) ≡ told_line bit node told =
    ap (λ o. event_line s.by_bytes bus bit node left o) there ∙ ap (λ es. bit_line bit node es) said.2
    ∙ line_is bit node said.0 said.1 (stored_text f) in (
      told,
      joined_holds said.0 said.1 (stored_text f),
      holds_right steps (event_line s.by_bytes bus bit node left (slice_get s.bits bit)) (told_line bit node told)
          (subst (λ l. Holds l (told_line bit node told)) (sym is) (holds_self (told_line bit node told))),
    )

bits_hold : (bit : ℕ) (stories before after : List NodeStory) (s : NodeStory) (part : List ℕ) →
    stories ≡ before ++ s ∷ after → Holds (node_lines (bus_in bit stories) bit (length before) s) part →
    Holds (bit_lines bit stories) part
bits_hold bit stories before after s part split h =
    let f = node_lines (bus_in bit stories) bit in
    let is : bit_lines bit stories ≡ numbered f 0 before ++ (f (0 + length before) s
    ++ numbered f (0 + length before + 1) after) =
    ap (λ l. numbered f 0 l) split ∙ numbered_both f 0 before (s ∷ after) in
    let at : Holds (f (0 + length before) s) part =
    subst (λ n. Holds (f n s) part) (omega arith) h in
    subst (λ l. Holds l part) (sym is)
    (holds_right (numbered f 0 before) (f (0 + length before) s ++ numbered f (0 + length before + 1) after) part
    (holds_left (f (0 + length before) s) (numbered f (0 + length before + 1) after) part at))

lines_hold : (bits bit : ℕ) (stories : List NodeStory) (part : List ℕ) → bit < bits →
    Holds (bit_lines bit stories) part → Holds (lines_to bits stories) part
lines_hold zero bit stories part less h = absurd (omega (arith, less))
lines_hold (suc b) bit stories part less h = elim (cases_eq bit b) [
  | inl same ↦ holds_right (lines_to b stories) (bit_lines b stories) part
      (subst (λ n. Holds (bit_lines n stories) part) same h)
  | inr other ↦ holds_left (lines_to b stories) (bit_lines b stories) part
      (lines_hold b bit stories part (omega (arith, less, other)) h)
]

-- in a trace the bit of a node with which a frame was stored has its line
pub stored_line : (plan : PlanValue) (n : NodeValue) (k : ℕ) (stories : List NodeStory) (bits bit : ℕ)
    (trace : List ℕ) (at : StoryAt plan n k 0 stories) (h : BitEvent) (f : FrameValue) →
    trace ≡ stories_text bits stories → bit < bits → slice_get at.story.bits bit ≡ Some h →
    h.events.received ≡ Some f → h.reception ≡ Some Stored → HasStoredLine trace bit k f
stored_line plan n k stories bits bit trace at h f whole early there received reception =
    let node = node_holds (bus_in bit stories) bit k at.story h f there received reception in
    let part = told_line bit k node.0 in
    let here : Holds (node_lines (bus_in bit stories) bit (length at.before) at.story) part =
    subst (λ x. Holds (node_lines (bus_in bit stories) bit x at.story) part) (sym at.count) node.2 in
    let all : Holds trace part =
    subst (λ l. Holds l part) (sym whole)
    (holds_left (lines_to bits stories) (numbered (late_steps bits) 0 stories) part
    (lines_hold bits bit stories part early
    (bits_hold bit stories at.before at.after at.story part at.whole here))) in record {
      before = all.before;
      front = node.1.before;
      back = node.1.after;
      after = all.after;
      whole = all.is ∙ ap (λ l. all.before ++ (told_line bit k l ++ all.after)) node.1.is;
    }
