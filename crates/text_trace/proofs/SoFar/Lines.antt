-- Lines that are written one after another.
use Rattle.std.proofs.Common.{◌≡◌, ℕ, ◌+◌, ◌≤◌, Bool, List, [], ◌∷◌, ◌++◌, length}
use Rattle.std.proofs.Common.{drop, refl, sym, ap, ap₂, ◌∙◌, append-nil}
use Rattle.std.proofs.Math.ListN.{drop_of_length-le}
use Rattle.std.specs.Prelude.{Option, Some, None, false}
use Rattle.can_levels.specs.declared.level.Level.{Level}
use Rattle.can_node_rules.specs.declared.counters.Counters.{Counters}
use Rattle.sja_replay.specs.declared.bit_event.BitEvent.{BitEvent}
use Rattle.sja_replay.specs.declared.short_bit.ShortBit.{ShortBit}
use Rattle.sja_steps.specs.declared.step_record.StepRecord.{StepRecord}
use Rattle.sja_steps.specs.declared.step.Step.{Step}
use Rattle.text_trace.specs.TraceText.{joined, bit_line, steps_due}
use Rattle.text_trace.specs.declared.node_trace.NodeTrace.{NodeTrace}
use Rattle.text_trace.specs.Causes.{all_said}
use Rattle.text_trace.specs.Telling.{at_hand}
use Rattle.text_trace.specs.Hands.{hand_line, bit_event_of}
use Rattle.text_trace.specs.Passing.{told_lines}
use Rattle.text_trace.specs.Inside.Saying.{is_any, line_if}

-- ---- steps

-- none left
no_steps : (late : Bool) (bit node n : ℕ) (steps : List Step) → steps_due late bit node n steps [] ≡ []
no_steps late bit node n [] = refl
no_steps late bit node n (s ∷ steps) = refl

pub done_end : (late : Bool) (bit node i n : ℕ) (steps : List Step) (done : List StepRecord) (text whole : List ℕ) →
    length done ≤ i → text ++ steps_due late bit node n (drop i steps) (drop i done) ≡ whole → text ≡ whole
done_end late bit node i n steps done text whole past so_far =
    sym (append-nil text)
    ∙ ap (λ t. text ++ t) (sym (no_steps late bit node n (drop i steps)))
    ∙ ap (λ l. text ++ steps_due late bit node n (drop i steps) l) (sym (drop_of_length-le done past)) ∙ so_far

-- ---- bits

-- the line of what is told
pub told_is : (bit node : ℕ) (es : List (List ℕ)) → line_if (is_any es) bit node (joined es) ≡ bit_line bit node es
told_is bit node [] = refl
told_is bit node (e ∷ es) = refl

-- the line of a bit
pub event_written : (bit node : ℕ) (es : List (List ℕ)) (old new told : List ℕ) (begun : Bool) → told ≡ joined es →
    begun ≡ is_any es → new ≡ old ++ line_if begun bit node told → new ≡ old ++ bit_line bit node es
event_written bit node es old new told begun text any wrote =
    wrote ∙ ap₂ (λ b t. old ++ line_if b bit node t) any text ∙ ap (λ t. old ++ t) (told_is bit node es)

-- none where nothing is said
pub no_words : (bit node : ℕ) (es : List (List ℕ)) (old : List ℕ) → es ≡ [] → old ≡ old ++ bit_line bit node es
no_words bit node es old none =
    sym (append-nil old) ∙ ap (λ x. old ++ bit_line bit node x) (sym none)

-- none where there is no bit
pub no_line : (by_bytes : Bool) (bus : Level) (bit node : ℕ) (left : Counters) (short : Option ShortBit)
    (own : Option BitEvent) (old : List ℕ) → short ≡ None → own ≡ None →
    old ≡ old ++ hand_line by_bytes bus bit node left short own
no_line by_bytes bus bit node left short own old full none =
    sym (append-nil old) ∙ ap₂ (λ s x. old ++ hand_line by_bytes bus bit node left s x) (sym full) (sym none)

-- none where a bit is at hand in short of which nothing is said, and no step stands right before it
pub unsaid : (bus : Level) (bit : ℕ) (t : NodeTrace) (q : ShortBit) → t.short ≡ Some q →
    ((node : ℕ) → steps_due false bit node 1 t.steps.steps.now t.steps.done.now ≡ []) →
    ((by_bytes : Bool) → all_said by_bytes bus t.counters (bit_event_of q) ≡ []) → (node : ℕ) →
    told_lines bus bit node t ≡ []
unsaid bus bit t q is quiet none node =
    ap₂ (λ x y. x ++ y) (quiet node)
    (ap (λ s. hand_line t.steps.by_bytes bus bit node t.counters s (at_hand t.bits)) is
    ∙ ap (bit_line bit node) (none t.steps.by_bytes))
