-- The text of the stories so far.
use Rattle.std.proofs.Common.{◌≡◌, ℕ, ◌+◌, ◌<◌, ◌≤◌, zero, suc, true, false, List, [], ◌∷◌, ◌++◌, map}
use Rattle.std.proofs.Common.{refl, sym, ap, ap₂, ◌∙◌, arith}
use Rattle.std.specs.Prelude.{slice_get}
use Rattle.can_levels.specs.declared.level.Level.{Level}
use Rattle.lemmas.specs.Related.{EachRelated}
use Rattle.sja_log.specs.Log.{NodeValue, RunValue}
use Rattle.sja_plan.specs.Plan.{PlanValue}
use Rattle.text_report.specs.ReportLines.{numbered}
use Rattle.can_levels.specs.BusLevel.{wired}
use Rattle.text_trace.specs.declared.node_trace.NodeTrace.{NodeTrace}
use Rattle.text_trace.specs.BitEvents.{counters_after}
use Rattle.text_trace.specs.Telling.{at_hand}
use Rattle.text_trace.specs.TraceText.{NodeStory, IsTrace, steps_due, event_line, node_lines, driven_in, bus_in}
use Rattle.text_trace.specs.TraceText.{counters_left, bit_lines, lines_to, late_steps}
use Rattle.text_trace.specs.TraceProgress.{IsShown, IsSameTo, NodeTraceEnds, IsUpTo}
use Rattle.text_trace.specs.TraceProgress.{node_trace_lines, driven_now, bit_text, late_lines}
use Rattle.text_trace.proofs.Stories.NodeStories.{HaveBegun, HasLate, all_told}
use Rattle.text_trace.proofs.Stories.Telling.{before_same}

-- ---- the bits before are told alike

same_line : (bits b : ℕ) (bus : Level) (k : ℕ) (old new : NodeStory) → b < bits → IsSameTo bits old new →
    node_lines bus b k new ≡ node_lines bus b k old
same_line bits b bus k old new less same =
    let before = before_same b old.bits new.bits (λ i early. same.same i (omega (arith, less, early))) in
    ap₂ (λ l d. steps_due false b k 1 l d
    ++ event_line new.by_bytes bus b k (counters_left b new.bits) (slice_get new.bits b)) same.steps same.done
    ∙ ap₂ (λ c o. steps_due false b k 1 old.steps old.done ++ event_line new.by_bytes bus b k c o)
    (ap counters_after before)
    (same.same b less)
    ∙ ap (λ r. steps_due false b k 1 old.steps old.done
    ++ event_line r bus b k (counters_left b old.bits) (slice_get old.bits b)) same.by_bytes

same_lines : (bits b : ℕ) (bus : Level) (k : ℕ) (olds news : List NodeStory) → b < bits →
    EachRelated (IsSameTo bits) olds news → numbered (node_lines bus b) k news ≡ numbered (node_lines bus b) k olds
same_lines bits b bus k [] [] less same = refl
same_lines bits b bus k [] (n ∷ news) less same = absurd same
same_lines bits b bus k (o ∷ olds) [] less same = absurd same
same_lines bits b bus k (o ∷ olds) (n ∷ news) less same =
    ap₂ (λ l r. l ++ r) (same_line bits b bus k o n less same.0) (same_lines bits b bus (k + 1) olds news less same.1)

same_levels : (bits b : ℕ) (olds news : List NodeStory) → b < bits → EachRelated (IsSameTo bits) olds news →
    map (λ (s : NodeStory). driven_in (slice_get s.bits b)) news
    ≡ map (λ (s : NodeStory). driven_in (slice_get s.bits b)) olds
same_levels bits b [] [] less same = refl
same_levels bits b [] (n ∷ news) less same = absurd same
same_levels bits b (o ∷ olds) [] less same = absurd same
same_levels bits b (o ∷ olds) (n ∷ news) less same =
    ap₂ (λ l r. l ∷ r) (ap driven_in (same.0.same b less)) (same_levels bits b olds news less same.1)

same_bit : (bits b : ℕ) (olds news : List NodeStory) → b < bits → EachRelated (IsSameTo bits) olds news →
    bit_lines b news ≡ bit_lines b olds
same_bit bits b olds news less same =
    ap (λ levels. numbered (node_lines (wired levels) b) 0 news) (same_levels bits b olds news less same)
    ∙ same_lines bits b (bus_in b olds) 0 olds news less same

pub same_bits : (bits n : ℕ) (olds news : List NodeStory) → n ≤ bits → EachRelated (IsSameTo bits) olds news →
    lines_to n news ≡ lines_to n olds
same_bits bits zero olds news few same = refl
same_bits bits (suc b) olds news few same =
    ap₂ (λ l r. l ++ r) (same_bits bits b olds news (omega (arith, few)) same)
    (same_bit bits b olds news (omega (arith, few)) same)

-- ---- the bit at hand

shown_line : (bit : ℕ) (bus : Level) (k : ℕ) (t : NodeTrace) (s : NodeStory) → IsShown bit t s →
    node_trace_lines bus bit k t ≡ node_lines bus bit k s
shown_line bit bus k t s shown =
    ap₂ (λ l d. steps_due false bit k 1 l d ++ event_line t.steps.by_bytes bus bit k t.counters (at_hand t.bits))
    shown.steps
    shown.done
    ∙ ap₂ (λ c o. steps_due false bit k 1 s.steps s.done ++ event_line t.steps.by_bytes bus bit k c o) shown.counters
    shown.brought
    ∙ ap (λ r. steps_due false bit k 1 s.steps s.done
    ++ event_line r bus bit k (counters_left bit s.bits) (slice_get s.bits bit)) shown.by_bytes

shown_lines : (bit : ℕ) (bus : Level) (k : ℕ) (ts : List NodeTrace) (ss : List NodeStory) →
    EachRelated (IsShown bit) ts ss → numbered (node_trace_lines bus bit) k ts ≡ numbered (node_lines bus bit) k ss
shown_lines bit bus k [] [] shown = refl
shown_lines bit bus k [] (s ∷ ss) shown = absurd shown
shown_lines bit bus k (t ∷ ts) [] shown = absurd shown
shown_lines bit bus k (t ∷ ts) (s ∷ ss) shown =
    ap₂ (λ l r. l ++ r) (shown_line bit bus k t s shown.0) (shown_lines bit bus (k + 1) ts ss shown.1)

shown_levels : (bit : ℕ) (ts : List NodeTrace) (ss : List NodeStory) → EachRelated (IsShown bit) ts ss →
    driven_now ts ≡ map (λ (s : NodeStory). driven_in (slice_get s.bits bit)) ss
shown_levels bit [] [] shown = refl
shown_levels bit [] (s ∷ ss) shown = absurd shown
shown_levels bit (t ∷ ts) [] shown = absurd shown
shown_levels bit (t ∷ ts) (s ∷ ss) shown =
    ap₂ (λ l r. l ∷ r) (ap driven_in shown.0.brought) (shown_levels bit ts ss shown.1)

pub shown_bit : (bit : ℕ) (ts : List NodeTrace) (ss : List NodeStory) → EachRelated (IsShown bit) ts ss →
    bit_text bit ts ≡ bit_lines bit ss
shown_bit bit ts ss shown =
    ap (λ levels. numbered (node_trace_lines (wired levels) bit) 0 ts) (shown_levels bit ts ss shown)
    ∙ shown_lines bit (bus_in bit ss) 0 ts ss shown

-- ---- bit by bit

pub up_first : (plan : PlanValue) (nodes : List NodeValue) (ts : List NodeTrace) → HaveBegun plan nodes ts →
    IsUpTo plan nodes 0 ts []
up_first plan nodes ts begun = record { stories = begun.stories; have = begun.have; text_is = refl }

late_are : (bits k : ℕ) (ts : List NodeTrace) (ss : List NodeStory) → EachRelated HasLate ts ss →
    numbered (late_lines bits) k ts ≡ numbered (late_steps bits) k ss
late_are bits k [] [] late = refl
late_are bits k [] (s ∷ ss) late = absurd late
late_are bits k (t ∷ ts) [] late = absurd late
late_are bits k (t ∷ ts) (s ∷ ss) late =
    ap₂ (λ l r. l ++ r) (ap₂ (λ l d. steps_due true bits k 1 l d) late.0.steps late.0.done)
    (late_are bits (k + 1) ts ss late.1)

pub up_all : (plan : PlanValue) (log : RunValue) (olds news : List NodeTrace) (old new : List ℕ) →
    IsUpTo plan log.nodes log.bits olds old → EachRelated NodeTraceEnds olds news →
    new ≡ old ++ numbered (late_lines log.bits) 0 news → IsTrace plan log new
up_all plan log olds news old new up on wrote =
    let all = all_told 0 plan log.bits log.nodes olds news up.stories up.have on in
    let before = up.text_is ∙ sym (same_bits log.bits log.bits up.stories all.stories (omega arith) all.same) in
    record {
      stories = all.stories;
      are = all.are;
      whole = wrote ∙ ap₂ (λ l r. l ++ r) before (late_are log.bits 0 news all.stories all.late);
    }
