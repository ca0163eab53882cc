-- Node traces that go on past bits in short, and others in their place, that have each bit at hand in full.
use Rattle.std.proofs.Common.{◌≡◌, ℕ, ◌+◌, suc, Bool, false, Option, None, List, [], ◌∷◌, ◌++◌}
use Rattle.std.proofs.Common.{◌==◌, refl, sym, ap, ap₂, ◌∙◌, subst, arith}
use Rattle.std.specs.Prelude.{slice_get}
use Rattle.can_levels.specs.declared.level.Level.{Level}
use Rattle.lemmas.specs.Related.{EachRelated}
use Rattle.sja_log.specs.Log.{NodeValue, RunValue}
use Rattle.sja_plan.specs.Plan.{PlanValue, steps_at}
use Rattle.text_report.specs.ReportLines.{numbered}
use Rattle.sja_replay.specs.declared.bit_event.BitEvent.{BitEvent}
use Rattle.sja_replay.specs.declared.replay.Replay.{Replay}
use Rattle.sja_replay.specs.declared.short_bit.ShortBit.{ShortBit}
use Rattle.sja_steps.specs.declared.step.Step.{Step}
use Rattle.can_levels.specs.BusLevel.{wired}
use Rattle.text_trace.specs.declared.node_steps.NodeSteps.{NodeSteps}
use Rattle.text_trace.specs.declared.node_trace.NodeTrace.{NodeTrace}
use Rattle.text_trace.specs.BitEvents.{counters_after}
use Rattle.sja_replay.specs.ReplayProgress.{HasCome}
use Rattle.text_trace.specs.Telling.{at_hand}
use Rattle.text_trace.specs.TraceText.{NodeStory, IsTrace, steps_due, event_line}
use Rattle.text_trace.specs.TraceProgress.{HasTold, HaveTold, IsShown, IsSameTo, NodeTraceEnds, AreUnderway}
use Rattle.text_trace.specs.TraceProgress.{IsUpTo}
use Rattle.text_trace.specs.TraceProgress.{node_trace_lines, driven_now, bit_text, late_lines}
use Rattle.text_trace.specs.Hands.{IsHand}
use Rattle.text_trace.specs.Passing.{NodeTracePasses, IsFor, ComesTo, told_lines, hands_driven, hands_text}
use Rattle.text_trace.proofs.BitSaid.Shorts.{hand_counters, hand_driven, hand_said}
use Rattle.text_trace.proofs.Stories.Telling.{before_same}
use Rattle.text_trace.proofs.Stories.NodeStories.{all_underway, has_more}
use Rattle.text_trace.proofs.SoFar.UpTo.{same_bits, shown_bit, up_all}

-- ---- one in place of another

-- it has come as far
comes_for : (t v : NodeTrace) (journal : List _) (bits : ℕ) (told : List BitEvent) → IsFor t v →
    HasCome v.bits.over journal bits v.bits.replay told → HasCome t.bits.over journal bits t.bits.replay told
comes_for t v journal bits told f come =
    let P : Replay → Type 0 = λ r. HasCome v.bits.over journal bits r told in
    let Q : Bool → Type 0 = λ b. HasCome b journal bits t.bits.replay told in
    subst Q f.over (subst P f.replay come)

-- it has the same steps
steps_for : (t v : NodeTrace) → IsFor t v → t.steps.steps.now ≡ v.steps.steps.now
steps_for t v f = sym (ap (λ (x : NodeSteps). x.steps.now) f.steps)

by_bytes_for : (t v : NodeTrace) → IsFor t v → t.steps.by_bytes ≡ v.steps.by_bytes
by_bytes_for t v f = sym (ap (λ (x : NodeSteps). x.by_bytes) f.steps)

done_for : (t v : NodeTrace) → IsFor t v → t.steps.done.now ≡ v.steps.done.now
done_for t v f = sym (ap (λ (x : NodeSteps). x.done.now) f.steps)

-- before the first bit each stands for itself
one_first : (t : NodeTrace) → t.short ≡ None → IsFor t t
one_first t fresh =
    let P : Option ShortBit → Type 0 = λ s. IsHand s (at_hand t.bits) (at_hand t.bits) in record {
      steps = refl;
      counters = refl;
      over = refl;
      replay = refl;
      hand = subst P (sym fresh) refl;
    }

all_first : (k : ℕ) (plan : PlanValue) (nodes : List NodeValue) (ts : List NodeTrace) (ss : List NodeStory) →
    HaveTold k plan 0 nodes ts ss → EachRelated IsFor ts ts
all_first k plan [] [] [] have = tt
all_first k plan [] [] (s ∷ ss) have = absurd have
all_first k plan [] (t ∷ ts) ss have = absurd have
all_first k plan (n ∷ nodes) [] ss have = absurd have
all_first k plan (n ∷ nodes) (t ∷ ts) [] have = absurd have
all_first k plan (n ∷ nodes) (t ∷ ts) (s ∷ ss) have =
    (one_first t (have.0.fresh refl), all_first (k + 1) plan nodes ts ss have.1)

pub comes_first : (plan : PlanValue) (nodes : List NodeValue) (ts : List NodeTrace) (text : List ℕ) →
    IsUpTo plan nodes 0 ts text → ComesTo plan nodes 0 ts text
comes_first plan nodes ts text up =
    record { whole = ts; up = up; stand = all_first 0 plan nodes ts up.stories up.have }

-- ---- a bit more

record OnePassed (by_bytes : Bool) (steps : List Step) (n : NodeValue) (bits : ℕ) (u : NodeTrace)
    (s : NodeStory) : Type 0 where
  node_trace : NodeTrace
  story : NodeStory
  has : HasTold by_bytes steps n (suc bits) node_trace story
  shown : IsShown bits node_trace story
  same : IsSameTo bits s story
  stands : IsFor u node_trace

one_passed : (by_bytes : Bool) (steps : List Step) (n : NodeValue) (bits : ℕ) (t v u : NodeTrace) (s : NodeStory) →
    HasTold by_bytes steps n bits v s → IsFor t v → NodeTracePasses t u → OnePassed by_bytes steps n bits u s
one_passed by_bytes steps n bits t v u s h f on =
    let more = on.bits n.journal bits s.bits (comes_for t v n.journal bits s.bits f h.come.0) in
    let brought : Option BitEvent = slice_get more.told bits in
    let w : NodeTrace = record {
      steps = u.steps;
      counters = u.counters;
      short = None;
      reads = u.reads;
      bits = record { replay = u.bits.replay; over = u.bits.over; bit = brought };
    } in
    let own_steps = on.same.steps ∙ steps_for t v f ∙ h.steps_are in
    let own_done = on.same.done ∙ done_for t v f ∙ h.done_are in
    let own_by_bytes = on.same.by_bytes ∙ by_bytes_for t v f ∙ h.by_bytes_is in
    record {
      node_trace = w;
      story = record { by_bytes = s.by_bytes; steps = s.steps; done = s.done; bits = more.told };
      has = has_more by_bytes steps n bits v w s more.told h own_by_bytes own_steps own_done (more.come, refl);
      shown = record {
        steps = own_steps ∙ sym h.story_steps;
        done = own_done ∙ sym h.story_done;
        by_bytes = own_by_bytes ∙ sym h.story_by_bytes;
        counters = on.counters ∙ hand_counters t.short (at_hand t.bits) (at_hand v.bits) f.hand
            ∙ ap counters_after (h.come.1 ∙ sym (before_same bits s.bits more.told more.same));
        brought = refl;
      };
      same = record { steps = refl; done = refl; by_bytes = refl; same = more.same };
      stands = record { steps = refl; counters = refl; over = refl; replay = refl; hand = more.hand };
    }

record AllPassed (k : ℕ) (plan : PlanValue) (bits : ℕ) (nodes : List NodeValue) (us : List NodeTrace)
    (ss : List NodeStory) : Type 0 where
  whole : List NodeTrace
  stories : List NodeStory
  have : HaveTold k plan (suc bits) nodes whole stories
  shown : EachRelated (IsShown bits) whole stories
  same : EachRelated (IsSameTo bits) ss stories
  stand : EachRelated IsFor us whole

all_passed : (k : ℕ) (plan : PlanValue) (bits : ℕ) (nodes : List NodeValue) (ts vs us : List NodeTrace)
    (ss : List NodeStory) → HaveTold k plan bits nodes vs ss → EachRelated IsFor ts vs →
    EachRelated NodeTracePasses ts us → AllPassed k plan bits nodes us ss
all_passed k plan bits [] [] [] [] [] have stand on =
    record { whole = []; stories = []; have = tt; shown = tt; same = tt; stand = tt }
all_passed k plan bits [] [] [] (u ∷ us) [] have stand on = absurd on
all_passed k plan bits [] (t ∷ ts) [] us [] have stand on = absurd stand
all_passed k plan bits [] ts [] us (s ∷ ss) have stand on = absurd have
all_passed k plan bits [] ts (v ∷ vs) us ss have stand on = absurd have
all_passed k plan bits (n ∷ nodes) ts [] us ss have stand on = absurd have
all_passed k plan bits (n ∷ nodes) ts (v ∷ vs) us [] have stand on = absurd have
all_passed k plan bits (n ∷ nodes) [] (v ∷ vs) us (s ∷ ss) have stand on = absurd stand
all_passed k plan bits (n ∷ nodes) (t ∷ ts) (v ∷ vs) [] (s ∷ ss) have stand on = absurd on
all_passed k plan bits (n ∷ nodes) (t ∷ ts) (v ∷ vs) (u ∷ us) (s ∷ ss) have stand on =
    let one = one_passed (plan.version == 3) (steps_at plan k) n bits t v u s have.0 stand.0 on.0 in
    let rest = all_passed (k + 1) plan bits nodes ts vs us ss have.1 stand.1 on.1 in
    record {
      whole = one.node_trace ∷ rest.whole;
      stories = one.story ∷ rest.stories;
      have = (one.has, rest.have);
      shown = (one.shown, rest.shown);
      same = (one.same, rest.same);
      stand = (one.stands, rest.stand);
    }

-- ---- the same is said of them

stand_line : (bus : Level) (bit k : ℕ) (t v : NodeTrace) → IsFor t v →
    told_lines bus bit k t ≡ node_trace_lines bus bit k v
stand_line bus bit k t v f =
    ap₂ (λ l r. l ++ r) (ap₂ (λ l d. steps_due false bit k 1 l d) (steps_for t v f) (done_for t v f))
    (hand_said t.steps.by_bytes bus bit k t.counters t.short (at_hand t.bits) (at_hand v.bits) f.hand
    ∙ ap₂ (λ r c. event_line r bus bit k c (at_hand v.bits)) (by_bytes_for t v f) (sym f.counters))

stand_lines : (bus : Level) (bit k : ℕ) (ts vs : List NodeTrace) → EachRelated IsFor ts vs →
    numbered (told_lines bus bit) k ts ≡ numbered (node_trace_lines bus bit) k vs
stand_lines bus bit k [] [] stand = refl
stand_lines bus bit k [] (v ∷ vs) stand = absurd stand
stand_lines bus bit k (t ∷ ts) [] stand = absurd stand
stand_lines bus bit k (t ∷ ts) (v ∷ vs) stand =
    ap₂ (λ l r. l ++ r) (stand_line bus bit k t v stand.0) (stand_lines bus bit (k + 1) ts vs stand.1)

stand_levels : (ts vs : List NodeTrace) → EachRelated IsFor ts vs → hands_driven ts ≡ driven_now vs
stand_levels [] [] stand = refl
stand_levels [] (v ∷ vs) stand = absurd stand
stand_levels (t ∷ ts) [] stand = absurd stand
stand_levels (t ∷ ts) (v ∷ vs) stand =
    ap₂ (λ l r. l ∷ r) (hand_driven t.short (at_hand t.bits) (at_hand v.bits) stand.0.hand)
    (stand_levels ts vs stand.1)

stand_text : (bit : ℕ) (ts vs : List NodeTrace) → EachRelated IsFor ts vs → hands_text bit ts ≡ bit_text bit vs
stand_text bit ts vs stand =
    ap (λ levels. numbered (told_lines (wired levels) bit) 0 ts) (stand_levels ts vs stand)
    ∙ stand_lines (wired (driven_now vs)) bit 0 ts vs stand

pub comes_more : (plan : PlanValue) (nodes : List NodeValue) (bits next : ℕ) (olds news : List NodeTrace)
    (old new : List ℕ) → ComesTo plan nodes bits olds old → EachRelated NodeTracePasses olds news →
    new ≡ old ++ hands_text bits news → next ≡ suc bits → ComesTo plan nodes next news new
comes_more plan nodes bits next olds news old new c on wrote one =
    let m = all_passed 0 plan bits nodes olds c.whole news c.up.stories c.up.have c.stand on in
    let P : ℕ → Type 0 = λ n. ComesTo plan nodes n news new in
    let before = c.up.text_is ∙ sym (same_bits bits bits c.up.stories m.stories (omega arith) m.same) in
    subst P (sym one) (record {
      whole = m.whole;
      up = record {
        stories = m.stories;
        have = m.have;
        text_is = wrote ∙ ap₂ (λ l r. l ++ r) before
            (stand_text bits news m.whole m.stand ∙ shown_bit bits m.whole m.stories m.shown);
      };
      stand = m.stand;
    })

-- ---- the end

underway_for : (ts vs : List NodeTrace) → EachRelated IsFor ts vs → AreUnderway vs → AreUnderway ts
underway_for [] [] stand are = tt
underway_for [] (v ∷ vs) stand are = absurd stand
underway_for (t ∷ ts) [] stand are = absurd stand
underway_for (t ∷ ts) (v ∷ vs) stand are =
    let u = are.0 in (
      record {
        journal = u.journal;
        bits = u.bits;
        told = u.told;
        come = comes_for t v u.journal u.bits u.told stand.0 u.come;
      },
      underway_for ts vs stand.1 are.1,
    )

pub comes_underway : (plan : PlanValue) (nodes : List NodeValue) (bits : ℕ) (ts : List NodeTrace) (text : List ℕ) →
    ComesTo plan nodes bits ts text → AreUnderway ts
comes_underway plan nodes bits ts text c =
    underway_for ts c.whole c.stand (all_underway 0 plan bits nodes c.whole c.up.stories c.up.have)

end_for : (t v n : NodeTrace) → IsFor t v → NodeTraceEnds t n → NodeTraceEnds v n
end_for t v n f on = record {
  same = record {
    steps = on.same.steps ∙ steps_for t v f;
    done = on.same.done ∙ done_for t v f;
    by_bytes = on.same.by_bytes ∙ by_bytes_for t v f;
  };
  bits = record {
    tells = λ journal bits told come. on.bits.tells journal bits told (comes_for t v journal bits told f come);
  };
}

ends_for : (ts vs news : List NodeTrace) → EachRelated IsFor ts vs → EachRelated NodeTraceEnds ts news →
    EachRelated NodeTraceEnds vs news
ends_for [] [] [] stand on = tt
ends_for [] [] (n ∷ news) stand on = absurd on
ends_for [] (v ∷ vs) news stand on = absurd stand
ends_for (t ∷ ts) [] news stand on = absurd stand
ends_for (t ∷ ts) (v ∷ vs) [] stand on = absurd on
ends_for (t ∷ ts) (v ∷ vs) (n ∷ news) stand on =
    (end_for t v n stand.0 on.0, ends_for ts vs news stand.1 on.1)

pub comes_all : (plan : PlanValue) (log : RunValue) (olds news : List NodeTrace) (old new : List ℕ) →
    ComesTo plan log.nodes log.bits olds old → EachRelated NodeTraceEnds olds news →
    new ≡ old ++ numbered (late_lines log.bits) 0 news → IsTrace plan log new
comes_all plan log olds news old new c on wrote =
    up_all plan log c.whole news old new c.up (ends_for olds c.whole news c.stand on) wrote
