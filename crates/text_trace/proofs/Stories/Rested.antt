-- Bits in which every node is at rest: node traces pass them one behind the other, and nothing is said of them.
use Rattle.std.proofs.Common.{◌≡◌, ◌&&◌, not, ℕ, zero, suc, ◌+◌, ◌<◌, ◌≤◌, Bool, true, false, Some, List, [], ◌∷◌, ◌++◌}
use Rattle.std.proofs.Common.{refl, sym, ap, ap₂, ◌∙◌, subst, append-nil, arith, inl, inr, length, get_or}
use Rattle.std.specs.Prelude.{slice_index_or}
use Rattle.std.proofs.lemmas.Bool.{cases_lt}
use Rattle.std.proofs.lemmas.List.{get_or_default as or_same}
use Rattle.can_levels.specs.declared.level.Level.{Level}
use Rattle.can_levels.specs.declared.level.Level.TheVariants.{Recessive}
use Rattle.can_levels.specs.Places.{are_same}
use Rattle.lemmas.specs.Related.{EachRelated}
use Rattle.sja_journal.specs.declared.entry.Entry.{Entry}
use Rattle.sja_log.specs.Log.{NodeValue}
use Rattle.sja_plan.specs.Plan.{PlanValue}
use Rattle.sja_replay.specs.declared.replay.Replay.{Replay}
use Rattle.sja_replay.specs.ReplayProgress.{HasCome}
use Rattle.sja_replay.specs.Replaying.{IsAt}
use Rattle.sja_replay.specs.ReplayRest.{RestsFor, rested}
use Rattle.sja_replay.specs.Short.{PassesBit}
use Rattle.text_report.specs.ReportLines.{numbered}
use Rattle.sja_steps.specs.declared.step_record.StepRecord.{StepRecord}
use Rattle.sja_steps.specs.declared.step.Step.{Step}
use Rattle.can_levels.specs.BusLevel.{wired}
use Rattle.text_trace.specs.declared.node_trace.NodeTrace.{NodeTrace}
use Rattle.text_trace.specs.Events.{is_dominant, is_frame}
use Rattle.text_trace.specs.Telling.{IsUnderway, at_hand}
use Rattle.text_trace.specs.TraceText.{bit_line, steps_due}
use Rattle.text_trace.specs.TraceProgress.{AreUnderway}
use Rattle.text_trace.specs.Hands.{counters_of, hand_line}
use Rattle.text_trace.specs.Passing.{NodeTracePasses, ComesTo, told_lines, hands_driven, hands_text}
use Rattle.text_trace.specs.TraceRest.{NodeTraceRests, HasRested, AllRest, PassesUnsaid}
use Rattle.text_trace.specs.TraceRest.PassesUnsaid.{none, one_more}
use Rattle.text_trace.proofs.BitSaid.Shorts.{plain_none, same_counters}
use Rattle.text_trace.proofs.Stories.Passed.{comes_more}
use Rattle.text_trace.proofs.Stories.Telling.{passed_on}

-- ---- one node

-- past no bit a replay is what it was
pub rested_none : (r : Replay) → rested 0 r ≡ r
rested_none r = let same : r.bits + 0 ≡ r.bits = omega arith in ap (λ b. record r { bits = b }) same

never : (a b : Bool) → (a && b && false) ≡ false
never true true = refl
never true false = refl
never false b = refl

-- it rests for fewer bits too
pub rests_fewer : (r : Replay) (n m : ℕ) → RestsFor r n → m ≤ n → RestsFor r m
rests_fewer r n m w few =
    let bits = w.bits in let fits = w.few in
    record { awaits = w.awaits; bits = omega (arith, bits, few); few = omega (arith, fits, few) }

pub node_trace_fewer : (bit n m : ℕ) (t : NodeTrace) → NodeTraceRests bit n t → m ≤ n → NodeTraceRests bit m t
node_trace_fewer bit n m t w few = record {
  under = w.under;
  rests = rests_fewer t.bits.replay n m w.rests few;
  alike = w.alike;
  quiet = λ i node from before. w.quiet i node from (omega (arith, before, few));
}

-- so does each of several up to one of them
pub node_trace_at : (bit n m : ℕ) (ts : List NodeTrace) (i : ℕ) (one : NodeTrace) → one ≡ get_or ts i one → m ≤ n →
    ((k : ℕ) (t : NodeTrace) → k < i → NodeTraceRests bit n (slice_index_or ts k t)) → NodeTraceRests bit m one →
    (k : ℕ) (t : NodeTrace) → k < i + 1 → k < length ts → NodeTraceRests bit m (slice_index_or ts k t)
node_trace_at bit n m ts i one is few before here k t less within = elim (cases_lt k i) [
  | inl earlier ↦ node_trace_fewer bit n m (slice_index_or ts k t) (before k t earlier) few
  | inr later ↦
      let same : k ≡ i = omega (arith, less, later) in
      subst (λ (o : NodeTrace). NodeTraceRests bit m o)
      (is ∙ ap (λ j. get_or ts j one) (sym same) ∙ or_same ts k one t within) here
]

module _ (n : ℕ) (old new : NodeTrace) (h : HasRested n old new) where
  -- the node trace after so many of the bits
  abbrev pub after : ℕ → NodeTrace
  after zero = old
  after (suc i) = record {
    steps = new.steps;
    counters = h.short.counters;
    short = Some h.short;
    reads = new.reads;
    bits = record old.bits { replay = rested (suc i) old.bits.replay };
  }

  module _ (bit : ℕ) (w : NodeTraceRests bit n old) (u : IsUnderway old.bits) where
    -- it shows what it showed in the first one
    begun : h.short.counters ≡ counters_of old.short (at_hand old.bits)
    begun =
        let P : Bool → Type 0 = λ b. HasCome b u.journal u.bits old.bits.replay u.told in
        let at = (subst P w.under u.come).0.at in
        let one = w.alike.looks.counters _ at.found at.stands in
        let other = h.looks.counters _ at.found at.stands in
        let tec = other.0 ∙ sym one.0 in let rec = other.1 ∙ sym one.1 in let off = other.2 ∙ sym one.2 in
        let same : h.short.counters ≡ w.alike.bit.counters = λ i. record { tec = tec i; rec = rec i; off = off i } in
        same ∙ sym w.alike.left

    -- it passes each of them
    pub passes_one : (i : ℕ) → i < n → NodeTracePasses (after i) (after (suc i))
    passes_one zero early = record {
      same = h.same;
      counters = begun;
      bits = passed_on old.bits (after 1).bits (Some h.short) w.under w.under first;
    }
      where
        first : (before : List Entry) → IsAt old.bits.replay before →
            PassesBit old.bits.replay (rested 1 old.bits.replay) before h.short
        first before at =
            let is = rested_none old.bits.replay in
            subst (λ (r : Replay). PassesBit r (rested 1 old.bits.replay) before h.short) is
            (h.passes 0 before early (subst (λ (r : Replay). IsAt r before) (sym is) at))
    passes_one (suc i) early = record {
      same = record { steps = refl; done = refl; by_bytes = refl };
      counters = refl;
      bits = passed_on (after (suc i)).bits (after (suc (suc i))).bits (Some h.short) w.under w.under
          (λ before at. h.passes (suc i) before early at);
    }

    -- and nothing is said of it
    pub unsaid : (i node : ℕ) → i < n → told_lines Recessive (bit + i) node (after (suc i)) ≡ []
    unsaid i node early =
        let q = h.short in
        let steps : steps_due false (bit + i) node 1 new.steps.steps.now new.steps.done.now ≡ [] =
        ap₂ (λ (s : List Step) (d : List StepRecord). steps_due false (bit + i) node 1 s d) h.same.steps h.same.done
        ∙ w.quiet (bit + i) node (omega arith) (omega (arith, early)) in
        let seen : are_same q.seen Recessive ≡ true = ap (λ (l : Level). are_same l Recessive) h.looks.seen_is in
        let silent : (is_frame q.phase && not q.transmits && is_dominant q.driven) ≡ false =
        ap (λ (l : Level). is_frame q.phase && not q.transmits && is_dominant l) h.looks.driven_is
        ∙ never (is_frame q.phase) (not q.transmits) in
        ap₂ (λ a b. a ++ b) steps
        (ap (bit_line (bit + i) node)
        (plain_none new.steps.by_bytes Recessive (after (suc i)).counters q seen (same_counters h.short.counters)
        (λ idle. (h.looks.driven_is, h.looks.seen_is)) silent))

-- after all of them it is the other one
is_last : (n : ℕ) (old new : NodeTrace) (h : HasRested n old new) → 1 ≤ n → after n old new h n ≡ new
is_last zero old new h some = absurd (omega (arith, some))
is_last (suc m) old new h some =
    λ i. record {
      steps = new.steps;
      counters = sym h.counters i;
      short = sym h.short_is i;
      reads = new.reads;
      bits = sym h.bits i;
    }

-- ---- all nodes

-- their node traces after so many of the bits
abbrev states : (n i : ℕ) (ts us : List NodeTrace) → EachRelated (HasRested n) ts us → List NodeTrace
states n i [] [] r = []
states n i [] (u ∷ us) r = absurd r
states n i (t ∷ ts) [] r = absurd r
states n i (t ∷ ts) (u ∷ us) r = after n t u r.0 i ∷ states n i ts us r.1

states_first : (n : ℕ) (ts us : List NodeTrace) (r : EachRelated (HasRested n) ts us) → states n 0 ts us r ≡ ts
states_first n [] [] r = refl
states_first n [] (u ∷ us) r = absurd r
states_first n (t ∷ ts) [] r = absurd r
states_first n (t ∷ ts) (u ∷ us) r = ap (λ l. t ∷ l) (states_first n ts us r.1)

states_last : (n : ℕ) (ts us : List NodeTrace) (r : EachRelated (HasRested n) ts us) → 1 ≤ n → states n n ts us r ≡ us
states_last n [] [] r some = refl
states_last n [] (u ∷ us) r some = absurd r
states_last n (t ∷ ts) [] r some = absurd r
states_last n (t ∷ ts) (u ∷ us) r some =
    ap₂ (λ x l. x ∷ l) (is_last n t u r.0 some) (states_last n ts us r.1 some)

rest_behind : (bit n : ℕ) (t : NodeTrace) (ts : List NodeTrace) → AllRest bit n (t ∷ ts) → AllRest bit n ts
rest_behind bit n t ts all = λ k d less. all (suc k) d (omega (arith, less))

states_pass : (bit n i : ℕ) (ts us : List NodeTrace) (r : EachRelated (HasRested n) ts us) → i < n → AllRest bit n ts →
    AreUnderway ts → EachRelated NodeTracePasses (states n i ts us r) (states n (suc i) ts us r)
states_pass bit n i [] [] r early all under = tt
states_pass bit n i [] (u ∷ us) r early all under = absurd r
states_pass bit n i (t ∷ ts) [] r early all under = absurd r
states_pass bit n i (t ∷ ts) (u ∷ us) r early all under = (
  passes_one n t u r.0 bit (all 0 t (omega arith)) under.0 i early,
  states_pass bit n i ts us r.1 early (rest_behind bit n t ts all) under.1,
)

drive_none : (n i : ℕ) (ts us : List NodeTrace) (r : EachRelated (HasRested n) ts us) →
    wired (hands_driven (states n (suc i) ts us r)) ≡ Recessive
drive_none n i [] [] r = refl
drive_none n i [] (u ∷ us) r = absurd r
drive_none n i (t ∷ ts) [] r = absurd r
drive_none n i (t ∷ ts) (u ∷ us) r =
    ap (λ (l : Level). wired (l ∷ hands_driven (states n (suc i) ts us r.1))) r.0.looks.driven_is
    ∙ drive_none n i ts us r.1

say_none : (bit n i node : ℕ) (ts us : List NodeTrace) (r : EachRelated (HasRested n) ts us) → i < n →
    AllRest bit n ts → AreUnderway ts → numbered (told_lines Recessive (bit + i)) node (states n (suc i) ts us r) ≡ []
say_none bit n i node [] [] r early all under = refl
say_none bit n i node [] (u ∷ us) r early all under = absurd r
say_none bit n i node (t ∷ ts) [] r early all under = absurd r
say_none bit n i node (t ∷ ts) (u ∷ us) r early all under =
    ap₂ (λ a b. a ++ b) (unsaid n t u r.0 bit (all 0 t (omega arith)) under.0 i node early)
    (say_none bit n i (node + 1) ts us r.1 early (rest_behind bit n t ts all) under.1)

module _ (bit n : ℕ) (ts us : List NodeTrace) (all : AllRest bit n ts) (under : AreUnderway ts)
    (r : EachRelated (HasRested n) ts us) where
  so_many : (i : ℕ) → i ≤ n → PassesUnsaid bit ts i (states n i ts us r)
  so_many zero most = subst (λ (l : List NodeTrace). PassesUnsaid bit ts 0 l) (sym (states_first n ts us r)) none
  so_many (suc i) most =
      let early : i < n = omega (arith, most) in
      one_more i (states n i ts us r) (states n (suc i) ts us r) (so_many i (omega (arith, most)))
      (states_pass bit n i ts us r early all under)
      (ap (λ (l : Level). numbered (told_lines l (bit + i)) 0 (states n (suc i) ts us r)) (drive_none n i ts us r)
      ∙ say_none bit n i 0 ts us r early all under)

  pub rest_unsaid : 1 ≤ n → PassesUnsaid bit ts n us
  rest_unsaid some =
      subst (λ (l : List NodeTrace). PassesUnsaid bit ts n l) (states_last n ts us r some) (so_many n (omega arith))

-- ---- the text after them

pub comes_unsaid : (plan : PlanValue) (nodes : List NodeValue) (bits : ℕ) (olds : List NodeTrace) (text : List ℕ) →
    ComesTo plan nodes bits olds text → (next n : ℕ) (news : List NodeTrace) → PassesUnsaid bits olds n news →
    next ≡ bits + n → ComesTo plan nodes next news text
comes_unsaid plan nodes bits olds text c next n news none is =
    subst (λ (b : ℕ). ComesTo plan nodes b olds text) (omega (arith, is)) c
comes_unsaid plan nodes bits olds text c next n news (one_more k mid now before on silent) is =
    comes_more plan nodes (bits + k) next mid now text text
    (comes_unsaid plan nodes bits olds text c (bits + k) k mid before refl) on
    (sym (append-nil text) ∙ ap (λ t. text ++ t) (sym silent)) (omega (arith, is))
