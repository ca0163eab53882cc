-- Nodes that receive a frame go on past a bit behind one reader: node traces in their place pass it, and nothing is
-- said of them.
use Rattle.std.proofs.Common.{◌≡◌, ◌&&◌, not, ℕ, zero, suc, ◌+◌, ◌<◌, ◌≤◌, ◌^◌, Bool, true, false, Option, Some, None}
use Rattle.std.proofs.Common.{◌-◌, nat_lt, List, [], ◌∷◌, ◌++◌, if◌then◌else◌, length}
use Rattle.std.proofs.Common.{refl, sym, ap, ap₂, ◌∙◌, subst, arith, inl, inr}
use Rattle.std.specs.Prelude.{slice_index_or}
use Rattle.std.proofs.lemmas.Bool.{cases_lt, false_from_ne_true, ltb-true}
use Rattle.can_levels.specs.declared.level.Level.{Level}
use Rattle.can_levels.specs.declared.level.Level.TheVariants.{Dominant, Recessive}
use Rattle.can_levels.specs.declared.segment.Segment.{Segment}
use Rattle.can_bits.specs.declared.shift.Shift.{Shift}
use Rattle.can_levels.specs.Places.{are_same}
use Rattle.can_bits.specs.Sending.{TakesInside}
use Rattle.can_node_rules.specs.declared.counters.Counters.{Counters}
use Rattle.can_node.specs.declared.node.Node.{Node}
use Rattle.can_node.specs.Stands.{shown_counters}
use Rattle.lemmas.specs.Related.{EachRelated}
use Rattle.sja_log.specs.Log.{NodeValue}
use Rattle.sja_plan.specs.Plan.{PlanValue}
use Rattle.sja_replay.specs.declared.short_bit.ShortBit.{ShortBit}
use Rattle.sja_replay.specs.Reading.{Receives, Hears, HearsOn, SaysSegment, reading, heard}
use Rattle.text_report.specs.ReportLines.{numbered}
use Rattle.sja_steps.specs.declared.step_record.StepRecord.{StepRecord}
use Rattle.sja_steps.specs.declared.step.Step.{Step}
use Rattle.can_levels.specs.BusLevel.{wired}
use Rattle.text_trace.specs.declared.node_bits.NodeBits.{NodeBits}
use Rattle.text_trace.specs.declared.node_steps.NodeSteps.{NodeSteps}
use Rattle.text_trace.specs.declared.node_trace.NodeTrace.{NodeTrace}
use Rattle.text_trace.specs.BitEvents.{have_same}
use Rattle.text_trace.specs.Telling.{at_hand}
use Rattle.text_trace.specs.TraceText.{bit_line, steps_due}
use Rattle.text_trace.specs.Hands.{HandGoesOn, counters_of, driven_of}
use Rattle.text_trace.specs.Passing.{NodeTracePasses, ComesTo, told_lines, hands_driven, hands_text}
use Rattle.text_trace.specs.Inside.Reading.{IsBehind, Stands, Marks, OtherPasses, HearsNext, MayHear, HasHeard}
use Rattle.text_trace.specs.Inside.Reading.{HearsOne}
use Rattle.text_trace.specs.Inside.Reading.{PassesFrom, other_driven, others_driven, other_line, other_lines}
use Rattle.text_trace.specs.Inside.Reading.{RowGoesOn, TellsBits, HaveToldBits}
use Rattle.text_trace.specs.Inside.Reading.TellsBits.{none, one_more}
use Rattle.text_trace.proofs.BitSaid.Shorts.{plain_none, same_counters}
use Rattle.text_trace.proofs.Stories.Passed.{comes_more}
use Rattle.text_trace.proofs.Stories.Telling.{passed_on}

pub never : (b : Bool) → b ≡ true → b ≡ false → ⊥
never b is other = let e : true ≡ false = sym is ∙ other in absurd cc

one_level : (l : Level) → are_same l l ≡ true
one_level Dominant = refl
one_level Recessive = refl

-- its lines are the same before it goes on past the bit
pub line_before : (bus : Level) (bit node : ℕ) (t n : NodeTrace) (b : Bool) → t.reads ≡ b → HearsOne t n →
    other_line bus bit node t ≡ other_line bus bit node n
line_before bus bit node t n false is h = ap (λ x. other_line bus bit node x) (sym (h.kept is))
line_before bus bit node t n true is h =
    ap (λ (x : Bool). if x then [] else told_lines bus bit node t) is
    ∙ sym (ap (λ (x : Bool). if x then [] else told_lines bus bit node n) ((h.heard is).reads ∙ is))

-- ---- one node, behind a reader that takes the level

module _ (before after : Shift) (bus : Level) (segment next : Segment) (bit : ℕ) (takes : TakesInside before bus after)
    (says : SaysSegment before segment) (says_next : SaysSegment after next) where
  -- a node trace that stands for one that is behind the reader then: it has passed the bit
  record OneHeard (v m n : NodeTrace) : Type 0 where
    node_trace : NodeTrace
    passes : NodeTracePasses v node_trace
    stands : Stands after n node_trace
    driven : driven_of node_trace.short (at_hand node_trace.bits) ≡ other_driven m
    lines : (node : ℕ) → told_lines bus bit node node_trace ≡ other_line bus bit node n

  module _ (t v n : NodeTrace) (marked : t.reads ≡ true) (b : IsBehind before t v) (may : HearsNext bus bit t)
      (h : HasHeard t n) where
    abbrev short : ShortBit
    short = heard bus segment t.bits.replay.node

    abbrev on : NodeTrace
    on = record n {
      counters = counters_of v.short (at_hand v.bits);
      short = Some short;
      bits = record n.bits { replay = reading after n.bits.replay };
    }

    shown : counters_of n.short (at_hand n.bits) ≡ shown_counters t.bits.replay.node
    shown = ap₂ counters_of h.short h.hand ∙ b.alike

    on_passes : NodeTracePasses v on
    on_passes =
        let from : NodeBits = record t.bits { replay = reading before t.bits.replay } in
        let P : NodeBits → Type 0 = λ x. HandGoesOn x on.bits (Some short) in
        let here = h.hears.passes before after bus segment next may.hears b.receives takes says says_next in
        record {
          same = record {
            steps = h.same.steps ∙ sym (ap (λ (s : NodeSteps). s.steps.now) b.steps);
            done = h.same.done ∙ sym (ap (λ (s : NodeSteps). s.done.now) b.steps);
            by_bytes = h.same.by_bytes ∙ sym (ap (λ (s : NodeSteps). s.by_bytes) b.steps);
          };
          counters = refl;
          bits = subst P (sym b.bits) (passed_on from on.bits (Some short) b.under (h.over ∙ b.under) here);
        }

    still : n.reads ≡ true
    still = h.reads ∙ marked

    on_stands : Stands after n on
    on_stands = record {
      behind = λ yes. record {
        receives = record {
          in_frame = ap (λ (x : Node). x.stage) h.hears.node ∙ b.receives.in_frame;
          role = ap (λ (x : Node). x.context.role) h.hears.node ∙ b.receives.role;
          drives = ap (λ (x : Node). x.next) h.hears.node ∙ b.receives.drives;
          unmarked = h.hears.aborted ∙ b.receives.unmarked;
        };
        under = h.over ∙ b.under;
        alike = shown ∙ sym (ap (λ (x : Node). shown_counters x) h.hears.node);
        steps = refl;
        left = sym shown;
        bits = refl;
      };
      own = λ no. absurd (never n.reads still no);
    }

    on_lines : (node : ℕ) → told_lines bus bit node on ≡ []
    on_lines node =
        let steps : steps_due false bit node 1 n.steps.steps.now n.steps.done.now ≡ [] =
        ap₂ (λ (s : List Step) (d : List StepRecord). steps_due false bit node 1 s d) h.same.steps h.same.done
        ∙ may.quiet node in
        let kept : have_same (counters_of v.short (at_hand v.bits)) short.counters ≡ true =
        ap (λ (k : Counters). have_same k short.counters) (b.left ∙ b.alike) ∙ same_counters short.counters in
        ap₂ (λ x y. x ++ y) steps
        (ap (bit_line bit node)
        (plain_none n.steps.by_bytes bus (counters_of v.short (at_hand v.bits)) short (one_level bus) kept (λ idle. cc)
        refl))

    reader_heard : OneHeard v t n
    reader_heard = record {
      node_trace = on;
      passes = on_passes;
      stands = on_stands;
      driven = sym (ap (λ (x : Bool). if x then Recessive else driven_of t.short (at_hand t.bits)) marked);
      lines = λ node. on_lines node
          ∙ sym (ap (λ (x : Bool). if x then [] else told_lines bus bit node n) still);
    }

  -- any other stands for itself
  other_heard : (t v m n : NodeTrace) → t.reads ≡ false → Stands before t v → OtherPasses t m → HearsOne m n →
      OneHeard v m n
  other_heard t v m n other s p h =
      let not_marked = p.reads ∙ other in
      let is = h.kept not_marked in
      let was = p.passes other in
      let P : NodeTrace → Type 0 = λ x. OneHeard v m x in
      let Q : NodeTrace → Type 0 = λ x. NodeTracePasses x m in
      subst P (sym is) (record {
        node_trace = m;
        passes = subst Q (sym (s.own other)) (record { same = was.same; counters = was.counters; bits = was.bits });
        stands = record { behind = λ yes. absurd (never m.reads yes not_marked); own = λ no. refl };
        driven = sym (ap (λ (x : Bool). if x then Recessive else driven_of m.short (at_hand m.bits)) not_marked);
        lines = λ node. sym (ap (λ (x : Bool). if x then [] else told_lines bus bit node m) not_marked);
      })

  one_heard : (t v m n : NodeTrace) (b : Bool) → t.reads ≡ b → Stands before t v → OtherPasses t m →
      MayHear bus bit m → HearsOne m n → OneHeard v m n
  one_heard t v m n false is s p may h = other_heard t v m n is s p h
  one_heard t v m n true is s p may h =
      let same = p.kept is in
      let P : NodeTrace → Type 0 = λ x. MayHear bus bit x in
      let Q : NodeTrace → Type 0 = λ x. HearsOne x n in
      let R : NodeTrace → Type 0 = λ x. OneHeard v x n in
      subst R (sym same)
      (reader_heard t v n is (s.behind is) (subst P same may is) ((subst Q same h).heard is))

  -- ---- all nodes

  record AllHeard (vs ms ns : List NodeTrace) : Type 0 where
    node_traces : List NodeTrace
    passes : EachRelated NodeTracePasses vs node_traces
    stand : EachRelated (Stands after) ns node_traces
    driven : hands_driven node_traces ≡ others_driven ms
    lines : (k : ℕ) → numbered (told_lines bus bit) k node_traces ≡ numbered (other_line bus bit) k ns

  all_heard : (ts vs ms ns : List NodeTrace) → EachRelated (Stands before) ts vs → EachRelated OtherPasses ts ms →
      ((k : ℕ) (d : NodeTrace) → k < length ms → MayHear bus bit (slice_index_or ms k d)) → EachRelated HearsOne ms ns →
      AllHeard vs ms ns
  all_heard [] [] [] [] s p may h =
      record { node_traces = []; passes = tt; stand = tt; driven = refl; lines = λ k. refl }
  all_heard [] [] [] (n ∷ ns) s p may h = absurd h
  all_heard [] [] (m ∷ ms) ns s p may h = absurd p
  all_heard [] (v ∷ vs) ms ns s p may h = absurd s
  all_heard (t ∷ ts) [] ms ns s p may h = absurd s
  all_heard (t ∷ ts) (v ∷ vs) [] ns s p may h = absurd p
  all_heard (t ∷ ts) (v ∷ vs) (m ∷ ms) [] s p may h = absurd h
  all_heard (t ∷ ts) (v ∷ vs) (m ∷ ms) (n ∷ ns) s p may h =
      let one = one_heard t v m n t.reads refl s.0 p.0 (may 0 m (omega arith)) h.0 in
      let rest = all_heard ts vs ms ns s.1 p.1 (λ k d less. may (suc k) d (omega (arith, less))) h.1 in
      record {
        node_traces = one.node_trace ∷ rest.node_traces;
        passes = (one.passes, rest.passes);
        stand = (one.stands, rest.stand);
        driven = ap₂ (λ x l. x ∷ l) one.driven rest.driven;
        lines = λ k. ap₂ (λ x y. x ++ y) (one.lines k) (rest.lines (k + 1));
      }

  -- and their lines were written
  pub row_heard : (ts vs ms ns : List NodeTrace) (old new : List ℕ) → bus ≡ wired (others_driven ms) →
      EachRelated (Stands before) ts vs → EachRelated OtherPasses ts ms →
      ((k : ℕ) (d : NodeTrace) → k < length ms → MayHear bus bit (slice_index_or ms k d)) → EachRelated HearsOne ms ns →
      new ≡ old ++ other_lines bus bit ns → RowGoesOn bit vs old true after ns new
  row_heard ts vs ms ns old new level s p may h wrote =
      let all = all_heard ts vs ms ns s p may h in
      let same : bus ≡ wired (hands_driven all.node_traces) = level ∙ sym (ap wired all.driven) in
      let lines : other_lines bus bit ns ≡ hands_text bit all.node_traces =
      sym (all.lines 0) ∙ ap (λ (l : Level). numbered (told_lines l bit) 0 all.node_traces) same in
      (all.node_traces, all.passes, all.stand, wrote ∙ ap (λ l. old ++ l) lines)

-- ---- back from a reader

module _ (reader : Shift) where
  one_from : (t v m n : NodeTrace) (b : Bool) → t.reads ≡ b → Stands reader t v → OtherPasses t m →
      PassesFrom reader m n → NodeTracePasses v n
  one_from t v m n false is s p f =
      let was = p.passes is in
      let P : NodeTrace → Type 0 = λ x. NodeTracePasses v x in
      let Q : NodeTrace → Type 0 = λ x. NodeTracePasses x m in
      subst P (sym (f.kept (p.reads ∙ is)))
      (subst Q (sym (s.own is)) (record { same = was.same; counters = was.counters; bits = was.bits }))
  one_from t v m n true is s p f =
      let b = s.behind is in
      let P : NodeTrace → Type 0 = λ x. PassesFrom reader x n in
      let on = (subst P (p.kept is) f).passes is in
      let Q : NodeBits → Type 0 = λ x. HandGoesOn x n.bits n.short in
      record {
        same = record {
          steps = on.same.steps ∙ sym (ap (λ (x : NodeSteps). x.steps.now) b.steps);
          done = on.same.done ∙ sym (ap (λ (x : NodeSteps). x.done.now) b.steps);
          by_bytes = on.same.by_bytes ∙ sym (ap (λ (x : NodeSteps). x.by_bytes) b.steps);
        };
        counters = on.counters ∙ sym b.left;
        bits = subst Q (sym b.bits) on.bits;
      }

  pub all_from : (ts vs ms ns : List NodeTrace) → EachRelated (Stands reader) ts vs → EachRelated OtherPasses ts ms →
      EachRelated (PassesFrom reader) ms ns → EachRelated NodeTracePasses vs ns
  all_from [] [] [] [] s p f = tt
  all_from [] [] [] (n ∷ ns) s p f = absurd f
  all_from [] [] (m ∷ ms) ns s p f = absurd p
  all_from [] (v ∷ vs) ms ns s p f = absurd s
  all_from (t ∷ ts) [] ms ns s p f = absurd s
  all_from (t ∷ ts) (v ∷ vs) [] ns s p f = absurd p
  all_from (t ∷ ts) (v ∷ vs) (m ∷ ms) [] s p f = absurd f
  all_from (t ∷ ts) (v ∷ vs) (m ∷ ms) (n ∷ ns) s p f =
      (one_from t v m n t.reads refl s.0 p.0 f.0, all_from ts vs ms ns s.1 p.1 f.1)

  -- those that are behind it receive
  one_receives : (t v m : NodeTrace) (b : Bool) → t.reads ≡ b → Stands reader t v → OtherPasses t m →
      m.reads ≡ true → Receives m.bits.replay
  one_receives t v m false is s p marked = absurd (never m.reads marked (p.reads ∙ is))
  one_receives t v m true is s p marked =
      let P : NodeTrace → Type 0 = λ x. Receives x.bits.replay in subst P (sym (p.kept is)) (s.behind is).receives

  pub receives_at : (ts vs ms : List NodeTrace) → EachRelated (Stands reader) ts vs → EachRelated OtherPasses ts ms →
      (k : ℕ) (d : NodeTrace) → k < length ms → (slice_index_or ms k d).reads ≡ true →
      Receives (slice_index_or ms k d).bits.replay
  receives_at [] vs [] s p k d less marked = absurd (omega (arith, less))
  receives_at [] vs (m ∷ ms) s p k d less marked = absurd p
  receives_at (t ∷ ts) [] ms s p k d less marked = absurd s
  receives_at (t ∷ ts) (v ∷ vs) [] s p k d less marked = absurd p
  receives_at (t ∷ ts) (v ∷ vs) (m ∷ ms) s p zero d less marked = one_receives t v m t.reads refl s.0 p.0 marked
  receives_at (t ∷ ts) (v ∷ vs) (m ∷ ms) s p (suc k) d less marked =
      receives_at ts vs ms s.1 p.1 k d (omega (arith, less)) marked

  -- each that was marked
  pub marked_stand : (ts us : List NodeTrace) → EachRelated (Marks reader) ts us → EachRelated (Stands reader) us ts
  marked_stand [] [] r = tt
  marked_stand [] (u ∷ us) r = absurd r
  marked_stand (t ∷ ts) [] r = absurd r
  marked_stand (t ∷ ts) (u ∷ us) r = (r.0, marked_stand ts us r.1)

-- ---- several bits

-- where more is told one bit is left at least
pub one_left : (n most : ℕ) (reads : Bool) → reads ≡ true → n < most →
    (nat_lt 1 (most - n) ≡ false → reads ≡ false) → n + 1 < most
one_left n most reads is less last = elim (cases_lt (n + 1) most) [
  | inl more ↦ more
  | inr all ↦
      let none = false_from_ne_true (nat_lt 1 (most - n))
      (λ more. let low = ltb-true 1 (most - n) more in omega (arith, all, low)) in
      absurd (never reads is (last none))
]

-- one more was told
pub told_on : (bit n next : ℕ) (was : List NodeTrace) (begun : List ℕ) (reads : Bool) (before reader : Shift)
    (ts now : List NodeTrace) (old new : List ℕ) → HaveToldBits bit was begun n true before ts old →
    ((vs : List NodeTrace) → EachRelated (Stands before) ts vs → RowGoesOn (bit + n) vs old reads reader now new) →
    next ≡ n + 1 → HaveToldBits bit was begun next reads reader now new
told_on bit n next was begun true before reader ts now old new told goes is =
    let row = goes told.0 told.2 in
    let same : suc n ≡ next = omega (arith, is) in
    let P : ℕ → Type 0 = λ k. HaveToldBits bit was begun k true reader now new in
    subst P same (row.0, one_more n told.0 row.0 old new told.1 row.1 row.3, row.2)
told_on bit n next was begun false before reader ts now old new told goes is =
    let row = goes told.0 told.2 in
    let same : suc n ≡ next = omega (arith, is) in
    let P : ℕ → Type 0 = λ k. HaveToldBits bit was begun k false reader now new in
    subst P same (one_more n told.0 now old new told.1 row.0 row.1)

pub comes_told : (plan : PlanValue) (nodes : List NodeValue) (bits : ℕ) (olds : List NodeTrace) (begun : List ℕ) →
    ComesTo plan nodes bits olds begun → (next n : ℕ) (news : List NodeTrace) (text : List ℕ) →
    TellsBits bits olds begun n news text → next ≡ bits + n → ComesTo plan nodes next news text
comes_told plan nodes bits olds begun up next _ _ _ none is =
    let same : bits ≡ next = omega (arith, is) in
    let P : ℕ → Type 0 = λ b. ComesTo plan nodes b olds begun in subst P same up
comes_told plan nodes bits olds begun up next _ _ _ (one_more n mid now old new told on wrote) is =
    comes_more plan nodes (bits + n) next mid now old new
    (comes_told plan nodes bits olds begun up (bits + n) n mid old told refl) on wrote (omega (arith, is))
