-- Two runs of a plan that have come to the same point end alike.
use Rattle.std.proofs.Common.{◌≡◌, ◌<◌, ◌≤◌, ◌+◌, ◌-◌, ◌⊎◌, ℕ, List, length, take, sym, ap, ◌∙◌, subst}
use Rattle.std.proofs.Common.{arith, inl, inr, take_at}
use Rattle.std.specs.Prelude.{slice_index_or}
use Rattle.std.proofs.lemmas.Bool.{cases_eq, cases_lt}
use Rattle.sja_journal.specs.NodeWords.{NodeEntry}
use Rattle.sja_journal.specs.declared.entry.Entry.{Entry}
use Rattle.sja_journal.specs.Records.{record_of}
use Rattle.sja_steps.specs.declared.step.Step.{Step}
use Rattle.sja_bus_rules.specs.Wire.{journal_at}
use Rattle.sja_plan.specs.Plan.{PlanValue, steps_at}
use Rattle.sja_plan.specs.declared.turn.Turn.{Turn}
use Rattle.sja_driver.specs.StepRuns.{StepRun, step_runs_at, acts_in}
use Rattle.sja_driver.specs.Moments.{record_at}
use Rattle.sja_driver.specs.NodeRest.{IsAtRest}
use Rattle.sja_log.specs.declared.end.End.{End}
use Rattle.sja_promises.specs.Turns.{Acts, AllAtRest, DoesSteps, IsUnmet, Progress, RunsTo, steps_done}
use Rattle.sja_promises.specs.Turns.{with_bits, with_steps}
use Rattle.sja_promises.proofs.Trace.StepRunActs.{forget}
use Rattle.sja_laws.proofs.AllNodes.Bits.{AllTogether, Later, TwoRuns, many_bits}
use Rattle.sja_laws.proofs.OneNode.Onward.{goes_on, steps_come}
use Rattle.sja_laws.proofs.OneNode.Stuck.{moment_is_front}
use Rattle.sja_laws.proofs.OneNode.Together.{Together}
use Rattle.sja_laws.proofs.WholeRun.Late.{late_from, rises}
use Rattle.sja_laws.proofs.WholeRun.NodeTurn.{Turns, as_many, turn_both}
use Rattle.sja_laws.proofs.WholeRun.Progressing.{steps_nothing, steps_other, steps_same}

-- the record of a node at a point to which its run has come
record_then : (version : ℕ) (whole : List Entry) (all : List StepRun) (other : List Entry) (others : List StepRun)
    (bits count : ℕ) (t : Together version whole all other others bits count) →
    record_at whole (acts_in (take count all)) bits ≡ record_of t.entries
record_then version whole all other others bits count t =
    let come = steps_come version whole all t.entries t.steps t.kept t.port t.one in
    let done : take count all ≡ t.steps =
    ap (λ l. take count l) come.is ∙ take_at t.steps come.more count t.count_is in
    ap (λ l. record_at whole (acts_in l) bits) done
    ∙ ap record_of (moment_is_front version whole t.entries (acts_in t.steps) t.port bits
    (forget version t.entries t.steps t.kept t.port t.past)
    (goes_on version whole all t.entries t.steps t.kept t.port t.one) t.bits_are)

record_two : (version : ℕ) (whole : List Entry) (all : List StepRun) (other : List Entry) (others : List StepRun)
    (bits count : ℕ) (t : Together version whole all other others bits count) →
    record_at other (acts_in (take count others)) bits ≡ record_of t.entries
record_two version whole all other others bits count t =
    let come = steps_come version other others t.entries t.steps t.kept t.port t.two in
    let done : take count others ≡ t.steps =
    ap (λ l. take count l) come.is ∙ take_at t.steps come.more count t.count_is in
    ap (λ l. record_at other (acts_in l) bits) done
    ∙ ap record_of (moment_is_front version other t.entries (acts_in t.steps) t.port bits
    (forget version t.entries t.steps t.kept t.port t.past)
    (goes_on version other others t.entries t.steps t.kept t.port t.two) t.bits_are)

-- the turn of a node, as one node has it
turn_of : (plan : PlanValue) (journals : List (List Entry)) (step_runs : List (List StepRun)) (p : Progress)
    (k n m : ℕ) → k < length p.done →
    DoesSteps (record { plan = plan; journals = journals; step_runs = step_runs }) p k n m →
    Turns plan.version (steps_at plan k) (journal_at journals k) (step_runs_at step_runs k) p.bits (steps_done p k) n m
turn_of plan journals step_runs p k n m there d = record {
  few = d.most;
  exist = d.exist;
  now = d.now;
  stuck = λ fewer.
      (let P : ℕ → Type 0 = λ c. (length (steps_at plan k) ≤ c)
      ⊎ ((s : Step) → IsUnmet plan.version (journal_at journals k)
      (acts_in (take c (step_runs_at step_runs k))) p.bits (slice_index_or (steps_at plan k) c s)) in
      subst P (steps_same p k m there) (d.stuck fewer).why);
}

module _ (plan : PlanValue) (r : TwoRuns plan) where
  abbrev pub one : Acts
  one = record { plan = plan; journals = r.first; step_runs = r.all }

  abbrev pub two : Acts
  two = record { plan = plan; journals = r.second; step_runs = r.others }

  abbrev pub Both : ℕ → (ℕ → ℕ) → Type 0
  Both = AllTogether plan r

  abbrev pub Late : List (List StepRun) → ℕ → (ℕ → ℕ) → Type 0
  Late = Later plan r

  bits_more : (n bits : ℕ) (done : ℕ → ℕ) → Both bits done → bits + n ≤ r.most → bits + n ≤ r.limit →
      Late r.all (bits + n) done → Late r.others (bits + n) done → Both (bits + n) done
  bits_more = many_bits plan r

  -- ---- at rest

  pub rest_there : (p : Progress) (bits : ℕ) → Both bits (steps_done p) → AllAtRest one p bits → AllAtRest two p bits
  rest_there p bits t h k here =
      let x = t k here in
      let P : List NodeEntry → Type 0 = λ l. IsAtRest l in
      let a = record_then plan.version (journal_at r.first k) (step_runs_at r.all k) (journal_at r.second k)
      (step_runs_at r.others k) bits (steps_done p k) x in
      let b = record_two plan.version (journal_at r.first k) (step_runs_at r.all k) (journal_at r.second k)
      (step_runs_at r.others k) bits (steps_done p k) x in
      subst P (a ∙ sym b) (h k here)

  pub rest_here : (p : Progress) (bits : ℕ) → Both bits (steps_done p) → AllAtRest two p bits → AllAtRest one p bits
  rest_here p bits t h k here =
      let x = t k here in
      let P : List NodeEntry → Type 0 = λ l. IsAtRest l in
      let a = record_then plan.version (journal_at r.first k) (step_runs_at r.all k) (journal_at r.second k)
      (step_runs_at r.others k) bits (steps_done p k) x in
      let b = record_two plan.version (journal_at r.first k) (step_runs_at r.all k) (journal_at r.second k)
      (step_runs_at r.others k) bits (steps_done p k) x in
      subst P (b ∙ sym a) (h k here)

  -- ---- the end

  pub record IsSameEnd (q s : Progress) (e f : End) : Type 0 where
    pub progress : q ≡ s
    pub ends : e ≡ f
    pub together : Both q.bits (steps_done q)

  -- all steps are done where the run ends
  abbrev pub AllDone : List (List StepRun) → Progress → Type 0
  AllDone x q = (k : ℕ) → k < length plan.nodes → steps_done q k ≡ length (step_runs_at x k)

  none_late : (x : List (List StepRun)) (n : ℕ) (q : Progress) → AllDone x q → Late x n (steps_done q)
  none_late x n q all_of k i d here from less =
      let e = all_of k here in absurd (omega (arith, e, from, less))

  -- the bits were spent
  pub spent : (p : Progress) → Both p.bits (steps_done p) → p.bits ≤ plan.bits → plan.bits ≡ r.most →
      plan.bits ≡ r.limit → AllDone r.all p → AllDone r.others p → Both plan.bits (steps_done p)
  spent p t few a b done also =
      let n = plan.bits - p.bits in
      let e : p.bits + n ≡ plan.bits = omega (arith, few) in
      subst (λ x. Both x (steps_done p)) e
      (bits_more n p.bits (steps_done p) t (omega (arith, e, a)) (omega (arith, e, b))
      (none_late r.all (p.bits + n) p done) (none_late r.others (p.bits + n) p also))

  -- ---- along the turns

  -- what is known of both where they have come to the same point
  pub record Known (p q s : Progress) : Type 0 where
    pub few : p.bits ≤ plan.bits
    pub long : length p.done ≡ length plan.nodes
    pub done : AllDone r.all q
    pub also : AllDone r.others s
    pub bits : q.bits ≡ r.most
    pub spent_bits : s.bits ≡ r.limit
    pub together : Both p.bits (steps_done p)

  late_one : (p q : Progress) (turns : List Turn) (e : End) → RunsTo one p turns q e →
      length p.done ≡ length plan.nodes → AllDone r.all q → Late r.all p.bits (steps_done p)
  late_one p q turns e h long done k i d here from less =
      late_from one p q turns e (length plan.nodes) h long done k here i d from less

  late_two : (p s : Progress) (turns : List Turn) (f : End) → RunsTo two p turns s f →
      length p.done ≡ length plan.nodes → AllDone r.others s → Late r.others p.bits (steps_done p)
  late_two p s turns f h long done k i d here from less =
      late_from two p s turns f (length plan.nodes) h long done k here i d from less

  -- so many bits more of both
  pub after_bits : (p q s : Progress) (n a b : ℕ) (turns : List Turn) (e f : End) → Known p q s →
      p.bits + a ≤ plan.bits → p.bits + b ≤ plan.bits → RunsTo one (with_bits p a) turns q e →
      RunsTo two (with_bits p b) turns s f → n ≤ a → n ≤ b → Both (p.bits + n) (steps_done p)
  after_bits p q s n a b turns e f k within inside h g few less =
      let x = (rises one (with_bits p a) q turns e h within).more in
      let y = (rises two (with_bits p b) s turns f g inside).more in
      let u = k.bits in
      let v = k.spent_bits in
      let late = late_one (with_bits p a) q turns e h k.long k.done in
      let later = late_two (with_bits p b) s turns f g k.long k.also in
      bits_more n p.bits (steps_done p) k.together (omega (arith, x, u, few)) (omega (arith, y, v, less))
      (λ m i d here from there. let l = late m i d here from there in omega (arith, l, few))
      (λ m i d here from there. let l = later m i d here from there in omega (arith, l, less))

  -- the first run has bits more, and the second one spends them all
  pub before_spent : (p q s : Progress) (a : ℕ) (turns : List Turn) (e : End) → Known p q s → p.bits + a ≤ plan.bits →
      RunsTo one (with_bits p a) turns q e → s ≡ record p { bits = plan.bits } → Both (p.bits + a) (steps_done p)
  before_spent p q s a turns e k within h is =
      let x = (rises one (with_bits p a) q turns e h within).more in
      let u = k.bits in
      let v = ap (λ (o : Progress). o.bits) (sym is) ∙ k.spent_bits in
      let done : AllDone r.others p = subst (λ (o : Progress). (m : ℕ) → m < length plan.nodes →
      steps_done o m ≡ length (step_runs_at r.others m)) is k.also in
      bits_more a p.bits (steps_done p) k.together (omega (arith, x, u)) (omega (arith, within, v))
      (late_one (with_bits p a) q turns e h k.long k.done) (none_late r.others (p.bits + a) p done)

  pub spent_before : (p q s : Progress) (b : ℕ) (turns : List Turn) (f : End) → Known p q s → p.bits + b ≤ plan.bits →
      RunsTo two (with_bits p b) turns s f → q ≡ record p { bits = plan.bits } → Both (p.bits + b) (steps_done p)
  spent_before p q s b turns f k within g is =
      let y = (rises two (with_bits p b) s turns f g within).more in
      let u = ap (λ (o : Progress). o.bits) (sym is) ∙ k.bits in
      let v = k.spent_bits in
      let done : AllDone r.all p = subst (λ (o : Progress). (m : ℕ) → m < length plan.nodes →
      steps_done o m ≡ length (step_runs_at r.all m)) is k.done in
      bits_more b p.bits (steps_done p) k.together (omega (arith, within, u)) (omega (arith, y, v))
      (none_late r.all (p.bits + b) p done) (late_two (with_bits p b) s turns f g k.long k.also)

  -- ---- the turn of a node

  -- as many steps of it, and all nodes after them
  pub record IsSameTurn (p : Progress) (k m n : ℕ) : Type 0 where
    pub same : with_steps p k m ≡ with_steps p k n
    pub together : Both p.bits (steps_done (with_steps p k m))

  pub node_turn : (p : Progress) (k most_steps m n : ℕ) → length p.done ≡ length plan.nodes →
      Both p.bits (steps_done p) → DoesSteps one p k most_steps m → DoesSteps two p k most_steps n → IsSameTurn p k m n
  node_turn p k most_steps m n long t a b = elim (cases_lt k (length plan.nodes)) [
    | inl here ↦
        let there : k < length p.done = omega (arith, here, long) in
        let x = turn_of plan r.first r.all p k most_steps m there a in
        let y = turn_of plan r.second r.others p k most_steps n there b in
        let equal = as_many plan.version (steps_at plan k) (journal_at r.first k) (step_runs_at r.all k)
        (journal_at r.second k) (step_runs_at r.others k) (r.runs k here) (r.too k here) p.bits (steps_done p k)
        most_steps m n x y (t k here) in
        let now = turn_both plan.version (steps_at plan k) (journal_at r.first k) (step_runs_at r.all k)
        (journal_at r.second k) (step_runs_at r.others k) (r.runs k here) (r.too k here) p.bits (steps_done p k)
        most_steps m n x y (t k here) in
        let T : ℕ → ℕ → Type 0 = λ i c. Together plan.version (journal_at r.first i) (step_runs_at r.all i)
        (journal_at r.second i) (step_runs_at r.others i) p.bits c in
        record {
          same = ap (λ c. with_steps p k c) equal;
          together = λ i inside. elim (cases_eq k i) [
            | inl is ↦ subst (λ j. T j (steps_done (with_steps p k m) j)) is
                (subst (λ c. T k c) (sym (steps_same p k m there)) now)
            | inr other ↦ subst (λ c. T i c) (sym (steps_other p k i m other)) (t i inside)
          ];
        }
    | inr past ↦
        let u = steps_nothing p k m (omega (arith, past, long)) in
        let v = steps_nothing p k n (omega (arith, past, long)) in
        record { same = u ∙ sym v; together = subst (λ (o : Progress). Both o.bits (steps_done o)) (sym u) t }
  ]
