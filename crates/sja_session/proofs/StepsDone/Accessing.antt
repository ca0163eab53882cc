-- Steps that are done one after the other, and what is left for more.
use Rattle.std.proofs.Common.{◌≡◌, ℕ, ◌+◌, ◌<◌, Bool, true, false, List, [], ◌∷◌, ◌++◌, length, refl, sym, ap, ◌∙◌}
use Rattle.std.proofs.Common.{subst, arith, inl, inr}
use Rattle.std.specs.Prelude.{if◌then◌else◌, reverse}
use Rattle.std.proofs.lemmas.List.{length-append, length-set, get_or-set_same}
use Rattle.std.proofs.lemmas.Bool.{cases_lt, eq-eqb}
use Rattle.sja_plan.specs.Limits.{most_bits}
use Rattle.sja_plan.specs.declared.turn.Turn.{Turn}
use Rattle.sja_plan.specs.declared.turn.Turn.TheVariants.{Bus, Rest, Node, All as AllSteps, Irq, Go}
use Rattle.sja_plan.specs.Plan.{PlanValue}
use Rattle.sja_steps.specs.declared.step.Step.{Step}
use Rattle.sja_steps.specs.declared.step_answer.StepAnswer.{StepAnswer}
use Rattle.sja_driver.specs.StepRuns.{StepRun, step_runs_at}
use Rattle.sja_serial.specs.Stepping.{with_step_runs}
use Rattle.sja_serial.proofs.AllNodes.Several.{many_steps}
use Rattle.sja_session.specs.ByAddress.{DoesSteps, MayDo, HasTurnFor}
use Rattle.sja_session.specs.ByAddress.DoesSteps.{none, more}
use Rattle.sja_session.specs.Inside.Accessing.{Does}
use Rattle.sja_session.specs.declared.session_room.SessionRoom.{SessionRoom}
use Rattle.sja_session.specs.Sessions.{SessionValue, IsAt}
use Rattle.sja_session.specs.Stepping.{DoesStep, HasTurn, MayStep, steps_done_of}
use Rattle.sja_session.specs.Turning.{goes_on, enlarged, on_latest, with_turn, goes_on_latest}
use Rattle.sja_session.proofs.WrittenPlan.OneMore.{steps_many}
use Rattle.sja_session.proofs.WrittenPlan.Turned.{latest_of}

-- ---- a turn of a node goes on

enlarged_on : (u : Turn) (k m n : ℕ) → goes_on u (Node k m) ≡ true → goes_on (enlarged u n) (Node k m) ≡ true
enlarged_on (Bus x) k m n goes = goes
enlarged_on (Node j x) k m n goes = goes
enlarged_on Rest k m n goes = goes
enlarged_on (AllSteps x) k m n goes = goes
enlarged_on (Irq x y) k m n goes = goes
enlarged_on Go k m n goes = goes

on_itself : (l : List Turn) (k m : ℕ) → goes_on_latest (on_latest (Node k m) l) (Node k m) ≡ true
on_itself [] k m = eq-eqb k k refl
on_itself (u ∷ earlier) k m = by (goes_on u (Node k m)) refl
  where
    by : (b : Bool) → goes_on u (Node k m) ≡ b →
        goes_on_latest (if b then enlarged u m ∷ earlier else Node k m ∷ u ∷ earlier) (Node k m) ≡ true
    by true e = enlarged_on u k m m e
    by false e = eq-eqb k k refl

-- ---- after a step of a node

module _ {was now : SessionValue} {node : ℕ} {step : Step} {answer : StepAnswer} {step_runs : List (List StepRun)}
    (does : DoesStep was now node step answer step_runs) (at : IsAt was step_runs)
    (there : node < length was.plan.nodes)
  where
    abbrev after : List (List StepRun)
    after = with_step_runs step_runs node (does.step_run ∷ [])

    turn_goes_on : HasTurn now (Node node 1)
    turn_goes_on = elim (cases_lt (most_bits was.plan.version) was.plan.bits) [
      | inl endless ↦
          let v = ap (λ (p : PlanValue). most_bits p.version) does.plan in
          let b = ap (λ (p : PlanValue). p.bits) does.plan in inl (omega (arith, endless, v, b))
      | inr end ↦
          let turns : now.turns ≡ with_turn was.turns (Node node 1) =
          ap (λ (p : PlanValue). p.turns) (does.wrote end) in
          inr (inr (ap (λ l. goes_on_latest (reverse l) (Node node 1)) turns
          ∙ ap (λ l. goes_on_latest l (Node node 1)) (latest_of was.turns (Node node 1))
          ∙ on_itself (reverse was.turns) node 1))
    ]

    nodes_are : length now.plan.nodes ≡ length was.plan.nodes
    nodes_are = sym does.at.count ∙ sym (many_steps does.at.stands)
        ∙ length-set step_runs node (step_runs_at step_runs node ++ does.step_run ∷ []) ∙ many_steps at.stands
        ∙ at.count

    one_more : steps_done_of now node ≡ steps_done_of was node + 1
    one_more =
        let inside : node < length step_runs = let c = many_steps at.stands in let n = at.count in
        omega (arith, c, n, there) in
        let here : step_runs_at after node ≡ step_runs_at step_runs node ++ does.step_run ∷ [] =
        get_or-set_same step_runs node (step_runs_at step_runs node ++ does.step_run ∷ []) [] inside in
        let later = steps_many now.steps after node does.at.steps in
        let first = steps_many was.steps step_runs node at.steps in
        let long = ap (λ l. length l) here in
        let both = length-append (step_runs_at step_runs node) (does.step_run ∷ []) in
        omega (arith, later, first, long, both)

    pub may_more : (count : ℕ) → MayDo was node (count + 1) → MayDo now node count
    may_more count may = record {
      there = let n = nodes_are in omega (arith, n, there);
      left =
          let n = one_more in let l = may.left in let room = ap (λ (r : SessionRoom). r.steps) does.room in
          omega (arith, n, l, room);
      turn = inr turn_goes_on;
    }

-- ---- several steps

steps_both : {node : ℕ} {was mid now : SessionValue} {step_runs half after : List (List StepRun)}
    {steps others : List Step} {answers later : List StepAnswer} → DoesSteps node was step_runs steps answers mid half →
    DoesSteps node mid half others later now after →
    DoesSteps node was step_runs (steps ++ others) (answers ++ later) now after
steps_both none second = second
steps_both (more does first) second = more does (steps_both first second)

-- no step
pub does_none : (s : SessionValue) (node : ℕ) (step_runs : List (List StepRun)) → IsAt s step_runs →
    Does s s node [] step_runs
does_none s node step_runs at = record {
  answers = [];
  after = step_runs;
  does = none;
  at = at;
  goes_on = λ count may. subst (MayDo s node) (let z : count + 0 ≡ count = omega arith in z) may;
}

-- one step
pub does_one : (was now : SessionValue) (node : ℕ) (one : Step) (answer : StepAnswer) (step_runs : List (List StepRun))
    →
    DoesStep was now node one answer step_runs → IsAt was step_runs → node < length was.plan.nodes →
    Does was now node (one ∷ []) step_runs
does_one was now node one answer step_runs does at there = record {
  answers = answer ∷ [];
  after = with_step_runs step_runs node (does.step_run ∷ []);
  does = more does none;
  at = does.at;
  goes_on = λ count may. may_more does at there count may;
}

-- some steps, and then others
pub does_both : (was mid now : SessionValue) (node : ℕ) (steps others : List Step) (step_runs : List (List StepRun))
    (first : Does was mid node steps step_runs) → Does mid now node others first.after →
    Does was now node (steps ++ others) step_runs
does_both was mid now node steps others step_runs first second = record {
  answers = first.answers ++ second.answers;
  after = second.after;
  does = steps_both first.does second.does;
  at = second.at;
  goes_on = λ count may. second.goes_on count (first.goes_on (count + length others)
      (subst (MayDo was node) (over count) may));
}
  where
    over : (count : ℕ) → count + length (steps ++ others) ≡ count + length others + length steps
    over count = let n = length-append steps others in omega (arith, n)

-- fewer steps may be done where more may
pub may_fewer : (s : SessionValue) (node count others : ℕ) → MayDo s node (count + others) → MayDo s node count
may_fewer s node count others may = record {
  there = may.there;
  left = let l = may.left in omega (arith, l);
  turn = by may.turn;
}
  where
    by : HasTurnFor s node (count + others) → HasTurnFor s node count
    by (inl few) = inl (omega (arith, few))
    by (inr has) = inr has

-- one step may be done where it may be tried
pub may_of_step : (s : SessionValue) (node : ℕ) → MayStep s node → MayDo s node 1
may_of_step s node may = record {
  there = may.there;
  left = let l = may.left in omega (arith, l);
  turn = inr may.turn;
}

-- and may be tried where it may be done
pub may_one_step : (s : SessionValue) (node : ℕ) → MayDo s node 1 → MayStep s node
may_one_step s node may = record {
  there = may.there;
  left = let l = may.left in omega (arith, l);
  turn = by may.turn;
}
  where
    by : HasTurnFor s node 1 → HasTurn s (Node node 1)
    by (inl few) = absurd (omega (arith, few))
    by (inr has) = has
