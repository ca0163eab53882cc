use Rattle.std.proofs.Common.{rules, ◌≡◌, ◌<◌, ◌+◌, ℕ, true, false, List, length, vec_capacity, sym}
use Rattle.std.proofs.Common.{ap, ◌∙◌, subst, arith}
use Rattle.std.specs.Prelude.{Option, Some, [], Result, Ok, Err, not, slice_index_or, unwrap_or}
use Rattle.std.proofs.lemmas.List.{length-map}
use Rattle.sja_journal.specs.BoundedHistories.{HistoryValue}
use Rattle.sja_plan.specs.declared.turn.Turn.{Turn}
use Rattle.sja_plan.specs.declared.turn.Turn.TheVariants.{Node}
use Rattle.sja_steps.specs.declared.step_record.StepRecord.{StepRecord as StepDone}
use Rattle.sja_steps.specs.declared.step.Step.{Step}
use Rattle.sja_steps.specs.declared.step_answer.StepAnswer.{StepAnswer}
use Rattle.sja_steps.specs.declared.step_answer.StepAnswer.TheVariants.{Done}
use Rattle.sja_driver.specs.StepRuns.{StepRun}
use Rattle.sja_driver.specs.declared.logged_driver.LoggedDriver.{LoggedDriver}
use Rattle.sja_driver.specs.LoggedDrivers.{log_of}
use Rattle.sja_driver.specs.Logs.{done_in}
use Rattle.sja_serial.specs.Serial.{Setup}
use Rattle.sja_serial.specs.Stepping.{DoesStep as DoesOnRun, HasRoomLeft, WaitsFor}
use Rattle.sja_serial.proofs.AllNodes.Several.{by_own, from_own, first_driver, setup_is}
use Rattle.sja_session.specs.declared.step_outcome.StepOutcome.{StepOutcome}
use Rattle.sja_session.specs.declared.step_outcome.StepOutcome.TheVariants.{Answer, Waits as HasToWait}
use Rattle.sja_session.specs.declared.step_fault.StepFault.{StepFault}
use Rattle.sja_session.specs.Answering.{last_of}
use Rattle.sja_session.specs.Sessions.{SessionValue, HasEnd, IsAt, IsEndless, IsSession}
use Rattle.sja_session.specs.Sessions.{session_of, setup_by, plan_with}
use Rattle.sja_session.specs.Stepping.{MayStep, DoesStep, Waits}
use Rattle.sja_session.specs.Turning.{with_turn}
use Rattle.sja_session.specs.Writing.{with_more}
use Rattle.sja_session.proofs.StepsDone.Stepped.{answer_is, does_step, room_left, waits_step}
use Rattle.sja_session.proofs.StepsDone.StepAnswered.{after_done, after_waiting}
use Rattle.sja_session.proofs.WrittenPlan.Noting.{end_of, noted_of, not_noted_of}
use Rattle.sja_session.proofs.WrittenPlan.OneMore.{listed, rooms_of}
use Rattle.sja_session.proofs.WrittenPlan.Within.{last_few}
use Rattle.sja_session.proofs.session.Session.step.Goals.{After-step}
use Rattle.sja_session.proofs.session.Session.step.Goals as goal

-- the answer of a call, where it has one
abbrev answer_in : Result StepOutcome StepFault → StepAnswer → StepAnswer
answer_in (Ok (Answer a)) other = a
answer_in (Ok HasToWait) other = other
answer_in (Err fault) other = other

-- the number of what a call says: 0 where the step has to wait
abbrev number_of : StepAnswer → ℕ
number_of Done = 1
number_of other = 2

abbrev number_in : Result StepOutcome StepFault → ℕ
number_in (Ok HasToWait) = 0
number_in (Ok (Answer a)) = number_of a + 1
number_in (Err fault) = 0

-- the turn that is taken is one of this node
turn_of : (was now : List Turn) (n node : ℕ) → now ≡ with_turn was (Node n 1) → n ≡ node →
    now ≡ with_turn was (Node node 1)
turn_of was now n node taken own = taken ∙ ap (λ k. with_turn was (Node k 1)) own

-- ---- the session as it was, and the try

abbrev was : After-step → SessionValue
was c = session_of c.self.inside.room c.self.inside.run
    (plan_with c.self.inside.plan c.self.inside.bits c.self.inside.struck.items) (listed c.self.inside.steps.items)
    c.self.inside.turns.items

-- turns are taken down where it has an end
noted : (c : After-step) → HasEnd (was c) → not c.is_endless.result ≡ true
noted c = noted_of c.is_endless.result (was c) c.args.self.now c.self.view_is c.is_endless.ensures.yes
    c.is_endless.ensures.no

with_end : (c : After-step) → not c.is_endless.result ≡ true → HasEnd (was c)
with_end c = end_of c.is_endless.result (was c) c.args.self.now c.self.view_is c.is_endless.ensures.yes
    c.is_endless.ensures.no

not_noted : (c : After-step) → IsEndless (was c) → not c.is_endless.result ≡ false
not_noted c = not_noted_of c.is_endless.result (was c) c.args.self.now c.self.view_is c.is_endless.ensures.yes
    c.is_endless.ensures.no

may : (c : After-step) → MayStep (was c) c.args.node
may c = subst (λ (s : SessionValue). MayStep s c.args.node) (sym c.self.view_is) c.in_ok-may_step.ensures.ok

did : (c : After-step) (step_runs : List (List StepRun)) → IsAt (was c) step_runs → c.step.result ≡ true →
    DoesOnRun (setup_by (was c)) c.self.inside.run c.step.new.self c.args.node c.args.step step_runs
did c step_runs h is_done = from_own (λ (x : Setup). DoesOnRun x c.self.inside.run c.step.new.self c.args.node
    c.args.step
    step_runs)
    h.stands.stands (c.step.ensures.done is_done step_runs (by_own h.stands))

waited : (c : After-step) (step_runs : List (List StepRun)) → IsAt (was c) step_runs → c.step.result ≡ false →
    WaitsFor (setup_by (was c)) c.self.inside.run c.step.new.self c.args.node c.args.step step_runs
waited c step_runs h is_left =
    from_own (λ (x : Setup). WaitsFor x c.self.inside.run c.step.new.self c.args.node c.args.step step_runs)
    h.stands.stands (c.step.ensures.waits is_left step_runs (by_own h.stands))

pub step-requires : goal.step-requires
step-requires c =
    let b = c.self.inside in let inv = c.self.invariant.0 in
    let may = subst (λ (s : SessionValue). MayStep s c.args.node) (sym c.self.view_is) c.in_ok-may_step.ensures.ok in (
      (inv.step_runs, by_own inv.at.stands),
      subst (λ (x : Setup). HasRoomLeft x b.run c.args.node) (setup_is inv.at.stands.stands)
          (room_left (plan_with b.plan b.bits b.struck.items) b.run (listed b.steps.items) b.turns.items inv.step_runs
          c.args.node inv.at may),
    )

pub invariant_of-self : goal.invariant_of-self
invariant_of-self c =
    let at = (goal.at.invariant_of-self c).After-step in let inv = c.self.invariant.0 in (
      after_waiting (plan_with c.self.inside.plan c.self.inside.bits c.self.inside.struck.items) c.self.inside.run
          c.step.new.self (listed c.self.inside.steps.items)
          c.self.inside.turns.items c.args.node c.args.step _ (vec_capacity c.self.inside.turns) inv (may at)
          (waited at inv.step_runs inv.at (search rules)),
      c.self.invariant.1,
    )

pub returns-then-not-step-clause-waits : goal.returns-then-not-step-clause-waits
returns-then-not-step-clause-waits c = λ e step_runs h.
    let at = (goal.at.returns-then-not-step-clause-waits c).After-step in let b = c.self.inside in
    let own = subst (λ (s : SessionValue). IsAt s step_runs) (sym c.self.view_is) h in
    subst (λ (s : SessionValue). Waits s (session_of b.room c.step.new.self (plan_with b.plan b.bits b.struck.items)
    (listed b.steps.items)
    b.turns.items) c.args.node c.args.step step_runs) c.self.view_is
    (waits_step (plan_with b.plan b.bits b.struck.items) b.run c.step.new.self (listed b.steps.items) b.turns.items
    step_runs c.args.node c.args.step
    (may at).there own (waited at step_runs own (search rules)))

-- a step that has to wait has no answer
pub returns-then-not-step-clause-done : goal.returns-then-not-step-clause-done
returns-then-not-step-clause-done c = λ answer is. absurd (omega (arith, ap number_in is))

-- ---- the step and the turn that are written, and the answer

place_is : (c : After-step) → c.from-place.result ≡ c.args.node
place_is c = search rules

pub push_step-requires-clause-there : goal.push_step-requires-clause-there
push_step-requires-clause-there c =
    let at = (goal.at.push_step-requires-clause-there c).After-step in
    let there = (may at).there in let n = c.self.invariant.0.at.count in let e = place_is at in
    let many = length-map c.self.inside.steps.items (λ (x : HistoryValue Step). x.items) in
    omega (arith, there, n, e, many)

pub push_step-requires-clause-room : goal.push_step-requires-clause-room
push_step-requires-clause-room c =
    let at = (goal.at.push_step-requires-clause-room c).After-step in
    let there = (may at).there in let left = (may at).left in
    let places = c.self.invariant.0.places c.args.node there in
    subst (λ k. length (slice_index_or (listed c.self.inside.steps.items) k [])
    < slice_index_or (rooms_of c.self.inside.steps.items) k 0)
    (sym (place_is at)) (omega (arith, left, places))

pub note-requires-clause-room : goal.note-requires-clause-room
note-requires-clause-room c = λ is. let inv = c.self.invariant.0 in let few = inv.few in let room = inv.room in
    omega (arith, few, room)

pub note-requires-clause-fits : goal.note-requires-clause-fits
note-requires-clause-fits c = λ is.
    let at = (goal.at.note-requires-clause-fits c).After-step in let inv = c.self.invariant.0 in
    let end = with_end at is in
    let few = last_few (was at) inv.step_runs inv.at inv.done end (inv.steps end) in omega (arith, few)

pub last_answer-requires : goal.last_answer-requires
last_answer-requires c =
    let at = (goal.at.last_answer-requires c).After-step in let inv = c.self.invariant.0 in
    let t = did at inv.step_runs inv.at (search rules) in
    let d = t.stands.stands.count.drivers in let n = inv.at.count in let m = (may at).there in let e = place_is at in
    omega (arith, d, n, m, e)

-- the log's last answer is that of the act
answer_of : (c : After-step) (step_runs : List (List StepRun)) (h : IsAt (was c) step_runs)
    (is_done : c.step.result ≡ true) →
    (x : LoggedDriver) → last_of (λ (y : StepDone). y.answer)
    (done_in (log_of (slice_index_or c.step.new.self.drivers c.from-place.result x)))
    ≡ Some (did c step_runs h is_done).step_run.answer
answer_of c step_runs h is_done x =
    ap (λ k. last_of (λ (y : StepDone). y.answer) (done_in (log_of (slice_index_or c.step.new.self.drivers k x))))
    (place_is c)
    ∙ answer_is (plan_with c.self.inside.plan c.self.inside.bits c.self.inside.struck.items) c.self.inside.run
    c.step.new.self (listed c.self.inside.steps.items)
    c.self.inside.turns.items step_runs c.args.node c.args.step (may c).there h (did c step_runs h is_done) x

pub unreachable-requires : goal.unreachable-requires
unreachable-requires c =
    let at = (goal.at.unreachable-requires c).After-step in let inv = c.self.invariant.0 in
    let k = inv.at.stands.stands.count.drivers in let n = inv.at.count in let m = (may at).there in
    let x = first_driver c.self.inside.run.drivers (omega (arith, k, n, m)) in
    let some = answer_of at inv.step_runs inv.at (search rules) x in
    let own = c.last_answer.ensures x in let none = c.in-None.is in cc (some, own, none)

pub invariant_of-self-2 : goal.invariant_of-self-2
invariant_of-self-2 c =
    let at = (goal.at.invariant_of-self-2 c).After-step in let inv = c.self.invariant.0 in let b = c.self.inside in
    let t = did at inv.step_runs inv.at (search rules) in
    let wrote : listed c.push_step.new.lists.items ≡ with_more (listed b.steps.items) c.args.node c.args.step =
    c.push_step.ensures.lists ∙ ap (λ k. with_more (listed b.steps.items) k c.args.step) (place_is at) in (
      subst (λ (k : ℕ). IsSession (session_of b.room c.step.new.self (plan_with b.plan b.bits b.struck.items)
          (listed c.push_step.new.lists.items)
          c.note.new.turns.items) (rooms_of c.push_step.new.lists.items) k) (sym c.note.ensures.capacity)
          (subst (λ (sizes : List ℕ). IsSession (session_of b.room c.step.new.self
          (plan_with b.plan b.bits b.struck.items)
          (listed c.push_step.new.lists.items) c.note.new.turns.items) sizes (vec_capacity b.turns))
          (sym c.push_step.ensures.room)
          (subst (λ (l : List (List Step)). IsSession (session_of b.room c.step.new.self
          (plan_with b.plan b.bits b.struck.items) l
          c.note.new.turns.items) (rooms_of b.steps.items) (vec_capacity b.turns)) (sym wrote)
          (after_done (plan_with b.plan b.bits b.struck.items) b.run c.step.new.self (listed b.steps.items)
          b.turns.items c.args.node c.args.step _
          (vec_capacity b.turns) inv (may at) t c.note.new.turns.items
          (λ end. turn_of b.turns.items _ _ c.args.node (c.note.ensures.turns (noted at end)) (omega arith))
          (λ endless. c.note.ensures.none (not_noted at endless))))),
      c.self.invariant.1,
    )

pub returns-clause-done : goal.returns-clause-done
returns-clause-done c = λ answer e step_runs h.
    let at = (goal.at.returns-clause-done c).After-step in let b = c.self.inside in
    let own = subst (λ (s : SessionValue). IsAt s step_runs) (sym c.self.view_is) h in
    let is_done : c.step.result ≡ true = search rules in
    let t = did at step_runs own is_done in
    let k = own.stands.stands.count.drivers in let n = own.count in let m = (may at).there in
    let x = first_driver b.run.drivers (omega (arith, k, n, m)) in
    let whole = sym (answer_of at step_runs own is_done x) ∙ sym (c.last_answer.ensures x) ∙ c.in-Some.is in
    let same : t.step_run.answer ≡ answer = ap (λ (o : Option StepAnswer). unwrap_or o answer) whole
    ∙ ap (λ (r : Result StepOutcome StepFault). answer_in r answer) e in
    let wrote : listed c.push_step.new.lists.items ≡ with_more (listed b.steps.items) c.args.node c.args.step =
    c.push_step.ensures.lists ∙ ap (λ k. with_more (listed b.steps.items) k c.args.step) (place_is at) in
    subst (λ (s : SessionValue). DoesStep s (session_of b.room c.step.new.self (plan_with b.plan b.bits b.struck.items)
    (listed c.push_step.new.lists.items) c.note.new.turns.items) c.args.node c.args.step answer step_runs)
    c.self.view_is
    (subst (λ (l : List (List Step)). DoesStep (was at) (session_of b.room c.step.new.self
    (plan_with b.plan b.bits b.struck.items) l
    c.note.new.turns.items) c.args.node c.args.step answer step_runs) (sym wrote)
    (does_step (plan_with b.plan b.bits b.struck.items) b.run c.step.new.self (listed b.steps.items) b.turns.items
    step_runs c.args.node c.args.step
    (may at).there own t c.self.invariant.0.rules answer same c.note.new.turns.items
    (λ end. turn_of b.turns.items _ _ c.args.node (c.note.ensures.turns (noted at end)) (omega arith))))
