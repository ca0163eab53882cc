use Rattle.std.proofs.Common.{rules, ◌≡◌, ◌<◌, ◌++◌, List, length, true, false, ap, ◌∙◌, subst, arith, inl, inr}
use Rattle.std.specs.Prelude.{slice_index_or}
use Rattle.std.proofs.lemmas.List.{length-set, get_or_default}
use Rattle.sja_driver.specs.StepRuns.{StepRun, step_runs_at, acts_in}
use Rattle.sja_driver.specs.TypedActs.{TypedAct}
use Rattle.sja_driver.specs.LoggedDrivers.{log_of}
use Rattle.sja_driver.specs.Logs.{done_in}
use Rattle.sja_driver.specs.declared.logged_driver.LoggedDriver.{LoggedDriver}
use Rattle.sja_plan.specs.Plan.{steps_at}
use Rattle.sja_promises.specs.Waiting.{HasToWait}
use Rattle.sja_regs.specs.Registers.{at_power_on}
use Rattle.sja_bus_rules.specs.Wire.{journal_at}
use Rattle.sja_steps.specs.declared.step.Step.{Step}
use Rattle.sja_serial.specs.Ending.{setup_of}
use Rattle.sja_serial.specs.Stepping.{DoesStep, HasRoomLeft, WaitsFor, with_step_runs}
use Rattle.sja_serial.specs.Serial.{Setup, StandsBy}
use Rattle.sja_serial.proofs.AllNodes.Several.{by_own, from_own, done_count, many_steps, setup_is}
use Rattle.sja_serial.proofs.TypedActs.Parts.{all_at}
use Rattle.sja_serial.proofs.WholeRun.Steps.{SoFar, so_far_none, so_far_one, turn_over}
use Rattle.sja_serial.proofs.WholeRun.Steps.{turn_waits, first_then, room_left}
use Rattle.sja_serial.proofs.node_turns.take_steps.Goals.{After-done_count-next}
use Rattle.sja_serial.proofs.node_turns.take_steps.Goals as goal

pub loop-init : goal.loop-init
loop-init c = λ step_runs h. so_far_none c.args.plan.now c.args.run.now c.args.node step_runs h

-- ---- the next step of the node

place_is : (c : After-done_count-next) → c.from-place.result ≡ c.args.node
place_is c = search rules

module _ (c : After-done_count-next) {step_runs : List (List StepRun)}
    (s : SoFar c.args.plan.now c.args.run.now c.loop.run c.args.node step_runs c.loop.counter) where
  abbrev mid : List (List StepRun)
  mid = with_step_runs step_runs c.args.node s.more

  by : StandsBy (setup_of c.args.plan.now) c.loop.run mid
  by = s.stands.by

  many_done : c.done_count-next.result ≡ length (step_runs_at mid c.args.node)
  many_done =
      c.done_count-next.ensures ∙ ap (λ l. length l) (ap done_in c.log.ensures
      ∙ ap (λ (d : LoggedDriver). done_in (log_of d)) (c.driver.ensures
      ∙ ap (λ k. slice_index_or c.loop.run.drivers k c.driver.result.now) (place_is c)))
      ∙ done_count (setup_of c.args.plan.now) c.loop.run mid c.args.node c.driver.result.now (at_power_on 1) by
      c.requires.node

  all_steps : c.steps-steps.result.now ≡ steps_at c.args.plan.now c.args.node
  all_steps = c.steps-steps.ensures.value ∙ ap (λ k. steps_at c.args.plan.now k) (place_is c)

  inside : c.args.node < length step_runs
  inside =
      let n = many_steps by in let less = c.requires.node in
      let same = length-set step_runs c.args.node (step_runs_at step_runs c.args.node ++ s.more) in
      omega (arith, n, less, same)

  -- one is left
  module _ (less : c.done_count-next.result < length c.steps-steps.result.now) where
    left : length (step_runs_at mid c.args.node) < length (steps_at c.args.plan.now c.args.node)
    left = let done = many_done in let all = ap (λ l. length l) all_steps in omega (arith, less, done, all)

    -- this one
    next_is : (step : Step) → step ≡ slice_index_or c.steps-steps.result.now (c.done_count-next.result) step →
        step ≡ slice_index_or (steps_at c.args.plan.now c.args.node) (length (step_runs_at mid c.args.node)) step
    next_is step is = is ∙ (λ i. slice_index_or (all_steps i) (many_done i) step)

    -- whatever else were asked for in its place
    is_next : (step other : Step) →
        step ≡ slice_index_or c.steps-steps.result.now (c.done_count-next.result) step →
        step ≡ slice_index_or (steps_at c.args.plan.now c.args.node) (length (step_runs_at mid c.args.node)) other
    is_next step other is =
        next_is step is
        ∙ get_or_default (steps_at c.args.plan.now c.args.node) (length (step_runs_at mid c.args.node)) step other left

pub step-requires : goal.step-requires
step-requires c =
    let at = (goal.at.step-requires c).After-done_count-next in
    let h = c.requires.run in let s = c.loop.invariant h.0 h.1 in let mine = by at s in
    let few = left at s c.if-next-steps.false in
    let near = c.requires.node in
    let room = room_left c.args.plan.now c.args.node near in (
      (mid at s, by_own mine),
      subst (λ (x : Setup). HasRoomLeft x c.loop.run c.args.node) (setup_is mine.stands) (record {
        there = near;
        left = λ d.
            let count = done_count (setup_of c.args.plan.now) c.loop.run (mid at s) c.args.node d (at_power_on 1)
            mine near in omega (arith, count, few, room);
      }),
    )

-- ---- what comes of it

pub returns-then-next-steps : goal.returns-then-next-steps
returns-then-next-steps c = λ step_runs h.
    let at = (goal.at.returns-then-next-steps c).After-done_count-next in let s = c.loop.invariant step_runs h in
    let done = many_done at s in let all = ap (λ l. length l) (all_steps at s) in let none = c.if-next-steps.true in
    let more = c.loop-test.true in
    turn_over c.args.plan.now c.args.run.now c.loop.run c.args.node step_runs (inside at s) s c.args.count
    (omega (arith, more))
    (λ less. inl (omega (arith, done, all, none)))

pub returns-then-not-step : goal.returns-then-not-step
returns-then-not-step c = λ step_runs h.
    let at = (goal.at.returns-then-not-step c).After-done_count-next in let s = c.loop.invariant step_runs h in
    let more = c.loop-test.true in let no : c.step.result ≡ false = search rules in
    let one = c.index-steps-next.result in let node = c.args.node in
    let w = from_own (λ (x : Setup). WaitsFor x c.loop.run c.step.new.self node one (mid at s)) (by at s).stands
    (c.step.ensures.waits no (mid at s) (by_own (by at s))) in
    turn_waits c.args.plan.now c.args.run.now c.loop.run node step_runs (inside at s) s c.step.new.self
    c.args.count (omega (arith, more)) w.stands w.nothing.does.bits
    (inr (λ other p. subst (λ (x : Step). HasToWait (slice_index_or c.step.new.self.ports node p)
    (journal_at c.step.new.self.bus.journals node) (acts_in (step_runs_at (mid at s) node)) x)
    (is_next at s c.if-next-steps.false one other c.index-steps-next.is)
    (subst (λ (l : List TypedAct). HasToWait (slice_index_or c.step.new.self.ports node p)
    (journal_at c.step.new.self.bus.journals node) l one) (all_at (mid at s) node) (w.nothing.why p))))
    w.nothing.journals

pub loop-preserved : goal.loop-preserved
loop-preserved c = λ step_runs h.
    let at = (goal.at.loop-preserved c).After-done_count-next in let s = c.loop.invariant step_runs h in
    let yes : c.step.result ≡ true = search rules in let one = c.index-steps-next.result in
    let d = from_own (λ (x : Setup). DoesStep x c.loop.run c.step.new.self c.args.node one (mid at s)) (by at s).stands
    (c.step.ensures.done yes (mid at s) (by_own (by at s))) in
    let few = left at s c.if-next-steps.false in
    so_far_one c.args.plan.now c.args.run.now c.loop.run c.args.node step_runs (inside at s) s c.step.new.self
    d.step_run
    d.stands (first_then c.args.plan.now c.args.node (mid at s) d.step_run one
    (let n = many_steps (by at s) in let less = c.requires.node in omega (arith, n, less)) s.stands.first few
    (d.step_is ∙ next_is at s c.if-next-steps.false one c.index-steps-next.is)) d.bits_are d.bits d.items d.others

pub returns : goal.returns
returns c = λ step_runs h. let most = c.loop-test.false in let few = c.loop.auto.counter-end in
    turn_over c.args.plan.now c.args.run.now c.loop.run c.args.node step_runs
    (let n = many_steps h.by in let less = c.requires.node in omega (arith, n, less)) (c.loop.invariant step_runs h)
    c.args.count (omega (arith, most, few)) (λ less. absurd (omega (arith, most, few, less)))
