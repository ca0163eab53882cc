-- A step of a session.
use Rattle.std.proofs.Common.{◌≡◌, ℕ, ◌<◌, ◌≤◌, List, [], ◌∷◌, ◌++◌, length, map, replicate, refl, sym, ap, ◌∙◌, subst}
use Rattle.std.proofs.Common.{arith}
use Rattle.std.specs.Prelude.{Some, reverse, slice_index_or}
use Rattle.std.proofs.lemmas.List.{length-map, length-set, get_or-replicate, get_or-set_same}
use Rattle.sja_bus_rules.specs.Wire.{journal_at}
use Rattle.sja_plan.specs.Limits.{most_bits}
use Rattle.sja_plan.specs.declared.turn.Turn.{Turn}
use Rattle.sja_plan.specs.declared.turn.Turn.TheVariants.{Node}
use Rattle.sja_plan.specs.Plan.{PlanValue}
use Rattle.sja_regs.specs.declared.registers.Registers.{Registers}
use Rattle.sja_regs.specs.Registers.{at_power_on}
use Rattle.sja_steps.specs.declared.step_record.StepRecord.{StepRecord}
use Rattle.sja_steps.specs.declared.step.Step.{Step}
use Rattle.sja_steps.specs.declared.step_answer.StepAnswer.{StepAnswer}
use Rattle.sja_driver.specs.declared.logged_driver.LoggedDriver.{LoggedDriver}
use Rattle.sja_driver.specs.StepRuns.{StepRun, step_runs_at, by_bytes, acts_in, step_record_of, most_acts}
use Rattle.sja_driver.specs.TypedActs.{TypedAct, acts_at}
use Rattle.sja_driver.specs.LoggedDrivers.{log_of}
use Rattle.sja_driver.specs.Logs.{done_in}
use Rattle.sja_promises.specs.Waiting.{HasToWait}
use Rattle.sja_serial.specs.Ending.{progress}
use Rattle.sja_serial.specs.Serial.{Setup, SerialValue, StandsBy, all_acts, most_steps}
use Rattle.sja_serial.specs.Stepping.{HasRoomLeft, WaitsFor, with_step_runs}
use Rattle.sja_serial.specs.Stepping.{DoesStep as DoesOnRun}
use Rattle.sja_serial.proofs.AllNodes.Newly.{as_asked}
use Rattle.sja_serial.proofs.AllNodes.Several.{done_count, many_steps}
use Rattle.sja_serial.proofs.TypedActs.Parts.{all_at}
use Rattle.sja_session.proofs.WrittenPlan.OneMore.{more_long, steps_many, steps_more}
use Rattle.sja_session.specs.Answering.{last_of, last_answer}
use Rattle.sja_session.specs.declared.session_room.SessionRoom.{SessionRoom}
use Rattle.sja_session.specs.Sessions.{session_of, Took, start_of, IsAt, run_version, setup_for, written}
use Rattle.sja_session.specs.Stepping.{DoesStep, MayStep, Waits}
use Rattle.sja_session.specs.Turning.{with_turn}
use Rattle.sja_session.specs.Writing.{with_more}
use Rattle.sja_session.proofs.Lifetime.Versions.{step_run_as_plan}
use Rattle.sja_session.proofs.StepsDone.LastAnswer.{last_pushed, last_mapped}
use Rattle.sja_session.proofs.WrittenPlan.Taken.{took_step, took_same}
use Rattle.sja_session.proofs.WrittenPlan.Turned.{took_turn}

-- the last answer that a driver's log has is that of its last step
pub last_answered : (setup : Setup) (r : SerialValue) (step_runs : List (List StepRun)) (node : ℕ) (d : LoggedDriver) →
    StandsBy setup r step_runs → node < setup.nodes →
    last_of (λ (x : StepRecord). x.answer) (done_in (log_of (slice_index_or r.drivers node d)))
    ≡ last_answer (step_runs_at step_runs node)
last_answered setup r step_runs node d h there =
    ap (λ l. last_of (λ (x : StepRecord). x.answer) l) (sym (h.nodes node d (at_power_on 1) there).done)
    ∙ last_mapped (λ (x : StepRecord). x.answer) step_record_of (step_runs_at step_runs node)

-- a step may be tried of the run where it may be of the session
pub room_left : {room : SessionRoom} (plan : PlanValue) (was : SerialValue) (steps : List (List Step))
    (turns : List Turn) (step_runs : List (List StepRun)) (node : ℕ) →
    IsAt (session_of room was plan steps turns) step_runs → MayStep (session_of room was plan steps turns) node →
    HasRoomLeft (setup_for (written (session_of room was plan steps turns)) room.steps) was node
room_left {room} plan was steps turns step_runs node h may =
    let near : node < length steps = (let c = h.count in let t = may.there in omega (arith, c, t)) in record {
      there = near;
      left = λ d.
          let done = done_count _ was step_runs node d (at_power_on 1) h.stands near in
          let many = steps_many steps step_runs node h.steps in let left = may.left in
          let version = run_version plan in let size = ap (most_steps version)
          (get_or-replicate (length steps) node (most_acts version room.steps) 0 near)
          ∙ as_asked (by_bytes version) room.steps in omega (arith, done, many, left, size);
    }

module _ {room : SessionRoom} (plan : PlanValue) (was now : SerialValue) (steps : List (List Step)) (turns : List Turn)
    (step_runs : List (List StepRun)) (node : ℕ) (one : Step) (there : node < length plan.nodes)
    (h : IsAt (session_of room was plan steps turns) step_runs) where
  abbrev setup : Setup
  setup = setup_for (written (session_of room was plan steps turns)) room.steps

  pub near : node < length steps
  near = let c = h.count in omega (arith, c, there)

  inside : node < length step_runs
  inside = let c = many_steps h.stands in let n = near in omega (arith, c, n)

  -- ---- the step was done

  module _ (t : DoesOnRun setup was now node one step_runs) where
    abbrev pub a : StepRun
    a = t.step_run

    abbrev pub after : List (List StepRun)
    after = with_step_runs step_runs node (a ∷ [])

    here : step_runs_at after node ≡ step_runs_at step_runs node ++ a ∷ []
    here = get_or-set_same step_runs node (step_runs_at step_runs node ++ a ∷ []) [] inside

    -- the log's last answer is its own
    pub answer_is : (x : LoggedDriver) →
        last_of (λ (y : StepRecord). y.answer) (done_in (log_of (slice_index_or now.drivers node x))) ≡ Some a.answer
    answer_is x = last_answered setup now after node x t.stands near
        ∙ ap last_answer here ∙ last_pushed (λ (y : StepRun). y.answer) (step_runs_at step_runs node) a

    -- the steps with this one more
    abbrev pub more : List (List Step)
    more = with_more steps node one

    took_it : plan.bits ≤ most_bits plan.version →
        Took after (start_of (length plan.nodes)) (reverse (with_turn turns (Node node 1))) (progress now after)
    took_it end =
        let m = length-map after (λ (l : List StepRun). length l) in
        let n = length-set step_runs node (step_runs_at step_runs node ++ a ∷ []) in
        let i = inside in
        let own : (k x : ℕ) → Node node 1 ≡ Node k x → k < length (map (λ (l : List StepRun). length l) after) =
        λ k x e. subst (λ y. y < length (map (λ (l : List StepRun). length l) after)) (of_node k x e)
        (omega (arith, m, n, i)) in
        took_turn after (start_of (length plan.nodes)) (Node node 1) turns (progress now after) own
        (took_step step_runs (start_of (length plan.nodes)) (reverse turns) was now node a inside t.bits_are t.bits
        (h.took end))
      where
        of_node : (k x : ℕ) → Node node 1 ≡ Node k x → node ≡ k
        of_node k x e = cc

    -- as many nodes have steps
    setup_same : (items : List Turn) →
        setup_for (written (session_of room now plan more items)) room.steps ≡ setup
    setup_same items = let n = more_long steps node one in λ i. let s : Setup = record {
      version = run_version plan;
      bits = plan.bits;
      strikes = plan.strikes;
      nodes = n i;
      steps = replicate (n i) (most_acts (run_version plan) room.steps);
    } in s

    -- with the turns that were taken down, if it has an end
    pub at_it : (items : List Turn) →
        (plan.bits ≤ most_bits plan.version → items ≡ with_turn turns (Node node 1)) →
        IsAt (session_of room now plan more items) after
    at_it items noted = record {
      stands = subst (λ (s : Setup). StandsBy s now after) (sym (setup_same items)) t.stands;
      steps = steps_more step_runs node a inside ∙ (λ i. with_more (h.steps i) node (t.step_is i));
      count = more_long steps node one ∙ h.count;
      took = λ end. subst (λ (l : List Turn). Took after (start_of (length plan.nodes)) (reverse l)
          (progress now after))
          (sym (noted end)) (took_it end);
    }

    pub does_step : (most_bits plan.version < plan.bits → plan.version ≡ 3) → (answer : StepAnswer) →
        a.answer ≡ answer → (items : List Turn) →
        (plan.bits ≤ most_bits plan.version → items ≡ with_turn turns (Node node 1)) →
        DoesStep (session_of room was plan steps turns) (session_of room now plan more items) node one answer step_runs
    does_step rules answer same items noted = record {
      step_run = a;
      is = t.step_is;
      answered = same;
      when = t.bits_are;
      what = λ d p. step_run_as_plan plan rules (t.is d p);
      on = t.on;
      others = λ m less differ. t.others m (let n = h.count in omega (arith, n, less)) differ;
      ports = t.ports;
      at = at_it items noted;
      bits = t.bits;
      room = refl;
      wrote = λ end. ap (λ (l : List Turn). written (session_of room now plan more l)) (noted end);
      plan = refl;
    }

  -- ---- the step has to wait

  module _ (t : WaitsFor setup was now node one step_runs) where
    pub still_at : IsAt (session_of room now plan steps turns) step_runs
    still_at = record {
      stands = t.stands;
      steps = h.steps;
      count = h.count;
      took = λ end. took_same step_runs (start_of (length plan.nodes)) (reverse turns) was now t.nothing.does.bits
          (h.took end);
    }

    why_it : HasToWait (slice_index_or was.ports node (at_power_on 1)) (journal_at was.bus.journals node)
        (acts_in (step_runs_at step_runs node)) one
    why_it =
        let p = at_power_on 1 in
        let port : slice_index_or now.ports node p ≡ slice_index_or was.ports node p =
        ap (λ (l : List Registers). slice_index_or l node p) t.nothing.ports in
        let acts = acts_at (all_acts step_runs) node in
        subst (λ (l : List TypedAct). HasToWait (slice_index_or was.ports node p) (journal_at was.bus.journals node) l
        one)
        (all_at step_runs node)
        (subst (λ j. HasToWait (slice_index_or was.ports node p) j acts one) (t.nothing.journals node near)
        (subst (λ (r : Registers). HasToWait r (journal_at now.bus.journals node) acts one) port (t.nothing.why p)))

    pub waits_step :
        Waits (session_of room was plan steps turns) (session_of room now plan steps turns) node one step_runs
    waits_step = record {
      why = why_it;
      at = still_at;
      bits = t.nothing.does.bits;
      ports = t.nothing.ports;
      journals = λ m less. t.nothing.journals m (let n = h.count in omega (arith, n, less));
      kept = λ m d less. t.nothing.kept m d (let n = h.count in omega (arith, n, less));
      room = refl;
      wrote = refl;
      plan = refl;
    }
