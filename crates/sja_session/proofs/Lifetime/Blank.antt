-- A session that begins: nothing happened.
use Rattle.std.proofs.Common.{◌≡◌, ◌+◌, ◌<◌, ◌≤◌, ℕ, zero, suc, List, [], ◌∷◌, length, map, replicate, refl, sym, ap}
use Rattle.std.proofs.Common.{◌∙◌, subst, arith}
use Rattle.std.specs.Prelude.{◌^◌, reverse, slice_index_or}
use Rattle.std.proofs.lemmas.List.{length-replicate}
use Rattle.sja_plan.specs.Limits.{most_bits}
use Rattle.sja_plan.specs.declared.turn.Turn.{Turn}
use Rattle.sja_plan.specs.Plan.{PlanValue}
use Rattle.sja_steps.specs.declared.step.Step.{Step}
use Rattle.sja_steps.specs.declared.strike.Strike.{Strike}
use Rattle.sja_serial.specs.Ending.{progress}
use Rattle.sja_driver.specs.StepRuns.{most_acts}
use Rattle.sja_journal.specs.Sizes.{most_activations}
use Rattle.sja_serial.specs.Serial.{Setup, SerialValue, StandsBy, setup_with}
use Rattle.sja_bus_rules.specs.Buses.{BusValue, new_bus}
use Rattle.sja_session.specs.declared.session_room.SessionRoom.{SessionRoom}
use Rattle.sja_session.specs.Beginning.{IsRoom}
use Rattle.sja_session.specs.Sessions.{session_of, Took, start_of, IsAt, IsSession, AreNamed}
use Rattle.sja_session.specs.Sessions.{run_version, setup_for, steps_in, written}
use Rattle.sja_session.specs.Inside.Written.{IsBare}
use Rattle.sja_session.proofs.WrittenPlan.Taken.{took_none}

-- no step runs are no steps
no_steps : (n : ℕ) → steps_in (replicate n []) ≡ replicate n []
no_steps zero = refl
no_steps (suc n) = ap (λ l. [] ∷ l) (no_steps n)

-- as many acts for each as so many steps may be
acts_each : (version n size : ℕ) → map (most_acts version) (replicate n size) ≡ replicate n (most_acts version size)
acts_each version zero size = refl
acts_each version (suc n) size = ap (λ l. most_acts version size ∷ l) (acts_each version n size)

-- a run that was made for what such a session's is
module _ (room : SessionRoom) (plan : PlanValue) {version bits : ℕ} {script : List Strike} {sizes : List ℕ}
    (version_is : version ≡ run_version plan) (bits_is : bits ≡ plan.bits) (script_is : script ≡ plan.strikes)
    (sizes_are : sizes ≡ replicate (length plan.nodes) room.steps) where
  many : length sizes ≡ length plan.nodes
  many = ap (λ (l : List ℕ). length l) sizes_are ∙ length-replicate (length plan.nodes) room.steps

  acts_are : map (most_acts version) sizes ≡ replicate (length plan.nodes) (most_acts (run_version plan) room.steps)
  acts_are = (λ i. map (most_acts (version_is i)) (sizes_are i))
      ∙ acts_each (run_version plan) (length plan.nodes) room.steps

  made : setup_with version bits script sizes ≡ setup_for plan room.steps
  made = λ i. let s : Setup = record {
    version = version_is i;
    bits = bits_is i;
    strikes = script_is i;
    nodes = many i;
    steps = acts_are i;
  } in s

  pub stands_made : {run : SerialValue} → StandsBy (setup_with version bits script sizes) run
      (replicate (length sizes) []) →
      StandsBy (setup_for plan room.steps) run (replicate (length plan.nodes) [])
  stands_made {run} h = subst (λ (n : ℕ). StandsBy (setup_for plan room.steps) run (replicate n [])) many
      (subst (λ (s : Setup). StandsBy s run (replicate (length sizes) [])) made h)

  pub bus_made : (run : SerialValue) →
      run.bus ≡ new_bus script bits (length sizes) (most_activations version) (map (most_acts version) sizes) →
      run.bus ≡ new_bus plan.strikes plan.bits (length plan.nodes) (most_activations (run_version plan))
      (replicate (length plan.nodes) (most_acts (run_version plan) room.steps))
  bus_made run is = is
      ∙ (λ i. new_bus (script_is i) (bits_is i) (many i) (most_activations (version_is i)) (acts_are i))

module _ (room : SessionRoom) {plan : PlanValue} {run : SerialValue} {steps : List (List Step)} {turns : List Turn}
    (bare : IsBare plan) (none : steps ≡ replicate (length plan.nodes) []) (idle : turns ≡ [])
    (stands : StandsBy (setup_for plan room.steps) run (replicate (length plan.nodes) []))
    (bus : run.bus ≡ new_bus plan.strikes plan.bits (length plan.nodes) (most_activations (run_version plan))
    (replicate (length plan.nodes) (most_acts (run_version plan) room.steps)))
  where
    -- it wrote a plan of no step and no turn
    pub wrote_first : written (session_of room run plan steps turns) ≡ plan
    wrote_first = (λ i. written (session_of room run plan (none i) (idle i))) ∙ sym bare

    count_first : length steps ≡ length plan.nodes
    count_first = ap (λ l. length l) none ∙ length-replicate (length plan.nodes) []

    -- no driver did anything
    pub at_first : IsAt (session_of room run plan steps turns) (replicate (length plan.nodes) [])
    at_first = record {
      stands = subst (λ (p : PlanValue). StandsBy (setup_for p room.steps) run (replicate (length plan.nodes) []))
          (sym wrote_first) stands;
      steps = no_steps (length plan.nodes) ∙ sym none;
      count = count_first;
      took = λ end. subst (λ (l : List Turn). Took (replicate (length plan.nodes) []) (start_of (length plan.nodes))
          (reverse l)
          (progress run (replicate (length plan.nodes) []))) (sym idle)
          (took_none (length plan.nodes) run (stands.stands.bits ∙ ap (λ (b : BusValue). b.run) bus));
    }

    none_done : (n node : ℕ) → length (slice_index_or (replicate n (let l : List Step = [] in l)) node []) ≡ 0
    none_done zero node = refl
    none_done (suc n) zero = refl
    none_done (suc n) (suc node) = none_done n node

    no_more_than : steps ≡ replicate (length plan.nodes) [] → (node : ℕ) →
        length (slice_index_or steps node []) ≤ room.steps
    no_more_than is node =
        let e = ap (λ (l : List (List Step)). length (slice_index_or l node [])) is in
        let n = none_done (length plan.nodes) node in omega (arith, e, n)

    -- what holds of every session holds of it
    pub session_first : (sizes : List ℕ) (capacity : ℕ) → room.steps ≤ 2 ^ 56 →
        (most_bits plan.version < plan.bits → plan.version ≡ 3) →
        (plan.bits ≤ most_bits plan.version → IsRoom plan.version room) →
        ((node : ℕ) → node < length plan.nodes → slice_index_or sizes node 0 ≡ room.steps) →
        room.turns + 1 ≤ capacity → IsSession (session_of room run plan steps turns) sizes capacity
    session_first sizes capacity counted rules fits places big = record {
      step_runs = replicate (length plan.nodes) [];
      at = at_first;
      rules = rules;
      places = places;
      done = λ node less. no_more_than none node;
      counted = counted;
      steps = λ end. (fits end).0;
      most = λ end. (fits end).1;
      room = big;
      few = let n : length turns ≡ 0 = ap (λ l. length l) idle in omega (arith, n);
      names = subst (λ (l : List Turn). AreNamed (length plan.nodes) (reverse l)) (sym idle) tt;
    }
