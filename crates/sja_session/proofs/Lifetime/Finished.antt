-- The end of a session.
use Rattle.std.proofs.Common.{◌≡◌, ℕ, List, [], length, map, take, refl, sym, ap, ◌∙◌, subst, arith}
use Rattle.std.specs.Prelude.{slice_index_or}
use Rattle.std.proofs.lemmas.List.{length-map, get_or-map, get_or-replicate}
use Rattle.std.proofs.Math.Seq.{take-length}
use Rattle.sja_driver.specs.StepRuns.{StepRun, step_runs_at, most_acts}
use Rattle.sja_log.specs.declared.end.End.TheVariants.{Turns as TurnsDone}
use Rattle.sja_promises.specs.Turns.{RunsTo}
use Rattle.sja_plan.specs.Plan.{steps_at}
use Rattle.sja_plan.proofs.PlanLimits.ByVersion.{bits_most, steps_most}
use Rattle.sja_steps.specs.declared.step.Step.{Step}
use Rattle.sja_serial.specs.Ending.{AreFirst, MayBeOf, progress}
use Rattle.sja_serial.specs.LoggedRuns.{IsKept}
use Rattle.sja_serial.proofs.AllNodes.Several.{many_steps}
use Rattle.sja_serial.proofs.WholeRun.GoingOn.{run_acts_of}
use Rattle.sja_serial.proofs.WholeRun.Kept.{few_acts}
use Rattle.sja_session.specs.Sessions.{SessionValue, HasEnd, IsAt, IsSession, run_version, setup_by, start_of, written}
use Rattle.sja_session.proofs.Lifetime.Versions.{run_as_plan}
use Rattle.sja_session.proofs.WrittenPlan.Taken.{runs_all}

-- the steps that were written are all that were done
pub first_written : (s : SessionValue) (step_runs : List (List StepRun)) → IsAt s step_runs →
    AreFirst (written s) step_runs
first_written s step_runs h node less =
    let own : map (λ (d : StepRun). d.step) (step_runs_at step_runs node) ≡ steps_at (written s) node =
    sym (get_or-map (λ (ds : List StepRun). map (λ (d : StepRun). d.step) ds) step_runs node [] []
    (let c = many_steps h.stands in omega (arith, c, less)))
    ∙ ap (λ (l : List (List Step)). slice_index_or l node []) h.steps in
    let long : length (step_runs_at step_runs node) ≡ length (steps_at (written s) node) =
    sym (length-map (step_runs_at step_runs node) (λ (d : StepRun). d.step)) ∙ ap (λ (l : List Step). length l) own in
    own ∙ sym (take-length (steps_at (written s) node))
    ∙ ap (λ n. take n (steps_at (written s) node)) (sym long)

-- so its run may be one of the plan that it wrote, if it has an end
pub may_be_written : (s : SessionValue) (step_runs : List (List StepRun)) → HasEnd s → IsAt s step_runs →
    MayBeOf (written s) (setup_by s) step_runs
may_be_written s step_runs end h = record {
  version = run_as_plan s.plan end;
  strikes = refl;
  nodes = refl;
  first = first_written s step_runs h;
}

-- where it has an end its run keeps all that happens in it
pub kept_by : (s : SessionValue) (sizes : List ℕ) (capacity : ℕ) → IsSession s sizes capacity → HasEnd s →
    IsKept (setup_by s)
kept_by s sizes capacity inv end = record {
  bits = let most = bits_most s.plan.version in omega (arith, end, most);
  steps = λ node less.
      let version = run_version s.plan in
      let is = get_or-replicate (length s.steps) node (most_acts version s.room.steps) 0 less in
      let few = inv.steps end in let all = steps_most s.plan.version in
      let acts = few_acts version s.room.steps 65535 (omega (arith, few, all)) in omega (arith, is, acts);
}

-- the turns of the plan that was written lead from the first point of the run to this one
pub turns_lead : (s : SessionValue) (step_runs : List (List StepRun)) → IsAt s step_runs → HasEnd s →
    RunsTo (run_acts_of (written s) s.run.bus.journals step_runs) (start_of (length s.steps)) s.turns
    (progress s.run step_runs)
    TurnsDone
turns_lead s step_runs h end =
    subst (λ (n : ℕ). RunsTo (run_acts_of (written s) s.run.bus.journals step_runs) (start_of n) s.turns
    (progress s.run step_runs) TurnsDone) (sym h.count)
    (runs_all (written s) s.run.bus.journals step_runs (start_of (length s.plan.nodes)) s.turns
    (progress s.run step_runs)
    (h.took end) (let b = h.stands.stands.bits in let a = h.stands.stands.all_bits in omega (arith, a, b)))
