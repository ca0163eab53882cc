-- The driver of a plan may do few acts.
use Rattle.std.proofs.Common.{◌≡◌, ◌≤◌, ◌<◌, ◌*◌, ◌^◌, ℕ, Bool, true, false, List, [], length, arith}
use Rattle.std.specs.Prelude.{if◌then◌else◌, slice_index_or, All}
use Rattle.std.proofs.lemmas.List.{get_or-map, get_or_default, length-map}
use Rattle.sja_steps.specs.declared.step.Step.{Step}
use Rattle.sja_plan.specs.Plan.{PlanValue, IsInLimits}
use Rattle.sja_plan.proofs.PlanLimits.ByVersion.{steps_most}
use Rattle.sja_driver.specs.StepRuns.{by_bytes, most_acts}
use Rattle.sja_thread_promises.specs.Stopping.{act_counts}

-- so many steps are three times as many acts at most
three_each : (version steps most : ℕ) → steps ≤ most → most_acts version steps ≤ 3 * most
three_each version steps most few = by (by_bytes version)
  where
    by : (b : Bool) → (if b then 3 * steps else steps) ≤ 3 * most
    by true = omega (arith, few)
    by false = omega (arith, few)

module _ (plan : PlanValue) (limits : IsInLimits plan) where
  pub few_acts : (node : ℕ) → node < length plan.nodes → slice_index_or (act_counts plan) node 0 ≤ 196605
  few_acts node few =
      let none : List Step = [] in
      let count : slice_index_or (act_counts plan) node 0
      ≡ most_acts plan.version (length (slice_index_or plan.nodes node none)) =
      get_or-map (λ (l : List Step). most_acts plan.version (length l)) plan.nodes node none 0 few in
      let own = limits.steps node none few in let all = steps_most plan.version in
      let acts = three_each plan.version (length (slice_index_or plan.nodes node none)) 65535 (omega (arith, own, all))
      in omega (arith, count, acts)

  -- there is room in a journal for all of them
  pub all_few : All (λ n. n ≤ 2 ^ 58) (act_counts plan)
  all_few node d less =
      let many = length-map plan.nodes (λ (l : List Step). most_acts plan.version (length l)) in
      let few = few_acts node (omega (arith, less, many)) in
      let same = get_or_default (act_counts plan) node d 0 less in omega (arith, few, same)
