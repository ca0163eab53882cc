-- The run of a plan keeps all that happens in it.
use Rattle.std.proofs.Common.{◌≡◌, ◌≤◌, ◌+◌, ◌*◌, ℕ, Bool, true, false, List, length, map, ap, arith}
use Rattle.std.specs.Prelude.{◌/◌, ◌<◌, ◌^◌, nat_lt, [], All, if◌then◌else◌, slice_index_or}
use Rattle.std.proofs.lemmas.Bool.{lt-ltb}
use Rattle.std.proofs.lemmas.List.{get_or-map, length-map}
use Rattle.sja_journal.specs.Sizes.{most_activations}
use Rattle.sja_regs.specs.Registers.{at_power_on}
use Rattle.sja_driver.specs.StepRuns.{StepRun, by_bytes, most_acts}
use Rattle.sja_plan.specs.Plan.{PlanValue, IsInLimits, step_counts}
use Rattle.sja_plan.proofs.PlanLimits.ByVersion.{bits_most, steps_most}
use Rattle.sja_steps.specs.declared.step.Step.{Step}
use Rattle.sja_serial.specs.Ending.{setup_of}
use Rattle.sja_driver.specs.TypedActs.{TypedAct}
use Rattle.sja_promises.specs.Finishing.{KeepLogs}
use Rattle.sja_promises.specs.LeftDown.{KeepOlder}
use Rattle.sja_serial.specs.LoggedRuns.{IsKept, KeepsRun}
use Rattle.sja_serial.specs.Serial.{Setup, SerialValue, StandsAt, StandsBy, all_acts, most_steps}
use Rattle.sja_bus_rules.specs.WholeRecords.{KeepsRecord}
use Rattle.sja_serial.proofs.AllNodes.Several.{some_links}

-- so many steps are three times as many acts at most
pub few_acts : (version steps most : ℕ) → steps ≤ most → most_acts version steps ≤ 3 * most
few_acts version steps most few = by (by_bytes version)
  where
    by : (b : Bool) → (if b then 3 * steps else steps) ≤ 3 * most
    by true = omega (arith, few)
    by false = omega (arith, few)

-- so many steps are as many acts as a bus can be made for
pub acts_counted : (version : ℕ) (steps : List ℕ) → All (λ (n : ℕ). n ≤ 2 ^ 56) steps →
    All (λ (n : ℕ). n ≤ 2 ^ 58) (map (most_acts version) steps)
acts_counted version steps few k d less =
    let many = length-map steps (most_acts version) in let there : k < length steps = omega (arith, many, less) in
    let is = get_or-map (most_acts version) steps k 0 d there in
    let own = few_acts version (slice_index_or steps k 0) (2 ^ 56) (few k 0 there) in omega (arith, is, own)

-- and a plan has no more
pub counts_few : (plan : PlanValue) → IsInLimits plan → All (λ (n : ℕ). n ≤ 2 ^ 56) (step_counts plan)
counts_few plan limits k d less =
    let none : List Step = [] in let many = length-map plan.nodes (λ (l : List Step). length l) in
    let there : k < length plan.nodes = omega (arith, many, less) in
    let is = get_or-map (λ (l : List Step). length l) plan.nodes k none d there in
    let few = limits.steps k none there in let all = steps_most plan.version in omega (arith, is, few, all)

pub plan_kept : (plan : PlanValue) → IsInLimits plan → IsKept (setup_of plan)
plan_kept plan limits = record {
  bits = let few = limits.bits.1 in let most = bits_most plan.version in omega (arith, few, most);
  steps = λ node less.
      let none : List Step = [] in
      let counts = length-map plan.nodes (λ (l : List Step). length l) in
      let is = get_or-map (most_acts plan.version) (step_counts plan) node 0 0 (omega (arith, less, counts)) in
      let own = get_or-map (λ (l : List Step). length l) plan.nodes node none 0 less in
      let few = limits.steps node none less in let all = steps_most plan.version in
      let acts = few_acts plan.version (slice_index_or (step_counts plan) node 0) 65535 (omega (arith, own, few, all))
      in omega (arith, is, acts);
}

-- so its bus keeps its record
pub keeps_record : (setup : Setup) (r : SerialValue) (acts : List (List TypedAct)) → StandsAt setup r acts →
    IsKept setup → KeepsRecord (r.bus.run + r.bus.left) r.bus.steps (length r.bus.journals)
keeps_record setup r acts h kept node less =
    let bits = h.all_bits in let steps = ap (λ (l : List ℕ). slice_index_or l node 0) h.steps in
    let count = h.count.journals in let own = kept.steps node (omega (arith, less, count)) in let few = kept.bits in
    omega (arith, bits, steps, own, few)

-- so many activations are as many as links can be made for
pub activations_most : (version : ℕ) → most_activations version ≤ 2 ^ 58
activations_most version = by (nat_lt version 3) (nat_lt version 4)
  where
    by : (few plans : Bool) → (if few then 8 else if plans then 64 else 2 ^ 56) ≤ 2 ^ 58
    by true plans = omega arith
    by false true = omega arith
    by false false = omega arith

-- a version of plans has few activations
few_activations : (version : ℕ) → version < 4 → most_activations version ≤ 64
few_activations version plain = by (nat_lt version 3) (nat_lt version 4) (lt-ltb version 4 plain)
  where
    by : (few plans : Bool) → plans ≡ true → (if few then 8 else if plans then 64 else 2 ^ 56) ≤ 64
    by true plans is = omega arith
    by false true is = omega arith
    by false false is = absurd cc

-- so all that was left on its links is kept
pub keeps_links : (setup : Setup) (r : SerialValue) (acts : List (List TypedAct)) → StandsAt setup r acts →
    IsKept setup → KeepOlder r.links
keeps_links setup r acts h kept k l less =
    let count = h.ends.count in let most = few_activations setup.version (h.may.plans kept.bits) in
    let made = h.starts k l (omega (arith, count, less)) in omega (arith, made, most)

-- and so does the log of each of its drivers
few_steps : (version acts : ℕ) → most_steps version acts ≤ acts
few_steps version acts = by (by_bytes version)
  where
    by : (b : Bool) → (if b then acts / 3 else acts) ≤ acts
    by true = omega arith
    by false = omega arith

pub keeps_logs : (setup : Setup) (r : SerialValue) (step_runs : List (List StepRun)) → StandsBy setup r step_runs →
    IsKept setup → KeepLogs r.drivers
keeps_logs setup r step_runs h kept k d less =
    let count = h.stands.count.drivers in let there : k < setup.nodes = omega (arith, count, less) in
    let node = (h.stands.nodes k d (at_power_on 1) some_links there).traced in
    let made = (h.nodes k d (at_power_on 1) there).room in
    let own = kept.steps k there in let few = few_steps setup.version (slice_index_or setup.steps k 0) in
    let acts = node.made_for in let activations = node.activations in
    let most = few_activations setup.version (h.stands.may.plans kept.bits) in record {
      done = omega (arith, made, few, own);
      releases = omega (arith, acts, own);
      left = omega (arith, activations, most);
    }

-- so it keeps all that happens in it
pub keeps_run : (setup : Setup) (r : SerialValue) (step_runs : List (List StepRun)) → StandsBy setup r step_runs →
    IsKept setup → KeepsRun r
keeps_run setup r step_runs h kept = record {
  bits = let few = kept.bits in let all = h.stands.all_bits in let own = h.stands.bits in omega (arith, few, all, own);
  journals = keeps_record setup r (all_acts step_runs) h.stands kept;
  logs = keeps_logs setup r step_runs h kept;
  links = keeps_links setup r (all_acts step_runs) h.stands kept;
}
