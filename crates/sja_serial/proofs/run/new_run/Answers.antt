use Rattle.std.proofs.Common.{◌≡◌, ◌≤◌, ◌^◌, ◌∙◌, ℕ, List, All, [], length}
use Rattle.std.proofs.Common.{map, replicate}
use Rattle.std.proofs.Common.{take, refl, ap, sym, subst, arith}
use Rattle.std.proofs.lemmas.List.{length-map, get_or-replicate}
use Rattle.std.proofs.lemmas.Result.{IfOk-weaker}
use Rattle.sja_driver.specs.StepRuns.{StepRun, most_acts}
use Rattle.sja_journal.specs.Sizes.{most_activations}
use Rattle.sja_plan.proofs.PlanLimits.ByVersion.{bits_most}
use Rattle.sja_plan.specs.Plan.{PlanValue, step_counts, steps_at}
use Rattle.sja_steps.specs.declared.step.Step.{Step}
use Rattle.sja_serial.specs.Ending.{AreFirst, setup_of}
use Rattle.sja_serial.specs.Serial.{Setup, StandsBy, plan_version, setup_with}
use Rattle.sja_bus_rules.specs.Buses.{new_bus}
use Rattle.sja_serial.proofs.WholeRun.Kept.{counts_few}
use Rattle.sja_serial.proofs.run.new_run.Goals.{After-bits}
use Rattle.sja_serial.proofs.run.new_run.Goals as goal

-- nothing done is the first of whatever there is
none_first : (plan : PlanValue) → AreFirst plan (replicate (length plan.nodes) [])
none_first plan node less =
    subst (λ (l : List StepRun). map (λ (a : StepRun). a.step) l ≡ take (length l) (steps_at plan node))
    (sym (get_or-replicate (length plan.nodes) node [] [] less)) refl

-- a plan's own setup, by what is read of it
of_plan : (plan : PlanValue) {version bits : ℕ} {steps : List ℕ} → version ≡ plan.version → bits ≡ plan.bits →
    steps ≡ step_counts plan → setup_with version bits plan.strikes steps ≡ setup_of plan
of_plan plan version bits steps = λ i. let s : Setup = record {
  version = version i;
  bits = bits i;
  strikes = plan.strikes;
  nodes = (ap (λ (l : List ℕ). length l) steps ∙ length-map plan.nodes (λ (l : List Step). length l)) i;
  steps = map (most_acts (version i)) (steps i);
} in s

pub new-requires : goal.new-requires
new-requires c =
    let n = c.in_ok-steps.ensures.count in let l = c.limits.ensures in let b = c.bits.ensures.value in
    let nodes = l.nodes in let fewest = nodes.0 in let many = nodes.1 in
    let bits = l.bits in let least = bits.0 in let most = bits.1 in
    let all = bits_most c.args.plan.now.version in record {
      nodes = (omega (arith, n, fewest), omega (arith, n, many));
      bits = (omega (arith, b, least), omega (arith, b, most, all));
      steps = subst (λ (l : List ℕ). All (λ (n : ℕ). n ≤ 2 ^ 56) l) (sym c.in_ok-steps.ensures.value)
          (counts_few c.args.plan.now l);
    }

-- its version is one of plans
version_is : (c : After-bits) → plan_version c.version.result ≡ c.args.plan.now.version
version_is c = let is = c.version.ensures.value in let few = c.limits.ensures.version.1 in omega (arith, is, few)

-- of the script and the numbers of steps that it was made with
made_of : (c : After-bits) → setup_with (plan_version c.version.result) c.bits.result c.in_ok-script.script
    c.in_ok-steps.steps.items ≡ setup_of c.args.plan.now
made_of c =
    ap (λ l. setup_with (plan_version c.version.result) c.bits.result l c.in_ok-steps.steps.items)
    c.in_ok-script.ensures
    ∙ of_plan c.args.plan.now (version_is c) c.bits.ensures.value c.in_ok-steps.ensures.value

pub returns-clause-stands : goal.returns-clause-stands
returns-clause-stands c =
    let at = (goal.at.returns-clause-stands c).After-bits in let plan = c.args.plan.now in
    let n = length (c.in_ok-steps.steps.items) in
    IfOk-weaker c.new.result _ _ (λ r stands. record {
      by = subst (λ (k : ℕ). StandsBy (setup_of plan) r (replicate k [])) c.in_ok-steps.ensures.count
          (subst (λ (s : Setup). StandsBy s r (replicate n [])) (made_of at) stands);
      first = none_first plan;
    }) c.new.ensures.stands

pub returns-clause-bus : goal.returns-clause-bus
returns-clause-bus c =
    let at = (goal.at.returns-clause-bus c).After-bits in
    IfOk-weaker c.new.result _ _ (λ r is. is ∙ (λ i. new_bus (c.in_ok-script.ensures i) (c.bits.ensures.value i)
    (c.in_ok-steps.ensures.count i) (most_activations (version_is at i))
    (map (most_acts (version_is at i)) (c.in_ok-steps.ensures.value i))))
    c.new.ensures.bus
