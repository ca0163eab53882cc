-- A plan that was read has texts.
use Rattle.std.proofs.Common.{◌≤◌, ℕ, List, length, All, subst, arith}
use Rattle.std.specs.List.{AllZip}
use Rattle.sja_plan_reading.specs.StepTexts.{SaysStep}
use Rattle.sja_plan_reading.specs.TurnTexts.{SaysTurn}
use Rattle.sja_plan_reading.specs.StrikeTexts.{SaysStrike}
use Rattle.sja_plan_reading.specs.Words.{Text}
use Rattle.sja_plan.specs.Limits.{most_steps}
use Rattle.sja_plan.specs.Plan.{PlanValue}
use Rattle.sja_plan_reading.specs.Checks.{SaysPlan}
use Rattle.sja_plan_reading.specs.Document.{DocumentValue}
use Rattle.sja_plan_reading.specs.Faults.{IsPlanOf}
use Rattle.sja_steps.specs.declared.step.Step.{Step}
use Rattle.sja_plan_reading.proofs.PlanLimits.OfDocuments.{version_is}
use Rattle.sja_plan_reading.proofs.PlanLimits.WithinLimits.{few_read}
use Rattle.sja_plan_text.specs.HasTexts.{HasStepText, HasTurnText, HasStrikeText, HasTexts}
use Rattle.sja_plan_text.proofs.Tables.Lists.{all_said}
use Rattle.sja_plan_text.proofs.Spelling.Steps.{has_step_text}
use Rattle.sja_plan_text.proofs.Spelling.Turns.{has_turn_text}
use Rattle.sja_plan_text.proofs.Spelling.Strikes.{has_strike_text}

pub said_has_texts : (d : DocumentValue) (p : PlanValue) → SaysPlan d p → HasTexts p
said_has_texts d p s =
    let most = most_steps p.version in
    let says = SaysStep p.version in
    let has = HasStepText p.version in
    let few : All (λ (steps : List Text). length steps ≤ most) d.nodes =
    subst (λ v. All (λ (steps : List Text). length steps ≤ most_steps v) d.nodes)
    (version_is d p.version s.version.0) s.step_counts in
    record {
      step_counts = few_read most most says d.nodes p.nodes (omega arith) s.steps few;
      steps = all_said (AllZip says) (λ (steps : List Step). All has steps)
          (λ texts steps. all_said says has (has_step_text p.version) texts steps) d.nodes p.nodes s.steps;
      turns = all_said (SaysTurn p.version (length d.nodes)) (HasTurnText p.version)
          (λ text t said. (has_turn_text p.version (length d.nodes) text t said).1) d.turns p.turns s.turns;
      strikes = all_said (SaysStrike (length d.nodes)) HasStrikeText
          (λ text t said. (has_strike_text (length d.nodes) text t said).1) d.faults p.strikes s.strikes;
    }

pub read_has_texts : (bytes : List ℕ) (p : PlanValue) → IsPlanOf bytes p → HasTexts p
read_has_texts bytes p (d, h, s) = said_has_texts d p s
