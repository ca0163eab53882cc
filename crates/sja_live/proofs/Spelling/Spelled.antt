-- What a session wrote has texts, and what its calls leave.
use Rattle.std.proofs.Common.{◌≡◌, ℕ, zero, suc, ◌≤◌, List, [], ◌∷◌, ◌++◌, length, reverse, All, sym, subst, arith}
use Rattle.std.specs.Prelude.{Option, Some, None, Bool, slice_index_or}
use Rattle.std.proofs.lemmas.List.{reverse-reverse}
use Rattle.std.proofs.lemmas.List.Elements.{All-nil, All-head, All-tail, All-push, All-set}
use Rattle.sja_driver.specs.StepRuns.{StepRun, step_runs_at}
use Rattle.sja_live.specs.Answering.{all_watched}
use Rattle.sja_live.specs.Inside.Standing.{HasBits, IsSpelled, IsLiveAt}
use Rattle.sja_live.proofs.Spelling.TurnTexts.{all_reversed, turn_more, took_texts}
use Rattle.sja_plan.proofs.PlanLimits.ByVersion.{bits_most, steps_most}
use Rattle.sja_plan.specs.Limits.{most_bits, most_steps}
use Rattle.sja_plan.specs.Plan.{PlanValue, IsInLimits, NamesNode, steps_at}
use Rattle.sja_plan.specs.Struck.{one_strike, struck_at}
use Rattle.sja_plan_reading.specs.Words.{greatest}
use Rattle.sja_plan.specs.declared.turn.Turn.TheVariants.{Bus, Node}
use Rattle.sja_plan_text.specs.HasTexts.{HasStepText, HasTurnText, HasStrikeText, HasTexts}
use Rattle.sja_steps.specs.declared.step.Step.{Step}
use Rattle.sja_session.proofs.WrittenPlan.OneMore.{steps_many}
use Rattle.sja_session.proofs.WrittenPlan.Within.{bits_few}
use Rattle.sja_session.specs.Lines.{IsStill}
use Rattle.sja_session.specs.Running.{RunsBits}
use Rattle.sja_session.specs.Sessions.{SessionValue, HasEnd, IsAt, written}
use Rattle.sja_session.specs.Watching.{NoneRose, Watches}
use Rattle.sja_session.specs.Watching.NoneRose.{none, bit}
use Rattle.sja_session.specs.Writing.{with_bits_run, with_step_done}

-- ---- the whole plan

-- what holds of the list of each node holds of that of one
all_at : (P : List Step → Type 0) (lists : List (List Step)) → P [] → All P lists → (k : ℕ) →
    P (slice_index_or lists k [])
all_at P [] empty all k = empty
all_at P (l ∷ lists) empty all zero = All-head P l lists all
all_at P (l ∷ lists) empty all (suc k) = all_at P lists empty (All-tail P l lists all) k

pub has_texts : (s : SessionValue) (step_runs : List (List StepRun)) → IsLiveAt s step_runs → IsInLimits (written s) →
    HasTexts (written s)
has_texts s step_runs h limits =
    let end : HasEnd s = limits.bits.1 in let spelled = h.spelled end in let most = most_steps s.plan.version in
    let each : (k : ℕ) → length (step_runs_at step_runs k) ≤ greatest = λ k.
    let few = all_at (λ (l : List Step). length l ≤ most) s.steps (omega arith) limits.steps k in
    let same = steps_many s.steps step_runs k h.at.steps in let all = steps_most s.plan.version in
    omega (arith, few, same, all) in
    let bits : s.run.bits ≤ greatest =
    (let few = bits_few s step_runs h.at in let own = limits.bits.1 in let all = bits_most s.plan.version in
    omega (arith, few, own, all)) in
    record {
      step_counts = limits.steps;
      steps = spelled.steps;
      turns = subst (All (HasTurnText s.plan.version)) (reverse-reverse s.turns)
          (all_reversed (HasTurnText s.plan.version) (reverse s.turns)
          (took_texts s.plan.version (length s.steps) (h.at.took end) bits each limits.nodes.1
          (all_reversed HasBits s.turns spelled.turns)
          (all_reversed (NamesNode (length s.steps)) s.turns limits.turns)));
      strikes = spelled.strikes;
    }

-- ---- what is written more

pub spelled_step : (p : PlanValue) (node : ℕ) (step : Step) → IsSpelled p → HasStepText p.version step →
    IsSpelled (with_step_done p node step)
spelled_step p node step h has =
    let has_text = HasStepText p.version in record {
      steps = All-set (All has_text) p.nodes node (steps_at p node ++ step ∷ [])
          (All-push has_text (steps_at p node) step (all_at (All has_text) p.nodes (All-nil has_text) h.steps node) has)
          h.steps;
      turns = turn_more p.turns (Node node 1) tt h.turns;
      strikes = h.strikes;
    }

pub spelled_bits : (p : PlanValue) (n : ℕ) → IsSpelled p → IsSpelled (with_bits_run p n)
spelled_bits p zero h = h
spelled_bits p (suc n) h =
    record { steps = h.steps; turns = turn_more p.turns (Bus (suc n)) (omega arith) h.turns; strikes = h.strikes }

pub spelled_strike : (p : PlanValue) (node bit : ℕ) → IsSpelled p → node ≤ greatest → bit ≤ greatest →
    IsSpelled (struck_at p node bit)
spelled_strike p node place h k b = record {
  steps = h.steps;
  turns = h.turns;
  strikes = All-push HasStrikeText p.strikes (one_strike node place) h.strikes
      (record { node = k; bit = b; every = omega arith; times = omega arith });
}

-- ---- where a session stands then

pub live_by : {now : SessionValue} {p : PlanValue} {after : List (List StepRun)} → IsAt now after →
    (HasEnd now → written now ≡ p) → (HasEnd now → IsSpelled p) → IsLiveAt now after
live_by at wrote h = record { at = at; spelled = λ end. subst IsSpelled (sym (wrote end)) (h end) }

-- one that goes by the same plan had an end before
pub had_end : {now was : PlanValue} → now ≡ was → now.bits ≤ most_bits now.version → was.bits ≤ most_bits was.version
had_end same end = subst (λ (p : PlanValue). p.bits ≤ most_bits p.version) same end

-- one that looked
pub still_live : {was now : SessionValue} {step_runs : List (List StepRun)} → IsLiveAt was step_runs →
    IsStill was now step_runs → IsLiveAt now step_runs
still_live h s = live_by s.at (λ end. s.wrote) (λ end. h.spelled (had_end s.wrote end))

-- one that ran a bit, and one that ran bits in which no line rose
bit_live : {before after now : SessionValue} {step_runs : List (List StepRun)} → IsLiveAt before step_runs →
    RunsBits before after 1 1 step_runs → IsStill after now step_runs → IsLiveAt now step_runs
bit_live {before} h r s = still_live (live_by r.at (λ end. r.wrote (had_end r.plan end))
    (λ end. spelled_bits (written before) 1 (h.spelled (had_end r.plan end)))) s

quiet_live : {watched : List Bool} {nodes : ℕ} {step_runs : List (List StepRun)} {was now : SessionValue} {n : ℕ} →
    IsLiveAt was step_runs → NoneRose watched nodes step_runs was now n → IsLiveAt now step_runs
quiet_live h (none s) = still_live h s
quiet_live h (bit q r f s) = bit_live (quiet_live h q) r s

pub watched_live : (was now : SessionValue) (count run : ℕ) (rose : Option ℕ) (step_runs : List (List StepRun)) →
    IsLiveAt was step_runs → Watches was now count all_watched run rose step_runs → IsLiveAt now step_runs
watched_live was now count run (Some node) step_runs h w = bit_live (quiet_live h w.0.earlier) w.0.bit w.0.still
watched_live was now count run None step_runs h w = quiet_live h w.0
