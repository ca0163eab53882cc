use Rattle.std.proofs.Common.{◌≡◌, ◌*◌, ◌≤◌, ℕ, false, List, length, All, sym, ap, ap₂, ◌∙◌, subst, arith}
use Rattle.sja_sweep.specs.declared.trial.Trial.{Trial}
use Rattle.sja_sweep.specs.Targets.{trials_of}
use Rattle.sja_sweep.specs.Inside.Reaching.{IsThere}
use Rattle.sja_sweep.proofs.TriedStrikes.TrialLemmas.{all_there_if}
use Rattle.sja_sweep.proofs.sweep_start.list_trials.Goals as goal

pub returns-clause-ok : goal.returns-clause-ok
returns-clause-ok c = λ planned ran bits_are.
    let plan = c.args.plan.now in
    let s = c.args.sweeping.now in
    let bits = planned.log.bits in
    let trials : c.in_ok-trials.trials.items ≡ trials_of s (length plan.nodes) bits =
    c.in_ok-trials.ensures ∙ ap₂ (λ n b. trials_of s n b) c.nodes-3.ensures.value (sym bits_are) in
    let count : c.run_count-runs.result ≡ length (trials_of s (length plan.nodes) bits) =
    c.run_count-runs.ensures.is
    ∙ ap₂ (λ n b. length (trials_of s n b)) c.nodes-2.ensures.value (sym bits_are) in
    record {
      as_planned = ran;
      trials_are = trials;
      there = subst (λ (l : List Trial). All (IsThere plan) l) (sym trials)
          (all_there_if plan s bits c.requires
          (λ some. c.in_ok-check_room.ensures.ok (omega (arith, some, count))));
      few = subst (λ (n : ℕ). s.meant ≡ false → (n ≤ 20000) × (n * plan.bits ≤ 2000000000))
          (count ∙ ap (λ (l : List Trial). length l) (sym trials)) c.in_ok-check_runs.ensures.ok;
      room = λ some. c.in_ok-check_room.ensures.ok
          (omega (arith, some, count, ap (λ (l : List Trial). length l) trials));
      node = c.requires;
    }
