use Rattle.std.proofs.Common.{◌≡◌, ◌+◌, ◌/◌, ◌%◌, ◌<◌, ◌++◌, min, List, [], Ok, length, take, drop}
use Rattle.std.proofs.Common.{get_or, map, refl, sym, ap, ◌∙◌, subst, rules, append_assoc}
use Rattle.std.proofs.lemmas.List.{take-append-drop}
use Rattle.sja_sweep.specs.declared.trial.Trial.{Trial}
use Rattle.sja_sweep.specs.declared.trial_outcome.TrialOutcome.{TrialOutcome}
use Rattle.sja_sweep.specs.Inside.Reaching.{trial_run_value, outcome_value}
use Rattle.sja_sweep.specs.Inside.Tried.{AreTried, IsPartTried, ArePartsTried}
use Rattle.sja_sweep.proofs.TriedStrikes.TriedLemmas.{tried_both}
use Rattle.sja_sweep.proofs.TriedStrikes.JobLemmas.{parts_cover, parts_tried, ok_part}
use Rattle.sja_sweep.proofs.jobs.tried_in_jobs.Goals as goal

pub loop-part-init : goal.loop-part-init
loop-part-init g c =
    let plan = c.args.plan.now in
    let planned = trial_run_value c.args.planned.now in
    let trials = c.args.trials.now in
    let size = c.max-size.result in
    let parts = c.in_ok-parts.parts.items in
    let len : length parts ≡ length trials / size + min 1 (length trials % size) = search rules in
    let some : 0 < size = search rules in record {
      done = [];
      left = trials;
      whole = refl;
      tried = subst (λ (l : List TrialOutcome). AreTried plan planned [] (map outcome_value l))
          (sym c.new-all.ensures.items) tt;
      rest = subst (λ ps. ArePartsTried (λ v. v.items) plan planned size trials ps) (sym c.into_iter-rest.ensures.rest)
          (parts_tried (λ v. v.items) plan planned size trials parts
          (parts_cover (length parts) (length trials) size some len)
          (λ n d less. let chunk = (c.in_ok-parts.ensures.each n d less).1 in
          subst (λ (l : List Trial). IsPartTried (λ v. v.items) plan planned l (get_or parts n d))
          chunk.argument_is.value chunk.call));
    }

pub loop-part-preserved : goal.loop-part-preserved
loop-part-preserved g c =
    let plan = c.args.plan.now in
    let planned = trial_run_value c.args.planned.now in
    let size = c.max-size.result in
    let so_far = c.loop-part.invariant in
    let left = so_far.left in
    let next = subst (λ ps. ArePartsTried (λ v. v.items) plan planned size left ps)
    c.in-Some.ensures.items so_far.rest in
    let is : c.in-Some.part ≡ Ok c.in_ok-tolds.tolds = c.in_ok-tolds.was in record {
      done = so_far.done ++ take size left;
      left = drop size left;
      whole = so_far.whole ∙ ap (λ l. so_far.done ++ l) (sym (take-append-drop size left))
          ∙ sym (append_assoc so_far.done (take size left) (drop size left));
      tried = tried_both plan planned so_far.done (take size left) (so_far.done ++ take size left)
          c.loop-part.all.items c.in_ok-tolds.tolds.items _ refl c.in_ok-append.ensures.items so_far.tried
          (ok_part (λ v. v.items) plan planned (take size left) c.in-Some.part c.in_ok-tolds.tolds is next.0);
      rest = next.1;
    }
