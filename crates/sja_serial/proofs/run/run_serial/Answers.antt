use Rattle.std.proofs.Common.{Err, refl, subst, ap, ◌∙◌}
use Rattle.sja_log.specs.declared.no_log.NoLog.{NoLog}
use Rattle.sja_promises.specs.Runs.{IsSerialRun}
use Rattle.sja_serial.specs.Ending.{MayBeOf, setup_of}
use Rattle.sja_serial.specs.LoggedRuns.{KeepsRun}
use Rattle.sja_serial.specs.Serial.{Setup}
use Rattle.sja_serial.proofs.WholeRun.Kept.{keeps_run, plan_kept}
use Rattle.sja_serial.proofs.AllNodes.Several.{by_own, many_steps, setup_is}
use Rattle.sja_serial.proofs.WholeRun.Whole.{serial_of}
use Rattle.sja_serial.proofs.run.run_serial.Goals.{In-Ok}
use Rattle.sja_serial.proofs.run.run_serial.Goals as goal

pub finish-requires : goal.finish-requires
finish-requires c = let t = c.take_turns-end.ensures in (t.step_runs, by_own t.stands.by)

-- a plan's run keeps all that happens in it
pub unreachable-requires : goal.unreachable-requires
unreachable-requires c =
    let t = c.take_turns-end.ensures in let plan = c.args.plan.now in let r = c.take_turns-end.new.run in
    let kept : KeepsRun r = keeps_run (setup_of plan) r t.step_runs t.stands.by (plan_kept plan c.limits.ensures) in
    c.finish.ensures.endless (c.in-Err-Endless.is ∙ ap (λ (n : NoLog). Err n) c.in-Err-Endless.field-0-is) kept

is_run : (c : In-Ok) → IsSerialRun c.args.plan.now c.in-Ok.log
is_run c =
    let t = c.take_turns-end.ensures in let log = c.in-Ok.log in let plan = c.args.plan.now in
    let may : MayBeOf plan (setup_of plan) t.step_runs = record {
      version = refl;
      strikes = refl;
      nodes = refl;
      first = t.stands.first;
    } in
    serial_of plan c.take_turns-end.new.run t.step_runs c.take_turns-end.result log (many_steps t.stands.by)
    (c.in-Ok.ensures.log plan t.step_runs (by_own t.stands.by)
    (subst (λ (s : Setup). MayBeOf plan s t.step_runs) (setup_is t.stands.by.stands) may)) t.turns

pub returns-in-Ok-clause-run : goal.returns-in-Ok-clause-run
returns-in-Ok-clause-run c = is_run c

pub returns-in-Ok-clause-headline : goal.returns-in-Ok-clause-headline
returns-in-Ok-clause-headline c = λ k d less. ((is_run c).run.nodes k d less).account
