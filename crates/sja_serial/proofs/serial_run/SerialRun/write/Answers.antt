use Rattle.std.proofs.Common.{ℕ, List, sym, subst}
use Rattle.sja_steps.specs.declared.step.Step.TheVariants.{Write}
use Rattle.sja_serial.specs.Stepping.{DoesStep}
use Rattle.sja_serial.proofs.TypedActs.Writing.{of_mode}
use Rattle.sja_serial.proofs.serial_run.SerialRun.write.Goals as goal

pub returns : goal.returns
returns g c = λ step_runs h.
    let P : ℕ → Type 0 = λ n. DoesStep g.setup c.args.self.now c.write_mode.new.self c.args.node
    (Write n c.args.value) step_runs in
    let mode = of_mode c.index.result.now c.args.address c.args.value
    (c.is_typed_write.ensures.other c.if-is_typed_write.false) c.if-address-eq-CMR.false in
    subst P (sym mode) (c.write_mode.ensures step_runs h)
