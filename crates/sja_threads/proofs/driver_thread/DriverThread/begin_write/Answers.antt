use Rattle.std.proofs.Common.{ap, ◌∙◌, subst}
use Rattle.sja_driver.specs.declared.unmodelled_registers.UnmodelledRegisters.{UnmodelledRegisters}
use Rattle.sja_driver.specs.Written.{written_at}
use Rattle.sja_regs.specs.DriverSettings.{SettingsValue, HasSettings}
use Rattle.sja_threads.proofs.driver_thread.DriverThread.begin_write.Goals as goal

-- what the port shows under its lock is what the acts are found by, and how the write begins
pub returns-clause-begins : goal.returns-clause-begins
returns-clause-begins g c =
    let p = c.found-found.result.now in record {
      at = p;
      has = subst (λ (s : SettingsValue). HasSettings p s) c.requires.set c.found-found.ensures.has;
      steps_are = c.steps_of_write.ensures.are;
      begun = c.begin-written.ensures
          ∙ ap (λ (k : UnmodelledRegisters). written_at p k c.args.address c.args.value) c.kept.ensures;
    }
