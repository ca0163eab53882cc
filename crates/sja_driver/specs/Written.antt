-- A write on its way, of a driver that knows addresses and bytes alone (this project's own rule).
use Rattle.std.specs.Prelude.{ℕ, List, [], ◌∷◌}
use Rattle.sja_regs.specs.declared.registers.Registers.{Registers}
use Rattle.sja_steps.specs.declared.step_answer.StepAnswer.{StepAnswer}
use Rattle.sja_driver.specs.declared.unmodelled_registers.UnmodelledRegisters.{UnmodelledRegisters}
use Rattle.sja_driver.specs.declared.written.Written.{Written}
use Rattle.sja_driver.specs.TypedActs.{TypedAct}
use Rattle.sja_driver.specs.Ignoring.{ignored_at, or_by_answer}
use Rattle.sja_driver.specs.Kept.{kept_after, moved_by_answer}

-- as it finds these registers, with these bytes kept
abbrev pub written_at : Registers → UnmodelledRegisters → ℕ → ℕ → Written
written_at p kept address value =
    record { kept = kept_after kept p.mode.rm address value; ignored = ignored_at p address value }

-- one of its acts was answered, and some, one after the other
abbrev pub written_then : Written → StepAnswer → Written
written_then w answer =
    record { kept = moved_by_answer w.kept answer; ignored = or_by_answer w.ignored answer }

abbrev pub written_by : Written → List TypedAct → Written
written_by w [] = w
written_by w (d ∷ acts) = written_by (written_then w d.answer) acts
