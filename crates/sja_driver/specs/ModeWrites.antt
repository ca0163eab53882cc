-- The steps of a typed driver that a write of MOD is (SJA1000 data sheet, 6.4.3).
use Rattle.std.specs.Prelude.{◌++◌, ◌||◌, ℕ, Bool, true, if◌then◌else◌, List, [], ◌∷◌}
use Rattle.sja_regs.specs.declared.mode.Mode.{Mode}
use Rattle.sja_regs.specs.Modes.{mode_of, mode_byte}
use Rattle.sja_regs.specs.Writing.{is_other_mode}
use Rattle.sja_steps.specs.declared.step.Step.{Step}
use Rattle.sja_steps.specs.declared.step.Step.TheVariants.{Start, Stop, Write}

-- the byte of MOD with RM at 1 whose other bits are these
abbrev pub reset_byte : Mode → ℕ
reset_byte mode = mode_byte (record mode { rm = true })

-- the activation that bus-off ended is closed, where the driver hasn't done that (this project's own rule)
abbrev pub closing : Bool → List Step
closing out = if out then Stop ∷ [] else []

-- LOM, STM and AFM are taken while reset mode still stands, where one of them changes
abbrev pub taking : Mode → Mode → List Step
taking now new = if is_other_mode now new then Write 0 (reset_byte new) ∷ [] else []

-- reset mode is left: the same write takes LOM, STM and AFM first, and then the next activation begins
abbrev pub leaving : Mode → Mode → List Step
leaving now new = taking now new ++ Start ∷ []

-- by RM as it is and as it is written. RM 0 to 1 enters reset mode, and bits 1 to 3 aren't taken then, since they can
-- be written only where reset mode was entered before. Where a bus-off is asked for (`forced`: TXERR was written 255,
-- 6.4.12) RM 1 to 0 brings it in place of leaving reset mode, and no activation begins or is closed
abbrev pub mode_steps : Mode → Bool → Bool → ℕ → List Step
mode_steps now forced out value =
    if now.rm
    then if (mode_of value).rm || forced then Write 0 value ∷ [] else closing out ++ leaving now (mode_of value)
    else if (mode_of value).rm then Stop ∷ [] else Write 0 value ∷ []
