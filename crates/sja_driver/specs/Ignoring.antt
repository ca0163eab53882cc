-- Which writes of a driver that knows addresses and bytes alone a controller ignores, and why (SJA1000 data sheet).
use Rattle.std.specs.Prelude.{◌==◌, ◌&&◌, ◌||◌, not, ℕ, Bool, if◌then◌else◌, Option, Some, None, List, [], ◌∷◌}
use Rattle.sja_regs.specs.declared.command.Command.{Command}
use Rattle.sja_regs.specs.declared.registers.Registers.{Registers}
use Rattle.sja_regs.specs.Commands.{command_of, requests}
use Rattle.sja_steps.specs.declared.ignored.Ignored.{Ignored}
use Rattle.sja_steps.specs.declared.ignored.Ignored.TheVariants as why
use Rattle.sja_steps.specs.declared.refusal.Refusal.{Refusal}
use Rattle.sja_steps.specs.declared.refusal.Refusal.TheVariants as refusal
use Rattle.sja_steps.specs.declared.step_answer.StepAnswer.{StepAnswer}
use Rattle.sja_steps.specs.declared.step_answer.StepAnswer.TheVariants.{Done, Refused, Ignored as IgnoredAnswer}
use Rattle.sja_driver.specs.TypedActs.{TypedAct}

-- ---- by the registers found

-- a command: in reset mode none is taken (6.4.2). Out of it a request is void in listen only mode (6.4.3), and where
-- TBS is 0, since one isn't over (6.4.5)
abbrev pub ignored_command : Registers → Command → Option Ignored
ignored_command p c =
    if p.mode.rm then Some why.ActiveOnly
    else if requests c && p.mode.lom then Some why.ListenOnly
    else if requests c && not p.tbs then Some why.Locked else None

-- BTR0, BTR1, OCR and RBSA: reset mode alone takes them (6.4.1, 6.4.17, 6.5.1 to 6.5.3)
abbrev pub is_kept_in_reset : ℕ → Bool
is_kept_in_reset address = (address == 6) || ((address == 7) || ((address == 8) || (address == 30)))

abbrev pub ignored_at : Registers → ℕ → ℕ → Option Ignored
ignored_at p address value =
    if address == 1 then ignored_command p (command_of value)
    else if is_kept_in_reset address && not p.mode.rm then Some why.ResetOnly else None

-- ---- by what came of its acts

-- why the port or the window refused one: a register that can only be read, or in reset mode alone (6.4.1, of MOD its
-- bits 1 to 3, 6.4.3); the transmit buffer while TBS is 0 (6.4.13); a command in reset mode, which bus-off has entered;
-- and a release with no message (6.4.4). A start that has no activation left is none of the controller's reasons
abbrev pub ignored_for : Refusal → Option Ignored
ignored_for refusal.ReadOnly = Some why.ReadOnly
ignored_for refusal.ResetOnly = Some why.ResetOnly
ignored_for refusal.Locked = Some why.Locked
ignored_for refusal.ActiveOnly = Some why.ActiveOnly
ignored_for refusal.Stopped = Some why.ActiveOnly
ignored_for refusal.Empty = Some why.Empty
ignored_for other = None

abbrev pub ignored_by_answer : StepAnswer → Option Ignored
ignored_by_answer (Refused r) = ignored_for r
ignored_by_answer other = None

-- what is known, or else what another answer says
abbrev pub or_by_answer : Option Ignored → StepAnswer → Option Ignored
or_by_answer (Some cause) answer = Some cause
or_by_answer None answer = ignored_by_answer answer

-- what was known first, or else what the first of these acts says that says it
abbrev pub or_by_acts : Option Ignored → List TypedAct → Option Ignored
or_by_acts known [] = known
or_by_acts known (d ∷ acts) = or_by_acts (or_by_answer known d.answer) acts

-- ---- a write

-- why a write of this value to this address was ignored that found these registers, and that these acts were
abbrev pub ignored_by : Registers → ℕ → ℕ → List TypedAct → Option Ignored
ignored_by p address value acts = or_by_acts (ignored_at p address value) acts

-- what it answers
abbrev pub write_answer : Option Ignored → StepAnswer
write_answer None = Done
write_answer (Some cause) = IgnoredAnswer cause
