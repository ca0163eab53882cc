-- A write is three acts at most.
use Rattle.std.proofs.Common.{◌≤◌, ◌++◌, ℕ, Bool, true, false, cond, [], ◌∷◌, length, arith}
use Rattle.std.proofs.lemmas.List.{length-append}
use Rattle.std.specs.Prelude.{◌==◌, ◌||◌}
use Rattle.sja_regs.specs.declared.mode.Mode.{Mode}
use Rattle.sja_regs.specs.declared.registers.Registers.{Registers}
use Rattle.sja_regs.specs.Commands.{command_of}
use Rattle.sja_regs.specs.Modes.{mode_of}
use Rattle.sja_regs.specs.Registers.{is_forced}
use Rattle.sja_regs.specs.Writing.{is_other_mode}
use Rattle.sja_steps.specs.declared.step.Step.{Step}
use Rattle.sja_steps.specs.declared.step.Step.TheVariants.{Start, Stop, Release, Write, Command}
use Rattle.sja_driver.specs.CommandWrites.{command_byte, commands, command_steps, permitted_part, releases}
use Rattle.sja_driver.specs.ModeWrites.{closing, leaving, mode_steps, reset_byte, taking}
use Rattle.sja_driver.specs.Writes.{write_steps}

one_if : (b : Bool) (s : Step) → length (cond b (s ∷ []) []) ≤ 1
one_if true s = omega arith
one_if false s = omega arith

none_or : (b : Bool) (s : Step) → length (cond b [] (s ∷ [])) ≤ 1
none_or true s = omega arith
none_or false s = omega arith

few_closing : (out : Bool) → length (closing out) ≤ 1
few_closing out = one_if out Stop

few_leaving : (now new : Mode) → length (leaving now new) ≤ 2
few_leaving now new =
    let one = one_if (is_other_mode now new) (Write 0 (reset_byte new)) in
    let both = length-append (taking now new) (Start ∷ []) in omega (arith, one, both)

few_mode : (now : Mode) (forced out : Bool) (value : ℕ) → length (mode_steps now forced out value) ≤ 3
few_mode now forced out value = by now.rm ((mode_of value).rm || forced) ((mode_of value).rm)
  where
    by : (rm same new : Bool) → length (cond rm (cond same (Write 0 value ∷ []) (closing out ++ leaving now
        (mode_of value)))
        (cond new (Stop ∷ []) (Write 0 value ∷ []))) ≤ 3
    by true true new = omega arith
    by true false new =
        let one = few_closing out in let two = few_leaving now (mode_of value) in
        let both = length-append (closing out) (leaving now (mode_of value)) in omega (arith, one, two, both)
    by false same true = omega arith
    by false same false = omega arith

few_command : (p : Registers) (value : ℕ) → length (command_steps p (command_of value)) ≤ 3
few_command p value = by p.mode.rm
  where
    byte : ℕ
    byte = command_byte (permitted_part p (command_of value))

    by : (rm : Bool) → length (cond rm [] (commands byte ++ releases (command_of value).rrb)) ≤ 3
    by true = omega arith
    by false =
        let one = none_or (byte == 0) (Command byte) in let two = one_if (command_of value).rrb Release in
        let both = length-append (commands byte) (releases (command_of value).rrb) in omega (arith, one, two, both)

pub few_steps : (p : Registers) (active : Bool) (address value : ℕ) →
    length (write_steps p active address value) ≤ 3
few_steps p active address value = by (address == 0) (address == 1)
  where
    by : (first second : Bool) → length (cond first (mode_steps p.mode (is_forced p) active value)
        (cond second (command_steps p (command_of value)) (Write address value ∷ []))) ≤ 3
    by true second = few_mode p.mode (is_forced p) active value
    by false true = few_command p value
    by false false = omega arith
