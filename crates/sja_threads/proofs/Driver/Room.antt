-- Of the acts that a write is only the last one takes room in the log, and a step takes that of one release at most.
use Rattle.std.proofs.Common.{◌≤◌, ◌+◌, ◌==◌, ◌||◌, ◌++◌, ℕ, Bool, true, false, cond, Option, Some, None, List}
use Rattle.std.proofs.Common.{[], ◌∷◌}
use Rattle.std.proofs.Common.{length, refl, sym, ap, ◌∙◌, subst, arith, append-nil, append_assoc}
use Rattle.lemmas.specs.Gathering.{total}
use Rattle.lemmas.proofs.Gathered.{total_append}
use Rattle.sja_regs.specs.declared.command.Command.{Command as CommandBits}
use Rattle.sja_regs.specs.declared.mode.Mode.{Mode}
use Rattle.sja_regs.specs.declared.registers.Registers.{Registers}
use Rattle.sja_regs.specs.Commands.{command_of}
use Rattle.sja_regs.specs.Modes.{mode_of}
use Rattle.sja_regs.specs.Registers.{is_forced}
use Rattle.sja_regs.specs.Writing.{is_other_mode}
use Rattle.sja_steps.specs.declared.step.Step.{Step}
use Rattle.sja_steps.specs.declared.step.Step.TheVariants.{Start, Stop, Window, Release, Read, Write, Load, Command}
use Rattle.sja_steps.specs.declared.step.Step.TheVariants.{Await, Sent, Interrupt, At}
use Rattle.sja_driver.specs.declared.write_steps.WriteSteps.{WriteSteps}
use Rattle.sja_driver.specs.CommandWrites.{command_byte, command_steps, commands, permitted_part, releases}
use Rattle.sja_driver.specs.ModeWrites.{closing, leaving, mode_steps, reset_byte}
use Rattle.sja_driver.specs.WriteLists.{listed, steps_in}
use Rattle.sja_driver.specs.Writes.{write_steps}
use Rattle.sja_threads.specs.Inside.Steps.{LastTakes, room_of}

-- ---- how much

pub one_at_most : (s : Step) → room_of s ≤ 1
one_at_most Start = omega arith
one_at_most Stop = omega arith
one_at_most Window = omega arith
one_at_most Release = omega arith
one_at_most (Read address) = omega arith
one_at_most (Write address value) = omega arith
one_at_most (Load m) = omega arith
one_at_most (Command value) = omega arith
one_at_most (Await count) = omega arith
one_at_most Sent = omega arith
one_at_most Interrupt = omega arith
one_at_most (At least) = omega arith

-- one where a step is to come
abbrev pub one_if : List Step → ℕ
one_if [] = 0
one_if (s ∷ steps) = 1

-- where only the last of steps takes any, there is room for the next of them
pub room_left : (xs ys : List Step) → LastTakes (xs ++ ys) → total room_of xs + one_if ys ≤ 1
room_left [] [] last = omega arith
room_left [] (y ∷ ys) last = omega arith
room_left (x ∷ []) [] last = let one = one_at_most x in omega (arith, one)
room_left (x ∷ []) (y ∷ ys) last = let none = last.0 in omega (arith, none)
room_left (x ∷ z ∷ xs) ys last =
    let none = last.0 in let rest = room_left (z ∷ xs) ys last.1 in omega (arith, none, rest)

pub one_together : (steps : List Step) → LastTakes steps → total room_of steps ≤ 1
one_together steps last =
    let few = room_left steps [] (subst LastTakes (sym (append-nil steps)) last) in omega (arith, few)

-- ---- the steps of a write as values

listed_one : (o : Option Step) (ys : List Step) → length (listed o) ≤ one_if (listed o ++ ys)
listed_one None ys = omega arith
listed_one (Some s) ys = omega arith

-- after the first there is room for the second, and after both for the third
pub room_second : (w : WriteSteps) → LastTakes (steps_in w) →
    total room_of (listed w.first) + length (listed w.second) ≤ 1
room_second w last =
    let room = room_left (listed w.first) (listed w.second ++ listed w.third) last in
    let one = listed_one w.second (listed w.third) in omega (arith, room, one)

pub room_third : (w : WriteSteps) → LastTakes (steps_in w) →
    total room_of (listed w.first) + (total room_of (listed w.second) + length (listed w.third)) ≤ 1
room_third w last =
    let both = listed w.first ++ listed w.second in
    let rest = listed w.third ++ [] in
    let room = room_left both rest (subst LastTakes
    (sym (append_assoc (listed w.first) (listed w.second) rest
    ∙ ap (λ (l : List Step). listed w.first ++ (listed w.second ++ l)) (append-nil (listed w.third)))) last) in
    let sum = total_append room_of (listed w.first) (listed w.second) in
    let one = listed_one w.third [] in omega (arith, room, sum, one)

-- ---- what a write is

either : (b : Bool) (xs ys : List Step) → LastTakes xs → LastTakes ys → LastTakes (cond b xs ys)
either true xs ys x y = x
either false xs ys x y = y

leaving_last : (closes takes : Bool) (byte : ℕ) →
    LastTakes (cond closes (Stop ∷ []) [] ++ (cond takes (Write 0 byte ∷ []) [] ++ Start ∷ []))
leaving_last true true byte = (refl, (refl, tt))
leaving_last true false byte = (refl, tt)
leaving_last false true byte = (refl, tt)
leaving_last false false byte = tt

commands_last : (none releases : Bool) (byte : ℕ) →
    LastTakes (cond none [] (Command byte ∷ []) ++ cond releases (Release ∷ []) [])
commands_last true true byte = tt
commands_last true false byte = tt
commands_last false true byte = (refl, tt)
commands_last false false byte = tt

mode_last : (now : Mode) (forced out : Bool) (value : ℕ) → LastTakes (mode_steps now forced out value)
mode_last now forced out value =
    let new = mode_of value in let write : List Step = Write 0 value ∷ [] in
    let leaves = closing out ++ leaving now new in
    either now.rm (cond (new.rm || forced) write leaves) (cond new.rm (Stop ∷ []) write)
    (either (new.rm || forced) write leaves tt (leaving_last out (is_other_mode now new) (reset_byte new)))
    (either new.rm (Stop ∷ []) write tt tt)

command_last : (p : Registers) (c : CommandBits) → LastTakes (command_steps p c)
command_last p c =
    let byte = command_byte (permitted_part p c) in
    either p.mode.rm [] (commands byte ++ releases c.rrb) tt (commands_last (byte == 0) c.rrb byte)

pub write_last : (p : Registers) (out : Bool) (address value : ℕ) → LastTakes (write_steps p out address value)
write_last p out address value =
    let other : List Step = Write address value ∷ [] in let c = command_of value in
    either (address == 0) (mode_steps p.mode (is_forced p) out value) (cond (address == 1) (command_steps p c) other)
    (mode_last p.mode (is_forced p) out value)
    (either (address == 1) (command_steps p c) other (command_last p c) tt)
