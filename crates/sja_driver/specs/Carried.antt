-- What a step sees, and what it gives and leaves by the port (this project's own rule).
use Rattle.std.specs.Prelude.{◌≡◌, ◌≤◌, ◌<◌, ◌⊎◌, ◌&&◌, not, ℕ, Bool, true, false, List, [], ◌∷◌, length}
use Rattle.can_frame.specs.declared.buffer_view.BufferView.{BufferView}
use Rattle.sja_journal.specs.declared.up.Up.{Up}
use Rattle.sja_journal.specs.declared.up.Up.TheVariants.{Start as StartItem, Credit, Stop as StopItem}
use Rattle.sja_regs.specs.declared.registers.Registers.{Registers}
use Rattle.sja_regs.specs.declared.command.Command.{Command as CommandBits}
use Rattle.sja_regs.specs.Addresses.{register_at}
use Rattle.sja_regs.specs.Commands.{command_of, requests, command_faults, after_command}
use Rattle.sja_regs.specs.Reading.{value_at, after_reading_at, or_no_register}
use Rattle.sja_regs.specs.InterruptLine.{is_line_active}
use Rattle.sja_regs.specs.Refusals.{first_fault}
use Rattle.sja_regs.specs.Registers.{config_of, after_entering_reset}
use Rattle.sja_regs.specs.Writing.{write_faults_at, after_writing_at, load_faults, after_loading}
use Rattle.sja_steps.specs.declared.step.Step.{Step}
use Rattle.sja_steps.specs.declared.step.Step.TheVariants.{Start, Stop, Window, Release, Read}
use Rattle.sja_steps.specs.declared.step.Step.TheVariants.{Write, Load, Command, Await, Sent, Interrupt, At}
use Rattle.sja_steps.specs.declared.refusal.Refusal.TheVariants.{Stopped, Empty, Closed}
use Rattle.sja_steps.specs.declared.step_answer.StepAnswer.{StepAnswer}
use Rattle.sja_steps.specs.declared.step_answer.StepAnswer.TheVariants.{Done as DoneAnswer, NoMessage}
use Rattle.sja_steps.specs.declared.step_answer.StepAnswer.TheVariants.{Shown, Released, Refused}
use Rattle.sja_driver.specs.Answers.{done_unless, value_answer}
use Rattle.sja_driver.specs.Ports.{after_start, sent_by}

-- ---- answers

-- what a step answers by whether bus-off is known, and by the window: the messages got and not released
abbrev pub Sees : Step → Bool → List (List ℕ) → StepAnswer → Type 0
Sees Window true window answer = answer ≡ Refused Stopped
Sees Window false [] answer = answer ≡ NoMessage
Sees Window false (m ∷ window) answer = answer ≡ Shown m
Sees Release true window answer = answer ≡ Refused Stopped
Sees Release false [] answer = answer ≡ Refused Empty
Sees Release false (m ∷ window) answer = answer ≡ Released (length m)
Sees (Await count) true window answer = answer ≡ Refused Stopped
Sees (Await count) false window answer =
    ((answer ≡ DoneAnswer) × (count ≤ length window)) ⊎ ((answer ≡ Refused Closed) × (length window < count))
Sees other off window answer = Unit {0}

-- what a step answers by the registers, by what is seen of the messages, and by whether the driver is out of reset. A
-- wait is given up only where the bits are spent; `sent` passes exactly where TBS is 1, and `interrupt` exactly where
-- the interrupt line is active, whether the driver is out of reset or not. A wait for a bit, which asks no register,
-- passes at once: who counts the bits tries it when so many have run
abbrev pub Tells : Step → Bool → Registers → BufferView → StepAnswer → Type 0
Tells (Read address) active p seen answer =
    answer ≡ value_answer (or_no_register (value_at p seen (register_at p.mode.rm address)))
Tells (Write address value) active p seen answer =
    answer ≡ done_unless (first_fault (write_faults_at p (register_at p.mode.rm address) value))
Tells (Load m) true p seen answer = answer ≡ done_unless (first_fault (load_faults p))
Tells (Command value) true p seen answer = answer ≡ done_unless (first_fault (command_faults p (command_of value)))
Tells (Await count) true p seen answer = answer ≡ Refused Closed → p.closed ≡ true
Tells Sent true p seen answer =
    ((answer ≡ DoneAnswer) × (p.tbs ≡ true)) ⊎ ((answer ≡ Refused Closed) × (p.tbs ≡ false) × (p.closed ≡ true))
Tells Interrupt active p seen answer =
    ((answer ≡ DoneAnswer) × (is_line_active p seen ≡ true))
    ⊎ ((answer ≡ Refused Closed) × (is_line_active p seen ≡ false) × (p.closed ≡ true))
Tells (At bits) active p seen answer = answer ≡ DoneAnswer
Tells other active p seen answer = Unit {0}

-- ---- what a step gives, and what it leaves in the port

-- a start carries the configuration, a request what the transmit buffer holds with the command's marks
abbrev pub carried : Registers → Step → StepAnswer → List Up
carried p Start DoneAnswer = StartItem (config_of p) ∷ []
carried p Release (Released n) = Credit n ∷ []
carried p (Command value) DoneAnswer = sent_by p (command_of value)
carried p Stop DoneAnswer = StopItem ∷ []
carried p other answer = []

-- the registers after a step that was done
abbrev pub ported : Registers → Step → StepAnswer → Registers
ported p Start DoneAnswer = after_start p
ported p Stop DoneAnswer = after_entering_reset p
ported p (Read address) answer = after_reading_at p (register_at p.mode.rm address)
ported p (Write address value) DoneAnswer = after_writing_at p (register_at p.mode.rm address) value
ported p (Load m) DoneAnswer = after_loading p m
ported p (Command value) DoneAnswer = after_command p (command_of value)
ported p other answer = p

-- an accepted command that asks for an abort and requests no transmission
abbrev pub aborts : CommandBits → Bool
aborts c = c.at && not (requests c)

abbrev pub asks_abort : Step → StepAnswer → Bool
asks_abort (Command value) DoneAnswer = aborts (command_of value)
asks_abort other answer = false
