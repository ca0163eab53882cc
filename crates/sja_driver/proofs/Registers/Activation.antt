-- What a step leaves of the number of the activation.
use Rattle.std.proofs.Common.{◌≡◌, ℕ, ◌+◌, ◌<◌, Bool, true, false, refl, ◌∙◌, arith}
use Rattle.std.specs.Prelude.{◌^◌, ◌-◌, min, if◌then◌else◌}
use Rattle.sja_regs.specs.declared.registers.Registers.{Registers}
use Rattle.sja_regs.specs.Addresses.{register_at}
use Rattle.sja_regs.specs.Registers.{after_leaving_reset}
use Rattle.sja_steps.specs.declared.step.Step.{Step}
use Rattle.sja_steps.specs.declared.step.Step.TheVariants.{Start, Stop, Window, Release, Read}
use Rattle.sja_steps.specs.declared.step.Step.TheVariants.{Write, Load, Command, Await, Sent, Interrupt, At}
use Rattle.sja_steps.specs.declared.step_answer.StepAnswer.{StepAnswer}
use Rattle.sja_steps.specs.declared.step_answer.StepAnswer.TheVariants.{Done}
use Rattle.sja_driver.specs.Carried.{ported}
use Rattle.sja_driver.specs.TypedActs.{opened}
use Rattle.sja_regs.proofs.Calls.Untouched.{read_leaves, write_leaves}

min_few : (n : ℕ) → n < 2 ^ 56 → min (2 ^ 64 - 1) (n + 1) ≡ n + 1
min_few n few = grind arith

start_activation : (b : Bool) (p : Registers) → b ≡ true → p.activation < 2 ^ 56 →
    (if b then after_leaving_reset p else p).activation ≡ p.activation + 1
start_activation true p e few = min_few p.activation few
start_activation false p e few = absurd cc

plus_none : (n : ℕ) → n ≡ n + 0
plus_none n = omega arith

-- a start from reset mode is the next one
pub activation_step : (p : Registers) (step : Step) (answer : StepAnswer) →
    (opened step answer ≡ 1 → (p.mode.rm ≡ true) × (p.activation < 2 ^ 56)) →
    (ported p step answer).activation ≡ p.activation + opened step answer
activation_step p Start Done starts = let s = starts refl in start_activation p.mode.rm p s.0 s.1
activation_step p Stop Done starts = plus_none p.activation
activation_step p (Command v) Done starts = plus_none p.activation
activation_step p (Write address value) Done starts = (write_leaves (register_at p.mode.rm address) value p).activation
    ∙ plus_none p.activation
activation_step p (Load m) Done starts = plus_none p.activation
activation_step p (Read address) answer starts = (read_leaves (register_at p.mode.rm address) p).activation
    ∙ plus_none p.activation
activation_step p Start other starts = plus_none p.activation
activation_step p Stop other starts = plus_none p.activation
activation_step p (Command v) other starts = plus_none p.activation
activation_step p (Write address value) other starts = plus_none p.activation
activation_step p (Load m) other starts = plus_none p.activation
activation_step p Window answer starts = plus_none p.activation
activation_step p Release answer starts = plus_none p.activation
activation_step p (Await count) answer starts = plus_none p.activation
activation_step p Sent answer starts = plus_none p.activation
activation_step p Interrupt answer starts = plus_none p.activation
activation_step p (At bits) answer starts = plus_none p.activation
