-- What a step gives by the registers is what it gives by its answer.
use Rattle.std.proofs.Common.{Bool, true, false, refl}
use Rattle.std.specs.Prelude.{if◌then◌else◌, Some, None}
use Rattle.can_node_rules.specs.declared.request.Request.{Request}
use Rattle.sja_regs.specs.declared.registers.Registers.{Registers}
use Rattle.sja_regs.specs.Commands.{command_of, requests}
use Rattle.sja_regs.specs.Registers.{config_of}
use Rattle.sja_steps.specs.declared.step.Step.{Step}
use Rattle.sja_steps.specs.declared.step.Step.TheVariants.{Start, Stop, Window, Release, Read, Write, Load, Command}
use Rattle.sja_steps.specs.declared.step.Step.TheVariants.{Await, Sent, Interrupt, At}
use Rattle.sja_steps.specs.declared.step_answer.StepAnswer.{StepAnswer}
use Rattle.sja_steps.specs.declared.step_answer.StepAnswer.TheVariants.{Done, NoMessage, Shown, Released, Value}
use Rattle.sja_steps.specs.declared.step_answer.StepAnswer.TheVariants.{Refused, Ignored}
use Rattle.sja_driver.specs.Carried.{carried}
use Rattle.sja_driver.specs.TypedActs.{Gives, GivesSend}
use Rattle.sja_driver.specs.Ports.{send_of}

sends : (b : Bool) (request : Request) → GivesSend b (send_of (if b then Some request else None))
sends true request = (request, refl)
sends false request = refl

pub gives_carried : (p : Registers) (step : Step) (answer : StepAnswer) → Gives step answer (carried p step answer)
gives_carried p Start Done = (config_of p, refl)
gives_carried p Start NoMessage = refl
gives_carried p Start (Shown m) = refl
gives_carried p Start (Released n) = refl
gives_carried p Start (Value n) = refl
gives_carried p Start (Refused r) = refl
gives_carried p Start (Ignored cause) = refl
gives_carried p Release Done = refl
gives_carried p Release NoMessage = refl
gives_carried p Release (Shown m) = refl
gives_carried p Release (Released n) = refl
gives_carried p Release (Value n) = refl
gives_carried p Release (Refused r) = refl
gives_carried p Release (Ignored cause) = refl
gives_carried p (Command value) Done = sends (requests (command_of value)) _
gives_carried p (Command value) NoMessage = refl
gives_carried p (Command value) (Shown m) = refl
gives_carried p (Command value) (Released n) = refl
gives_carried p (Command value) (Value n) = refl
gives_carried p (Command value) (Refused r) = refl
gives_carried p (Command value) (Ignored cause) = refl
gives_carried p Stop Done = refl
gives_carried p Stop NoMessage = refl
gives_carried p Stop (Shown m) = refl
gives_carried p Stop (Released n) = refl
gives_carried p Stop (Value n) = refl
gives_carried p Stop (Refused r) = refl
gives_carried p Stop (Ignored cause) = refl
gives_carried p Window answer = refl
gives_carried p (Read address) answer = refl
gives_carried p (Write address value) answer = refl
gives_carried p (Load m) answer = refl
gives_carried p (Await count) answer = refl
gives_carried p Sent answer = refl
gives_carried p Interrupt answer = refl
gives_carried p (At bits) answer = refl
