-- No step that waits is given up while the bits aren't spent.
use Rattle.std.proofs.Common.{◌≡◌, ◌≢◌, ℕ, Bool, true, false, List, [], ◌∷◌, refl, sym, ◌∙◌, inl, inr}
use Rattle.std.specs.Prelude.{nat_lt, if◌then◌else◌, Option, Some, None, Result, Ok, Err}
use Rattle.can_frame.specs.declared.buffer_view.BufferView.{BufferView}
use Rattle.sja_journal.specs.Sizes.{most_activations}
use Rattle.sja_regs.specs.declared.reg_fault.RegFault.{RegFault}
use Rattle.sja_regs.specs.declared.reg_fault.RegFault.TheVariants as fault
use Rattle.sja_regs.specs.declared.registers.Registers.{Registers}
use Rattle.sja_steps.specs.declared.step.Step.{Step}
use Rattle.sja_steps.specs.declared.step.Step.TheVariants.{Start, Stop, Window, Release, Read, Write, Load, Command}
use Rattle.sja_steps.specs.declared.step.Step.TheVariants.{Await, Sent, Interrupt, At}
use Rattle.sja_steps.specs.declared.refusal.Refusal.TheVariants.{Closed, NoActivationLeft}
use Rattle.sja_steps.specs.declared.step_answer.StepAnswer.{StepAnswer}
use Rattle.sja_steps.specs.declared.step_answer.StepAnswer.TheVariants.{Done, Refused}
use Rattle.sja_driver.specs.Answers.{refusal_of, done_unless, value_answer}
use Rattle.sja_driver.specs.Carried.{Sees, Tells}
use Rattle.sja_driver.specs.TypedActs.{FitsState}

port_never : (f : RegFault) → Refused (refusal_of f) ≢ Refused Closed
port_never fault.NoRegister e = cc
port_never fault.ReadOnly e = cc
port_never fault.ResetOnly e = cc
port_never fault.Locked e = cc
port_never fault.UseTyped e = cc
port_never fault.NotInVersion e = cc
port_never fault.ActiveOnly e = cc
port_never fault.ListenOnly e = cc

done_never : (f : Option RegFault) → done_unless f ≢ Refused Closed
done_never None e = cc
done_never (Some f) e = port_never f e

value_never : (r : Result ℕ RegFault) → value_answer r ≢ Refused Closed
value_never (Ok n) e = cc
value_never (Err f) e = port_never f e

start_never : (b : Bool) → (if b then Done else Refused NoActivationLeft) ≢ Refused Closed
start_never true e = cc
start_never false e = cc

window_never : (off : Bool) (window : List (List ℕ)) (answer : StepAnswer) → Sees Window off window answer →
    answer ≢ Refused Closed
window_never true window answer h e = let x = sym h ∙ e in cc
window_never false [] answer h e = let x = sym h ∙ e in cc
window_never false (m ∷ window) answer h e = let x = sym h ∙ e in cc

release_never : (off : Bool) (window : List (List ℕ)) (answer : StepAnswer) → Sees Release off window answer →
    answer ≢ Refused Closed
release_never true window answer h e = let x = sym h ∙ e in cc
release_never false [] answer h e = let x = sym h ∙ e in cc
release_never false (m ∷ window) answer h e = let x = sym h ∙ e in cc

-- by the state, by what it saw and by the registers
pub never_closed : (version : ℕ) (active : Bool) (n : ℕ) (step : Step) (answer : StepAnswer) (off : Bool)
    (window : List (List ℕ)) (p : Registers) (seen : BufferView) →
    FitsState version active n step answer → (active ≡ true → Sees step off window answer) → Tells step active p seen
    answer →
    p.closed ≡ false → answer ≢ Refused Closed
never_closed version true n Start answer off window p seen f s t c e = let x = sym f ∙ e in cc
never_closed version false n Start answer off window p seen f s t c e =
    start_never (nat_lt n (most_activations version)) (sym f ∙ e)
never_closed version true n Stop answer off window p seen f s t c e = let x = sym f ∙ e in cc
never_closed version false n Stop answer off window p seen f s t c e = let x = sym f ∙ e in cc
never_closed version true n Window answer off window p seen f s t c e = window_never off window answer (s refl) e
never_closed version false n Window answer off window p seen f s t c e = let x = sym f ∙ e in cc
never_closed version true n Release answer off window p seen f s t c e = release_never off window answer (s refl) e
never_closed version false n Release answer off window p seen f s t c e = let x = sym f ∙ e in cc
never_closed version true n (Read address) answer off window p seen f s t c e = value_never _ (sym t ∙ e)
never_closed version false n (Read address) answer off window p seen f s t c e = value_never _ (sym t ∙ e)
never_closed version true n (Write address value) answer off window p seen f s t c e = done_never _ (sym t ∙ e)
never_closed version false n (Write address value) answer off window p seen f s t c e = done_never _ (sym t ∙ e)
never_closed version true n (Load m) answer off window p seen f s t c e = done_never _ (sym t ∙ e)
never_closed version false n (Load m) answer off window p seen f s t c e = let x = sym f ∙ e in cc
never_closed version true n (Command value) answer off window p seen f s t c e = done_never _ (sym t ∙ e)
never_closed version false n (Command value) answer off window p seen f s t c e = let x = sym f ∙ e in cc
never_closed version true n (Await count) answer off window p seen f s t c e = let x = sym c ∙ t e in cc
never_closed version false n (Await count) answer off window p seen f s t c e = let x = sym f ∙ e in cc
never_closed version true n Sent answer off window p seen f s (inl done) c e = let x = sym done.0 ∙ e in cc
never_closed version true n Sent answer off window p seen f s (inr shut) c e = let x = sym c ∙ shut.2 in cc
never_closed version false n Sent answer off window p seen f s t c e = let x = sym f ∙ e in cc
never_closed version active n Interrupt answer off window p seen f s (inl done) c e = let x = sym done.0 ∙ e in cc
never_closed version active n Interrupt answer off window p seen f s (inr shut) c e = let x = sym c ∙ shut.2 in cc
never_closed version active n (At bits) answer off window p seen f s done c e = let x = sym done ∙ e in cc
