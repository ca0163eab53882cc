-- What the words of a line ask for can be written.
use Rattle.std.proofs.Common.{◌≡◌, ℕ, Bool, List, [], ◌∷◌, length, refl, subst, arith}
use Rattle.sja_session.specs.Sessions.{SessionValue}
use Rattle.sja_live.specs.Commands.{AreCommandWords}
use Rattle.sja_live.specs.Inside.Standing.{IsWritable}
use Rattle.sja_live.specs.declared.live_command.LiveCommand.{LiveCommand}
use Rattle.sja_live.specs.declared.live_command.LiveCommand.TheVariants.{Step, Read, Write, Run, Rest, Line, Strike}
use Rattle.sja_live.specs.declared.live_command.LiveCommand.TheVariants.{Answer, Bits, Plan, End, To, PlaceOf}
use Rattle.sja_plan_reading.specs.StepTexts.{AreStepWords}
use Rattle.sja_plan_reading.proofs.OneReading.OneMessage.{is_message}
use Rattle.sja_plan_reading.specs.Words.{Text}
use Rattle.sja_plan_text.specs.HasTexts.{HasStepText}
use Rattle.sja_steps.specs.declared.step.Step.{Step as StepOf}
use Rattle.sja_steps.specs.declared.step.Step.TheVariants.{Start, Stop, Window, Release, Read as ReadAt}
use Rattle.sja_steps.specs.declared.step.Step.TheVariants.{Write as WriteAt, Load, Command, Await}
use Rattle.sja_steps.specs.declared.step.Step.TheVariants.{Sent, Interrupt, At}

-- a step that words spell has a text
spelled_step : (version : ℕ) (ws : List Text) (one : StepOf) → AreStepWords version ws one → HasStepText version one
spelled_step version ws Start h = tt
spelled_step version ws Stop h = tt
spelled_step version ws Window h = tt
spelled_step version ws Release h = tt
spelled_step version ws Sent h = tt
spelled_step version ws Interrupt h = h.0
spelled_step version ws (ReadAt n) (a, e, k) = omega (arith, k.1)
spelled_step version ws (WriteAt n v) (a, b, e, k, i) = (omega (arith, k.1), omega (arith, i.1))
spelled_step version ws (Load m) (a, e, k) = is_message version a m k
spelled_step version ws (Command v) (a, e, k) = omega (arith, k.1)
spelled_step version ws (Await n) (a, e, k) = (k.1, k.2)
spelled_step version ws (At n) (v, a, e, k) = (v, k.2)

pub writable : (s : SessionValue) (version : ℕ) (endless : Bool) (ws : List Text) (c : LiveCommand) →
    version ≡ s.plan.version → AreCommandWords version endless (length s.plan.nodes) ws c → ¬ (c ≡ End) → IsWritable s c
writable s version endless ws (Step node one) v a other =
    subst (λ n. HasStepText n one) v (spelled_step version a.1 one a.4)
writable s version endless ws (Read node address) v a other = tt
writable s version endless ws (Write node address value) v a other = tt
writable s version endless ws (Run count) v a other = tt
writable s version endless ws Rest v a other = tt
writable s version endless ws Line v a other = tt
writable s version endless ws (Strike node bit) v a other = tt
writable s version endless ws (Answer node) v a other = tt
writable s version endless ws (To node place limit) v a other = tt
writable s version endless ws (PlaceOf node) v a other = tt
writable s version endless ws Bits v a other = tt
writable s version endless ws Plan v a other = tt
writable s version endless ws End v a other = absurd (other refl)
