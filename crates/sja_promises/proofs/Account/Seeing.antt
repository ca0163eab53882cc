-- What a read of the registers, or a wait for the interrupt line, sees of the messages.
use Rattle.std.proofs.Common.{◌≡◌, ℕ, Bool, true, false, List, refl, sym, ap, ◌∙◌, subst}
use Rattle.can_frame.specs.declared.buffer_view.BufferView.{BufferView}
use Rattle.sja_journal.specs.declared.entry.Entry.{Entry}
use Rattle.sja_journal.specs.Places.{place_of}
use Rattle.sja_link.specs.Showing.{seen_of}
use Rattle.sja_regs.specs.declared.registers.Registers.{Registers}
use Rattle.sja_steps.specs.declared.step.Step.{Step}
use Rattle.sja_steps.specs.declared.step.Step.TheVariants.{Start, Stop, Window, Release, Read}
use Rattle.sja_steps.specs.declared.step.Step.TheVariants.{Write, Load, Command, Await, Sent, Interrupt, At}
use Rattle.sja_steps.specs.declared.step_answer.StepAnswer.{StepAnswer}
use Rattle.sja_driver.specs.declared.any_driver.AnyDriver.{AnyDriver}
use Rattle.sja_driver.specs.declared.any_driver.AnyDriver.TheVariants.{InReset, InActive}
use Rattle.sja_driver.specs.Acting.{IfLooking}
use Rattle.sja_driver.specs.AnyDrivers.{is_out, held_of, off_of, seen_by}
use Rattle.sja_driver.specs.Carried.{Tells}
use Rattle.sja_driver.specs.TypedActs.{TypedAct, active_after}
use Rattle.sja_driver.specs.Drivers.{nothing_seen}
use Rattle.sja_promises.specs.Registering.{seen_now}
use Rattle.sja_driver.specs.Windows.{window_of}
use Rattle.sja_promises.proofs.Account.Looks.{IsShown}

-- out of reset by what is known of bus-off and by the window, in reset nothing
abbrev pub seen_as : Bool → Bool → List (List ℕ) → BufferView
seen_as true off window = seen_of off window
seen_as false off window = nothing_seen

-- a step that is answered by what is seen of the messages: a read, and a wait for the interrupt line
abbrev pub IsSeeing : Step → Type 0
IsSeeing (Read address) = Unit {0}
IsSeeing Interrupt = Unit {0}
IsSeeing other = ⊥

-- it leaves the driver out of reset, or in it
stays_out : (one : Step) (a : StepAnswer) (b : Bool) → IsSeeing one → active_after b one a ≡ b
stays_out (Read x) a b i = refl
stays_out Interrupt a b i = refl
stays_out Start a b i = absurd i
stays_out Stop a b i = absurd i
stays_out Window a b i = absurd i
stays_out Release a b i = absurd i
stays_out (Write x v) a b i = absurd i
stays_out (Load m) a b i = absurd i
stays_out (Command v) a b i = absurd i
stays_out (Await n) a b i = absurd i
stays_out Sent a b i = absurd i
stays_out (At n) a b i = absurd i

-- such a step of a driver sees what the driver knows and holds then
pub seen_by_now : (w now : AnyDriver) (one : Step) (a : StepAnswer) → IsSeeing one →
    is_out now ≡ active_after (is_out w) one a → seen_by now ≡ seen_as (is_out w) (off_of now) (held_of now)
seen_by_now w now one a i out = by now (is_out w) (out ∙ stays_out one a (is_out w) i)
  where
    by : (n : AnyDriver) (b : Bool) → is_out n ≡ b → seen_by n ≡ seen_as b (off_of n) (held_of n)
    by (InReset d) false h = refl
    by (InReset d) true h = absurd cc
    by (InActive d) true h = refl
    by (InActive d) false h = absurd cc

-- no other step looks at them
pub tells_seen : (one : Step) (answer : StepAnswer) (b : Bool) (p : Registers) (seen other : BufferView) →
    (IsSeeing one → other ≡ seen) → Tells one b p seen answer → Tells one b p other answer
tells_seen (Read a) answer b p seen other same h = subst (λ (x : BufferView). Tells (Read a) b p x answer)
    (sym (same tt)) h
tells_seen Interrupt answer b p seen other same h = subst (λ (x : BufferView). Tells Interrupt b p x answer)
    (sym (same tt)) h
tells_seen (Write a v) answer b p seen other same h = h
tells_seen (Load m) answer true p seen other same h = h
tells_seen (Load m) answer false p seen other same h = tt
tells_seen (Command v) answer true p seen other same h = h
tells_seen (Command v) answer false p seen other same h = tt
tells_seen (Await n) answer true p seen other same h = h
tells_seen (Await n) answer false p seen other same h = tt
tells_seen Sent answer true p seen other same h = h
tells_seen Sent answer false p seen other same h = tt
tells_seen (At n) answer b p seen other same h = h
tells_seen Start answer b p seen other same h = tt
tells_seen Stop answer b p seen other same h = tt
tells_seen Window answer b p seen other same h = tt
tells_seen Release answer b p seen other same h = tt

-- what is shown of bus-off and of the messages is all that such a step sees
seen_same : (j : List Entry) (acts : List TypedAct) (b off : Bool) (window : List (List ℕ)) → off ≡ b →
    IsShown j acts off window → seen_now true j acts ≡ seen_of off window
seen_same j acts true off window e s =
    ap (λ (x : Bool). seen_of x (window_of j acts (place_of j).bits)) (s.off_is ∙ e)
    ∙ sym (ap (λ (x : Bool). seen_of x window) e)
seen_same j acts false off window e s =
    ap (λ (x : Bool). seen_of x (window_of j acts (place_of j).bits)) s.off_is
    ∙ ap (λ (l : List (List ℕ)). seen_of off l) (s.window_is e)

pub seen_shown : (j : List Entry) (acts : List TypedAct) (one : Step) (off : Bool) (window : List (List ℕ)) →
    IsSeeing one → IfLooking one (IsShown j acts off window) → seen_now true j acts ≡ seen_of off window
seen_shown j acts (Read x) off window i s = seen_same j acts off off window refl s
seen_shown j acts Interrupt off window i s = seen_same j acts off off window refl s
seen_shown j acts Start off window i s = absurd i
seen_shown j acts Stop off window i s = absurd i
seen_shown j acts Window off window i s = absurd i
seen_shown j acts Release off window i s = absurd i
seen_shown j acts (Write x v) off window i s = absurd i
seen_shown j acts (Load m) off window i s = absurd i
seen_shown j acts (Command v) off window i s = absurd i
seen_shown j acts (Await n) off window i s = absurd i
seen_shown j acts Sent off window i s = absurd i
seen_shown j acts (At n) off window i s = absurd i
