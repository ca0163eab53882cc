-- A try of a step at an end and a port (this project's own rule).
use Rattle.std.specs.Prelude.{◌≡◌, ◌+◌, ◌<◌, ◌++◌, ℕ, Bool, true, false, None, List, length}
use Rattle.sja_journal.specs.Sizes.{most_activations}
use Rattle.sja_journal.specs.declared.down.Down.{Down}
use Rattle.sja_journal.specs.declared.up.Up.{Up}
use Rattle.sja_journal.specs.Lists.{Lists, messages, on, is_on, same_on}
use Rattle.sja_link.specs.Looking.{Pulls, IsTaken, Refuses, off_among}
use Rattle.sja_regs.specs.declared.registers.Registers.{Registers}
use Rattle.sja_regs.specs.Commands.{command_of, requests, command_faults}
use Rattle.sja_regs.specs.InterruptLine.{is_line_active}
use Rattle.sja_regs.specs.Refusals.{first_fault}
use Rattle.sja_steps.specs.declared.step.Step.{Step}
use Rattle.sja_steps.specs.declared.step.Step.TheVariants.{Start, Stop, Window, Release, Read}
use Rattle.sja_steps.specs.declared.step.Step.TheVariants.{Write, Load, Command, Await, Sent, Interrupt, At}
use Rattle.sja_driver.specs.declared.any_driver.AnyDriver.{AnyDriver}
use Rattle.sja_driver.specs.declared.any_driver.AnyDriver.TheVariants.{InReset, InActive}
use Rattle.sja_driver.specs.AnyDrivers.{is_out, opened_of, held_of, off_of, seen_by, link_used, IsDriverOf}
use Rattle.sja_driver.specs.Carried.{Sees, Tells}
use Rattle.sja_driver.specs.TypedActs.{FitsState}
use Rattle.sja_driver.specs.Drivers.{started_in, held_in, off_in}
use Rattle.sja_driver.specs.Giving.{IsGiven}
use Rattle.sja_driver.specs.Tries.{Tried, IfAnswered, IfUnmet, IsOf, ended_by, released_by, gave_by, port_after}
use Rattle.sja_driver.specs.Tries.{held_after, off_after, window_after, opened_after, is_out_after, IsQuiet}

-- with items got, and items given
abbrev pub with_both : Lists → List Down → List Up → Lists
with_both l got gave = record l { got = l.got ++ got; given = l.given ++ gave }

-- some items were got, and then just these were given; what was released and is held then is what was held and the
-- messages got; bus-off is known if it was, or is among them
pub record Does {E : Type 0} (stands : E → Lists → Type 0) (old new : E) (held now_held : List (List ℕ))
    (off now_off : Bool) (released : List (List ℕ)) (gave : List Up) : Type 0 where
  pub got : List Down
  pub lists : (l : Lists) → stands old l → stands new (with_both l got gave)
  pub told : released ++ now_held ≡ held ++ messages got
  pub off_is : now_off ≡ off_among off got

-- all that the end showed was taken in, and then, at the same end, these were the messages got and not released
pub record Looks {E : Type 0} (alike : E → E → Type 0) (stands : E → Lists → Type 0) (dry : E → Type 0) (old : E)
    (held window : List (List ℕ)) (off now_off : Bool) : Type 0 where
  pub at : E
  pub same : alike old at
  pub pulls : Pulls stands old at held window off now_off
  pub all : IsTaken dry at now_off window

-- P, where the driver is out of reset
abbrev pub IfOut : AnyDriver → Type 0 → Type 0
IfOut (InReset d) P = Unit {0}
IfOut (InActive d) P = P

-- P, where the step takes in what the link shows before it does anything else
abbrev pub IfLooking : Step → Type 0 → Type 0
IfLooking Window P = P
IfLooking Release P = P
IfLooking (Read address) P = P
IfLooking (Await count) P = P
IfLooking Sent P = P
IfLooking Interrupt P = P
IfLooking other P = Unit {0}

-- P, where the step takes in nothing: just its item is given then, and what is held stays
abbrev pub IfTakingNothing : Step → Type 0 → Type 0
IfTakingNothing Start P = P
IfTakingNothing Stop P = P
IfTakingNothing (Write address value) P = P
IfTakingNothing (Load m) P = P
IfTakingNothing (Command value) P = P
IfTakingNothing (At bits) P = P
IfTakingNothing other P = Unit {0}

-- why a step is to be tried again. A start in reset with an activation left, a stop, and a release where bus-off isn't
-- known and a message is held: the end gave its item back. A command that the port doesn't refuse: the end gave its
-- request back. A wait: all that the end showed was taken in, the bits aren't spent, and fewer messages are at the
-- driver's end than it waits for, or TBS is 0, or the interrupt line isn't active. No other step is ever tried again,
-- and in reset none but the start and a wait for that line
abbrev pub Waits : {E : Type 0} → (E → E → Type 0) → (E → Lists → Type 0) → (E → Type 0) → (E → Type 0) → E →
    Registers → Step → AnyDriver → AnyDriver → Type 0
Waits alike stands dry full old p Start (InReset was) now = (started_in was < most_activations p.version) × full old
Waits alike stands dry full old p Stop (InActive was) now = full old
Waits alike stands dry full old p Release (InActive was) now = (off_of now ≡ false)
    × Refuses alike stands dry full old (off_of now) (held_of now)
Waits alike stands dry full old p (Command value) (InActive was) now = full old × (requests (command_of value) ≡ true)
    × (first_fault (command_faults p (command_of value)) ≡ None)
Waits alike stands dry full old p (Await count) (InActive was) now = (p.closed ≡ false) × (off_of now ≡ false)
    × (length (held_of now) < count) × Looks alike stands dry old (held_in was) (held_of now) (off_in was) (off_of now)
Waits alike stands dry full old p Sent (InActive was) now = (p.closed ≡ false) × (p.tbs ≡ false)
    × Looks alike stands dry old (held_in was) (held_of now) (off_in was) (off_of now)
Waits alike stands dry full old p Interrupt was now = (p.closed ≡ false) × (is_line_active p (seen_by now) ≡ false)
    × IfOut was (Looks alike stands dry old (held_of was) (held_of now) (off_of was) (off_of now))
Waits alike stands dry full old p other was now = ⊥

-- a driver tried a step at its end, and at a port whose registers it found as p and left as q
pub record Acts {E : Type 0} (alike : E → E → Type 0) (stands : E → Lists → Type 0) (dry full : E → Type 0)
    (old new : E) (p q : Registers) (step : Step) (was now : AnyDriver) (o : Tried) : Type 0 where
  -- what was got, given, released and held
  pub does : Does stands old new (held_of was) (held_after now o) (off_of was) (off_after now o) (released_by o)
      (gave_by p step o)
  pub still : IfTakingNothing step (IsGiven stands old new (gave_by p step o) × (held_after now o ≡ held_of was)
      × (off_after now o ≡ off_of was))
  -- the registers
  pub port : q ≡ port_after p step o
  -- the answer, by the state, by the window and by the registers
  pub fits : IfAnswered o (FitsState p.version (is_out was) (opened_of was) step)
  pub sees : IfOut was (IfAnswered o (Sees step (off_after now o) (window_after now o)))
  pub tells : IfAnswered o (Tells step (is_out was) p (seen_by now))
  -- that window is all that the link showed
  pub looks : IfOut was (IfLooking step (IfAnswered o (λ answer.
      Looks alike stands dry old (held_of was) (window_after now o) (off_of was) (off_after now o))))
  -- why there is no answer
  pub waits : IfUnmet o (Waits alike stands dry full old p step was now)
  -- the driver after it
  pub kind : IsOf step o
  pub out : is_out now ≡ is_out_after (is_out was) step o
  pub opens : opened_of now ≡ opened_after (opened_of was) step o
  pub place : (node n : ℕ) → IsDriverOf node n was → IsDriverOf node (n + ended_by o) now
  pub quiet : IsQuiet p step now o

-- the same at the link that the driver uses, of all links of its node
abbrev pub ActsOn : {E : Type 0} → (E → E → Type 0) → (E → ℕ → Lists → Type 0) → (E → ℕ → Type 0) →
    (E → ℕ → Type 0) → E → E → Registers → Registers → Step → AnyDriver → AnyDriver → Tried → Type 0
ActsOn alike stands dry full old new p q step was now o =
    let a = link_used was in
    Acts (same_on alike stands a) (on stands a) (is_on dry a) (is_on full a) old new p q step was now o
