-- What comes of a try of a step, beside the journal.
use Rattle.std.proofs.Common.{◌≡◌, ◌≢◌, ℕ, Bool, List}
use Rattle.std.specs.Prelude.{Option}
use Rattle.sja_link.specs.Deques.{Deques, Lies, AreAlike, IsDryDown, IsFullUp}
use Rattle.sja_journal.specs.Lists.{on, is_on, same_on}
use Rattle.sja_journal.specs.declared.entry.Entry.{Entry}
use Rattle.sja_journal.specs.Places.{place_of}
use Rattle.sja_regs.specs.declared.registers.Registers.{Registers}
use Rattle.sja_steps.specs.declared.refusal.Refusal.TheVariants.{Closed}
use Rattle.sja_steps.specs.declared.step.Step.{Step}
use Rattle.sja_steps.specs.declared.step_answer.StepAnswer.{StepAnswer}
use Rattle.sja_steps.specs.declared.step_answer.StepAnswer.TheVariants.{Refused}
use Rattle.sja_driver.specs.declared.any_driver.AnyDriver.{AnyDriver}
use Rattle.sja_driver.specs.declared.logged_driver.LoggedDriver.{LoggedDriver}
use Rattle.sja_driver.specs.Acting.{ActsOn, Looks}
use Rattle.sja_driver.specs.LoggedDrivers.{Steps}
use Rattle.sja_driver.specs.Tries.{Tried}
use Rattle.sja_driver.specs.Carried.{Tells, carried, ported}
use Rattle.sja_driver.specs.TypedActs.{TypedAct, opened_by, is_active, FitsState}
use Rattle.sja_promises.specs.Registering.{seen_now}
use Rattle.sja_driver.specs.Windows.{SeesIf}

-- a look of a driver at the link of this activation, and a try of a step at its links, in one thread
abbrev pub LooksOn : ℕ → Deques → List (List ℕ) → List (List ℕ) → Bool → Bool → Type 0
LooksOn a links held window off now_off =
    Looks (same_on AreAlike Lies a) (on Lies a) (is_on IsDryDown a) links held window off now_off

abbrev pub ActsHere : Deques → Deques → Registers → Registers → Step → AnyDriver → AnyDriver → Tried → Type 0
ActsHere old new p q one was now o = ActsOn AreAlike Lies IsDryDown IsFullUp old new p q one was now o

abbrev pub StepsHere : LoggedDriver → LoggedDriver → Deques → Deques → Registers → Registers → Step →
    Option StepAnswer → Type 0
StepsHere was now old new p q one answer = Steps AreAlike Lies IsDryDown IsFullUp was now old new p q one answer

-- an act that comes next, at a port whose registers were p and are q after it
pub record IsNext (j : List Entry) (acts : List TypedAct) (p q : Registers) (d : TypedAct) : Type 0 where
  pub now : d.bits ≡ (place_of j).bits
  pub fits : FitsState p.version (is_active acts) (opened_by acts) d.step d.answer
  pub gave : d.gave ≡ carried p d.step d.answer
  pub sees : SeesIf (is_active acts) j acts d
  pub tells : Tells d.step (is_active acts) p (seen_now (is_active acts) j acts) d.answer
  pub patient : d.answer ≢ Refused Closed
  pub left : q ≡ ported p d.step d.answer
