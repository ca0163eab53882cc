-- What a step saw is what had been put.
use Rattle.std.proofs.Common.{◌≡◌, ℕ, Bool, true, false, List, refl, sym, subst}
use Rattle.sja_journal.specs.declared.entry.Entry.{Entry}
use Rattle.sja_journal.specs.Places.{place_of}
use Rattle.sja_steps.specs.declared.step.Step.{Step}
use Rattle.sja_steps.specs.declared.step.Step.TheVariants.{Start, Stop, Window, Release, Read}
use Rattle.sja_steps.specs.declared.step.Step.TheVariants.{Write, Load, Command, Await, Sent, Interrupt, At}
use Rattle.sja_steps.specs.declared.step_answer.StepAnswer.{StepAnswer}
use Rattle.sja_driver.specs.Acting.{IfLooking}
use Rattle.sja_driver.specs.Carried.{Sees}
use Rattle.sja_driver.specs.TypedActs.{TypedAct, opened_by}
use Rattle.sja_driver.specs.Windows.{off_by, window_of}
use Rattle.sja_promises.proofs.Account.Looks.{IsShown}

sees_off : (one : Step) (answer : StepAnswer) (window other : List (List ℕ)) → Sees one true window answer →
    Sees one true other answer
sees_off Window answer window other h = h
sees_off Release answer window other h = h
sees_off (Await count) answer window other h = h
sees_off Start answer window other h = tt
sees_off Stop answer window other h = tt
sees_off (Read a) answer window other h = tt
sees_off (Write a v) answer window other h = tt
sees_off (Load m) answer window other h = tt
sees_off (Command v) answer window other h = tt
sees_off Sent answer window other h = tt
sees_off Interrupt answer window other h = tt
sees_off (At n) answer window other h = tt

sees_same : (one : Step) (answer : StepAnswer) (b off : Bool) (window other : List (List ℕ)) → off ≡ b →
    (b ≡ false → other ≡ window) → Sees one b window answer → Sees one off other answer
sees_same one answer true off window other e w h = subst (λ (x : Bool). Sees one x other answer) (sym e)
    (sees_off one answer window other h)
sees_same one answer false off window other e w h =
    subst (λ (x : Bool). Sees one x other answer) (sym e)
    (subst (λ (l : List (List ℕ)). Sees one false l answer) (sym (w refl)) h)

-- of a step that looks, and of any other there is nothing to say
pub sees_shown : (j : List Entry) (acts : List TypedAct) (one : Step) (answer : StepAnswer) (off : Bool)
    (window : List (List ℕ)) → Sees one off window answer → IfLooking one (IsShown j acts off window) →
    Sees one (off_by (place_of j).bits j (opened_by acts)) (window_of j acts (place_of j).bits) answer
sees_shown j acts Window answer off window h s = sees_same Window answer off _ window _ s.off_is s.window_is h
sees_shown j acts Release answer off window h s = sees_same Release answer off _ window _ s.off_is s.window_is h
sees_shown j acts (Await count) answer off window h s = sees_same
    (Await count) answer off _ window _ s.off_is s.window_is h
sees_shown j acts Start answer off window h s = tt
sees_shown j acts Stop answer off window h s = tt
sees_shown j acts (Read a) answer off window h s = tt
sees_shown j acts (Write a v) answer off window h s = tt
sees_shown j acts (Load m) answer off window h s = tt
sees_shown j acts (Command v) answer off window h s = tt
sees_shown j acts Sent answer off window h s = tt
sees_shown j acts Interrupt answer off window h s = tt
sees_shown j acts (At n) answer off window h s = tt

pub if_looking : (one : Step) (P Q : Type 0) → (P → Q) → IfLooking one P → IfLooking one Q
if_looking Window P Q f h = f h
if_looking Release P Q f h = f h
if_looking (Read a) P Q f h = f h
if_looking (Await count) P Q f h = f h
if_looking Sent P Q f h = f h
if_looking Interrupt P Q f h = f h
if_looking Start P Q f h = tt
if_looking Stop P Q f h = tt
if_looking (Write a v) P Q f h = tt
if_looking (Load m) P Q f h = tt
if_looking (Command v) P Q f h = tt
if_looking (At n) P Q f h = tt
