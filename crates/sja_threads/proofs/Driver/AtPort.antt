-- Which acts of a driver its port notes.
use Rattle.std.proofs.Common.{◌≡◌, ◌++◌, ℕ, Bool, true, false, Option, Some, None, List, [], ◌∷◌, length, refl, sym}
use Rattle.std.proofs.Common.{ap, ◌∙◌, subst}
use Rattle.std.proofs.Common.{append-nil}
use Rattle.std.specs.Prelude.{if◌then◌else◌}
use Rattle.sja_regs.specs.declared.registers.Registers.{Registers}
use Rattle.sja_regs.specs.DriverSettings.{SettingsValue, HasSettings}
use Rattle.sja_steps.specs.declared.step.Step.{Step}
use Rattle.sja_steps.specs.declared.step.Step.TheVariants.{Window, Release, Start, Stop, Read}
use Rattle.sja_steps.specs.declared.step.Step.TheVariants.{Write, Load, Command, Await, Sent, Interrupt, At}
use Rattle.sja_steps.specs.declared.step_answer.StepAnswer.{StepAnswer}
use Rattle.sja_steps.specs.declared.step_answer.StepAnswer.TheVariants.{Done as DoneAnswer, Released as ReleasedAnswer}
use Rattle.sja_driver.specs.TypedActs.{TypedAct, active_after}
use Rattle.sja_driver.specs.Logs.{acts_by}
use Rattle.sja_driver.specs.Tries.{Tried, answer_of, is_out_after}
use Rattle.sja_driver.specs.Tries.Tried.{Unmet, Answered, Released, Ended}
use Rattle.sja_threads.specs.declared.order.Order.{Ghosts as Orders}
use Rattle.sja_threads.specs.declared.acts_of_node.ActsOfNode.{ActsOfNode}
use Rattle.sja_thread_promises.specs.Ordering.{active_by, done_at_port, done_in_order, is_at_port}
use Rattle.sja_threads.specs.Inside.Ordered.{done_if, set_after}

-- ---- of acts, and then of more

more_at_port : (here : Bool) (x : Step × StepAnswer × ℕ) (xs ys : List TypedAct) →
    done_at_port (xs ++ ys) ≡ done_at_port xs
    ++ done_at_port ys →
    (if here then x ∷ done_at_port (xs ++ ys) else done_at_port (xs ++ ys))
    ≡ (if here then x ∷ done_at_port xs else done_at_port xs) ++ done_at_port ys
more_at_port true x xs ys e = ap (λ l. x ∷ l) e
more_at_port false x xs ys e = e

pub both_at_port : (xs ys : List TypedAct) → done_at_port (xs ++ ys) ≡ done_at_port xs ++ done_at_port ys
both_at_port [] ys = refl
both_at_port (d ∷ xs) ys = more_at_port (is_at_port d.step) (d.step, d.answer, d.bits) xs ys (both_at_port xs ys)

-- ---- one try

-- a try at the port is noted there, if it is done, with the bits that it counts and what is set then; another isn't
pub data NotesAct {N : Type 0} {o : Orders N} (was now : ActsOfNode N o) (which : Step) (answer : Option StepAnswer)
    (bits : ℕ) (set_was set : SettingsValue) : Type 0 where
  at_port : is_at_port which ≡ true → now.node ≡ was.node → now.version ≡ was.version →
      done_in_order now.known.list ≡ done_in_order was.known.list ++ done_if which answer bits →
      ((s : StepAnswer) → answer ≡ Some s → set_after now.version now.known.list ≡ set) →
      (answer ≡ None → now ≡ was) → NotesAct was now which answer bits set_was set
  elsewhere : is_at_port which ≡ false → now ≡ was → set ≡ set_was → NotesAct was now which answer bits set_was set

if_here : {A : Type 0} (here : Bool) (x : A) → here ≡ true → (if here then x ∷ [] else []) ≡ x ∷ []
if_here here x e = ap (λ b. if b then x ∷ [] else []) e

if_away : {A : Type 0} (here : Bool) (x : A) → here ≡ false → (if here then x ∷ [] else []) ≡ []
if_away here x e = ap (λ b. if b then x ∷ [] else []) e

noted_here : (p : Registers) (which : Step) (o : Tried) (bits : ℕ) → is_at_port which ≡ true →
    done_at_port (acts_by p which o bits) ≡ done_if which (answer_of o) bits
noted_here p which Unmet bits e = refl
noted_here p which (Answered answer) bits e = if_here (is_at_port which) (which, answer, bits) e
noted_here p which (Released m) bits e = if_here (is_at_port which) (which, answer_by m, bits) e
  where
    answer_by : List ℕ → StepAnswer
    answer_by m = ReleasedAnswer (length m)
noted_here p which (Ended ledger) bits e = if_here (is_at_port which) (which, DoneAnswer, bits) e

noted_away : (p : Registers) (which : Step) (o : Tried) (bits : ℕ) → is_at_port which ≡ false →
    done_at_port (acts_by p which o bits) ≡ []
noted_away p which Unmet bits e = refl
noted_away p which (Answered answer) bits e = if_away (is_at_port which) (which, answer, bits) e
noted_away p which (Released m) bits e = if_away (is_at_port which) (which, ReleasedAnswer (length m), bits) e
noted_away p which (Ended ledger) bits e = if_away (is_at_port which) (which, DoneAnswer, bits) e

-- a step away from the port leaves a driver in its state
stays_out : (active : Bool) (which : Step) (o : Tried) → is_at_port which ≡ false → is_out_after active which o ≡ active
stays_out active Window Unmet e = refl
stays_out active Window (Answered answer) e = refl
stays_out active Window (Released m) e = refl
stays_out active Window (Ended ledger) e = refl
stays_out active Release Unmet e = refl
stays_out active Release (Answered answer) e = refl
stays_out active Release (Released m) e = refl
stays_out active Release (Ended ledger) e = refl
stays_out active Start o e = absurd (let t : true ≡ false = e in cc)
stays_out active Stop o e = absurd (let t : true ≡ false = e in cc)
stays_out active (Read a) o e = absurd (let t : true ≡ false = e in cc)
stays_out active (Write a v) o e = absurd (let t : true ≡ false = e in cc)
stays_out active (Load m) o e = absurd (let t : true ≡ false = e in cc)
stays_out active (Command v) o e = absurd (let t : true ≡ false = e in cc)
stays_out active (Await n) o e = absurd (let t : true ≡ false = e in cc)
stays_out active Sent o e = absurd (let t : true ≡ false = e in cc)
stays_out active Interrupt o e = absurd (let t : true ≡ false = e in cc)
stays_out active (At n) o e = absurd (let t : true ≡ false = e in cc)

-- whether it is out of reset by one act more
active_push : (active : Bool) (done : List (Step × StepAnswer × ℕ)) (d : Step × StepAnswer × ℕ) →
    active_by active (done ++ d ∷ []) ≡ active_after (active_by active done) d.0 d.1
active_push active [] d = refl
active_push active (x ∷ done) d = active_push (active_after active x.0 x.1) done d

active_if : (done : List (Step × StepAnswer × ℕ)) (which : Step) (o : Tried) (bits : ℕ) →
    active_by false (done ++ done_if which (answer_of o) bits) ≡ is_out_after (active_by false done) which o
active_if done which Unmet bits = ap (λ l. active_by false l) (append-nil done)
active_if done which (Answered answer) bits = active_push false done (which, answer, bits)
active_if done which (Released m) bits = active_push false done (which, ReleasedAnswer (length m), bits)
active_if done which (Ended ledger) bits = active_push false done (which, DoneAnswer, bits)

module _ {N : Type 0} {o : Orders N} (was now : ActsOfNode N o) where
  pub notes_node : (which : Step) (answer : Option StepAnswer) (bits : ℕ) (set_was set : SettingsValue) →
      NotesAct was now which answer bits set_was set → now.node ≡ was.node
  notes_node which answer bits set_was set (at_port here node version done sets waits) = node
  notes_node which answer bits set_was set (elsewhere away same kept) = ap (λ d. d.node) same

  pub notes_version : (which : Step) (answer : Option StepAnswer) (bits : ℕ) (set_was set : SettingsValue) →
      NotesAct was now which answer bits set_was set → now.version ≡ was.version
  notes_version which answer bits set_was set (at_port here node version done sets waits) = version
  notes_version which answer bits set_was set (elsewhere away same kept) = ap (λ d. d.version) same

  pub notes_at_port : (p : Registers) (which : Step) (o : Tried) (answer : Option StepAnswer) (bits : ℕ)
      (set_was set : SettingsValue) → NotesAct was now which answer bits set_was set → answer ≡ answer_of o →
      done_in_order now.known.list ≡ done_in_order was.known.list ++ done_at_port (acts_by p which o bits)
  notes_at_port p which o answer bits set_was set (at_port here node version done sets waits) met =
      done ∙ ap (λ a. done_in_order was.known.list ++ done_if which a bits) met
      ∙ ap (λ l. done_in_order was.known.list ++ l) (sym (noted_here p which o bits here))
  notes_at_port p which o answer bits set_was set (elsewhere away same kept) met =
      ap (λ d. done_in_order d.known.list) same ∙ sym (append-nil (done_in_order was.known.list))
      ∙ ap (λ l. done_in_order was.known.list ++ l) (sym (noted_away p which o bits away))

  pub notes_active : (which : Step) (o : Tried) (answer : Option StepAnswer) (bits : ℕ) (set_was set : SettingsValue)
      (out : Bool) → NotesAct was now which answer bits set_was set → answer ≡ answer_of o →
      active_by false (done_in_order was.known.list) ≡ out →
      active_by false (done_in_order now.known.list) ≡ is_out_after out which o
  notes_active which o answer bits set_was set out (at_port here node version done sets waits) met active =
      ap (λ l. active_by false l) done
      ∙ ap (λ a. active_by false (done_in_order was.known.list ++ done_if which a bits)) met
      ∙ active_if (done_in_order was.known.list) which o bits ∙ ap (λ b. is_out_after b which o) active
  notes_active which o answer bits set_was set out (elsewhere away same kept) met active =
      ap (λ d. active_by false (done_in_order d.known.list)) same ∙ active ∙ sym (stays_out out which o away)

  pub notes_set : (which : Step) (answer : Option StepAnswer) (bits : ℕ) (set_was set : SettingsValue) →
      NotesAct was now which answer bits set_was set → (answer ≡ None → set ≡ set_was) →
      set_after was.version was.known.list ≡ set_was → set_after now.version now.known.list ≡ set
  notes_set which None bits set_was set (at_port here node version done sets waits) unmet was_set =
      ap (λ d. set_after d.version d.known.list) (waits refl) ∙ was_set ∙ sym (unmet refl)
  notes_set which (Some s) bits set_was set (at_port here node version done sets waits) unmet was_set = sets s refl
  notes_set which answer bits set_was set (elsewhere away same kept) unmet was_set =
      ap (λ d. set_after d.version d.known.list) same ∙ was_set ∙ sym kept

-- what is set by another name
pub has_as : {p : Registers} {s t : SettingsValue} → s ≡ t → HasSettings p s → HasSettings p t
has_as {p} same h = subst (λ (x : SettingsValue). HasSettings p x) same h
