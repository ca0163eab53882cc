-- An abort that stands was commanded.
use Rattle.std.proofs.Common.{◌≡◌, ◌++◌, ◌&&◌, ◌⊎◌, ℕ, zero, suc, Bool, true, false, Some, List, [], ◌∷◌, inl, inr}
use Rattle.std.proofs.Common.{refl, sym, ap, ◌∙◌, append_assoc, append-nil}
use Rattle.std.specs.Prelude.{slice_get}
use Rattle.std.proofs.lemmas.List.Elements.{All-nil, All-push}
use Rattle.sja_regs.specs.declared.orders.Orders.{Orders}
use Rattle.sja_regs.specs.declared.registers.Registers.{Registers}
use Rattle.sja_steps.specs.declared.step.Step.{Step}
use Rattle.sja_steps.specs.declared.step.Step.TheVariants.{Start, Stop, Window, Release, Read}
use Rattle.sja_steps.specs.declared.step.Step.TheVariants.{Write, Load, Command, Await, Sent, Interrupt, At}
use Rattle.sja_steps.specs.declared.step_answer.StepAnswer.{StepAnswer}
use Rattle.sja_steps.specs.declared.step_answer.StepAnswer.TheVariants.{Done as DoneAnswer}
use Rattle.sja_driver.specs.Carried.{ported}
use Rattle.sja_driver.proofs.Step.Modes.{abort_step}
use Rattle.sja_thread_promises.specs.declared.port_act.PortAct.{PortAct}
use Rattle.sja_thread_promises.specs.declared.port_update.PortUpdate.{PortUpdate}
use Rattle.sja_thread_promises.specs.declared.port_update.PortUpdate.TheVariants.{Turn, Ran, Spent}
use Rattle.sja_thread_promises.specs.Ordering.{LedBy, HasCommandedAbort, HadCommandedAbort, is_stop, orders_of}
use Rattle.sja_thread_promises.specs.Ordering.LedBy.{power_on, turn_told, bits_ran, spent, act_done, ended}

both_true : (x y : Bool) → (x && y) ≡ true → y ≡ true
both_true true y e = e
both_true false y e = absurd cc

-- after a stop none stands
no_stop : (p : Registers) (step : Step) (answer : StepAnswer) → (ported p step answer).abort ≡ true →
    is_stop step answer ≡ false
no_stop p Stop DoneAnswer e = absurd cc
no_stop p Stop other e = refl
no_stop p Start answer e = refl
no_stop p Window answer e = refl
no_stop p Release answer e = refl
no_stop p (Read address) answer e = refl
no_stop p (Write address value) answer e = refl
no_stop p (Load m) answer e = refl
no_stop p (Command value) answer e = refl
no_stop p (Await count) answer e = refl
no_stop p Sent answer e = refl
no_stop p Interrupt answer e = refl
no_stop p (At bits) answer e = refl

pub commanded : (version : ℕ) (told : List PortUpdate) (acts : List PortAct) (p : Registers) →
    LedBy version told acts p → p.abort ≡ true → HasCommandedAbort acts
commanded version _ _ _ power_on is = absurd cc
commanded version _ _ _ (turn_told told acts p t l) is =
    commanded version told acts p l (both_true _ p.abort is)
commanded version _ _ _ (bits_ran told acts p bits l) is = commanded version told acts p l is
commanded version _ _ _ (spent told acts p l) is = commanded version told acts p l is
commanded version _ _ _ (ended told acts p l) is = commanded version told acts p l is
commanded version _ _ _ (act_done told acts p d l answered set ran) is = elim (abort_step p d.step d.answer is) [
  | inl was ↦
      let h = commanded version told acts p l was in record {
        before = h.before;
        command = h.command;
        after = h.after ++ d ∷ [];
        whole = ap (λ l. l ++ d ∷ []) h.whole ∙ append_assoc h.before (h.command ∷ h.after) (d ∷ []);
        asks = h.asks;
        no_stop = All-push (λ (x : PortAct). is_stop x.step x.answer ≡ false) h.after d h.no_stop
            (no_stop p d.step d.answer is);
      }
  | inr asks ↦ record {
    before = acts;
    command = d;
    after = [];
    whole = refl;
    asks = asks;
    no_stop = All-nil (λ (x : PortAct). is_stop x.step x.answer ≡ false);
  }
]

-- ---- one that was found to stand

at_snoc : {A : Type 0} (xs : List A) (x y : A) (i : ℕ) → slice_get (xs ++ x ∷ []) i ≡ Some y →
    (slice_get xs i ≡ Some y) ⊎ (x ≡ y)
at_snoc [] x y zero e = inr cc
at_snoc [] x y (suc i) e = absurd cc
at_snoc (z ∷ xs) x y zero e = inl e
at_snoc (z ∷ xs) x y (suc i) e = at_snoc xs x y i e

pub had_commanded : (version : ℕ) (told : List PortUpdate) (acts : List PortAct) (p : Registers) (place many : ℕ)
    (orders : Orders) → LedBy version told acts p → slice_get told place ≡ Some (Ran many orders) →
    orders.abort ≡ true → HadCommandedAbort acts
had_commanded version _ _ _ place many orders power_on there stands = absurd cc
had_commanded version _ _ _ place many orders (turn_told told acts p t l) there stands =
    elim (at_snoc told (Turn t) (Ran many orders) place there) [
      | inl before ↦ had_commanded version told acts p place many orders l before stands
      | inr here ↦ absurd cc
    ]
had_commanded version _ _ _ place many orders (bits_ran told acts p bits l) there stands =
    elim (at_snoc told (Ran bits (orders_of p)) (Ran many orders) place there) [
      | inl before ↦ had_commanded version told acts p place many orders l before stands
      | inr here ↦
          let same : orders_of p ≡ orders = cc in record {
            front = acts;
            rest = [];
            whole = sym (append-nil acts);
            has = commanded version told acts p l (ap (λ (o : Orders). o.abort) same ∙ stands);
          }
    ]
had_commanded version _ _ _ place many orders (spent told acts p l) there stands =
    elim (at_snoc told Spent (Ran many orders) place there) [
      | inl before ↦ had_commanded version told acts p place many orders l before stands
      | inr here ↦ absurd cc
    ]
had_commanded version _ _ _ place many orders (ended told acts p l) there stands =
    had_commanded version told acts p place many orders l there stands
had_commanded version _ _ _ place many orders (act_done told acts p d l answered set ran) there stands =
    let h = had_commanded version told acts p place many orders l there stands in record {
      front = h.front;
      rest = h.rest ++ d ∷ [];
      whole = ap (λ l. l ++ d ∷ []) h.whole ∙ append_assoc h.front h.rest (d ∷ []);
      has = h.has;
    }
