-- What turns and acts lead to at a port.
use Rattle.std.proofs.Common.{◌≡◌, ◌++◌, ◌||◌, ℕ, Bool, true, false, Some, None, List, [], ◌∷◌, length, refl}
use Rattle.std.proofs.Common.{sym, ap, ◌∙◌, subst}
use Rattle.std.proofs.lemmas.Bool.{or_right}
use Rattle.can_frame.specs.declared.buffer_view.BufferView.{BufferView}
use Rattle.sja_journal.specs.Lists.{Lists}
use Rattle.sja_link.specs.Showing.{seen_of}
use Rattle.sja_regs.specs.declared.bus_turn.BusTurn.{BusTurn}
use Rattle.sja_regs.specs.declared.orders.Orders.{Orders}
use Rattle.sja_regs.specs.declared.registers.Registers.{Registers}
use Rattle.sja_regs.specs.DriverSettings.{SettingsValue, settings_in, HasSettings}
use Rattle.sja_regs.specs.Registers.{at_power_on}
use Rattle.sja_regs.specs.Turns.{goes_off, after_turn}
use Rattle.sja_steps.specs.declared.step.Step.{Step}
use Rattle.sja_steps.specs.declared.step_answer.StepAnswer.{StepAnswer}
use Rattle.sja_steps.specs.declared.step_answer.StepAnswer.TheVariants.{Done as DoneAnswer, Released as ReleasedAnswer}
use Rattle.sja_driver.specs.declared.any_driver.AnyDriver.{AnyDriver}
use Rattle.sja_driver.specs.declared.any_driver.AnyDriver.TheVariants.{InReset, InActive}
use Rattle.sja_driver.specs.Acting.{Acts}
use Rattle.sja_driver.specs.AnyDrivers.{is_out, held_of, off_of, seen_by}
use Rattle.sja_driver.specs.Carried.{Tells, ported}
use Rattle.sja_driver.specs.Tries.{Tried, answer_of}
use Rattle.sja_driver.specs.Tries.Tried.{Unmet, Answered, Released, Ended}
use Rattle.sja_driver.proofs.Step.Modes.{version_step}
use Rattle.sja_thread_promises.specs.declared.port_act.PortAct.{PortAct}
use Rattle.sja_thread_promises.specs.declared.port_update.PortUpdate.{PortUpdate}
use Rattle.sja_thread_promises.specs.declared.port_update.PortUpdate.TheVariants.{Turn, Ran, Spent}
use Rattle.sja_thread_promises.specs.Ordering.{LedBy, IsAnsweredAt, active_by, bits_told, bits_told_since}
use Rattle.sja_thread_promises.specs.Ordering.{done_in_order}
use Rattle.sja_thread_promises.specs.Ordering.{one_more, abort_found, abort_told, ended_told_since, orders_of}
use Rattle.sja_thread_promises.specs.Ordering.LedBy.{power_on, turn_told, bits_ran, spent, act_done, ended}
use Rattle.sja_threads.specs.Inside.Names.{IsNamed}
use Rattle.sja_threads.specs.Inside.Ordered.{set_after}

-- a node has one name
pub same_name : (names : List ℕ) (node a b : ℕ) → IsNamed names node a → IsNamed names node b → a ≡ b
same_name names node a b p q = let e : Some a ≡ Some b = sym p ∙ q in cc

-- what is set after one act more
pub set_push : (version : ℕ) (acts : List PortAct) (d : PortAct) → set_after version (acts ++ d ∷ []) ≡ d.set
set_push version [] d = refl
set_push version (x ∷ []) d = refl
set_push version (x ∷ y ∷ acts) d = set_push version (y ∷ acts) d

-- registers have what their driver has set there
pub has_own : (p : Registers) → HasSettings p (settings_in p)
has_own p = record {
  version = refl;
  listen_only = refl;
  self_test = refl;
  filter_mode = refl;
  reset = λ e. e;
  enabled = refl;
  ewlr = refl;
  set_tec = refl;
  set_rec = refl;
  acr = refl;
  amr = refl;
  buffer = refl;
}

-- a turn leaves what is set
has_turn : (p : Registers) (t : BusTurn) (s : SettingsValue) → HasSettings p s → HasSettings (after_turn p t) s
has_turn p t s h = record {
  version = h.version;
  listen_only = h.listen_only;
  self_test = h.self_test;
  filter_mode = h.filter_mode;
  reset = λ e. or_right (goes_off p t) p.mode.rm (h.reset e);
  enabled = h.enabled;
  ewlr = h.ewlr;
  set_tec = h.set_tec;
  set_rec = h.set_rec;
  acr = h.acr;
  amr = h.amr;
  buffer = h.buffer;
}

-- so do its marks
pub has_marks : (p : Registers) (is_closed is_over : Bool) (s : SettingsValue) → HasSettings p s →
    HasSettings (record p { closed = is_closed; ended = is_over }) s
has_marks p is_closed is_over s h = record {
  version = h.version;
  listen_only = h.listen_only;
  self_test = h.self_test;
  filter_mode = h.filter_mode;
  reset = h.reset;
  enabled = h.enabled;
  ewlr = h.ewlr;
  set_tec = h.set_tec;
  set_rec = h.set_rec;
  acr = h.acr;
  amr = h.amr;
  buffer = h.buffer;
}

-- a port has what its driver's acts have set
pub has_set : (version : ℕ) (turns : List PortUpdate) (acts : List PortAct) (p : Registers) →
    LedBy version turns acts p → HasSettings p (set_after version acts)
has_set version _ _ _ power_on = has_own _
has_set version _ _ _ (turn_told turns acts p t l) =
    has_turn p t (set_after version acts) (has_set version turns acts p l)
has_set version _ _ _ (bits_ran turns acts p bits l) = has_set version turns acts p l
has_set version _ _ _ (act_done turns acts p d l answered set ran) =
    subst (λ (s : SettingsValue). HasSettings (ported p d.step d.answer) s)
    (sym (set_push version acts d ∙ set)) (has_own (ported p d.step d.answer))
has_set version _ _ _ (spent turns acts p l) =
    has_marks p true p.ended (set_after version acts) (has_set version turns acts p l)
has_set version _ _ _ (ended turns acts p l) =
    has_marks p p.closed true (set_after version acts) (has_set version turns acts p l)

-- its version is that at power-on
pub led_version : (version : ℕ) (turns : List PortUpdate) (acts : List PortAct) (p : Registers) →
    LedBy version turns acts p → p.version ≡ version
led_version version _ _ _ power_on = refl
led_version version _ _ _ (turn_told turns acts p t l) = led_version version turns acts p l
led_version version _ _ _ (bits_ran turns acts p bits l) = led_version version turns acts p l
led_version version _ _ _ (act_done turns acts p d l answered set ran) =
    version_step p d.step d.answer ∙ led_version version turns acts p l
led_version version _ _ _ (spent turns acts p l) = led_version version turns acts p l
led_version version _ _ _ (ended turns acts p l) = led_version version turns acts p l

-- ---- what a call leads to

pub led_new : (version v : ℕ) (turns : List PortUpdate) (acts : List PortAct) (p : Registers) → turns ≡ [] →
    acts ≡ [] → p ≡ at_power_on v → v ≡ version → LedBy version turns acts p
led_new version v turns acts p no_turn no_act first same =
    subst (λ (t : List PortUpdate). LedBy version t acts p) (sym no_turn)
    (subst (λ (d : List PortAct). LedBy version [] d p) (sym no_act)
    (subst (λ (r : Registers). LedBy version [] [] r) (sym (first ∙ ap at_power_on same)) power_on))

pub led_turn : (version : ℕ) (turns now : List PortUpdate) (acts : List PortAct) (p q : Registers) (t : BusTurn) →
    q ≡ after_turn p t → now ≡ turns ++ Turn t ∷ [] → LedBy version turns acts p → LedBy version now acts q
led_turn version turns now acts p q t left is l =
    subst (λ (x : List PortUpdate). LedBy version x acts q) (sym is)
    (subst (λ (r : Registers). LedBy version (turns ++ Turn t ∷ []) acts r) (sym left) (turn_told turns acts p t l))

pub led_bits : (version : ℕ) (turns now : List PortUpdate) (acts : List PortAct) (p : Registers) (bits : ℕ)
    (orders : Orders) → orders ≡ orders_of p → now ≡ turns ++ Ran bits orders ∷ [] → LedBy version turns acts p →
    LedBy version now acts p
led_bits version turns now acts p bits orders found is l =
    subst (λ (x : List PortUpdate). LedBy version x acts p) (sym (is ∙ ap (λ (o : Orders). turns ++ Ran bits o ∷ [])
    found))
    (bits_ran turns acts p bits l)

pub led_spent : (version : ℕ) (turns now : List PortUpdate) (acts : List PortAct) (p q : Registers) →
    q ≡ record p { closed = true } → now ≡ turns ++ Spent ∷ [] → LedBy version turns acts p → LedBy version now acts q
led_spent version turns now acts p q left is l =
    subst (λ (x : List PortUpdate). LedBy version x acts q) (sym is)
    (subst (λ (r : Registers). LedBy version (turns ++ Spent ∷ []) acts r) (sym left) (spent turns acts p l))

-- ---- how many bits have run by what was told, and whether its driver was found to have ended

pub ran_push : (n bits : ℕ) (orders : Orders) (turns : List PortUpdate) →
    bits_told_since n (turns ++ Ran bits orders ∷ []) ≡ bits
ran_push n bits orders [] = refl
ran_push n bits orders (Ran m e ∷ turns) = ran_push m bits orders turns
ran_push n bits orders (Turn t ∷ turns) = ran_push (one_more n) bits orders turns
ran_push n bits orders (Spent ∷ turns) = ran_push n bits orders turns

pub turn_push : (n : ℕ) (t : BusTurn) (turns : List PortUpdate) →
    bits_told_since n (turns ++ Turn t ∷ []) ≡ one_more (bits_told_since n turns)
turn_push n t [] = refl
turn_push n t (Ran m e ∷ turns) = turn_push m t turns
turn_push n t (Turn u ∷ turns) = turn_push (one_more n) t turns
turn_push n t (Spent ∷ turns) = turn_push n t turns

pub spent_push : (n : ℕ) (turns : List PortUpdate) → bits_told_since n (turns ++ Spent ∷ []) ≡ bits_told_since n turns
spent_push n [] = refl
spent_push n (Ran m e ∷ turns) = spent_push m turns
spent_push n (Turn t ∷ turns) = spent_push (one_more n) turns
spent_push n (Spent ∷ turns) = spent_push n turns

pub led_ended : (version : ℕ) (turns : List PortUpdate) (acts : List PortAct) (p q : Registers) →
    q ≡ record p { ended = true } → LedBy version turns acts p → LedBy version turns acts q
led_ended version turns acts p q left l =
    subst (λ (r : Registers). LedBy version turns acts r) (sym left) (ended turns acts p l)

pub ended_ran : (found : Bool) (bits : ℕ) (orders : Orders) (turns : List PortUpdate) →
    ended_told_since found (turns ++ Ran bits orders ∷ []) ≡ (ended_told_since found turns || orders.ended)
ended_ran found bits orders [] = refl
ended_ran found bits orders (Ran m e ∷ turns) = ended_ran (found || e.ended) bits orders turns
ended_ran found bits orders (Turn t ∷ turns) = ended_ran found bits orders turns
ended_ran found bits orders (Spent ∷ turns) = ended_ran found bits orders turns

pub ended_turn : (found : Bool) (t : BusTurn) (turns : List PortUpdate) →
    ended_told_since found (turns ++ Turn t ∷ []) ≡ ended_told_since found turns
ended_turn found t [] = refl
ended_turn found t (Ran m e ∷ turns) = ended_turn (found || e.ended) t turns
ended_turn found t (Turn u ∷ turns) = ended_turn found t turns
ended_turn found t (Spent ∷ turns) = ended_turn found t turns

pub ended_spent : (found : Bool) (turns : List PortUpdate) →
    ended_told_since found (turns ++ Spent ∷ []) ≡ ended_told_since found turns
ended_spent found [] = refl
ended_spent found (Ran m e ∷ turns) = ended_spent (found || e.ended) turns
ended_spent found (Turn t ∷ turns) = ended_spent found turns
ended_spent found (Spent ∷ turns) = ended_spent found turns

-- and whether an abort was found to stand
pub abort_push : (t : PortUpdate) (turns : List PortUpdate) → abort_told (turns ++ t ∷ []) ≡ abort_found t
abort_push t [] = refl
abort_push t (x ∷ []) = refl
abort_push t (x ∷ y ∷ turns) = abort_push t (y ∷ turns)

-- ---- a try

seen_is : (now : AnyDriver) → seen_by now ≡ seen_of (off_of now) (held_of now)
seen_is (InReset d) = refl
seen_is (InActive d) = refl

module _ {E : Type 0} (alike : E → E → Type 0) (stands : E → Lists → Type 0) (dry full : E → Type 0) (a b : E)
    (p q : Registers) (which : Step) (was now : AnyDriver) where
  -- an act that is done is answered by the registers as they were, and leaves them as it does
  answered : (o : Tried) (answer : StepAnswer) → answer_of o ≡ Some answer → (active : Bool) →
      active ≡ is_out was → Acts alike stands dry full a b p q which was now o →
      IsAnsweredAt active p which answer × (q ≡ ported p which answer)
  answered Unmet answer is active out acting = absurd cc
  answered (Answered x) answer is active out acting =
      let same : x ≡ answer = cc in
      subst (λ (s : StepAnswer). IsAnsweredAt active p which s × (q ≡ ported p which s)) same (
        record {
          window = held_of now;
          off = off_of now;
          tells = subst (λ (o : Bool). Tells which o p (seen_of (off_of now) (held_of now)) x) (sym out)
              (subst (λ (s : BufferView). Tells which (is_out was) p s x) (seen_is now) acting.tells);
        },
        acting.port,
      )
  answered (Released m) answer is active out acting =
      let same : ReleasedAnswer (length m) ≡ answer = cc in
      subst (λ (s : StepAnswer). IsAnsweredAt active p which s × (q ≡ ported p which s)) same (
        record {
          window = [];
          off = false;
          tells = subst (λ (s : Step). Tells s active p (seen_of false []) (ReleasedAnswer (length m))) (sym
              acting.kind) tt;
        },
        acting.port,
      )
  answered (Ended ledger) answer is active out acting =
      let same : DoneAnswer ≡ answer = cc in
      subst (λ (s : StepAnswer). IsAnsweredAt active p which s × (q ≡ ported p which s)) same (
        record {
          window = [];
          off = false;
          tells = subst (λ (s : Step). Tells s active p (seen_of false []) DoneAnswer) (sym acting.kind) tt;
        },
        acting.port,
      )

  -- what that leads to
  pub led_act : (version : ℕ) (turns : List PortUpdate) (acts : List PortAct) (o : Tried) (d : PortAct) →
      LedBy version turns acts p → active_by false (done_in_order acts) ≡ is_out was →
      Acts alike stands dry full a b p q which was now o → answer_of o ≡ Some d.answer → d.step ≡ which →
      d.set ≡ settings_in q → d.bits ≡ bits_told turns → LedBy version turns (acts ++ d ∷ []) q
  led_act version turns acts o d l out acting is same set ran =
      let active = active_by false (done_in_order acts) in
      let done = answered o d.answer is active out acting in
      let left : q ≡ ported p d.step d.answer = done.1 ∙ ap (λ (s : Step). ported p s d.answer) (sym same) in
      subst (λ (r : Registers). LedBy version turns (acts ++ d ∷ []) r) (sym left)
      (act_done turns acts p d l (subst (λ (s : Step). IsAnsweredAt active p s d.answer) (sym same) done.0)
      (set ∙ ap settings_in left) ran)

  -- where it isn't done the registers stay
  pub led_none : (version : ℕ) (turns : List PortUpdate) (acts : List PortAct) (o : Tried) →
      LedBy version turns acts p → Acts alike stands dry full a b p q which was now o → answer_of o ≡ None →
      LedBy version turns acts q
  led_none version turns acts Unmet l acting is =
      subst (λ (r : Registers). LedBy version turns acts r) (sym acting.port) l
  led_none version turns acts (Answered x) l acting is = absurd cc
  led_none version turns acts (Released m) l acting is = absurd cc
  led_none version turns acts (Ended ledger) l acting is = absurd cc
