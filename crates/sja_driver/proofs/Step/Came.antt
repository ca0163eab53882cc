-- What a try came to, and how acts, log and links go on with it.
use Rattle.std.proofs.Common.{◌≡◌, ◌+◌, ℕ, suc, Bool, cond, List, [], ◌∷◌, ◌++◌, length, refl, sym, ap, ◌∙◌}
use Rattle.std.proofs.Common.{subst, append-nil, arith, inl, inr}
use Rattle.std.specs.Prelude.{◌⊎◌}
use Rattle.std.proofs.lemmas.Bool.{cases_eq, eq-eqb, ne_eqb}
use Rattle.sja_link.specs.declared.driver_ledger.DriverLedger.{DriverLedger}
use Rattle.sja_journal.specs.declared.entry.Entry.{Entry}
use Rattle.sja_journal.specs.declared.up.Up.{Up}
use Rattle.sja_journal.specs.Accounts.{account}
use Rattle.sja_link.specs.DriverLedgers.{held_by, knows_bus_off}
use Rattle.sja_journal.specs.Lists.{Lists, on, OthersStand}
use Rattle.sja_regs.specs.declared.registers.Registers.{Registers}
use Rattle.sja_steps.specs.declared.step.Step.{Step}
use Rattle.sja_steps.specs.declared.step.Step.TheVariants.{Sent}
use Rattle.sja_steps.specs.declared.step_answer.StepAnswer.{StepAnswer}
use Rattle.sja_steps.specs.declared.step_answer.StepAnswer.TheVariants.{Done as DoneAnswer, Released as ReleasedAnswer}
use Rattle.sja_driver.specs.declared.any_driver.AnyDriver.{AnyDriver}
use Rattle.sja_driver.specs.declared.release.Release.{Release}
use Rattle.sja_driver.specs.declared.work_log.WorkLog.{WorkLog}
use Rattle.sja_driver.specs.Acting.{ActsOn, Does}
use Rattle.sja_driver.specs.AnyDrivers.{IsDriverOf, link_used, held_of, off_of, opened_of, is_out}
use Rattle.sja_driver.specs.Carried.{carried}
use Rattle.sja_driver.specs.TypedActs.{TypedAct, opened, opens_by, opened_by, given_in, acts_of, length_in}
use Rattle.sja_driver.specs.TypedActs.{released_lengths}
use Rattle.sja_driver.specs.Holding.{Holds, HoldsBy, Goes}
use Rattle.sja_driver.specs.Logs.{Traces, leaves, releases_in, left_in, releases_by, left_by}
use Rattle.sja_driver.specs.Logs.{acts_by, released_of}
use Rattle.sja_driver.specs.Tries.{Tried, held_after, off_after, released_by, gave_by}
use Rattle.sja_driver.specs.Tries.Tried.{Unmet, Answered, Released, Ended}
use Rattle.sja_driver.proofs.Step.Giving.{gives_carried}
use Rattle.sja_driver.proofs.LogOfSteps.Going.{holds_act, gave_of}
use Rattle.sja_driver.proofs.Step.Left.{leaves_last, leaves_before, leaves_else, leaves_more, released_same}
use Rattle.sja_driver.proofs.Step.Left.{released_one, released_none}
use Rattle.sja_driver.proofs.LogOfSteps.Sections.{acts_here, acts_else}
use Rattle.sja_driver.proofs.LogOfSteps.Stepping.{left_count, used_next}
use Rattle.sja_driver.proofs.LogOfSteps.Traced.{lengths, traces_act, stands_answered, stands_released, stands_ended}
use Rattle.sja_driver.proofs.LogOfSteps.Traced.{ended_off}

-- a try at the link that the driver uses came to o, and the log has what it adds
pub record Came {E : Type 0} (alike : E → E → Type 0) (stands : E → ℕ → Lists → Type 0) (dry full : E → ℕ → Type 0)
    (was nxt : AnyDriver) (log now : WorkLog) (node : ℕ) (p q : Registers) (step : Step) (old new : E) (o : Tried)
    : Type 0 where
  pub own : IsDriverOf node (length (left_in log)) was
  pub acts : ActsOn alike stands dry full old new p q step was nxt o
  pub others : OthersStand stands (link_used was) old new
  pub released : releases_in now ≡ releases_in log ++ releases_by (length (left_in log)) o
  pub left : left_in now ≡ left_in log ++ left_by o

abbrev length_of : TypedAct → List ℕ
length_of d = length_in d.step d.answer

abbrev idle : TypedAct
idle = record { step = Sent; answer = DoneAnswer; bits = 0; gave = [] }

-- an act that gives nothing may be left out
forget : {E : Type 0} (stands : E → ℕ → Lists → Type 0) (t : List TypedAct) (rel : List Release)
    (left : List (List (List ℕ))) (n : ℕ) (off : Bool) (j : List Entry) (end : E) →
    Holds stands (t ++ idle ∷ []) rel left n off j end → Holds stands (t ++ []) rel left n off j end
forget stands t rel left n off j end h =
    let g : (a : ℕ) → given_in (acts_of (t ++ idle ∷ []) a) ≡ given_in (acts_of t a) =
    λ a. acts_else gave_of t idle a (inr refl) in
    let was : Holds stands t rel left n off j end = record {
      got = h.got;
      kept = λ a. subst (λ (xs : List Up). stands end (suc a)
          (account j (suc a) (record { got = h.got a; given = xs }))) (g (suc a)) (h.kept a);
      told = h.told;
      off_is = h.off_is;
      later = h.later;
    } in
    subst (λ (ds : List TypedAct). Holds stands ds rel left n off j end) (sym (append-nil t)) was

-- the trace, where nothing was done
traces_unmet : {version : ℕ} (was nxt : AnyDriver) (log now : WorkLog) (t : List TypedAct) →
    releases_in now ≡ releases_in log ++ [] → opened_of nxt ≡ opened_of was → is_out nxt ≡ is_out was →
    Traces version was log t → Traces version nxt now (t ++ [])
traces_unmet {version} was nxt log now t released opens out h =
    subst (λ (ds : List TypedAct). Traces version nxt now ds) (sym (append-nil t)) (record {
      released = λ a. ap (λ xs. lengths (released_of xs a)) (released ∙ append-nil (releases_in log)) ∙ h.released a;
      opened = h.opened ∙ sym opens;
      out = h.out ∙ sym out;
      answered = h.answered;
    })

module _ {E : Type 0} (alike : E → E → Type 0) (stands : E → ℕ → Lists → Type 0) (dry full : E → ℕ → Type 0)
    (was nxt : AnyDriver) (log now : WorkLog) (node bits : ℕ) (p q : Registers) (step : Step) (old new : E) where
  abbrev n : ℕ
  n = length (left_in log)

  abbrev CameTo : Tried → Type 0
  CameTo o = Came alike stands dry full was nxt log now node p q step old new o

  abbrev GoesBy : Tried → Type 0
  GoesBy o = Goes stands p.version was nxt log now old new (acts_by p step o bits)

  -- what was done there, and the links of the others
  abbrev DoesHere : Tried → Type 0
  DoesHere o = Does (on stands (suc n)) old new (held_of was) (held_after nxt o) (off_of was) (off_after nxt o)
      (released_by o) (gave_by p step o)

  does_here : (o : Tried) → CameTo o → DoesHere o
  does_here o c = subst (λ (a : ℕ). Does (on stands a) old new (held_of was) (held_after nxt o) (off_of was)
      (off_after nxt o) (released_by o) (gave_by p step o)) (used_next node n was c.own) c.acts.does

  others_stand : (o : Tried) → CameTo o → OthersStand stands (suc n) old new
  others_stand o c = subst (λ (a : ℕ). OthersStand stands a old new) (used_next node n was c.own) c.others

  -- the links with an act more that ends no activation
  holds_on : (t : List TypedAct) (j : List Entry) (d : TypedAct) (more : List (List ℕ)) → left_in now ≡ left_in log →
      (opened_by t + opens_by d ≡ suc n) ⊎ (d.gave ≡ []) →
      Does (on stands (suc n)) old new (held_of was) (held_of nxt) (off_of was) (off_of nxt) more d.gave →
      OthersStand stands (suc n) old new →
      released_of (releases_in now) (suc n) ≡ released_of (releases_in log) (suc n) ++ more →
      ((a : ℕ) → (n ≡ a → ⊥) → released_of (releases_in now) (suc a) ≡ released_of (releases_in log) (suc a)) →
      HoldsBy stands t was log j old → HoldsBy stands (t ++ d ∷ []) nxt now j new
  holds_on t j d more e place does others here else h =
      holds_act stands t (releases_in log) (releases_in now) (leaves (left_in log) (held_of was))
      (leaves (left_in now) (held_of nxt)) j n (length (left_in now)) old new (held_of was) (held_of nxt)
      (off_of was) (off_of nxt) (off_of nxt) d more place does others here else
      (leaves_last (left_in log) (held_of was)) (rw e (leaves_last (left_in log) (held_of nxt)))
      (λ i ne. rw e (leaves_else (left_in log) (held_of nxt) (held_of was) i ne))
      (inl (ap (λ xs. length xs) e, refl)) h

  goes_answered : (a : StepAnswer) → CameTo (Answered a) → GoesBy (Answered a)
  goes_answered a c =
      let acting = c.acts in
      let d : TypedAct = record { step = step; answer = a; bits = bits; gave = carried p step a } in
      record {
        traces = λ t h. traces_act was nxt log now t d [] c.released
            (λ i o. acts_else length_of t d i (inr acting.kind) ∙ sym (append-nil _)) acting.opens acting.out
            acting.fits
            (gives_carried p step a) h;
        holds = λ t j h k. holds_on t j d [] (c.left ∙ append-nil (left_in log))
            (stands_answered p step was nxt a node n (acting.place node n c.own) acting.opens acting.quiet t h.opened)
            (does_here (Answered a) c) (others_stand (Answered a) c)
            (released_same (releases_in log) (releases_in now) (suc n) c.released ∙ sym (append-nil _))
            (λ i ne. released_same (releases_in log) (releases_in now) (suc i) c.released) k;
      }

  goes_released : (m : List ℕ) → CameTo (Released m) → GoesBy (Released m)
  goes_released m c =
      let acting = c.acts in
      let answer : StepAnswer = ReleasedAnswer (length m) in
      let d : TypedAct = record { step = step; answer = answer; bits = bits; gave = carried p step answer } in
      let z : opened step answer ≡ 0 = ap (λ s. opened s answer) acting.kind in
      let y : length_in step answer ≡ length m ∷ [] = ap (λ s. length_in s answer) acting.kind in
      let w : (t : List TypedAct) → opened_by t ≡ opened_of was → opened_by t + opened step answer ≡ suc n =
      stands_released p step was nxt m node n (acting.place node n c.own) acting.opens acting.quiet acting.kind in
      record {
        traces = λ t h. traces_act was nxt log now t d (releases_by n (Released m)) c.released
            (λ i o. let v = w t o in elim (cases_eq (n + 1) i) [
              | inl x ↦ acts_here length_of t d i (inl (omega (arith, x, v)))
                  ∙ ap (λ l. released_lengths (acts_of t i) ++ l) y
                  ∙ sym (ap (λ b. released_lengths (acts_of t i) ++ lengths (cond b (m ∷ []) [] ++ [])) (eq-eqb _ _ x))
              | inr x ↦ acts_else length_of t d i (inl (λ s. x (omega (arith, v, s))))
                  ∙ sym (ap (λ b. released_lengths (acts_of t i) ++ lengths (cond b (m ∷ []) [] ++ []))
                  (ne_eqb _ _ x) ∙ append-nil _)
            ])
            (let s = acting.opens in omega (arith, s, z)) acting.out acting.fits (gives_carried p step answer) h;
        holds = λ t j h k. holds_on t j d (m ∷ []) (c.left ∙ append-nil (left_in log)) (inl (w t h.opened))
            (does_here (Released m) c) (others_stand (Released m) c)
            (released_one (releases_in log) (releases_in now) n m c.released)
            (λ i ne. released_none (releases_in log) (releases_in now) n m c.released i ne) k;
      }

  goes_ended : (l : DriverLedger) → CameTo (Ended l) → GoesBy (Ended l)
  goes_ended l c =
      let acting = c.acts in
      let d : TypedAct = record { step = step; answer = DoneAnswer; bits = bits; gave = carried p step DoneAnswer } in
      let z : opened step DoneAnswer ≡ 0 = ap (λ s. opened s DoneAnswer) acting.kind in
      let y : length_in step DoneAnswer ≡ [] = ap (λ s. length_in s DoneAnswer) acting.kind in
      let o = ended_off p step nxt l acting.quiet in
      let left = c.left in
      let count = ap (λ xs. length xs) left ∙ left_count (left_in log) (Ended l) in
      record {
        traces = λ t h. traces_act was nxt log now t d [] c.released
            (λ i o. acts_else length_of t d i (inr y) ∙ sym (append-nil _))
            (let s = acting.opens in omega (arith, s, z)) acting.out acting.fits (gives_carried p step DoneAnswer) h;
        holds = λ t j h k. holds_act stands t (releases_in log) (releases_in now) (leaves (left_in log) (held_of was))
            (leaves (left_in now) (held_of nxt)) j n (length (left_in now)) old new
            (held_of was) (held_by l) (off_of was) (off_of nxt) (knows_bus_off l) d []
            (inl (stands_ended p step was nxt l node n (acting.place node n c.own) acting.opens acting.quiet
            acting.kind t
            h.opened)) (does_here (Ended l) c) (others_stand (Ended l) c)
            (released_same (releases_in log) (releases_in now) (suc n) c.released ∙ sym (append-nil _))
            (λ i ne. released_same (releases_in log) (releases_in now) (suc i) c.released)
            (leaves_last (left_in log) (held_of was)) (rw left (leaves_before (left_in log) l (held_of nxt)))
            (λ i ne. rw (left, o.1) (leaves_more (left_in log) l (held_of was) i ne)) (inr (omega (arith, count), o.0))
            k;
      }

  goes_unmet : CameTo Unmet → GoesBy Unmet
  goes_unmet c =
      let acting = c.acts in
      record {
        traces = λ t h. traces_unmet was nxt log now t c.released acting.opens acting.out h;
        holds = λ t j h k. forget stands t (releases_in now) (leaves (left_in now) (held_of nxt)) (length (left_in now))
            (off_of nxt) j new
            (holds_on t j idle [] (c.left ∙ append-nil (left_in log)) (inr refl) (does_here Unmet c)
            (others_stand Unmet c)
            (released_same (releases_in log) (releases_in now) (suc n) c.released ∙ sym (append-nil _))
            (λ i ne. released_same (releases_in log) (releases_in now) (suc i) c.released) k);
      }

  pub goes_step : (o : Tried) → CameTo o → GoesBy o
  goes_step Unmet c = goes_unmet c
  goes_step (Answered a) c = goes_answered a c
  goes_step (Released m) c = goes_released m c
  goes_step (Ended l) c = goes_ended l c
