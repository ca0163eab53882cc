-- The trace of a driver with an act more, and where that act stands.
use Rattle.std.proofs.Common.{◌≡◌, ◌+◌, ℕ, suc, false, List, [], ◌∷◌, ◌++◌, length, map, refl, sym, ap, ◌∙◌, arith, inl}
use Rattle.std.proofs.Common.{inr}
use Rattle.std.specs.Prelude.{◌⊎◌}
use Rattle.std.proofs.lemmas.List.{map-append}
use Rattle.sja_link.specs.declared.driver_ledger.DriverLedger.{DriverLedger}
use Rattle.lemmas.proofs.Gathered.{gathered_append}
use Rattle.lemmas.proofs.Picking.{each_push}
use Rattle.sja_regs.specs.declared.registers.Registers.{Registers}
use Rattle.sja_steps.specs.declared.step.Step.{Step}
use Rattle.sja_steps.specs.declared.step_answer.StepAnswer.{StepAnswer}
use Rattle.sja_steps.specs.declared.step_answer.StepAnswer.TheVariants.{Done as DoneAnswer, Released as ReleasedAnswer}
use Rattle.sja_driver.specs.declared.any_driver.AnyDriver.{AnyDriver}
use Rattle.sja_driver.specs.declared.any_driver.AnyDriver.TheVariants.{InReset, InActive}
use Rattle.sja_driver.specs.declared.release.Release.{Release}
use Rattle.sja_driver.specs.declared.work_log.WorkLog.{WorkLog}
use Rattle.sja_driver.specs.AnyDrivers.{IsDriverOf, held_of, off_of, opened_of, is_out}
use Rattle.sja_driver.specs.Carried.{carried}
use Rattle.sja_driver.specs.TypedActs.{TypedAct, opened, opens_by, opened_by, active_after, is_active, acts_of}
use Rattle.sja_driver.specs.TypedActs.{released_lengths, FitsState, Gives}
use Rattle.sja_driver.specs.Drivers.{started_in, link_in}
use Rattle.sja_driver.specs.Logs.{Traces, releases_in, of_activation, released_of}
use Rattle.sja_driver.specs.Tries.{IsOf, IsQuiet}
use Rattle.sja_driver.specs.Tries.Tried.{Answered, Released, Ended}
use Rattle.sja_driver.proofs.LogOfSteps.Sections.{active_push, opened_push}

abbrev pub lengths : List (List ℕ) → List ℕ
lengths xs = map (λ (m : List ℕ). length m) xs

-- an act more, that released what the log has more
pub traces_act : {version : ℕ} (was nxt : AnyDriver) (log now : WorkLog) (t : List TypedAct) (d : TypedAct) (more : List
    Release)
    → releases_in now ≡ releases_in log ++ more
    → ((a : ℕ) → opened_by t ≡ opened_of was →
    released_lengths (acts_of (t ++ d ∷ []) a) ≡ released_lengths (acts_of t a) ++ lengths (released_of more a))
    → opened_of nxt ≡ opened_of was + opens_by d
    → is_out nxt ≡ active_after (is_out was) d.step d.answer
    → FitsState version (is_out was) (opened_of was) d.step d.answer → Gives d.step d.answer d.gave
    → Traces version was log t → Traces version nxt now (t ++ d ∷ [])
traces_act {version} was nxt log now t d more rel released op out fits gives h = record {
  released = λ a. ap (λ xs. lengths (released_of xs a)) rel
      ∙ ap lengths (gathered_append (of_activation a) (releases_in log) more)
      ∙ map-append (λ (m : List ℕ). length m) (released_of (releases_in log) a) (released_of more a)
      ∙ ap (λ xs. xs ++ lengths (released_of more a)) (h.released a) ∙ sym (released a h.opened);
  opened = opened_push t d ∙ ap (λ n. n + opens_by d) h.opened ∙ sym op;
  out = active_push false t d ∙ ap (λ b. active_after b d.step d.answer) h.out ∙ sym out;
  answered = record {
    states = each_push (λ before (d : TypedAct). FitsState version (is_active before) (opened_by before) d.step
        d.answer) []
        t
        d h.answered.states (rw (h.out, h.opened) fits);
    gives = each_push (λ before (d : TypedAct). Gives d.step d.answer d.gave) [] t d h.answered.gives gives;
  };
}

-- ---- where an act stands: in the present activation, or it gives nothing

pub stands_answered : (p : Registers) (step : Step) (was nxt : AnyDriver) (a : StepAnswer) (node n : ℕ) →
    IsDriverOf node (n + 0) nxt → opened_of nxt ≡ opened_of was + opened step a → IsQuiet p step nxt (Answered a) →
    (t : List TypedAct) → opened_by t ≡ opened_of was → (opened_by t + opened step a ≡ suc n) ⊎ (carried p step a ≡ [])
stands_answered p one was (InReset d) a node n place op quiet t o = inr quiet
stands_answered p one was (InActive d) a node n place op quiet t o =
    let i : (link_in d).activation ≡ (n + 0) + 1 = ap (λ x. x.activation) place in
    let k : (link_in d).activation ≡ opened_of was + opened one a = op in
    inl (omega (arith, i, k, o))

pub stands_released : (p : Registers) (step : Step) (was nxt : AnyDriver) (m : List ℕ) (node n : ℕ) →
    IsDriverOf node (n + 0) nxt → opened_of nxt ≡ opened_of was → IsQuiet p step nxt (Released m) →
    IsOf step (Released m) → (t : List TypedAct) → opened_by t ≡ opened_of was →
    opened_by t + opened step (ReleasedAnswer (length m)) ≡ suc n
stands_released p one was (InReset d) m node n place op quiet kind t o = elim quiet [ ]
stands_released p one was (InActive d) m node n place op quiet kind t o =
    let i : (link_in d).activation ≡ (n + 0) + 1 = ap (λ x. x.activation) place in
    let k : (link_in d).activation ≡ opened_of was = op in
    let z : opened one (ReleasedAnswer (length m)) ≡ 0 = ap (λ s. opened s (ReleasedAnswer (length m))) kind in
    omega (arith, i, k, o, z)

pub stands_ended : (p : Registers) (step : Step) (was nxt : AnyDriver) (l : DriverLedger) (node n : ℕ) →
    IsDriverOf node (n + 1) nxt → opened_of nxt ≡ opened_of was → IsQuiet p step nxt (Ended l) → IsOf step (Ended l) →
    (t : List TypedAct) → opened_by t ≡ opened_of was → opened_by t + opened step DoneAnswer ≡ suc n
stands_ended p one was (InActive d) l node n place op quiet kind t o = elim quiet [ ]
stands_ended p one was (InReset d) l node n place op quiet kind t o =
    let i : started_in d ≡ n + 1 = place.1 in
    let k : started_in d ≡ opened_of was = op in
    let z : opened one DoneAnswer ≡ 0 = ap (λ s. opened s DoneAnswer) kind in
    omega (arith, i, k, o, z)

pub ended_off : (p : Registers) (step : Step) (nxt : AnyDriver) (l : DriverLedger) → IsQuiet p step nxt (Ended l) →
    (off_of nxt ≡ false) × (held_of nxt ≡ [])
ended_off p one (InReset d) l quiet = (refl, refl)
ended_off p one (InActive d) l quiet = elim quiet [ ]
