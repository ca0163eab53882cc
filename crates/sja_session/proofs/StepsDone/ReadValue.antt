-- What an address read as, by the answer of the step that read it.
use Rattle.std.proofs.Common.{◌≡◌, ℕ, Bool, true, false, List, [], ◌∷◌, map, refl, sym, ap, ◌∙◌, subst}
use Rattle.std.specs.Prelude.{slice_index_or}
use Rattle.sja_journal.specs.declared.entry.Entry.{Entry}
use Rattle.sja_bus_rules.specs.Wire.{journal_at}
use Rattle.sja_regs.specs.declared.registers.Registers.{Registers}
use Rattle.sja_regs.specs.Addresses.{register_at}
use Rattle.sja_regs.specs.Reading.{value_at}
use Rattle.sja_steps.specs.declared.step.Step.{Step}
use Rattle.sja_steps.specs.declared.step.Step.TheVariants.{Read}
use Rattle.sja_steps.specs.declared.step_answer.StepAnswer.{StepAnswer}
use Rattle.sja_driver.specs.StepRuns.{StepRun, Answers, step_runs_at, by_bytes, act_steps, acts_in}
use Rattle.sja_driver.specs.Carried.{Tells}
use Rattle.sja_driver.specs.TypedActs.{TypedAct, is_active}
use Rattle.sja_driver.specs.Answered.{value_or}
use Rattle.sja_driver.specs.Kept.{kept_at}
use Rattle.sja_driver.specs.LoggedDrivers.{kept_of}
use Rattle.sja_driver.specs.Reads.{value_by_bytes}
use Rattle.sja_driver.specs.declared.unmodelled_registers.UnmodelledRegisters.{UnmodelledRegisters}
use Rattle.sja_driver.specs.declared.logged_driver.LoggedDriver.{LoggedDriver}
use Rattle.sja_driver.proofs.Bytes.ReadBack.{value_is}
use Rattle.sja_promises.specs.Registering.{LeadOn, seen_now}
use Rattle.sja_promises.proofs.OneNode.OneAct.{lead_one, one_act}
use Rattle.sja_session.specs.Sessions.{SessionValue}
use Rattle.sja_session.specs.Stepping.{DoesStep}

-- ---- its value

module _ {before : List TypedAct} {j k : List Entry} {p q : Registers} {acts : List TypedAct}
    (on : LeadOn before j p acts k q) (kept : UnmodelledRegisters) (address : ℕ) (answer : StepAnswer) where
  told : (d : TypedAct) → acts ≡ d ∷ [] → d.step ≡ Read address → d.answer ≡ answer →
      value_or answer (kept_at kept address) ≡ value_by_bytes p kept (seen_now (is_active before) j before) address
  told d is step same =
      let tells = subst (λ (s : Step). Tells s (is_active before) p (seen_now (is_active before) j before) d.answer)
      step (lead_one on is).tells in
      ap (λ a. value_or a (kept_at kept address)) (sym same ∙ tells)
      ∙ value_is (value_at p (seen_now (is_active before) j before) (register_at p.mode.rm address))
      (kept_at kept address)

  by_version : (bytes : Bool) (bits : ℕ) → map (λ (d : TypedAct). d.step) acts ≡ act_steps bytes p (is_active before)
      (Read address) →
      Answers bytes p (seen_now (is_active before) j before) kept bits (Read address) acts answer →
      value_or answer (kept_at kept address) ≡ value_by_bytes p kept (seen_now (is_active before) j before) address
  by_version true bits steps is = ap (λ a. value_or a (kept_at kept address)) is
  by_version false bits steps is =
      let one = one_act acts (Read address) answer steps is in told one.0 one.1 one.2 one.3

-- of a step that read an address
pub read_value : {was now : SessionValue} {node address : ℕ} {answer : StepAnswer} {step_runs : List (List StepRun)} →
    DoesStep was now node (Read address) answer step_runs → (d : LoggedDriver) (p : Registers) →
    let acts = acts_in (step_runs_at step_runs node) in
    value_or answer (kept_at (kept_of (slice_index_or was.run.drivers node d)) address)
    ≡ value_by_bytes (slice_index_or was.run.ports node p) (kept_of (slice_index_or was.run.drivers node d))
    (seen_now (is_active acts) (journal_at was.run.bus.journals node) acts) address
read_value {was} {now} {node} {address} {answer} {step_runs} does d p =
    let what = does.what d p in let bytes = by_bytes was.plan.version in
    let port = slice_index_or was.run.ports node p in let kept = kept_of (slice_index_or was.run.drivers node d) in
    let active = is_active (acts_in (step_runs_at step_runs node)) in
    let before = seen_now active (journal_at was.run.bus.journals node) (acts_in (step_runs_at step_runs node)) in
    by_version (does.on p) kept address answer bytes does.step_run.bits
    (subst (λ (s : Step). map (λ (e : TypedAct). e.step) does.step_run.acts ≡ act_steps bytes port active s) does.is
    what.steps)
    (subst (λ (s : Step). Answers bytes port before kept does.step_run.bits s does.step_run.acts answer) does.is
    (subst (λ (a : StepAnswer). Answers bytes port before kept does.step_run.bits does.step_run.step does.step_run.acts
    a)
    does.answered
    what.answer))
