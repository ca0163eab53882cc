-- A write of a driver that knows addresses and bytes alone, which is one act.
use Rattle.std.proofs.Common.{◌≡◌, ◌<◌, ℕ, Bool, true, false, List, [], ◌∷◌, sym, ap, ◌∙◌, arith}
use Rattle.std.proofs.Common.{inl, inr}
use Rattle.std.proofs.lemmas.Bool.{cases_eq}
use Rattle.std.specs.Prelude.{◌≢◌}
use Rattle.std.specs.Prelude.{slice_index_or}
use Rattle.sja_regs.specs.declared.registers.Registers.{Registers}
use Rattle.sja_regs.specs.Registers.{at_power_on}
use Rattle.sja_steps.specs.declared.step.Step.{Step}
use Rattle.sja_steps.specs.declared.step.Step.TheVariants.{Write}
use Rattle.sja_steps.specs.declared.step_answer.StepAnswer.{StepAnswer}
use Rattle.sja_driver.specs.declared.logged_driver.LoggedDriver.{LoggedDriver}
use Rattle.sja_driver.specs.declared.written.Written.{Written}
use Rattle.sja_driver.specs.StepRuns.{StepRun, by_bytes}
use Rattle.sja_driver.specs.TypedActs.{with_acts}
use Rattle.sja_driver.specs.Ignoring.{write_answer}
use Rattle.sja_driver.specs.Writes.{write_steps}
use Rattle.sja_driver.specs.Written.{written_then}
use Rattle.sja_driver.proofs.Bytes.OtherWrites.{others_so}
use Rattle.sja_serial.specs.Inside.Accessing.{Enters, IsSteps, written_first}
use Rattle.sja_serial.specs.Serial.{Setup, SerialValue, StandsBy, all_acts}
use Rattle.sja_serial.specs.Stepping.{DoesAct, DoesStep}
use Rattle.sja_serial.proofs.TypedActs.StepRun.{done_as_write}
use Rattle.sja_serial.proofs.TypedActs.Parts.{no_acts_yet, one_act_more}

module _ {setup : Setup} {was mid now : SerialValue} {step_runs : List (List StepRun)} {node address value : ℕ}
    {s : Step} {answer told : StepAnswer} (w : Written) (h : StandsBy setup was step_runs) (there : node < setup.nodes)
    (d : DoesAct setup was mid node s answer (with_acts (all_acts step_runs) node []))
    (e : Enters mid now node told w.kept) where
  pub done_as_one : told ≡ write_answer w.ignored → by_bytes setup.version ≡ true →
      IsSteps setup was node address value (s ∷ []) →
      ((x : LoggedDriver) (p : Registers) → w ≡ written_then (written_first was node address value x p) answer) →
      DoesStep setup was now node (Write address value) step_runs
  done_as_one told_is bytes one on =
      done_as_write h there (d.act ∷ []) w (one_act_more there h (no_acts_yet there h) d) e told_is
      (sym (d.port (at_power_on 1)).now ∙ d.does.at_once 0 d.act (omega arith)) bytes
      (λ p. ap (λ (t : Step). t ∷ []) d.step_is ∙ sym (one step_runs h p))
      (λ x p. on x p ∙ ap (written_then (written_first was node address value x p)) (sym d.answer_is))

-- a write that is another one of a typed driver is one of CMR or of MOD
pub of_mode : (p : Registers) (address value : ℕ) → ((out : Bool) → write_steps p out address value
    ≢ Write address value ∷ []) → address ≢ 1 → address ≡ 0
of_mode p address value other differs = elim (cases_eq address 0) [
  | inl same ↦ same
  | inr not_mode ↦ absurd (other false (others_so p false address value not_mode differs))
]
