-- A step that is one act, of each kind: a read, a write, or another one.
use Rattle.std.proofs.Common.{◌≡◌, ℕ, Bool, true, false, List, [], ◌∷◌, map, refl, sym, ap, ◌∙◌, subst}
use Rattle.can_frame.specs.declared.buffer_view.BufferView.{BufferView}
use Rattle.sja_link.specs.Showing.{seen_of}
use Rattle.sja_regs.specs.declared.registers.Registers.{Registers}
use Rattle.sja_regs.specs.DriverSettings.{SettingsValue, HasSettings}
use Rattle.sja_steps.specs.declared.step.Step.{Step}
use Rattle.sja_steps.specs.declared.step.Step.TheVariants.{Start, Stop, Window, Release, Read, Write, Load, Command}
use Rattle.sja_steps.specs.declared.step.Step.TheVariants.{Await, Sent, Interrupt, At}
use Rattle.sja_steps.specs.declared.step_answer.StepAnswer.{StepAnswer}
use Rattle.sja_steps.specs.declared.step_answer.StepAnswer.TheVariants.{Value}
use Rattle.sja_driver.specs.StepRuns.{Answers, by_bytes, act_steps, kept_written}
use Rattle.sja_driver.specs.Carried.{Tells}
use Rattle.sja_driver.specs.TypedActs.{TypedAct}
use Rattle.sja_driver.specs.declared.unmodelled_registers.UnmodelledRegisters.{UnmodelledRegisters}
use Rattle.sja_driver.specs.Kept.{moved_by_answer}
use Rattle.sja_driver.specs.Reads.{value_by_bytes}
use Rattle.sja_thread_promises.specs.Accessing.{IsStepRunAt}
use Rattle.sja_threads.specs.Inside.StepRuns.{HasOneAct, IsTold}
use Rattle.sja_threads.proofs.Driver.Settings.{IsDoneFrom}

-- neither a read nor a write, nor a wait for a bit: the act that it is, what it answers, by what that is told, and
-- what it leaves kept
abbrev IsPlain : Step → Type 0
IsPlain s =
    ((p : Registers) (active : Bool) → act_steps true p active s ≡ s ∷ [])
    × ((p : Registers) (seen : BufferView) (kept : UnmodelledRegisters) (bits : ℕ) (acts : List TypedAct)
    (answer : StepAnswer) →
    map (λ (d : TypedAct). d.answer) acts ≡ answer ∷ [] → Answers true p seen kept bits s acts answer)
    × ((kept : UnmodelledRegisters) (given answer : StepAnswer) → IsTold true kept s given answer → answer ≡ given)
    × ((p : Registers) (kept : UnmodelledRegisters) → kept_written p kept s ≡ kept)

data Kind : Step → Type 0 where
  is_read : (address : ℕ) → Kind (Read address)
  is_write : (address value : ℕ) → Kind (Write address value)
  is_wait : (least : ℕ) → Kind (At least)
  is_plain : (s : Step) → IsPlain s → Kind s

kind_of : (s : Step) → Kind s
kind_of (Read address) = is_read address
kind_of (Write address value) = is_write address value
kind_of (At least) = is_wait least
kind_of Start = is_plain Start (λ p a. refl, λ p n k b d x is. is, λ k g a is. is, λ p k. refl)
kind_of Stop = is_plain Stop (λ p a. refl, λ p n k b d x is. is, λ k g a is. is, λ p k. refl)
kind_of Window = is_plain Window (λ p a. refl, λ p n k b d x is. is, λ k g a is. is, λ p k. refl)
kind_of Release = is_plain Release (λ p a. refl, λ p n k b d x is. is, λ k g a is. is, λ p k. refl)
kind_of (Load m) = is_plain (Load m) (λ p a. refl, λ p n k b d x is. is, λ k g a is. is, λ p k. refl)
kind_of (Command value) = is_plain (Command value) (λ p a. refl, λ p n k b d x is. is, λ k g a is. is, λ p k. refl)
kind_of (Await count) = is_plain (Await count) (λ p a. refl, λ p n k b d x is. is, λ k g a is. is, λ p k. refl)
kind_of Sent = is_plain Sent (λ p a. refl, λ p n k b d x is. is, λ k g a is. is, λ p k. refl)
kind_of Interrupt = is_plain Interrupt (λ p a. refl, λ p n k b d x is. is, λ k g a is. is, λ p k. refl)

module _ (version : ℕ) (set : SettingsValue) (active : Bool) (was kept moved : UnmodelledRegisters) (d : TypedAct)
    (told : StepAnswer) (bits : ℕ) (from : IsDoneFrom set active d) (p : Registers) (has : HasSettings p set)
    (now : moved ≡ moved_by_answer kept d.answer) where
  abbrev seen : BufferView
  seen = seen_of from.done.off from.done.window

  -- at the registers at which the act was done, or at those of the write's kept byte
  abbrev IsAt : Registers → Step → Bool → Type 0
  IsAt at s bytes =
      (d.step ∷ [] ≡ act_steps bytes at active s) × Answers bytes at seen was bits s (d ∷ []) told
      × (moved ≡ moved_by_answer (kept_written at was s) d.answer)

  has_step_runs : (at : Registers) (s : Step) → HasSettings at set → IsAt at s (by_bytes version) →
      ((address : ℕ) → s ≡ Read address → Tells (Read address) active at seen d.answer) →
      IsStepRunAt version set active was (record { step = s; answer = told; bits = bits; acts = d ∷ [] }) moved
  has_step_runs at s has is read = record {
    at = at;
    seen = seen;
    has = has;
    is = record { steps = is.0; answer = is.1; left = is.2 };
    read = λ address x step acts.
        subst (λ (a : StepAnswer). Tells (Read address) active at seen a) (first_is d x acts) (read address step);
  }
    where
      first_is : (a b : TypedAct) → a ∷ [] ≡ b ∷ [] → a.answer ≡ b.answer
      first_is a b e = cc

  tells : (s : Step) → d.step ≡ s → (address : ℕ) → s ≡ Read address →
      Tells (Read address) active from.at seen d.answer
  tells s step address is =
      subst (λ (x : Step). Tells x active from.at seen d.answer) (step ∙ is) from.done.tells

  by_kind : (s : Step) → Kind s → (bytes : Bool) → bytes ≡ by_bytes version → d.step ≡ s → HasOneAct bytes s →
      IsTold bytes kept s d.answer told → kept ≡ kept_written p was s →
      IsStepRunAt version set active was (record { step = s; answer = told; bits = bits; acts = d ∷ [] }) moved
  by_kind _ (is_read address) true bytes step one is written =
      has_step_runs from.at (Read address) from.has
      (subst (λ (b : Bool). IsAt from.at (Read address) b) bytes (
        ap (λ (x : Step). x ∷ []) step,
        is.1 ∙ ap Value (is.2 from.at seen (tells (Read address) step address refl)
            ∙ ap (λ (k : UnmodelledRegisters). value_by_bytes from.at k seen address) written),
        now ∙ ap (λ (k : UnmodelledRegisters). moved_by_answer k d.answer) written,
      )) (tells (Read address) step)
  by_kind _ (is_read address) false bytes step one is written =
      has_step_runs from.at (Read address) from.has
      (subst (λ (b : Bool). IsAt from.at (Read address) b) bytes (
        ap (λ (x : Step). x ∷ []) step,
        ap (λ (a : StepAnswer). a ∷ []) (sym is),
        now ∙ ap (λ (k : UnmodelledRegisters). moved_by_answer k d.answer) written,
      )) (tells (Read address) step)
  by_kind _ (is_write address value) true bytes step one is written = absurd one
  by_kind _ (is_write address value) false bytes step one is written =
      has_step_runs p (Write address value) has
      (subst (λ (b : Bool). IsAt p (Write address value) b) bytes (
        ap (λ (x : Step). x ∷ []) step,
        ap (λ (a : StepAnswer). a ∷ []) (sym is),
        now ∙ ap (λ (k : UnmodelledRegisters). moved_by_answer k d.answer) written,
      )) (λ other same. absurd (let two : Write address value ≡ Read other = same in cc))
  by_kind _ (is_wait least) true bytes step one is written = absurd one
  by_kind _ (is_wait least) false bytes step one is written =
      has_step_runs from.at (At least) from.has
      (subst (λ (b : Bool). IsAt from.at (At least) b) bytes (
        ap (λ (x : Step). x ∷ []) step,
        ap (λ (a : StepAnswer). a ∷ []) (sym is),
        now ∙ ap (λ (k : UnmodelledRegisters). moved_by_answer k d.answer) written,
      )) (tells (At least) step)
  by_kind s (is_plain _ plain) true bytes step one is written =
      has_step_runs from.at s from.has
      (subst (λ (b : Bool). IsAt from.at s b) bytes (
        ap (λ (x : Step). x ∷ []) step ∙ sym (plain.0 from.at active),
        plain.1 from.at seen was bits (d ∷ []) told
            (ap (λ (a : StepAnswer). a ∷ []) (sym (plain.2 kept d.answer told is))),
        now ∙ ap (λ (k : UnmodelledRegisters). moved_by_answer k d.answer)
            (written ∙ plain.3 p was ∙ sym (plain.3 from.at was)),
      )) (tells s step)
  by_kind s (is_plain _ plain) false bytes step one is written =
      has_step_runs from.at s from.has
      (subst (λ (b : Bool). IsAt from.at s b) bytes (
        ap (λ (x : Step). x ∷ []) step,
        ap (λ (a : StepAnswer). a ∷ []) (sym is),
        now ∙ ap (λ (k : UnmodelledRegisters). moved_by_answer k d.answer)
            (written ∙ plain.3 p was ∙ sym (plain.3 from.at was)),
      )) (tells s step)

  -- by its one act a step is what it is
  pub step_run_at : (s : Step) (bytes : Bool) → bytes ≡ by_bytes version → d.step ≡ s → HasOneAct bytes s →
      IsTold bytes kept s d.answer told → kept ≡ kept_written p was s →
      IsStepRunAt version set active was (record { step = s; answer = told; bits = bits; acts = d ∷ [] }) moved
  step_run_at s = by_kind s (kind_of s)
