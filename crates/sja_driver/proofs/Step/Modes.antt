-- Reset mode, spent bits and a standing abort after a step.
use Rattle.std.proofs.Common.{◌≡◌, ℕ, Bool, true, false, refl, sym, ◌∙◌, inl, inr, arith}
use Rattle.std.specs.Prelude.{◌⊎◌, ◌==◌, ◌||◌, ◌&&◌, not, if◌then◌else◌, Option, Some, None, unwrap_or}
use Rattle.std.proofs.lemmas.Bool.{and_parts}
use Rattle.can_frame.specs.declared.buffer_view.BufferView.{BufferView}
use Rattle.sja_regs.specs.declared.reg_fault.RegFault.{RegFault}
use Rattle.sja_regs.specs.declared.register.Register.{Register}
use Rattle.sja_regs.specs.declared.register.Register.TheVariants.{Mode, TransmitErrorCounter}
use Rattle.sja_regs.specs.declared.registers.Registers.{Registers}
use Rattle.sja_regs.specs.Addresses.{register_at}
use Rattle.sja_regs.specs.Bits.{differ}
use Rattle.sja_regs.specs.Commands.{command_of, requests}
use Rattle.sja_regs.specs.Modes.{mode_of}
use Rattle.sja_regs.specs.Refusals.{first_fault}
use Rattle.sja_regs.specs.Registers.{after_leaving_reset, asks_off, is_forced}
use Rattle.sja_regs.specs.Writing.{write_faults_at, after_forced_off, after_writing_at}
use Rattle.sja_regs.proofs.Calls.KeepLemmas.{read_keeps, write_keeps, leaving_keeps}
use Rattle.sja_steps.specs.declared.step.Step.{Step}
use Rattle.sja_steps.specs.declared.step.Step.TheVariants.{Start, Stop, Window, Release, Read, Write, Load, Command}
use Rattle.sja_steps.specs.declared.step.Step.TheVariants.{Await, Sent, Interrupt, At}
use Rattle.sja_steps.specs.declared.step_answer.StepAnswer.{StepAnswer}
use Rattle.sja_steps.specs.declared.step_answer.StepAnswer.TheVariants.{Done}
use Rattle.sja_driver.specs.Answers.{done_unless}
use Rattle.sja_driver.specs.Carried.{Tells, ported, asks_abort}
use Rattle.sja_driver.specs.TypedActs.{opened, active_after}

-- ---- reset mode

start_rm : (b : Bool) (p : Registers) → p.mode.rm ≡ b → (if b then after_leaving_reset p else p).mode.rm ≡ false
start_rm true p e = refl
start_rm false p e = e

-- MOD was written: with the same RM, or with RM 0 where a bus-off is asked for, which keeps RM at 1
mode_rm : (forced rm new : Bool) (off on : Registers) (f : RegFault) (rest : Option RegFault) →
    (forced ≡ true → rm ≡ true) → off.mode.rm ≡ true → on.mode.rm ≡ new →
    Done ≡ done_unless (if differ rm new && not forced then Some f else rest) →
    (if forced && not new then off else on).mode.rm ≡ rm
mode_rm true true true off on f rest k a b h = b
mode_rm true true false off on f rest k a b h = a
mode_rm true false new off on f rest k a b h = absurd (let no = k refl in cc)
mode_rm false true true off on f rest k a b h = b
mode_rm false true false off on f rest k a b h = absurd cc
mode_rm false false true off on f rest k a b h = absurd cc
mode_rm false false false off on f rest k a b h = b

-- TXERR was written
txerr_rm : (full : Bool) (v : ℕ) (p : Registers) →
    (if full then record p { txerr = v; set_tec = Some v }
    else record p { txerr = v; rxerr = unwrap_or p.set_rec p.rxerr; bs = false; set_tec = Some v }).mode.rm ≡ p.mode.rm
txerr_rm true v p = refl
txerr_rm false v p = refl

-- no write leaves or enters reset mode
pub write_rm : (x : Option Register) (v : ℕ) (p : Registers) →
    Done ≡ done_unless (first_fault (write_faults_at p x v)) → (after_writing_at p x v).mode.rm ≡ p.mode.rm
write_rm None v p h = refl
write_rm (Some Mode) v p h =
    mode_rm (is_forced p) p.mode.rm (mode_of v).rm
    (after_forced_off (record p { mode = record (mode_of v) { rm = true } })) (record p { mode = mode_of v }) _ _
    (λ f. (and_parts p.mode.rm (asks_off p) f).0) refl refl h
write_rm (Some TransmitErrorCounter) v p h = txerr_rm (v == 255) v p
write_rm (Some other) v p h = refl

-- a start leaves reset mode, a stop enters it, and no other step does either
pub rm_step : (p : Registers) (step : Step) (answer : StepAnswer) (active out : Bool) (seen : BufferView)
    (rest : Bool) →
    Tells step out p seen answer → p.mode.rm ≡ (not active || rest) →
    (opened step answer ≡ 0 → (ported p step answer).mode.rm ≡ (not (active_after active step answer) || rest)) ×
    (opened step answer ≡ 1 → (ported p step answer).mode.rm ≡ false)
rm_step p Start Done active out seen rest t e = (λ o. absurd (omega (arith, o)), λ o. start_rm p.mode.rm p refl)
rm_step p Stop Done active out seen rest t e = (λ o. refl, λ o. absurd (omega (arith, o)))
rm_step p (Read address) answer active out seen rest t e = (
  λ o. read_keeps (λ q. q.mode.rm) (λ q i a c. refl) (register_at p.mode.rm address) p ∙ e,
  λ o. absurd (omega (arith, o)),
)
rm_step p (Write address value) Done active out seen rest t e =
    (λ o. write_rm (register_at p.mode.rm address) value p t ∙ e, λ o. absurd (omega (arith, o)))
rm_step p (Load m) Done active out seen rest t e = (λ o. e, λ o. absurd (omega (arith, o)))
rm_step p (Command value) Done active out seen rest t e = (λ o. e, λ o. absurd (omega (arith, o)))
rm_step p Start other active out seen rest t e = (λ o. e, λ o. absurd (omega (arith, o)))
rm_step p Stop other active out seen rest t e = (λ o. e, λ o. absurd (omega (arith, o)))
rm_step p (Write address value) other active out seen rest t e = (λ o. e, λ o. absurd (omega (arith, o)))
rm_step p (Load m) other active out seen rest t e = (λ o. e, λ o. absurd (omega (arith, o)))
rm_step p (Command value) other active out seen rest t e = (λ o. e, λ o. absurd (omega (arith, o)))
rm_step p Window answer active out seen rest t e = (λ o. e, λ o. absurd (omega (arith, o)))
rm_step p Release answer active out seen rest t e = (λ o. e, λ o. absurd (omega (arith, o)))
rm_step p (Await count) answer active out seen rest t e = (λ o. e, λ o. absurd (omega (arith, o)))
rm_step p Sent answer active out seen rest t e = (λ o. e, λ o. absurd (omega (arith, o)))
rm_step p Interrupt answer active out seen rest t e = (λ o. e, λ o. absurd (omega (arith, o)))
rm_step p (At bits) answer active out seen rest t e = (λ o. e, λ o. absurd (omega (arith, o)))

-- ---- the bits aren't spent

-- no step of a driver closes its port
pub closed_step : (p : Registers) (step : Step) (answer : StepAnswer) → (ported p step answer).closed ≡ p.closed
closed_step p Start Done = leaving_keeps (λ q. q.closed) p.mode.rm p (after_leaving_reset p) refl
closed_step p Stop Done = refl
closed_step p (Read address) answer =
    read_keeps (λ q. q.closed) (λ q i a c. refl) (register_at p.mode.rm address) p
closed_step p (Write address value) Done =
    write_keeps (λ q. q.closed) (λ q s i. refl) (register_at p.mode.rm address) value p
closed_step p (Load m) Done = refl
closed_step p (Command value) Done = refl
closed_step p Start other = refl
closed_step p Stop other = refl
closed_step p (Write address value) other = refl
closed_step p (Load m) other = refl
closed_step p (Command value) other = refl
closed_step p Window answer = refl
closed_step p Release answer = refl
closed_step p (Await count) answer = refl
closed_step p Sent answer = refl
closed_step p Interrupt answer = refl
closed_step p (At bits) answer = refl

-- no step changes its version
pub version_step : (p : Registers) (step : Step) (answer : StepAnswer) → (ported p step answer).version ≡ p.version
version_step p Start Done = leaving_keeps (λ q. q.version) p.mode.rm p (after_leaving_reset p) refl
version_step p Stop Done = refl
version_step p (Read address) answer =
    read_keeps (λ q. q.version) (λ q i a c. refl) (register_at p.mode.rm address) p
version_step p (Write address value) Done =
    write_keeps (λ q. q.version) (λ q s i. refl) (register_at p.mode.rm address) value p
version_step p (Load m) Done = refl
version_step p (Command value) Done = refl
version_step p Start other = refl
version_step p Stop other = refl
version_step p (Write address value) other = refl
version_step p (Load m) other = refl
version_step p (Command value) other = refl
version_step p Window answer = refl
version_step p Release answer = refl
version_step p (Await count) answer = refl
version_step p Sent answer = refl
version_step p Interrupt answer = refl
version_step p (At bits) answer = refl

-- ---- a standing abort

either : (was at asks busy : Bool) → (was || at && not asks && not busy) ≡ true →
    (was ≡ true) ⊎ ((at && not asks) ≡ true)
either true at asks busy h = inl refl
either false true false false h = inr refl
either false true false true h = absurd cc
either false true true busy h = absurd cc
either false false asks busy h = absurd cc

-- it stood before, or this step commanded it
pub abort_step : (p : Registers) (step : Step) (answer : StepAnswer) → (ported p step answer).abort ≡ true →
    (p.abort ≡ true) ⊎ (asks_abort step answer ≡ true)
abort_step p (Command value) Done h = either p.abort (command_of value).at (requests (command_of value)) p.tbs h
abort_step p Start Done h = inl (sym (leaving_keeps (λ q. q.abort) p.mode.rm p (after_leaving_reset p) refl) ∙ h)
abort_step p Stop Done h = absurd cc
abort_step p (Read address) answer h =
    inl (sym (read_keeps (λ q. q.abort) (λ q i a c. refl) (register_at p.mode.rm address) p) ∙ h)
abort_step p (Write address value) Done h =
    inl (sym (write_keeps (λ q. q.abort) (λ q s i. refl) (register_at p.mode.rm address) value p) ∙ h)
abort_step p (Load m) Done h = inl h
abort_step p Start other h = inl h
abort_step p Stop other h = inl h
abort_step p (Write address value) other h = inl h
abort_step p (Load m) other h = inl h
abort_step p (Command value) other h = inl h
abort_step p Window answer h = inl h
abort_step p Release answer h = inl h
abort_step p (Await count) answer h = inl h
abort_step p Sent answer h = inl h
abort_step p Interrupt answer h = inl h
abort_step p (At bits) answer h = inl h
