-- What a step leaves in the registers, beside what the acts have set.
use Rattle.std.proofs.Common.{◌≡◌, ℕ, Bool, true, false, [], ◌∷◌, refl, ap}
use Rattle.std.specs.Prelude.{◌==◌, ◌&&◌, not, nat_le, if◌then◌else◌, Option, Some, None, is_some, slice_set, unwrap_or}
use Rattle.sja_journal.specs.declared.up.Up.TheVariants.{Start as StartItem}
use Rattle.can_frame.specs.Buffer.{frame_in}
use Rattle.sja_regs.specs.declared.register.Register.{Register}
use Rattle.sja_regs.specs.declared.register.Register.TheVariants.{Mode, Interrupt, InterruptEnable}
use Rattle.sja_regs.specs.declared.register.Register.TheVariants.{ArbitrationLostCapture, ErrorCodeCapture}
use Rattle.sja_regs.specs.declared.register.Register.TheVariants.{ErrorWarningLimit, AcceptanceCode, AcceptanceMask}
use Rattle.sja_regs.specs.declared.register.Register.TheVariants.{ReceiveErrorCounter, TransmitErrorCounter, Buffer}
use Rattle.sja_regs.specs.declared.registers.Registers.{Registers}
use Rattle.sja_regs.specs.declared.mode.Mode.{Mode as ModeBits}
use Rattle.sja_regs.specs.Addresses.{register_at}
use Rattle.sja_regs.specs.Commands.{command_of, requests}
use Rattle.sja_regs.specs.Modes.{mode_of}
use Rattle.sja_regs.specs.Reading.{after_reading_at}
use Rattle.sja_regs.specs.Registers.{after_leaving_reset, is_forced}
use Rattle.sja_regs.specs.Writing.{after_forced_off, after_writing_at, after_loading}
use Rattle.sja_steps.specs.declared.step.Step.{Step}
use Rattle.sja_steps.specs.declared.step.Step.TheVariants.{Start, Stop, Window, Release, Read, Write, Load}
use Rattle.sja_steps.specs.declared.step.Step.TheVariants.{Command, Await, Sent, Interrupt, At}
use Rattle.sja_steps.specs.declared.step_answer.StepAnswer.{StepAnswer}
use Rattle.sja_steps.specs.declared.step_answer.StepAnswer.TheVariants.{Done, NoMessage, Shown, Released, Value}
use Rattle.sja_steps.specs.declared.step_answer.StepAnswer.TheVariants.{Refused, Ignored}
use Rattle.sja_driver.specs.Carried.{carried, ported}
use Rattle.sja_driver.specs.TypedActs.{opened}
use Rattle.sja_driver.specs.Ports.{send_of}
use Rattle.sja_driver.specs.Settings.{in_mode, after_setting}
use Rattle.sja_driver.specs.Alike.{AreAlike}
use Rattle.sja_driver.proofs.OneNode.Settings.{settings, set_alike, alike_set}

-- a start takes the counters with it
alike_start : (b : Bool) (p r : Registers) → b ≡ true → AreAlike p r →
    AreAlike (if b then after_leaving_reset p else p) (record r { set_tec = None; set_rec = None })
alike_start true p r e h = alike_set _ _
    (λ k. record (set_alike h k) { set_tec = None; set_rec = None; asks = nat_le 3 (h.version k) && false })
alike_start false p r e h = absurd cc

alike_read : (x : Option Register) (p r : Registers) → AreAlike p r → AreAlike (after_reading_at p x) r
alike_read None p r h = h
alike_read (Some Interrupt) p r h = alike_set _ r (set_alike h)
alike_read (Some ArbitrationLostCapture) p r h = alike_set _ r (set_alike h)
alike_read (Some ErrorCodeCapture) p r h = alike_set _ r (set_alike h)
alike_read (Some other) p r h = h

-- MOD was written, which brought a bus-off in both or in neither
alike_mode : (a b : Bool) (m : ModeBits) (p r : Registers) → a ≡ b → AreAlike p r →
    AreAlike (if a then after_forced_off (record p { mode = record m { rm = true } }) else record p { mode = m })
    (if b then after_forced_off (record r { mode = record m { rm = true } }) else record r { mode = m })
alike_mode true true m p r e h =
    alike_set _ _ (λ k. record (set_alike h k) {
      lom = m.lom;
      stm = m.stm;
      afm = m.afm;
      set_rec = Some 0;
      asks = nat_le 3 (h.version k) && (is_some (h.set_tec k) && false);
    })
alike_mode true false m p r e h = absurd cc
alike_mode false true m p r e h = absurd cc
alike_mode false false m p r e h =
    alike_set _ _ (λ k. record (set_alike h k) { lom = m.lom; stm = m.stm; afm = m.afm })

-- TXERR was written
txerr_set : (v : ℕ) (p r : Registers) → AreAlike p r →
    settings (record p { txerr = v; set_tec = Some v }) ≡ settings (record r { txerr = v; set_tec = Some v })
txerr_set v p r h =
    λ k. record (set_alike h k) { set_tec = Some v; asks = nat_le 3 (h.version k) && (v == 255) }

alike_txerr : (full : Bool) (v : ℕ) (p r : Registers) → AreAlike p r →
    AreAlike (if full then record p { txerr = v; set_tec = Some v }
    else record p { txerr = v; rxerr = unwrap_or p.set_rec p.rxerr; bs = false; set_tec = Some v })
    (if full then record r { txerr = v; set_tec = Some v }
    else record r { txerr = v; rxerr = unwrap_or r.set_rec r.rxerr; bs = false; set_tec = Some v })
alike_txerr true v p r h = alike_set _ _ (txerr_set v p r h)
alike_txerr false v p r h = alike_set _ _ (txerr_set v p r h)

alike_write : (x : Option Register) (v : ℕ) (p r : Registers) → p.mode.rm ≡ r.mode.rm → AreAlike p r →
    AreAlike (after_writing_at p x v) (after_writing_at r x v)
alike_write None v p r e h = h
alike_write (Some Mode) v p r e h =
    alike_mode (is_forced p && not (mode_of v).rm) (is_forced r && not (mode_of v).rm) (mode_of v) p r
    (λ k. (e k && h.asks k) && not (mode_of v).rm) h
alike_write (Some InterruptEnable) v p r e h = alike_set _ _ (set_alike h)
alike_write (Some ErrorWarningLimit) v p r e h = alike_set _ _ (set_alike h)
alike_write (Some ReceiveErrorCounter) v p r e h = alike_set _ _ (λ k. record (set_alike h k) { set_rec = Some v })
alike_write (Some TransmitErrorCounter) v p r e h = alike_txerr (v == 255) v p r h
alike_write (Some (AcceptanceCode i)) v p r e h =
    alike_set _ _ (λ k. record (set_alike h k) { acr = slice_set (h.acr k) i v })
alike_write (Some (AcceptanceMask i)) v p r e h =
    alike_set _ _ (λ k. record (set_alike h k) { amr = slice_set (h.amr k) i v })
alike_write (Some (Buffer i)) v p r e h =
    alike_set _ _ (λ k. record (set_alike h k) { buffer = slice_set (h.buffer k) i v })
alike_write (Some other) v p r e h = h

-- a step sets the same in both
pub alike_step : (p r : Registers) (step : Step) (answer : StepAnswer) → (opened step answer ≡ 1 → p.mode.rm ≡ true) →
    AreAlike p r → AreAlike (ported p step answer) (after_setting p.mode.rm r step answer)
alike_step p r Start Done starts h = alike_start p.mode.rm p r (starts refl) h
alike_step p r Stop Done starts h = alike_set _ _ (set_alike h)
alike_step p r (Read address) answer starts h = alike_read (register_at p.mode.rm address) p r h
alike_step p r (Write address value) Done starts h =
    alike_write (register_at p.mode.rm address) value p (in_mode p.mode.rm r) refl
    (alike_set _ _ (set_alike h))
alike_step p r (Load m) Done starts h =
    alike_set _ _ (λ k. record (set_alike h k) { buffer = (after_loading p m).buffer })
alike_step p r (Command value) Done starts h = alike_set _ _ (set_alike h)
alike_step p r Start other starts h = h
alike_step p r Stop other starts h = h
alike_step p r (Write address value) other starts h = h
alike_step p r (Load m) other starts h = h
alike_step p r (Command value) other starts h = h
alike_step p r Window answer starts h = h
alike_step p r Release answer starts h = h
alike_step p r (Await count) answer starts h = h
alike_step p r Sent answer starts h = h
alike_step p r Interrupt answer starts h = h
alike_step p r (At bits) answer starts h = h

-- and carries the same from both
pub carried_alike : (p r : Registers) (step : Step) (answer : StepAnswer) → AreAlike p r →
    carried p step answer ≡ carried r step answer
carried_alike p r Start Done h = λ i. StartItem (record {
  filter = record { single = h.afm i; acr = h.acr i; amr = h.amr i };
  self_test = h.stm i;
  listen = h.lom i;
  tec = h.set_tec i;
  rec = h.set_rec i;
}) ∷ []
carried_alike p r (Command value) Done h =
    let c = command_of value in
    ap (λ b. send_of (if requests c then Some (record
    { frame = frame_in b; single_shot = c.at; self_receive = not c.tr }) else None)) h.buffer
carried_alike p r Start other h = refl
carried_alike p r (Command value) other h = refl
carried_alike p r Release Done h = refl
carried_alike p r Release NoMessage h = refl
carried_alike p r Release (Shown m) h = refl
carried_alike p r Release (Released n) h = refl
carried_alike p r Release (Value n) h = refl
carried_alike p r Release (Refused f) h = refl
carried_alike p r Release (Ignored cause) h = refl
carried_alike p r Stop Done h = refl
carried_alike p r Stop other h = refl
carried_alike p r Window answer h = refl
carried_alike p r (Read address) answer h = refl
carried_alike p r (Write address value) answer h = refl
carried_alike p r (Load m) answer h = refl
carried_alike p r (Await count) answer h = refl
carried_alike p r Sent answer h = refl
carried_alike p r Interrupt answer h = refl
carried_alike p r (At bits) answer h = refl
