-- What entries and acts leave at a port as it was at power-on: its version, and that its bus has bits left.
use Rattle.std.proofs.Common.{◌≡◌, ◌∙◌, ℕ, false, List, refl, ap}
use Rattle.sja_journal.specs.declared.entry.Entry.{Entry}
use Rattle.sja_regs.specs.declared.registers.Registers.{Registers}
use Rattle.sja_driver.specs.TypedActs.{TypedAct}
use Rattle.sja_driver.proofs.Step.Modes.{closed_step, version_step}
use Rattle.sja_promises.specs.Registering.{LeadTo}
use Rattle.sja_promises.specs.Registering.LeadTo.{power_on, act, bit}

pub version_led : (version : ℕ) (j : List Entry) (acts : List TypedAct) (p : Registers) → LeadTo version j acts p →
    p.version ≡ version
version_led version j acts p power_on = refl
version_led version k acts q (act j _ before d p _ led is) =
    ap (λ (r : Registers). r.version) is.left ∙ version_step p d.step d.answer ∙ version_led version j before p led
version_led version k acts q (bit j _ _ p _ led b) =
    ap (λ (r : Registers). r.version) b.told ∙ version_led version j acts p led

pub unclosed_led : (version : ℕ) (j : List Entry) (acts : List TypedAct) (p : Registers) → LeadTo version j acts p →
    p.closed ≡ false
unclosed_led version j acts p power_on = refl
unclosed_led version k acts q (act j _ before d p _ led is) =
    ap (λ (r : Registers). r.closed) is.left ∙ closed_step p d.step d.answer ∙ unclosed_led version j before p led
unclosed_led version k acts q (bit j _ _ p _ led b) =
    ap (λ (r : Registers). r.closed) b.told ∙ unclosed_led version j acts p led
