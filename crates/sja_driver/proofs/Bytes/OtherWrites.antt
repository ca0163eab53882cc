-- Writes of addresses that no steps of their own stand for.
use Rattle.std.proofs.Common.{◌≡◌, ℕ, Bool, [], ◌∷◌, ap, ◌∙◌}
use Rattle.std.specs.Prelude.{◌==◌, if◌then◌else◌}
use Rattle.std.proofs.lemmas.Bool.{ne_eqb}
use Rattle.sja_regs.specs.declared.registers.Registers.{Registers}
use Rattle.sja_regs.specs.Commands.{command_of}
use Rattle.sja_regs.specs.Registers.{is_forced}
use Rattle.sja_steps.specs.declared.step.Step.TheVariants.{Write}
use Rattle.sja_driver.specs.CommandWrites.{command_steps}
use Rattle.sja_driver.specs.ModeWrites.{mode_steps}
use Rattle.sja_driver.specs.Writes.{write_steps}

-- any other address than those of MOD and CMR
pub others_so : (p : Registers) (out : Bool) (address value : ℕ) → (address ≡ 0 → ⊥) → (address ≡ 1 → ⊥) →
    write_steps p out address value ≡ Write address value ∷ []
others_so p out address value not_mode not_command =
    ap (λ (b : Bool). if b then mode_steps p.mode (is_forced p) out value
    else if address == 1 then command_steps p (command_of value) else Write address value ∷ [])
    (ne_eqb address 0 not_mode)
    ∙ ap (λ (b : Bool). if b then command_steps p (command_of value) else Write address value ∷ [])
    (ne_eqb address 1 not_command)
