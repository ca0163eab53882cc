-- What calls of a driver do that several of them have in common (this project's own rule).
use Rattle.std.specs.Prelude.{◌≡◌, ℕ, [], ◌∷◌, Result, OnOk, OnErr, IfErr}
use Rattle.sja_journal.specs.declared.up.Up.TheVariants.{Stop}
use Rattle.sja_journal.specs.Lists.{Lists, on, is_on}
use Rattle.sja_link.specs.Looking.{Pulls, IsTaken}
use Rattle.sja_regs.specs.declared.reg_fault.RegFault.{RegFault}
use Rattle.sja_regs.specs.declared.registers.Registers.{Registers}
use Rattle.sja_regs.specs.Addresses.{register_at}
use Rattle.sja_regs.specs.Refusals.{first_fault, fault_of}
use Rattle.sja_regs.specs.Registers.{after_entering_reset}
use Rattle.sja_regs.specs.Writing.{write_faults_at, after_writing_at}
use Rattle.sja_driver.specs.declared.driver.Driver.{Driver}
use Rattle.sja_driver.specs.declared.active.Active.{Active}
use Rattle.sja_driver.specs.Drivers.{link_in, activation_in, held_in, off_in}
use Rattle.sja_driver.specs.Giving.{IsGiven}

-- an activation was ended at its end and at a port whose registers were p and are q then: the stop was given, and the
-- port entered reset mode. Or the end gave the stop back: the same driver comes back, and nothing changed
pub record Ends {E A : Type 0} (stands : E → ℕ → Lists → Type 0) (full : E → ℕ → Type 0) (old new : E)
    (p q : Registers) (was : Driver Active) (result : Result A (Driver Active)) : Type 0 where
  pub given : OnOk result (IsGiven (on stands (activation_in was)) old new (Stop ∷ []))
  pub port : OnOk result (q ≡ after_entering_reset p)
  pub back : IfErr result (λ d. d ≡ was)
  pub kept : OnErr result (IsGiven (on stands (activation_in was)) old new [])
  pub unchanged : OnErr result (q ≡ p)
  pub busy : OnErr result (full old (activation_in was))

-- all that the end showed was taken in, and nothing was released; the driver is that of the same activation
pub record TakesIn {E : Type 0} (stands : E → ℕ → Lists → Type 0) (dry : E → ℕ → Type 0) (old new : E)
    (was now : Driver Active) : Type 0 where
  pub link : link_in now ≡ link_in was
  pub got : Pulls (on stands (activation_in was)) old new (held_in was) (held_in now) (off_in was) (off_in now)
  pub all : IsTaken (is_on dry (activation_in was)) new (off_in now) (held_in now)

-- the register at an address was written, or the write was refused and changed nothing
pub record Writes {A : Type 0} (p q : Registers) (address value : ℕ) (result : Result A RegFault) : Type 0 where
  pub refused : fault_of result ≡ first_fault (write_faults_at p (register_at p.mode.rm address) value)
  pub written : OnOk result (q ≡ after_writing_at p (register_at p.mode.rm address) value)
  pub unchanged : OnErr result (q ≡ p)
