-- What neither a read nor a write of a register touches: TBS and the number of the activation.
use Rattle.std.proofs.Common.{◌≡◌, ℕ, refl}
use Rattle.std.specs.Prelude.{Option}
use Rattle.sja_regs.specs.declared.register.Register.{Register}
use Rattle.sja_regs.specs.declared.registers.Registers.{Registers}
use Rattle.sja_regs.specs.Reading.{after_reading_at}
use Rattle.sja_regs.specs.Writing.{after_writing_at}
use Rattle.sja_regs.proofs.Calls.KeepLemmas.{read_keeps, write_keeps}

-- these registers are the same
pub record LeavesRest (p q : Registers) : Type 0 where
  pub tbs : q.tbs ≡ p.tbs
  pub activation : q.activation ≡ p.activation

pub read_leaves : (x : Option Register) (p : Registers) → LeavesRest p (after_reading_at p x)
read_leaves x p = record {
  tbs = read_keeps (λ q. q.tbs) (λ q i a c. refl) x p;
  activation = read_keeps (λ q. q.activation) (λ q i a c. refl) x p;
}

pub write_leaves : (x : Option Register) (value : ℕ) (p : Registers) → LeavesRest p (after_writing_at p x value)
write_leaves x value p = record {
  tbs = write_keeps (λ q. q.tbs) (λ q s i. refl) x value p;
  activation = write_keeps (λ q. q.activation) (λ q s i. refl) x value p;
}
