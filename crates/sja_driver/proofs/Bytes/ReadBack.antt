-- What a step that reads a register answered.
use Rattle.std.proofs.Common.{◌≡◌, ℕ, Option, Some, None, refl}
use Rattle.std.specs.Prelude.{unwrap_or}
use Rattle.sja_regs.specs.Reading.{or_no_register}
use Rattle.sja_driver.specs.Answers.{value_answer}
use Rattle.sja_driver.specs.Answered.{value_or}

pub value_is : (v : Option ℕ) (other : ℕ) → value_or (value_answer (or_no_register v)) other ≡ unwrap_or v other
value_is None other = refl
value_is (Some n) other = refl
