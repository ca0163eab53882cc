-- What `registers` prints and refuses (this project's own rule).
use Rattle.std.specs.Prelude.{◌≡◌, ◌<◌, ◌≤◌, ℕ, List, Option, Some, None}
use Rattle.sja_log.specs.declared.register_row.RegisterRow.{RegisterRow}
use Rattle.sja_plan.specs.Plan.{PlanValue}
use Rattle.sja_plan.specs.Shorter.{ended_after}
use Rattle.sja_serial.specs.Registers.{AreRegisters}
use Rattle.text_codec.specs.RegistersText.{registers_text}
use Rattle.text_codec.specs.declared.sweep_refusal.SweepRefusal.{SweepRefusal}
use Rattle.text_codec.specs.declared.sweep_refusal.SweepRefusal.TheVariants.{NoNode, TooMany, StrikeCount, Bit, TooLong}
use Rattle.text_codec.specs.declared.sweep_refusal.SweepRefusal.TheVariants.{NoBit}

-- the plan has this bit, counted from 0, where one is named
abbrev pub HasBit : Option ℕ → PlanValue → Type 0
HasBit None plan = Unit {0}
HasBit (Some bit) plan = bit < plan.bits

-- the plan whose run has no bit after that one
abbrev pub up_to : Option ℕ → PlanValue → PlanValue
up_to None plan = plan
up_to (Some bit) plan = ended_after plan bit

-- the text tells what the registers of each node read as at the end of a run of the plan
abbrev pub AreToldOf : PlanValue → List ℕ → Type 0
AreToldOf plan text = (rows : List RegisterRow) × AreRegisters plan rows × (text ≡ registers_text rows)

-- and after that bit
abbrev pub IsTold : Option ℕ → PlanValue → List ℕ → Type 0
IsTold bit plan text = HasBit bit plan × AreToldOf (up_to bit plan) text

-- so many bits are all that the plan has, and the one that is named isn't among them
abbrev pub LacksBit : Option ℕ → PlanValue → ℕ → Type 0
LacksBit None plan bits = ⊥
LacksBit (Some bit) plan bits = (bits ≡ plan.bits) × (plan.bits ≤ bit)

-- why there is no such text of the plan
abbrev pub RefusesRegisters : Option ℕ → PlanValue → SweepRefusal → Type 0
RefusesRegisters bit plan (NoBit bits) = LacksBit bit plan bits
RefusesRegisters bit plan NoNode = ⊥
RefusesRegisters bit plan (TooMany runs bits) = ⊥
RefusesRegisters bit plan StrikeCount = ⊥
RefusesRegisters bit plan Bit = ⊥
RefusesRegisters bit plan TooLong = ⊥
