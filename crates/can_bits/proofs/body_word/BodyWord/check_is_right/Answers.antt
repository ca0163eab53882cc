use Rattle.std.proofs.Common.{Bool, subst, arith}
use Rattle.can_bits.specs.Inside.Gathering.{SaysWhetherRight}
use Rattle.can_bits.proofs.Packing.Registers.{register_says}
use Rattle.can_bits.proofs.body_word.BodyWord.check_is_right.Goals as goal

pub returns : goal.returns
returns c w b check g whole count =
    subst (λ (r : Bool). SaysWhetherRight r b check) (grind arith)
    (register_says w b check c.args.self.now.register g.fits g.divides whole count)
