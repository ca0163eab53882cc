use Rattle.can_node.specs.Standing.{context_of}
use Rattle.can_node.proofs.Machine.Ats.{at_dominant_flag, at_passive_flag}
use Rattle.can_node.proofs.node.Node.after_flag_bit.Goals as goal

-- src/flag.rt
pub returns-in-Dominant : goal.returns-in-Dominant
returns-in-Dominant c = λ shift d bits driven h kept drives.
    at_dominant_flag c.args.bits c.args.last c.flag_level.result driven c.args.seen shift d
    (context_of c.args.self.now.context) bits c.after_dominant_flag_bit.result
    h kept drives c.in-Dominant.is c.flag_level.ensures c.after_dominant_flag_bit.ensures

pub returns-in-Recessive : goal.returns-in-Recessive
returns-in-Recessive c = λ shift d bits driven h kept drives.
    at_passive_flag c.args.bits c.args.last c.flag_level.result driven c.args.seen shift d
    (context_of c.args.self.now.context) bits c.after_passive_flag_bit.result
    h kept drives c.in-Recessive.is c.flag_level.ensures c.after_passive_flag_bit.ensures
