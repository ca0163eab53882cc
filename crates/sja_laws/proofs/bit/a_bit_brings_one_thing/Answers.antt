use Rattle.sja_laws.proofs.OneNode.OneBit.{bit_once, driven_alike}
use Rattle.sja_laws.proofs.bit.a_bit_brings_one_thing.Goals as goal

pub returns : goal.returns
returns c = λ j k l p q r b d whole other lawful too on off seen.
    let one = bit_once j k l p q r b d whole other lawful too on off seen in
    (driven_alike j k l p q r b d whole other lawful too on off, one.entries, one.port)
