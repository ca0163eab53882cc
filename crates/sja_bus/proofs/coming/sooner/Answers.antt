use Rattle.std.proofs.Common.{arith}
use Rattle.sja_bus.proofs.coming.sooner.Goals as goal

pub returns-in-Some-clause-quiet : goal.returns-in-Some-clause-quiet
returns-in-Some-clause-quiet c = λ bit node low high.
    let less = c.min.ensures in c.in-Some.ensures.some.2 bit node low (omega (arith, high, less))
