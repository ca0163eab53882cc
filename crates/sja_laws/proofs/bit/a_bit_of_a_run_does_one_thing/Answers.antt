use Rattle.sja_laws.proofs.AllNodes.OneRun.{AreAlike, alike_after}
use Rattle.sja_laws.proofs.bit.a_bit_of_a_run_does_one_thing.Goals as goal

pub returns : goal.returns
returns c = λ setup acts others r s n m journals ports bits a b.
    let before : AreAlike r s = record { journals = journals; ports = ports; bits = bits } in
    let after = alike_after before a b in
    (after.journals, after.ports, after.bits)
