use Rattle.std.proofs.Common.{◌<◌, rules, w8}
use Rattle.std.specs.Int.{trailing_zeros}
use Rattle.std.proofs.lemmas.Nat.Bits.{bit_at-trailing_zeros}
use Rattle.sja_bus.proofs.struck_nodes.StruckNodes.is_empty.Goals as goal

pub returns-clause-some : goal.returns-clause-some
returns-clause-some c = λ no.
    let mask = c.args.self.now.mask in
    let positive : 0 < mask = search rules in
    let lowest = bit_at-trailing_zeros w8 mask positive (search rules) in
    (trailing_zeros w8 mask, lowest.0, lowest.1)
