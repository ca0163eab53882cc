use Rattle.std.proofs.Common.{arith}
use Rattle.can_bits.proofs.body_word.BodyWord.data_count.Goals as goal

pub returns-else-rtr-clause-most : goal.returns-else-rtr-clause-most
returns-else-rtr-clause-most c = omega arith
