use Rattle.std.proofs.Common.{rules, arith}
use Rattle.sja_rings.proofs.left_on_link.left.Goals as goal

pub loop-init : goal.loop-init
loop-init g c = record {
  done = grind arith;
  count = search rules;
  left = search rules;
  took = search rules;
  size = search rules;
}
