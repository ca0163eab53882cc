use Rattle.std.proofs.Common.{map, arith}
use Rattle.sja_plan_reading.specs.Document.{node_of}
use Rattle.sja_plan_reading.proofs.Spelling.Items.{one_found, none_or_memory}
use Rattle.sja_plan_reading.proofs.value.nodes.Goals as goal

pub loop-value-preserved : goal.loop-value-preserved
loop-value-preserved c = record {
  count = omega (arith, c.push_reserved.ensures.len, c.loop-value.invariant.count);
  room = omega (arith, c.push_reserved.ensures.capacity, c.loop-value.invariant.room);
  made = one_found node_of (λ steps. map (λ s. s.now) steps.items) c.args.values.now c.loop-value.value-index
      c.value-item.result c.loop-value.found.items c.push_reserved.new.self.items c.in-Ok-steps.texts _
      (omega (arith, c.loop-value-test.true)) c.value-item.is c.in-Ok-steps.ensures.ok c.push_reserved.ensures.items
      c.loop-value.invariant.made;
}

pub returns-in-Err-clause-err : goal.returns-in-Err-clause-err
returns-in-Err-clause-err c =
    none_or_memory node_of c.args.values.now c.loop-value.value-index c.value-item.result _ _ c.in-Err.fault
    (omega (arith, c.loop-value-test.true)) c.value-item.is c.in-Err.ensures.err c.loop-value.invariant.made
