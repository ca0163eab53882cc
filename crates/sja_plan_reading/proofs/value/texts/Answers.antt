use Rattle.std.proofs.Common.{inr, refl, sym, arith}
use Rattle.toml.specs.Data.{as_str}
use Rattle.sja_plan_reading.proofs.Spelling.Items.{one_found, none_found}
use Rattle.sja_plan_reading.proofs.value.texts.Goals as goal

pub loop-value-preserved : goal.loop-value-preserved
loop-value-preserved c = record {
  count = omega (arith, c.push_reserved.ensures.len, c.loop-value.invariant.count);
  room = omega (arith, c.push_reserved.ensures.capacity, c.loop-value.invariant.room);
  made = one_found as_str (λ s. s.now) c.args.values.now c.loop-value.value-index
      c.value-item.result c.loop-value.found.items c.push_reserved.new.self.items c.in-Some.text _
      (omega (arith, c.loop-value-test.true)) c.value-item.is (sym c.in-Some.ensures) c.push_reserved.ensures.items
      c.loop-value.invariant.made;
}

pub returns-in-None-clause-err : goal.returns-in-None-clause-err
returns-in-None-clause-err c = inr (
  refl,
  none_found as_str c.args.values.now c.loop-value.value-index c.value-item.result _ _
      (omega (arith, c.loop-value-test.true)) c.value-item.is (sym c.in-None.ensures) c.loop-value.invariant.made,
)
