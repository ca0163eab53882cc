use Rattle.std.proofs.Common.{◌≡◌, ℕ, ◌<◌, false}
use Rattle.sja_regs.specs.declared.orders.Orders.{Orders}
use Rattle.sja_bus.proofs.bits.may_run_untaken.Given as goal

-- those so far want none
abbrev pub invariant-loop-k : goal.invariant-loop-k
invariant-loop-k g l = record {
  orders : (m : ℕ) → m < l.k → (o : Orders) × g.B.Board.orders_are l.board m o × (o.abort ≡ false);
  facts : (m : ℕ) → m < l.k → g.B.Board.facts l.board m;
}
