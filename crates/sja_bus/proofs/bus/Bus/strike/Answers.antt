use Rattle.std.proofs.Common.{◌≤◌, ap, arith}
use Rattle.std.specs.Prelude.{vec_capacity}
use Rattle.sja_bus_rules.specs.Buses.{BusValue}
use Rattle.sja_bus.proofs.WholeBus.Striking.{whole_after}
use Rattle.sja_bus.proofs.bus.Bus.strike.Goals as goal

pub invariant_of-self : goal.invariant_of-self
invariant_of-self c =
    let b = c.self.inside in let run = ap (λ (w : BusValue). w.run) c.self.view_is in
    let early = c.requires.later in
    let later : b.run ≤ c.args.strike.bit = omega (arith, run, early) in (
      whole_after b.struck c.strike.new.self b.starts b.steps.items b.run b.left b.fault b.bus_nodes.items (vec_capacity
          b.logs)
          c.args.strike c.strike.result later c.strike.ensures.struck c.strike.ensures.bits c.strike.ensures.from
          c.strike.ensures.kept c.self.invariant.0,
      c.self.invariant.1,
    )
