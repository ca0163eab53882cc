use Rattle.std.proofs.Common.{◌≤◌, ◌-◌}
use Rattle.sja_bus.specs.Moment.{moment}
use Rattle.sja_bus.specs.Several.{WorksIf}
use Rattle.sja_bus.specs.Inside.RunningOn.{AnyBit, IsSoFar}
use Rattle.sja_bus.proofs.bus.Bus.run_untaken_bits.Given as goal

abbrev pub invariant-loop-run : goal.invariant-loop-run
invariant-loop-run g l = record {
  few : l.run ≤ l.further;
  far : IsSoFar g.E.BusEnd g.B.Board (AnyBit g.E.BusEnd g.B.Board) (WorksIf l.to_rest)
      (moment l.initial.self l.initial.links l.initial.board) l.run (moment l.self l.links l.board);
}

abbrev pub decreases-loop-run : goal.decreases-loop-run
decreases-loop-run g l = l.further - l.run
