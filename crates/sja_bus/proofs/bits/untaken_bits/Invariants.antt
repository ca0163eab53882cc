use Rattle.std.proofs.Common.{◌≡◌, ℕ, ◌+◌, ◌-◌, ◌<◌, ◌≤◌, List}
use Rattle.std.specs.Prelude.{◌⊎◌}
use Rattle.sja_journal.specs.Written.{Room}
use Rattle.sja_steps.specs.Striking.{Strikes}
use Rattle.lemmas.specs.Related.{EachRelated}
use Rattle.sja_bus.specs.Several.{AreBits}
use Rattle.can_levels.specs.BusLevel.{wired}
use Rattle.sja_bus.specs.Inside.Refusing.{HaveRoom, AreFree}
use Rattle.sja_bus.specs.Inside.Rows.{AreBegun, AreTold, EachBusNode, IsBus, BusNodeHasBits, driven_by}
use Rattle.sja_bus.specs.UntilTold.{WorksUntold}
use Rattle.sja_bus.specs.Inside.RunningOn.{moment_of, AnyBit, SomeFull}
use Rattle.sja_bus.proofs.bits.untaken_bits.Given as goal

-- the bits so far, in none of which a port was told anything
abbrev pub invariant-loop-run : goal.invariant-loop-run
invariant-loop-run g l = record {
  level : l.level ≡ wired (driven_by l.bus_nodes);
  board : l.board ≡ l.initial.board;
  within : l.run ≤ l.calm;
  bus : IsBus l.fn.struck.script (l.from + l.run) l.bus_nodes;
  told : AreTold l.bus_nodes;
  sames : EachRelated g.E.BusEnd.same l.initial.links l.links;
  rooms : (n : ℕ → Room) → HaveRoom n l.initial.bus_nodes → HaveRoom n l.bus_nodes;
  fresh : l.run ≡ 0 → l.bus_nodes ≡ l.initial.bus_nodes;
  unstruck : (i node : ℕ) → i < l.run → node < 8 → Strikes l.fn.struck.script (l.from + i) node → ⊥;
  free : AreFree (l.calm - l.run) l.bus_nodes;
  used : (l.most ≡ l.fit) ⊎ SomeFull (l.fit - l.run) l.bus_nodes;
  more : EachBusNode BusNodeHasBits l.initial.bus_nodes l.bus_nodes;
  bits : (starts : ℕ) (steps : List ℕ) (left : ℕ) → AreBegun starts l.initial.bus_nodes → l.most ≤ left →
      AreBits (AnyBit g.E.BusEnd g.B.Board) (WorksUntold l.to_rest
      (moment_of l.fn.struck.script starts steps l.from left l.initial.bus_nodes l.initial.links l.initial.board))
      (moment_of l.fn.struck.script starts steps l.from left l.initial.bus_nodes l.initial.links l.initial.board) l.run
      (moment_of l.fn.struck.script starts steps (l.from + l.run) (left - l.run) l.bus_nodes l.links l.board);
}

abbrev pub decreases-loop-run : goal.decreases-loop-run
decreases-loop-run g l = l.calm - l.run
