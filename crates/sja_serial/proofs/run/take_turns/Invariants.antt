use Rattle.std.proofs.Common.{[], take}
use Rattle.sja_serial.proofs.WholeRun.Coming.{HasCome}
use Rattle.sja_serial.proofs.run.take_turns.Given as goal

abbrev pub invariant-loop-turn : goal.invariant-loop-turn
invariant-loop-turn l = HasCome l.plan (take l.turn-index l.plan.turns) [] l.run
