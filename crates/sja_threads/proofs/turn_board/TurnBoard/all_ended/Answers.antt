use Rattle.std.proofs.Common.{rules, arith, below_more}
use Rattle.sja_threads.proofs.Twin.Boards.{ended_at}
use Rattle.sja_threads.proofs.turn_board.TurnBoard.all_ended.Goals as goal

pub loop-node-preserved : goal.loop-node-preserved
loop-node-preserved g c =
    below_more _ _ c.loop-node.invariant
    (ended_at c.args.self.now.told.items c.loop-node.node c.index.result.now (omega arith) c.index.ensures (search
    rules))

pub returns : goal.returns
returns g c = λ is nodes few node less. c.loop-node.invariant node (omega (arith, few, less))
