use Rattle.std.proofs.Common.{◌≡◌, refl, ◌∙◌, arith}
use Rattle.sja_threads.specs.Inside.Boards.{SaysSpent, turns_in}
use Rattle.sja_threads.proofs.Twin.Boards.{first_none, first_more, each_first}
use Rattle.sja_threads.proofs.turn_board.TurnBoard.close_all.Goals as goal

pub loop-node-init : goal.loop-node-init
loop-node-init g c = record { many = refl; first = first_none SaysSpent (turns_in c.args.self.now.told.items) }

pub loop-node-preserved : goal.loop-node-preserved
loop-node-preserved g c =
    let inv = c.loop-node.invariant in
    let e = c.close_at.ensures in record {
      many = e.many ∙ inv.many;
      first = first_more SaysSpent c.loop-node.node (turns_in c.args.self.now.told.items)
          (turns_in c.loop-node.self.told.items) (turns_in c.close_at.new.self.told.items) inv.first e.told e.others;
    }

pub returns-clause-told : goal.returns-clause-told
returns-clause-told g c =
    each_first SaysSpent c.loop-node.node c.args.self.now.told.items (turns_in c.loop-node.self.told.items)
    c.loop-node.invariant.first (omega arith)
