use Rattle.std.proofs.Common.{◌∙◌, arith}
use Rattle.sja_journal.proofs.HistoryLists.{more_copies}
use Rattle.sja_journal.proofs.bounded_history.BoundedHistory.push_many.Goals as goal

pub loop-left-preserved : goal.loop-left-preserved
loop-left-preserved g c =
    let l = c.loop-left in let most = c.push_some-left.ensures.most in let few = l.invariant.few in record {
      few = omega (arith, few);
      items = more_copies c.args.item _ _ _ c.args.count l.left c.push_some-left.result few most l.invariant.items
          c.push_some-left.ensures.items;
      room = c.push_some-left.ensures.room ∙ l.invariant.room;
    }
