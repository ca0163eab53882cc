use Rattle.std.proofs.Common.{refl}
use Rattle.sja_thread_promises.specs.declared.port_update.PortUpdate.TheVariants.{Spent}
use Rattle.sja_threads.proofs.Twin.Boards.{told_here, told_there}
use Rattle.sja_threads.proofs.turn_board.TurnBoard.close_at.Goals as goal

pub returns-clause-told : goal.returns-clause-told
returns-clause-told g c = (
  Spent,
  refl,
  told_here c.args.self.now.told.items c.args.node c.close.new.told Spent c.index_mut-told.result.now
      c.requires c.index_mut-told.ensures.value c.close.ensures.told,
)

pub returns-clause-others : goal.returns-clause-others
returns-clause-others g c = λ k other.
    told_there c.args.self.now.told.items c.args.node c.close.new.told k other
