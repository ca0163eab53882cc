use Rattle.sja_threads.proofs.Twin.Boards.{bits_here, told_there}
use Rattle.sja_threads.proofs.turn_board.TurnBoard.tell_bits_at.Goals as goal

pub returns-clause-told : goal.returns-clause-told
returns-clause-told g c =
    bits_here c.args.self.now.told.items c.args.node c.tell_bits.new.told c.args.bits _ c.index_mut-told.result.now
    c.requires c.index_mut-told.ensures.value c.tell_bits.ensures.told

pub returns-clause-others : goal.returns-clause-others
returns-clause-others g c = λ k other.
    told_there c.args.self.now.told.items c.args.node c.tell_bits.new.told k other
