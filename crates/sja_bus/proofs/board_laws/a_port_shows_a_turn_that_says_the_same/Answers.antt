use Rattle.std.specs.Prelude.{slice_index_or}
use Rattle.sja_regs.proofs.BusTurns.SaysTheSame.{says_same}
use Rattle.sja_bus.proofs.board_laws.a_port_shows_a_turn_that_says_the_same.Goals as goal

pub returns : goal.returns
returns c = λ ports node turn says d. says_same (slice_index_or ports node d) turn (says d)
