use Rattle.std.proofs.Common.{inl, inr}
use Rattle.sja_bus.proofs.board_laws.a_port_kept_that_shows_the_turn_was_told_it.Goals as goal

pub returns : goal.returns
returns g c = λ old new node turn either shows. elim either [
  | inl told ↦ told
  | inr kept ↦ let met = g.met.B.Board in met.told_first old old new node turn (met.told_same old node turn shows) kept
]
