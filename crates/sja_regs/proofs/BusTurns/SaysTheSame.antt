-- A turn that says what a port shows already leaves the port as it is.
use Rattle.std.proofs.Common.{◌≡◌, sym, ◌∙◌}
use Rattle.sja_regs.specs.declared.bus_turn.BusTurn.{BusTurn}
use Rattle.sja_regs.specs.declared.registers.Registers.{Registers}
use Rattle.sja_regs.specs.Turns.{after_turn}
use Rattle.sja_regs.specs.Preservation.{SaysTheSame}
use Rattle.sja_regs.proofs.BusTurns.TurnLemmas.{nothing_else, nothing_said}

pub says_same : (p : Registers) (turn : BusTurn) → SaysTheSame p turn → after_turn p turn ≡ p
says_same p turn h = sym (nothing_else p turn h.news) ∙ nothing_said p turn h
