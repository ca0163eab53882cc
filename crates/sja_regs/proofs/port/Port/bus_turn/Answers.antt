use Rattle.std.proofs.Common.{ap, ◌∙◌}
use Rattle.sja_regs.specs.Inside.TurnParts.{with_counters}
use Rattle.sja_regs.proofs.BusTurns.TurnLemmas.{nothing_said}
use Rattle.sja_regs.proofs.port.Port.bus_turn.Goals as goal

pub returns-else-brings_news-clause-same : goal.returns-else-brings_news-clause-same
returns-else-brings_news-clause-same c = λ h.
    c.count.ensures ∙ ap (λ r. with_counters r c.args.turn.now) c.follow.ensures
    ∙ nothing_said c.args.self.now c.args.turn.now h
