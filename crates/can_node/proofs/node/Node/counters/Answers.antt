use Rattle.std.proofs.Common.{sym, subst}
use Rattle.can_node_rules.specs.Context.{ContextValue}
use Rattle.can_node_rules.specs.Cut.{IsOnBus}
use Rattle.can_node_rules.proofs.OneCut.GoOn.{stays_end}
use Rattle.can_node.proofs.node.Node.counters.Goals as goal

-- src/node.rt
pub returns-clause-below : goal.returns-clause-below
returns-clause-below c = λ entries found h. subst (λ (d : ContextValue). IsOnBus d) (sym h.shows) (stays_end h.cut.from)
