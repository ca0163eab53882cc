use Rattle.std.proofs.Common.{◌≡◌, rules, sym, ap, ◌∙◌}
use Rattle.sja_journal.specs.Lists.{Keeps}
use Rattle.sja_journal.specs.Accounts.{with_entry}
use Rattle.sja_journal.specs.Verdicts.{entry_of}
use Rattle.sja_link.specs.BusLedgers.{link_of, activation_of}
use Rattle.sja_bus.proofs.ItemsTaken.Retrying.{tried_none, tried_again, carried_after, others_after}
use Rattle.sja_bus.proofs.verdict.accept.Goals as goal

pub loop-init : goal.loop-init
loop-init g c = tried_none g.E.BusEnd g.met.E.BusEnd.same_refl c.args.ledger.now c.args.end.now

pub accept-requires : goal.accept-requires
accept-requires g c =
    let inv = c.loop.invariant in
    g.met.E.BusEnd.same_node c.args.end.now c.loop.end inv.same_end ∙ c.requires
    ∙ ap (λ l. (link_of l).node) (sym inv.ledger)

pub loop-preserved : goal.loop-preserved
loop-preserved g c =
    let E = g.E.BusEnd in
    let ledger : c.accept.new.self ≡ c.loop.ledger = search rules in
    let full : E.full c.loop.end (activation_of c.loop.ledger) = search rules in
    let keeps : Keeps E.stands (activation_of c.loop.ledger) c.loop.end c.accept.new.end = search rules in
    tried_again E c.loop.counter c.args.ledger.now c.loop.ledger c.args.end.now c.loop.end c.accept.new.end
    c.loop.invariant g.met.E.BusEnd.same_trans c.accept.new.self ledger c.accept.ensures.same full
    c.accept.ensures.others keeps

pub returns-in-Ok-clause-others : goal.returns-in-Ok-clause-others
returns-in-Ok-clause-others g c =
    others_after g.E.BusEnd c.loop.counter c.args.ledger.now c.loop.ledger c.args.end.now c.loop.end c.accept.new.end
    c.loop.invariant c.accept.ensures.others

pub returns-in-Ok-clause-puts : goal.returns-in-Ok-clause-puts
returns-in-Ok-clause-puts g c =
    carried_after g.E.BusEnd c.loop.counter c.args.ledger.now c.loop.ledger c.args.end.now c.loop.end
    c.accept.new.end c.loop.invariant (λ l. with_entry l (entry_of c.in-Ok.verdict c.args.message.now))
    (rw c.copy.ensures at c.in-Ok.ensures.puts)

pub returns-clause-others : goal.returns-clause-others
returns-clause-others g c = λ a ne. c.loop.invariant.stands a
