use Rattle.std.proofs.Common.{refl, suc}
use Rattle.sja_journal.specs.Parts.{part}
use Rattle.sja_link.specs.BusLedgers.{free_in}
use Rattle.sja_journal.specs.declared.up.Up.TheVariants.{Credit}
use Rattle.sja_journal.specs.declared.entry.Entry.TheVariants.{Up as Item}
use Rattle.sja_bus.proofs.Journal.Steps.{follows_credit}
use Rattle.sja_bus.proofs.Journal.Reading.{reads_here, here_in, reads_running}
use Rattle.sja_link.specs.Orderly.{IsOrderly}
use Rattle.sja_link.proofs.Growing.Ordered.{paid_now}
use Rattle.sja_bus.proofs.ItemsTaken.Takings.{bus_node_entered, takes_entered, credit_open, credit_good, refused_full}
use Rattle.sja_bus.proofs.bus_node.BusNode.credited.Goals as goal

pub returns-clause-takes : goal.returns-clause-takes
returns-clause-takes c =
    let was = c.args.self.now in let j = was.journal.entries in let owed = c.requires.owed in
    let new = c.enter.new.self in
    let runs = credit_open was.activity was.node j was.ended owed.free (free_in was.ledger) c.args.bytes was.ledger.fits
    c.requires.some.0 owed.pays owed.reads in
    let p = part j (suc was.ended) in
    let due : IsOrderly p (Item (Credit c.args.bytes)) = (
      reads_running was.activity was.node j was.ended owed.free runs owed.reads,
      c.requires.some.0,
      c.requires.some.1,
      paid_now p c.args.bytes (free_in was.ledger) was.ledger.fits
          (owed.pays p owed.reads.free_is),
    ) in
    takes_entered c.enter.result was new (Credit c.args.bytes) (λ never. never) c.enter.ensures.sound
    (λ f. f (follows_credit was.node j c.args.bytes owed.follows)
    (reads_here was.node was.node j (Item (Credit c.args.bytes)) was.ended was.activity owed.free (free_in was.ledger)
    (λ p. refl) refl runs (λ r. r) owed.pays due owed.reads))
    (λ fits. bus_node_entered was new c.enter.ensures.others c.enter.ensures.room c.requires.bus_node)
    (here_in was.activity was.node j was.ended owed.free (Item (Credit c.args.bytes)) (λ p. refl) runs owed.reads)
    c.enter.ensures.ok

pub returns-clause-refused : goal.returns-clause-refused
returns-clause-refused c =
    let was = c.args.self.now in let owed = c.requires.owed in let some = c.requires.some in
    refused_full c.enter.result was was c.enter.new.self (Credit c.args.bytes) refl refl
    (credit_good was.activity was.node was.journal.entries was.ended owed.free (free_in was.ledger) c.args.bytes
    was.ledger.fits some.0 some.1 owed.pays owed.reads)
    c.enter.ensures.full
