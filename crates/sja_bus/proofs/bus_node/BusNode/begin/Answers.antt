use Rattle.std.proofs.Common.{arith, refl, subst}
use Rattle.sja_journal.specs.declared.up.Up.TheVariants.{Start}
use Rattle.sja_link.specs.BusLedgers.{free_in}
use Rattle.sja_bus.specs.declared.activity.Activity.{Activity}
use Rattle.sja_bus.specs.declared.activity.Activity.TheVariants.{Running}
use Rattle.sja_bus.specs.Inside.Following.{Reads}
use Rattle.sja_bus.proofs.Journal.Steps.{follows_start}
use Rattle.sja_bus.proofs.Journal.Reading.{reads_start}
use Rattle.sja_bus.specs.declared.bus_node.BusNode.{BusNode}
use Rattle.sja_bus.proofs.ItemsTaken.Takings.{bus_node_entered, takes_entered, may_come, refused_full}
use Rattle.sja_bus.proofs.bus_node.BusNode.begin.Goals as goal

pub returns-clause-takes : goal.returns-clause-takes
returns-clause-takes c =
    let was = c.args.self.now in let j = was.journal.entries in let owed = c.requires.owed in
    let bus_node = c.requires.bus_node in
    let P : Activity → Type 0 = λ a. Reads was.node j was.ended a owed.free in
    let reads = subst P c.in-Between.is owed.reads in
    let enters = rw c.copy.ensures at c.start.ensures in
    let new = c.enter.new.self in
    let begun = reads.begun in
    takes_entered c.enter.result was new (Start c.args.config)
    (λ opened. let stopped = reads.stopped in omega (arith, begun, stopped, opened)) c.enter.ensures.sound
    (λ f. f (follows_start was.node c.start.new.self j c.args.config enters owed.follows)
    (reads_start was.node c.start.new.self j c.args.config was.ended owed.free (free_in was.ledger) owed.pays reads))
    (λ fits. bus_node_entered (record was { node = c.start.new.self; activity = Running c.args.config.filter })
    new c.enter.ensures.others c.enter.ensures.room (record {
      own = bus_node.own;
      few = bus_node.few;
      most =
          bus_node.most;
    }))
    (omega (arith, begun))
    c.enter.ensures.ok

pub returns-clause-refused : goal.returns-clause-refused
returns-clause-refused c =
    let was = c.args.self.now in let owed = c.requires.owed in
    let P : Activity → Type 0 = λ a. Reads was.node was.journal.entries was.ended a owed.free in
    let reads = subst P c.in-Between.is owed.reads in let begun = reads.begun in let stopped = reads.stopped in
    let mid : BusNode = record was { node = c.start.new.self; activity = Running c.args.config.filter } in
    refused_full c.enter.result was mid c.enter.new.self (Start c.args.config) refl refl
    (may_come was.journal.entries (Start c.args.config)
    (λ opened. omega (arith, begun, stopped, opened)) (λ bytes is. cc))
    c.enter.ensures.full
