use Rattle.std.proofs.Common.{[], ◌∷◌, ◌++◌, refl, sym, subst}
use Rattle.sja_link.specs.BusLedgers.{free_in}
use Rattle.sja_journal.specs.declared.up.Up.TheVariants.{Send}
use Rattle.sja_journal.specs.declared.entry.Entry.TheVariants.{Up as Item}
use Rattle.sja_bus.specs.declared.activity.Activity.{Activity}
use Rattle.sja_bus.specs.declared.activity.Activity.TheVariants.{Running, Off, OffAndAsked}
use Rattle.sja_bus.specs.Inside.Following.{Reads}
use Rattle.sja_bus.proofs.Journal.Steps.{follows_send, follows_drop}
use Rattle.sja_bus.proofs.Journal.Reading.{reads_ask, reads_drop, here_in}
use Rattle.sja_bus.specs.declared.bus_node.BusNode.{BusNode}
use Rattle.sja_bus.proofs.ItemsTaken.Takings.{bus_node_entered, takes_entered, held_wrongly, taken_right, dropped_right}
use Rattle.sja_bus.proofs.ItemsTaken.Takings.{may_come, refused_full}
use Rattle.sja_bus.proofs.bus_node.BusNode.ask.Goals as goal

pub returns-in-Ok-clause-takes : goal.returns-in-Ok-clause-takes
returns-in-Ok-clause-takes c =
    let was = c.args.self.now in let j = was.journal.entries in let owed = c.requires.owed in
    let bus_node = c.requires.bus_node in
    let new = c.enter.new.self in let filter = c.in-Running.field-0 in
    let P : Activity → Type 0 = λ a. Reads was.node j was.ended a owed.free in
    let reads = subst P c.in-Running.is owed.reads in
    let Q : Activity → Type 0 = λ a. Reads c.request.new.self (j ++ Item (Send c.args.request) ∷ []) was.ended a
    (free_in was.ledger) in
    let took = rw c.copy.ensures at c.in-Ok.ensures in
    takes_entered c.enter.result was new (Send c.args.request)
    (taken_right was.node c.request.new.self j was.ended owed.free filter c.args.request owed.follows took
    reads) c.enter.ensures.sound
    (λ f. f (follows_send was.node c.request.new.self j c.args.request reads.active.0 took owed.follows)
    (subst Q (sym c.in-Running.is) (reads_ask was.node c.request.new.self j c.args.request was.ended filter owed.free
    (free_in was.ledger) owed.pays reads)))
    (λ fits. bus_node_entered (record was { node = c.request.new.self }) new c.enter.ensures.others c.enter.ensures.room
    (record { own = bus_node.own; few = bus_node.few; most = bus_node.most }))
    (here_in (Running filter) was.node j was.ended owed.free (Item (Send c.args.request)) (λ p. refl) refl reads)
    c.enter.ensures.ok

pub returns-in-Off-clause-takes : goal.returns-in-Off-clause-takes
returns-in-Off-clause-takes c =
    let was = c.args.self.now in let j = was.journal.entries in let owed = c.requires.owed in
    let bus_node = c.requires.bus_node in
    let new = c.enter-in-Off.new.self in
    let P : Activity → Type 0 = λ a. Reads was.node j was.ended a owed.free in
    let reads = subst P c.in-Off.is owed.reads in
    takes_entered c.enter-in-Off.result was new (Send c.args.request)
    (dropped_right was.node j was.ended owed.free reads) c.enter-in-Off.ensures.sound
    (λ f. f (follows_drop was.node j c.args.request reads.active.0 owed.follows)
    (reads_drop was.node j c.args.request was.ended owed.free (free_in was.ledger) owed.pays reads))
    (λ fits. bus_node_entered (record was { activity = OffAndAsked }) new c.enter-in-Off.ensures.others
    c.enter-in-Off.ensures.room (record { own = bus_node.own; few = bus_node.few; most = bus_node.most }))
    (here_in Off was.node j was.ended owed.free (Item (Send c.args.request)) (λ p. refl) refl reads)
    c.enter-in-Off.ensures.ok

pub returns-in-Err-clause-refused : goal.returns-in-Err-clause-refused
returns-in-Err-clause-refused c =
    let was = c.args.self.now in let j = was.journal.entries in let owed = c.requires.owed in
    let P : Activity → Type 0 = λ a. Reads was.node j was.ended a owed.free in
    let reads = subst P c.in-Running.is owed.reads in (
      refl,
      (
        c.number.ensures,
        held_wrongly was.node c.request.new.self j was.ended owed.free c.in-Running.field-0
            c.copy.result c.in-Err.field-0 owed.follows c.in-Err.ensures reads,
      ),
    )

pub returns-in-Ok-clause-refused : goal.returns-in-Ok-clause-refused
returns-in-Ok-clause-refused c =
    let was = c.args.self.now in let j = was.journal.entries in let owed = c.requires.owed in
    let P : Activity → Type 0 = λ a. Reads was.node j was.ended a owed.free in
    let reads = subst P c.in-Running.is owed.reads in
    let took = rw c.copy.ensures at c.in-Ok.ensures in
    let due = taken_right was.node c.request.new.self j was.ended owed.free c.in-Running.field-0
    c.args.request owed.follows
    took reads in
    let mid : BusNode = record was { node = c.request.new.self } in
    refused_full c.enter.result was mid c.enter.new.self (Send c.args.request) refl refl
    (may_come j (Send c.args.request) due (λ bytes is. cc)) c.enter.ensures.full

pub returns-in-Off-clause-refused : goal.returns-in-Off-clause-refused
returns-in-Off-clause-refused c =
    let was = c.args.self.now in let j = was.journal.entries in let owed = c.requires.owed in
    let P : Activity → Type 0 = λ a. Reads was.node j was.ended a owed.free in
    let reads = subst P c.in-Off.is owed.reads in
    let mid : BusNode = record was { activity = OffAndAsked } in
    refused_full c.enter-in-Off.result was mid c.enter-in-Off.new.self (Send c.args.request) refl refl
    (may_come j (Send c.args.request) (dropped_right was.node j was.ended owed.free reads) (λ bytes is. cc))
    c.enter-in-Off.ensures.full
