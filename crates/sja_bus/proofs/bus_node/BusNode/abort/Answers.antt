use Rattle.std.proofs.Common.{refl}
use Rattle.std.proofs.lemmas.Result.{on_ok_weaker}
use Rattle.can_node_rules.specs.declared.abort_outcome.AbortOutcome.{AbortOutcome}
use Rattle.can_node_rules.specs.declared.abort_outcome.AbortOutcome.TheVariants.{Unchanged, Marked, Dropped}
use Rattle.can_node.specs.Stands.{Aborts}
use Rattle.sja_link.specs.BusLedgers.{free_in}
use Rattle.sja_journal.specs.Aborting.{changes, IsApplied}
use Rattle.sja_bus.proofs.AtPorts.Applying.{applied_running, applied_resting, applies_none, applies_one}
use Rattle.sja_bus.proofs.Journal.Steps.{follows_abort}
use Rattle.sja_bus.specs.declared.pending_event.PendingEvent.TheVariants.{Changed, Dropped as DroppedUntold}
use Rattle.sja_bus.proofs.AtPorts.Aborting.{marked_leaves, dropped_leaves}
use Rattle.sja_bus.proofs.AtPorts.TurnsTold.{aborts_none, aborts_one}
use Rattle.sja_bus.proofs.Journal.Reading.{reads_abort}
use Rattle.lemmas.proofs.Results.{err_on}
use Rattle.sja_bus.proofs.bus_node.BusNode.abort.Goals.{After-abort}
use Rattle.sja_bus.proofs.bus_node.BusNode.abort.Goals as goal

-- an abort that the node answered so changed it, or didn't
applied : (c : After-abort) (answer : AbortOutcome) → Aborts c.args.self.now.node c.abort.new.self answer →
    IsApplied c.args.self.now.journal.entries (changes answer)
applied c answer aborts =
    let was = c.args.self.now in
    applied_running was.node c.abort.new.self was.journal.entries was.ended (free_in was.ledger) was.activity
    c.in-Running.field-0 answer aborts c.requires.ready.sound.follows c.in-Running.is c.requires.ready.sound.reads

pub enter_abort-requires-clause-follows : goal.enter_abort-requires-clause-follows
enter_abort-requires-clause-follows c =
    let was = c.args.self.now in
    follows_abort was.node c.abort.new.self was.journal.entries Marked (λ e. cc) c.in-Marked.ensures
    c.requires.ready.sound.follows

pub enter_abort-requires-clause-reads : goal.enter_abort-requires-clause-reads
enter_abort-requires-clause-reads c =
    let was = c.args.self.now in
    reads_abort was.node c.abort.new.self was.journal.entries was.ended was.activity c.in-Running.field-0
    (free_in was.ledger) c.in-Running.is c.requires.ready.sound.reads

pub enter_abort-requires-in-Dropped-clause-follows : goal.enter_abort-requires-in-Dropped-clause-follows
enter_abort-requires-in-Dropped-clause-follows c =
    let was = c.args.self.now in
    follows_abort was.node c.abort.new.self was.journal.entries Dropped (λ e. cc) c.in-Dropped.ensures
    c.requires.ready.sound.follows

pub enter_abort-requires-in-Dropped-clause-reads : goal.enter_abort-requires-in-Dropped-clause-reads
enter_abort-requires-in-Dropped-clause-reads c =
    let was = c.args.self.now in
    reads_abort was.node c.abort.new.self was.journal.entries was.ended was.activity c.in-Running.field-0
    (free_in was.ledger) c.in-Running.is c.requires.ready.sound.reads

pub returns-in-Marked-clause-aborts : goal.returns-in-Marked-clause-aborts
returns-in-Marked-clause-aborts c =
    let is = applied (goal.at.returns-in-Marked-clause-aborts c).After-abort Marked c.in-Marked.ensures in
    let j = c.args.self.now.journal.entries in
    on_ok_weaker c.enter_abort.result (λ e. applies_one j c.enter_abort.new.self.journal.entries e is)
    c.enter_abort.ensures.entered

pub returns-in-Dropped-clause-aborts : goal.returns-in-Dropped-clause-aborts
returns-in-Dropped-clause-aborts c =
    let is = applied (goal.at.returns-in-Dropped-clause-aborts c).After-abort Dropped c.in-Dropped.ensures in
    let j = c.args.self.now.journal.entries in
    on_ok_weaker c.enter_abort-in-Dropped.result
    (λ e. applies_one j c.enter_abort-in-Dropped.new.self.journal.entries e is)
    c.enter_abort-in-Dropped.ensures.entered

pub returns-in-Unchanged-clause-aborts : goal.returns-in-Unchanged-clause-aborts
returns-in-Unchanged-clause-aborts c = applies_none c.args.self.now.journal.entries
    (applied (goal.at.returns-in-Unchanged-clause-aborts c).After-abort Unchanged c.in-Unchanged.ensures)

pub returns-in_default-clause-aborts : goal.returns-in_default-clause-aborts
returns-in_default-clause-aborts c =
    let was = c.args.self.now in let j = was.journal.entries in
    applies_none j (applied_resting was.node j was.ended (free_in was.ledger) was.activity c.in_default.not-Running
    c.requires.ready.sound.reads)

pub returns-in_default-clause-untold : goal.returns-in_default-clause-untold
returns-in_default-clause-untold c = aborts_none c.args.self.now c.args.self.now refl refl

pub returns-in-Unchanged-clause-untold : goal.returns-in-Unchanged-clause-untold
returns-in-Unchanged-clause-untold c = aborts_none c.args.self.now
    (record c.args.self.now { node = c.abort.new.self }) refl refl

pub returns-in-Marked-clause-untold : goal.returns-in-Marked-clause-untold
returns-in-Marked-clause-untold c =
    let was = c.args.self.now in let drops = marked_leaves was.node c.abort.new.self was.journal.entries
    c.in-Marked.ensures c.requires.ready.sound.follows in
    on_ok_weaker c.enter_abort.result (λ e. aborts_one was c.enter_abort.new.self Changed c.enter_abort.ensures.untold
    (λ n. cc) e drops) c.enter_abort.ensures.entered

pub returns-in-Dropped-clause-untold : goal.returns-in-Dropped-clause-untold
returns-in-Dropped-clause-untold c =
    let was = c.args.self.now in let drops = dropped_leaves was.node c.abort.new.self was.journal.entries
    c.in-Dropped.ensures c.requires.ready.sound.follows in
    on_ok_weaker c.enter_abort-in-Dropped.result (λ e. aborts_one was c.enter_abort-in-Dropped.new.self DroppedUntold
    c.enter_abort-in-Dropped.ensures.untold (λ n. cc) e drops) c.enter_abort-in-Dropped.ensures.entered

pub returns-in-Marked-clause-due : goal.returns-in-Marked-clause-due
returns-in-Marked-clause-due c =
    let at = (goal.at.returns-in-Marked-clause-due c).After-abort in
    err_on c.enter_abort.result (applied at Marked c.in-Marked.ensures)

pub returns-in-Dropped-clause-due : goal.returns-in-Dropped-clause-due
returns-in-Dropped-clause-due c =
    let at = (goal.at.returns-in-Dropped-clause-due c).After-abort in
    err_on c.enter_abort-in-Dropped.result (applied at Dropped c.in-Dropped.ensures)
