use Rattle.std.proofs.Common.{◌≡◌, ℕ, suc, ◌+◌, [], ◌∷◌, ◌++◌, refl, arith, ap, ◌∙◌, subst, rules}
use Rattle.sja_journal.specs.declared.up.Up.TheVariants.{Stop}
use Rattle.sja_journal.specs.declared.entry.Entry.TheVariants.{Up as Item}
use Rattle.sja_link.specs.declared.link_id.LinkId.{LinkId}
use Rattle.sja_link.specs.BusLedgers.{link_of}
use Rattle.sja_bus.specs.declared.activity.Activity.TheVariants.{Between}
use Rattle.sja_bus.specs.Inside.Following.{Reads, open_in}
use Rattle.sja_bus.proofs.Links.BusNodeParts.{open_else}
use Rattle.sja_bus.proofs.Journal.Steps.{follows_stop}
use Rattle.sja_bus.proofs.Journal.Reading.{reads_stop, here_in}
use Rattle.sja_bus.specs.declared.bus_node.BusNode.{BusNode}
use Rattle.sja_bus.proofs.ItemsTaken.Takings.{bus_node_entered, stop_fits, takes_entered, may_come}
use Rattle.sja_bus.proofs.ItemsTaken.Takings.{refused_full}
use Rattle.sja_bus.proofs.bus_node.BusNode.end.Goals as goal

-- `none` proves nothing here: by it a wrong body is refused with values
pub returns-clause-takes : goal.returns-clause-takes
returns-clause-takes c =
    let was = c.args.self.now in let j = was.journal.entries in let owed = c.requires.owed in
    let new = c.enter.new.self in let ledger = c.new-self.result in
    let ended = ap (λ (s : BusNode). open_in s.activity) c.enter.ensures.others in
    let none : open_in new.activity ≡ 0 = omega (arith, ended) in
    let runs = open_else was.activity c.in_default.not-Between in
    let s = reads_stop was.node c.stop.new.self j was.ended was.activity owed.free runs
    c.stop.ensures.reset owed.reads in
    let e : suc was.ended ≡ was.ended + 1 = omega arith in
    let P : ℕ → Type 0 = λ n. Reads c.stop.new.self (j ++ Item Stop ∷ []) n Between 64 in
    takes_entered c.enter.result was new Stop (λ between. let b = owed.reads.begun in let t = owed.reads.stopped in
    omega (arith, b, t, runs, between)) c.enter.ensures.sound
    (λ f. f (follows_stop was.node c.stop.new.self j c.stop.ensures.enters owed.follows)
    (rw (c.new-self.ensures.free) (subst P e s)))
    (λ fits. bus_node_entered (record was {
      node = c.stop.new.self;
      activity = Between;
      ended = was.ended + 1;
      ledger = ledger;
    })
    new c.enter.ensures.others c.enter.ensures.room
    (record {
      own = ap (λ (l : LinkId). l.activation) c.new-self.ensures.id ∙ omega arith;
      few = stop_fits was.journal.room j was.ended owed.reads.stopped fits;
      most = c.requires.bus_node.most;
    }))
    (here_in was.activity was.node j was.ended owed.free (Item Stop) (λ p. refl) runs owed.reads)
    c.enter.ensures.ok

pub returns-clause-refused : goal.returns-clause-refused
returns-clause-refused c =
    let was = c.args.self.now in let j = was.journal.entries in let reads = c.requires.owed.reads in
    let runs = open_else was.activity c.in_default.not-Between in
    let begun = reads.begun in let stopped = reads.stopped in
    let mid : BusNode = record was {
      node = c.stop.new.self;
      activity = Between;
      ended = was.ended + 1;
      ledger = c.new-self.result;
    } in
    let node : (link_of c.new-self.result).node ≡ (link_of was.ledger).node = search rules in
    refused_full c.enter.result was mid c.enter.new.self Stop node refl
    (may_come j Stop (λ between. omega (arith, begun, stopped, runs, between)) (λ bytes is. cc)) c.enter.ensures.full
