use Rattle.std.proofs.Common.{◌≡◌, rules, Bool, [], ◌∷◌, ◌++◌, refl, sym, ap, subst}
use Rattle.sja_journal.specs.declared.entry.Entry.TheVariants.{Bit}
use Rattle.sja_journal.specs.Records.{record_of}
use Rattle.sja_link.specs.BusLedgers.{free_in}
use Rattle.can_node.specs.declared.node.Node.{Node}
use Rattle.can_node.specs.Stands.{Samples}
use Rattle.sja_bus.specs.declared.bus_node.BusNode.{BusNode}
use Rattle.sja_bus.specs.Inside.Following.{FollowsBit}
use Rattle.sja_bus.proofs.Journal.BitSteps.{follows_bit, follows_on}
use Rattle.sja_bus.proofs.Journal.Reading.{reads_quiet}
use Rattle.sja_bus.proofs.ItemsTaken.OutOfRoom.{bit_short}
use Rattle.sja_bus.proofs.ItemsTaken.Takings.{bus_node_entered}
use Rattle.std.specs.Prelude.{Err}
use Rattle.sja_bus.specs.Inside.Taking.{IsBitShort}
use Rattle.lemmas.proofs.Results.{err_is}
use Rattle.sja_bus.proofs.bus_node.BusNode.sample_in_reset.Goals as goal

pub returns-clause-sound : goal.returns-clause-sound
returns-clause-sound c =
    let was = c.args.self.now in let j = was.journal.entries in let x = c.args.self.now.drives in
    let seen = c.args.seen in
    let new = c.sample-events.new.self in let follows = c.requires.ready.sound.follows in
    let rest = c.sample-events.ensures.rests c.requires.rests (record_of j) follows.found follows.stands in
    let bit = follows_bit was.node new j x seen c.sample-events.result c.requires.ready.drives
    c.sample-events.ensures.samples rest.nothing follows in
    let P : Bool → Type 0 = λ w. FollowsBit new (j ++ Bit x seen ∷ []) w in
    c.in_ok-enter.ensures.sound (follows_on new (j ++ Bit x seen ∷ []) (subst P rest.stays bit))
    (reads_quiet was.node new j (Bit x seen) was.ended was.activity (free_in was.ledger) (λ p. refl, refl, refl, refl)
    (λ r. rest.reset) c.requires.ready.sound.reads)

pub returns-clause-bus_node : goal.returns-clause-bus_node
returns-clause-bus_node c =
    let bus_node = c.requires.ready.bus_node in
    bus_node_entered (record c.args.self.now { node = c.sample-events.new.self }) c.enter.new.self
    c.enter.ensures.others
    c.enter.ensures.room (record { own = bus_node.own; few = bus_node.few; most = bus_node.most })

pub returns-clause-samples : goal.returns-clause-samples
returns-clause-samples c =
    let P : Node → Type 0 = λ n. Samples c.args.self.now.node n c.args.seen c.sample-events.result in
    subst P (sym (ap (λ (s : BusNode). s.node) c.enter.ensures.others)) c.sample-events.ensures.samples

pub returns-clause-quiet : goal.returns-clause-quiet
returns-clause-quiet c =
    let follows = c.requires.ready.sound.follows in (
      (c.sample-events.ensures.rests c.requires.rests (record_of c.args.self.now.journal.entries) follows.found
          follows.stands).stays,
      refl,
    )

pub returns-in_err-enter-clause-short : goal.returns-in_err-enter-clause-short
returns-in_err-enter-clause-short c =
    let was = c.args.self.now in let j = was.journal.entries in let x = was.drives in let seen = c.args.seen in
    let new = c.sample-events.new.self in let follows = c.requires.ready.sound.follows in
    let rest = c.sample-events.ensures.rests c.requires.rests (record_of j) follows.found follows.stands in
    let bit = follows_bit was.node new j x seen c.sample-events.result c.requires.ready.drives
    c.sample-events.ensures.samples rest.nothing follows in
    let f = c.in_err-enter.field-0.0 in let full = c.in_err-enter.ensures.full in
    let is : c.from_residual.result ≡ Err f = search rules in
    let P : _ → Type 0 = λ y. IsBitShort was c.enter.new.self y in
    err_is P c.from_residual.result f is (
      full.is,
      bit_short new was.journal.room j c.enter.new.self.journal.entries x
          seen c.sample-events.result.went_off full.same full.full bit,
    )
