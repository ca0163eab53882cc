use Rattle.std.proofs.Common.{◌≡◌, ℕ, suc, true, List, [], ◌∷◌, ◌++◌, refl, sym, ap, ◌∙◌, subst, rules}
use Rattle.std.proofs.lemmas.Result.{on_ok_weaker}
use Rattle.can_node_rules.specs.Record.{RecordEntry as Event}
use Rattle.can_node_rules.specs.Cut.{IsCut}
use Rattle.sja_journal.specs.declared.entry.Entry.TheVariants.{Off}
use Rattle.sja_journal.specs.declared.down.Down.TheVariants.{Off as OffDown}
use Rattle.sja_journal.specs.Lists.{OthersStand, Carries, Keeps, with_put}
use Rattle.sja_link.specs.BusLedgers.{link_of, activation_of, free_in}
use Rattle.sja_journal.proofs.JournalEntries.Entering.{record_push}
use Rattle.sja_bus.specs.declared.activity.Activity.{Activity}
use Rattle.sja_bus.specs.declared.activity.Activity.TheVariants.{Off as ActivityOff}
use Rattle.sja_bus.specs.declared.bus_node.BusNode.{BusNode}
use Rattle.sja_bus.specs.Inside.Following.{Follows, Reads, open_in}
use Rattle.sja_bus_rules.specs.Reasons.{GivesBack}
use Rattle.sja_bus.proofs.ItemsTaken.Breaking.{gave_back}
use Rattle.sja_bus.proofs.Links.BusNodeParts.{bus_node_stays}
use Rattle.sja_bus.proofs.Journal.BitSteps.{follows_off}
use Rattle.sja_bus.proofs.Journal.Parted.{stands_at}
use Rattle.sja_bus.proofs.Journal.Reading.{reads_off, runs_at}
use Rattle.sja_bus.proofs.ItemsTaken.Retrying.{tried_none, tried_again}
use Rattle.sja_link.proofs.Growing.Moving.{moves_push}
use Rattle.sja_bus.proofs.bus_node.BusNode.go_off.Goals as goal

pub loop-init : goal.loop-init
loop-init g c = record {
  bus_node = refl;
  put = tried_none g.E.BusEnd g.met.E.BusEnd.same_refl c.args.self.now.ledger c.args.end.now;
}

pub off-requires : goal.off-requires
off-requires g c =
    let put = c.loop.invariant.put in
    g.met.E.BusEnd.same_node c.args.end.now c.loop.end put.same_end ∙ c.requires.own
    ∙ ap (λ l. (link_of l).node) (sym put.ledger)

pub loop-preserved : goal.loop-preserved
loop-preserved g c =
    let E = g.E.BusEnd in let ledger = c.loop.self.ledger in
    let full : E.full c.loop.end (activation_of ledger) = search rules in
    let keeps : Keeps E.stands (activation_of ledger) c.loop.end c.off.new.end = search rules in record {
      bus_node = search rules;
      put = tried_again E c.loop.counter c.args.self.now.ledger ledger c.args.end.now c.loop.end c.off.new.end
          c.loop.invariant.put g.met.E.BusEnd.same_trans c.off.new.self c.off.ensures.ledger c.off.ensures.same full
          c.off.ensures.others keeps;
    }

pub returns-in-Ok-clause-sound : goal.returns-in-Ok-clause-sound
returns-in-Ok-clause-sound g c =
    let was = c.args.self.now in let j = was.journal.entries in let mid = c.requires.mid in
    let same = c.loop.invariant.bus_node in
    let P : Activity → Type 0 = λ a. Reads was.node j was.ended a (free_in was.ledger) in
    let F : BusNode → Type 0 = λ s. Follows s.node (s.journal.entries ++ Off ∷ []) in
    let R : BusNode → Type 0 = λ s. Reads s.node (s.journal.entries ++ Off ∷ []) s.ended ActivityOff (free_in s.ledger)
    in
    let reads = subst P c.requires.runs.1 mid.reads in
    on_ok_weaker c.enter.result
    (λ f. f (subst F (sym same) (follows_off was.node j mid.follows)) (rw c.off.ensures.ledger (subst R (sym same)
    (reads_off was.node j was.ended c.requires.runs.0 (free_in was.ledger) c.requires.reset reads))))
    c.enter.ensures.sound

pub returns-in-Ok-clause-bus_node : goal.returns-in-Ok-clause-bus_node
returns-in-Ok-clause-bus_node g c =
    let inv = c.loop.invariant in let others = c.enter.ensures.others in
    on_ok_weaker c.enter.result
    (λ e. bus_node_stays c.args.self.now c.enter.new.self
    (ap (λ (s : BusNode). activation_of s.ledger) others ∙ ap activation_of c.off.ensures.ledger
    ∙ ap (λ (s : BusNode). activation_of s.ledger) inv.bus_node)
    (ap (λ (s : BusNode). s.ended) others ∙ ap (λ (s : BusNode). s.ended) inv.bus_node)
    (c.enter.ensures.room ∙ ap (λ (s : BusNode). s.journal.room) inv.bus_node) c.requires.bus_node)
    c.enter.ensures.ok

pub returns-in-Ok-clause-moves : goal.returns-in-Ok-clause-moves
returns-in-Ok-clause-moves g c =
    let E = g.E.BusEnd in let was = c.args.self.now in let j = was.journal.entries in let inv = c.loop.invariant in
    let opened = ap open_in c.requires.runs.1 in let own = c.requires.bus_node.own in
    let at = stands_at j Off (suc was.ended) (λ p. refl)
    (runs_at was.activity was.node j was.ended (free_in was.ledger) opened c.requires.mid.reads) in
    let was_at : activation_of c.loop.self.ledger ≡ suc was.ended =
    ap (λ (s : BusNode). activation_of s.ledger) inv.bus_node ∙ own in
    let O : ℕ → Type 0 = λ a. OthersStand E.stands a c.loop.end c.off.new.end in
    let P : ℕ → Type 0 = λ a. Carries E.stands a c.loop.end c.off.new.end (λ l. with_put l OffDown) in
    let others = subst O was_at c.off.ensures.others in let put = subst P was_at c.in-Ok.ensures.puts in
    on_ok_weaker c.enter.result
    (λ e. rw (e.0 ∙ ap (λ (s : BusNode). s.journal.entries ++ Off ∷ []) inv.bus_node)
    (moves_push E.stands c.args.end.now c.off.new.end j Off (suc was.ended) at
    (λ b ne l stood. others b ne l (inv.put.stands b l stood))
    (λ l stood. put l (inv.put.stands (suc was.ended) l stood))))
    c.enter.ensures.ok

pub returns-clause-broken : goal.returns-clause-broken
returns-clause-broken g c =
    let E = g.E.BusEnd in let was = c.args.self.now in let j = was.journal.entries in let inv = c.loop.invariant in
    let back = inv.put.back (search rules) in let follows = c.requires.mid.follows in
    let P : Activity → Type 0 = λ a. Reads was.node j was.ended a (free_in was.ledger) in
    let C : List Event → Type 0 = λ r. IsCut r follows.found in
    let G : BusNode → Type 0 = λ s. GivesBack E j s.journal.entries c.args.end.now in
    let reads = subst P c.requires.runs.1 c.requires.mid.reads in (
      c.number.ensures ∙ ap (λ (s : BusNode). (link_of s.ledger).node) inv.bus_node,
      subst G (sym inv.bus_node) (gave_back E was c.args.end.now c.requires.bus_node (ap open_in c.requires.runs.1)
          c.requires.mid.reads back true follows.found (subst C (sym (record_push j Off)) follows.stands.cut)
          follows.verdicts reads.active.3),
    )
