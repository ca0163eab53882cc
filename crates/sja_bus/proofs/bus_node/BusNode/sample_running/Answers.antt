use Rattle.std.proofs.Common.{◌≡◌, ℕ, suc, Bool, true, false, rules, subst, sym, ap, ◌∙◌}
use Rattle.std.specs.Prelude.{Err}
use Rattle.sja_bus.specs.Inside.Following.{FollowsBit}
use Rattle.sja_journal.specs.declared.entry.Entry.TheVariants.{Off}
use Rattle.sja_journal.specs.Written.{Room, IsFullFor}
use Rattle.sja_link.specs.Moving.{Moves}
use Rattle.sja_bus.specs.Inside.BusNodes.{IsMid, IsBusNode}
use Rattle.sja_bus.specs.Inside.BusNodeBits.{BreaksInBit}
use Rattle.sja_link.proofs.Growing.Moving.{goes_one, moves_trans}
use Rattle.sja_bus.proofs.ItemsTaken.Breaking.{breaks_after}
use Rattle.sja_bus.proofs.ItemsTaken.OutOfRoom.{off_short}
use Rattle.sja_bus.proofs.Journal.BitSteps.{follows_on}
use Rattle.sja_bus.proofs.AllNodes.NodeBit.{has_on, has_off}
use Rattle.lemmas.proofs.Results.{err_is}
use Rattle.sja_journal.proofs.Growing.Begins.{begun_verdict}
use Rattle.sja_bus.proofs.Links.BusNodeParts.{bus_node_stays}
use Rattle.sja_bus.proofs.bus_node.BusNode.sample_running.Goals.{In_ok-outcome}
use Rattle.sja_bus.proofs.bus_node.BusNode.sample_running.Goals as goal

pub returns-then-not-outcome-clause-sound : goal.returns-then-not-outcome-clause-sound
returns-then-not-outcome-clause-sound g c =
    let off : c.in_ok-outcome.outcome.events.went_off ≡ false = search rules in
    let mid = c.in_ok-outcome.ensures.mid in
    let now = c.sample_and_judge.new.self in
    let P : Bool → Type 0 = λ w. FollowsBit now.node now.journal.entries w in
    record { follows = follows_on now.node now.journal.entries (subst P off mid.follows); reads = mid.reads }

-- the bus node after the bit, before bus-off
mid_bus_node : (g : _) (c : In_ok-outcome g) → IsBusNode c.sample_and_judge.new.self
mid_bus_node g c =
    let kept = c.in_ok-outcome.ensures.kept in
    bus_node_stays c.args.self.now c.sample_and_judge.new.self (ap (λ l. l.activation) kept.2) kept.0
    c.in_ok-outcome.ensures.room c.requires.at.ready.bus_node

pub returns-then-not-outcome-clause-bus_node : goal.returns-then-not-outcome-clause-bus_node
returns-then-not-outcome-clause-bus_node g c = mid_bus_node g (goal.at.returns-then-not-outcome-clause-bus_node g
    c).In_ok-outcome

pub go_off-requires-clause-bus_node : goal.go_off-requires-clause-bus_node
go_off-requires-clause-bus_node g c = mid_bus_node g (goal.at.go_off-requires-clause-bus_node g c).In_ok-outcome

pub returns-then-not-outcome-clause-brings : goal.returns-then-not-outcome-clause-brings
returns-then-not-outcome-clause-brings g c =
    let off : c.in_ok-outcome.outcome.events.went_off ≡ false = search rules in
    has_on c.args.self.now.journal.entries c.sample_and_judge.new.self.journal.entries c.args.self.now.drives
    c.args.seen c.in_ok-outcome.outcome off c.in_ok-outcome.ensures.verdict

pub returns-clause-brings : goal.returns-clause-brings
returns-clause-brings g c =
    let off : c.in_ok-outcome.outcome.events.went_off ≡ true = search rules in
    has_off c.args.self.now.journal.entries c.sample_and_judge.new.self.journal.entries
    c.go_off.new.self.journal.entries c.args.self.now.drives c.args.seen c.in_ok-outcome.outcome off
    c.in_ok-go_off.ensures.entered c.in_ok-outcome.ensures.verdict

pub returns-in_err-go_off-clause-broken : goal.returns-in_err-go_off-clause-broken
returns-in_err-go_off-clause-broken g c =
    let E = g.E.BusEnd in let was = c.args.self.now in let mid = c.sample_and_judge.new.self in let new =
    c.go_off.new.self in let f = c.in_err-go_off.field-0.0 in
    let outcome = c.in_ok-outcome.ensures in let kept = outcome.kept in
    let is : c.from_residual-in_err-go_off.result ≡ Err f = search rules in
    let P : _ → Type 0 = λ x. BreaksInBit E was new c.args.end.now x in
    let R : Room → Type 0 = λ n. IsFullFor n mid.journal.entries Off in
    let W : Bool → Type 0 = λ w. FollowsBit mid.node mid.journal.entries w in
    let off : c.in_ok-outcome.outcome.events.went_off ≡ true = search rules in
    err_is P c.from_residual-in_err-go_off.result f is
    (breaks_after E g.met.E.BusEnd.same_trans c.args.end.now c.sample_and_judge.new.end was mid new f
    (ap (λ l. l.node) kept.2)
    (λ used. off_short mid.node was.journal.room was.journal.entries mid.journal.entries new.journal.entries was.drives
    c.args.seen outcome.verdict.verdict c.in_err-go_off.ensures.unentered (subst R outcome.room used)
    (subst W off outcome.mid.follows))
    (outcome.mid.reads.stopped ∙ kept.0 ∙ sym c.requires.at.ready.sound.reads.stopped)
    (begun_verdict was.journal.entries mid.journal.entries was.drives c.args.seen outcome.verdict.verdict)
    (goes_one E.same E.stands c.args.end.now c.sample_and_judge.new.end was.journal.entries mid.journal.entries
    was.ended c.sample_and_judge.ensures.same outcome.moves) c.in_err-go_off.ensures.broken)

pub go_off-requires-clause-mid : goal.go_off-requires-clause-mid
go_off-requires-clause-mid g c =
    let off : c.in_ok-outcome.outcome.events.went_off ≡ true = search rules in
    let P : Bool → Type 0 = λ w. IsMid c.sample_and_judge.new.self w in subst P off c.in_ok-outcome.ensures.mid

pub returns-clause-moves : goal.returns-clause-moves
returns-clause-moves g c =
    let stands = g.E.BusEnd.stands in let j = c.args.self.now.journal.entries in
    let mid = c.sample_and_judge.new.self.journal.entries in let new = c.go_off.new.self.journal.entries in
    let outcome = c.in_ok-outcome.ensures in
    let M : ℕ → Type 0 = λ n. Moves stands c.sample_and_judge.new.end c.go_off.new.end mid new (suc n) in
    moves_trans stands c.args.end.now c.sample_and_judge.new.end c.go_off.new.end j mid new (suc c.args.self.now.ended)
    outcome.moves (subst M outcome.kept.0 c.in_ok-go_off.ensures.moves)
