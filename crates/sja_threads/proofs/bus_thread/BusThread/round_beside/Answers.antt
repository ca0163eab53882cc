use Rattle.std.proofs.Common.{rules, ◌≡◌, Err, length}
use Rattle.lemmas.proofs.Results.{err_is}
use Rattle.sja_threads.specs.Inside.Boards.{turns_in}
use Rattle.sja_threads.specs.Inside.Rounds.{Stops}
use Rattle.sja_threads.proofs.Rounds.GoesOn.{on_then}
use Rattle.sja_threads.proofs.Rounds.SameEnds.{are_ends, have_links}
use Rattle.sja_threads.proofs.Rounds.Stops.{stops_then}
use Rattle.sja_threads.proofs.Rounds.Told.{told_then}
use Rattle.sja_threads.proofs.bus_thread.BusThread.round_beside.Goals as goal

pub gather-requires : goal.gather-requires
gather-requires g c =
    let w = c.requires.way in record {
      ends = are_ends (length c.args.plan.now.nodes) (length c.args.self.now.bus.journals) c.args.self.now.links.items
          w.journals w.ends;
      links = have_links (length c.args.plan.now.nodes) c.args.self.now.bus.starts c.args.self.now.links.items w.links
          w.ends;
    }

pub returns-in_err-gather-clause-fault : goal.returns-in_err-gather-clause-fault
returns-in_err-gather-clause-fault g c =
    let f = c.in_err-gather.field-0.0 in
    let is : c.from_residual.result ≡ Err f = search rules in
    err_is (Stops c.args.plan.now c.args.self.now c.gather.new.self) c.from_residual.result f is
    (c.in_err-gather.ensures.fault c.args.plan.now c.requires.way)

pub returns-then-not-all_begun-clause-on : goal.returns-then-not-all_begun-clause-on
returns-then-not-all_begun-clause-on g c = c.in_ok-gather.ensures.on c.args.plan.now c.requires.way

pub bit_if_due-requires-clause-way : goal.bit_if_due-requires-clause-way
bit_if_due-requires-clause-way g c = (c.in_ok-gather.ensures.on c.args.plan.now c.requires.way).way

pub returns-clause-on : goal.returns-clause-on
returns-clause-on g c =
    on_then c.args.plan.now c.args.self.now c.gather.new.self c.bit_if_due.new.self
    (c.in_ok-gather.ensures.on c.args.plan.now c.requires.way) c.bit_if_due.result c.bit_if_due.ensures.on

pub returns-clause-fault : goal.returns-clause-fault
returns-clause-fault g c =
    stops_then c.args.plan.now c.args.self.now c.gather.new.self c.bit_if_due.new.self
    (c.in_ok-gather.ensures.on c.args.plan.now c.requires.way) c.bit_if_due.result c.bit_if_due.ensures.fault

pub returns-then-not-all_begun-clause-told : goal.returns-then-not-all_begun-clause-told
returns-then-not-all_begun-clause-told g c =
    c.in_ok-gather.ensures.told c.args.plan.now (turns_in c.args.board.now.told.items)

pub returns-clause-told : goal.returns-clause-told
returns-clause-told g c =
    told_then c.args.plan.now c.args.self.now.bus.journals c.gather.new.self.bus.journals
    c.bit_if_due.new.self.bus.journals
    (turns_in c.args.board.now.told.items) (turns_in c.bit_if_due.new.board.told.items)
    (c.in_ok-gather.ensures.told c.args.plan.now (turns_in c.args.board.now.told.items)) c.bit_if_due.result
    c.bit_if_due.ensures.told

pub all_begun-requires-clause-right : goal.all_begun-requires-clause-right
all_begun-requires-clause-right g c = (c.in_ok-gather.ensures.on c.args.plan.now c.requires.way).way.right

pub all_begun-requires-clause-nodes : goal.all_begun-requires-clause-nodes
all_begun-requires-clause-nodes g c = (c.in_ok-gather.ensures.on c.args.plan.now c.requires.way).way.journals

-- before the bit all that was shown was taken
pub bit_if_due-requires-clause-dry : goal.bit_if_due-requires-clause-dry
bit_if_due-requires-clause-dry g c = c.in_ok-gather.ensures.dry
