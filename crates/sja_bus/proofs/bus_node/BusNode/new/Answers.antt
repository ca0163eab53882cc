use Rattle.std.proofs.Common.{◌≡◌, ◌≤◌, ◌^◌, [], arith, refl, ap}
use Rattle.sja_journal.specs.Written.{Room, room_in}
use Rattle.sja_bus.specs.declared.bus_node.BusNode.{BusNode}
use Rattle.sja_bus.specs.declared.activity.Activity.TheVariants.{Between}
use Rattle.sja_bus.specs.declared.pending_event.PendingEvent.TheVariants.{Nothing}
use Rattle.sja_bus.proofs.Journal.Steps.{follows_new}
use Rattle.sja_bus.proofs.Journal.Reading.{reads_new}
use Rattle.sja_bus.proofs.Links.BusNodeParts.{sound_by}
use Rattle.sja_bus.proofs.bus_node.BusNode.new.Goals as goal

pub returns-clause-ready : goal.returns-clause-ready
returns-clause-ready c =
    let node = c.new-node.result in
    let s : BusNode = record {
      node = node;
      drives = c.drive-drives.result;
      ledger = c.new-ledger.result;
      journal =
          c.in_ok-journal.journal;
      ended = 0;
      activity = Between;
      untold = Nothing;
    } in
    let few = c.requires.few.0 in let some = c.requires.few.1 in
    let journal = c.in_ok-journal.journal in
    let rooms : journal.room ≡ room_in c.args.bits c.args.steps → journal.room.all ≤ 2 ^ 63 =
    λ r. let all = ap (λ (x : Room). x.all) r in omega (arith, all, few, some) in
    record {
      sound = sound_by s node [] 0 Between 64 refl c.in_ok-journal.ensures.empty refl refl c.new-ledger.ensures.free
          (follows_new node c.new-node.ensures.stands) (reads_new node c.new-node.ensures.reset);
      bus_node = record {
        own = ap (λ i. i.activation) c.new-ledger.ensures.id;
        few = omega arith;
        most = rooms c.in_ok-journal.ensures.room;
      };
      drives = c.drive-drives.ensures;
    }
