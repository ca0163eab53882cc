use Rattle.std.proofs.Common.{refl, ◌∙◌, sym, rules}
use Rattle.sja_journal.specs.declared.up.Up.TheVariants.{Stop as StopUp}
use Rattle.sja_link.specs.declared.event.Event.TheVariants.{Stop}
use Rattle.sja_link.specs.WorldEvents.{IsOpen}
use Rattle.sja_link.specs.Inside.Fields.{world_of}
use Rattle.sja_link.proofs.WorldSteps.Worlds.{world_next}
use Rattle.sja_link.proofs.JournalEntries.Keeping.{give_stored, credits_same}
use Rattle.sja_link.proofs.world.World.stop.Goals as goal

pub invariant_of-self-2 : goal.invariant_of-self-2
invariant_of-self-2 c =
    let f = c.self.inside in let h = c.self.invariant in
    let may : IsOpen (world_of f.put.items f.got f.given.items f.taken f.may_send) =
    record { started = search rules; running = search rules } in
    rw c.in_ok-push.ensures.items (
    give_stored _ _ _ _ _ _ _ _ _ StopUp h (world_next _ Stop h.world tt may)
    (h.released_is ∙ sym (credits_same f.given.items StopUp refl)))
