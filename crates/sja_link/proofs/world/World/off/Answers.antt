use Rattle.std.proofs.Common.{◌∙◌, rules}
use Rattle.sja_journal.specs.declared.down.Down.TheVariants.{Off as OffDown}
use Rattle.sja_link.specs.declared.event.Event.TheVariants.{Off}
use Rattle.sja_link.specs.WorldEvents.{MayPut}
use Rattle.sja_link.specs.Inside.Fields.{world_of}
use Rattle.sja_link.proofs.WorldSteps.Worlds.{world_next}
use Rattle.sja_link.proofs.JournalEntries.Keeping.{put_stored, free_same_off}
use Rattle.sja_link.proofs.world.World.off.Goals as goal

pub invariant_of-self-2 : goal.invariant_of-self-2
invariant_of-self-2 c =
    let f = c.self.inside in let h = c.self.invariant in
    let may : MayPut (world_of f.put.items f.got f.given.items f.taken f.may_send) =
    record { started = search rules; running = search rules; on = search rules } in
    rw c.in_ok-push.ensures.items (
    put_stored _ _ _ _ _ _ _ _ OffDown h (world_next _ Off h.world tt may) (h.free_is ∙ free_same_off f.put.items _))
