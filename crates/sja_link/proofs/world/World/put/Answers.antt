use Rattle.std.proofs.Common.{◌-◌, ◌∙◌, ap, arith, rules}
use Rattle.sja_journal.specs.declared.down.Down.TheVariants.{Message}
use Rattle.sja_link.specs.declared.event.Event.TheVariants.{Put}
use Rattle.sja_link.specs.WorldEvents.{Allowed}
use Rattle.sja_link.specs.Inside.Fields.{world_of}
use Rattle.sja_link.proofs.WorldSteps.Worlds.{world_next}
use Rattle.sja_link.proofs.JournalEntries.Keeping.{put_stored, free_put}
use Rattle.sja_link.proofs.world.World.put.Goals as goal

pub invariant_of-self-2 : goal.invariant_of-self-2
invariant_of-self-2 c =
    let f = c.self.inside in let h = c.self.invariant in
    let is = c.len-bytes.ensures.value in let within = c.len-bytes.ensures.within.0 in
    let few = c.if-bytes-self.false in let free_is = h.free_is in
    let may : Allowed (world_of f.put.items f.got f.given.items f.taken f.may_send) (Put c.args.message) =
    (record { started = search rules; running = search rules; on = search rules }, omega (arith, is, few, free_is)) in
    rw c.in_ok-push.ensures.items (
    put_stored _ _ _ _ _ _ _ _ (Message c.args.message) h
    (world_next _ (Put c.args.message) h.world (omega (arith, is, within)) may)
    (ap (λ n. n - c.len-bytes.result) h.free_is ∙ rw is (free_put f.put.items c.args.message _)))
