use Rattle.std.proofs.Common.{◌≡◌, ◌∷◌, [], length, take, drop, arith, rules}
use Rattle.sja_journal.specs.declared.up.Up.TheVariants.{Credit}
use Rattle.lemmas.specs.Gathering.{total}
use Rattle.sja_journal.specs.Lists.{messages}
use Rattle.sja_link.specs.World.{credits_of, is_off, is_stop}
use Rattle.sja_link.specs.WorldEvents.{first_credit}
use Rattle.sja_link.proofs.JournalEntries.ListCounts.{up_count}
use Rattle.sja_link.proofs.JournalEntries.Keeping.{release_stored}
use Rattle.sja_link.proofs.world.World.release.Goals as goal

pub overflow_add-self : goal.overflow_add-self
overflow_add-self c =
    let f = c.self.inside in let is = c.self.invariant.released_is in
    let n = up_count f.given.items in let len = f.given.ok.0 in let fits = f.given.ok.1 in let small = f.given.small in
    omega (arith, is, n, len, fits, small)

pub invariant_of-self-2 : goal.invariant_of-self-2
invariant_of-self-2 c =
    let f = c.self.inside in let h = c.self.invariant in
    let first : first_credit (drop (length (credits_of f.given.items))
    (messages (take f.got f.put.items))) ≡ Credit c.in-Some.bytes ∷ [] =
    rw (← h.released_is) (rw c.deref.ensures.value at c.in-Some.ensures.some) in
    let on : total is_off (take f.got f.put.items) ≡ 0 = search rules in
    let running : total is_stop f.given.items ≡ 0 = search rules in
    rw c.in_ok-push.ensures.items (release_stored _ _ _ _ _ _ _ _ h first on running)
