use Rattle.std.proofs.Common.{◌<◌, length, arith, rules}
use Rattle.std.proofs.lemmas.List.{length-take-le}
use Rattle.sja_link.specs.declared.event.Event.TheVariants.{Get}
use Rattle.sja_link.specs.WorldEvents.{Allowed}
use Rattle.sja_link.specs.Inside.Fields.{world_of}
use Rattle.sja_link.proofs.JournalEntries.Keeping.{stepped, get_stored, get_done}
use Rattle.sja_link.proofs.world.World.get.Goals as goal

pub invariant_of-self : goal.invariant_of-self
invariant_of-self c =
    let f = c.self.inside in let h = c.self.invariant in
    let less : f.got < length f.put.items = let len = f.put.ok.0 in let is = c.len.ensures in let few =
    c.if-self-len.false in omega (arith, len, is, few) in
    let may : Allowed (world_of f.put.items f.got f.given.items f.taken f.may_send) Get =
    (let n = length-take-le f.got f.put.items h.got_in in omega (arith, n, less), search rules) in
    get_stored _ _ _ _ _ _ _ h may less

pub returns : goal.returns
returns c =
    let f = c.self.inside in let h = c.self.invariant in
    let less : f.got < length f.put.items = let len = f.put.ok.0 in let is = c.len.ensures in let few =
    c.if-self-len.false in omega (arith, len, is, few) in
    let may : Allowed (world_of f.put.items f.got f.given.items f.taken f.may_send) Get =
    (let n = length-take-le f.got f.put.items h.got_in in omega (arith, n, less), search rules) in
    rw (← c.self.view_is) (stepped _ _ Get may (get_done _ _ _ _ _ h.got_in))
