use Rattle.std.proofs.Common.{◌<◌, length, arith}
use Rattle.sja_link.proofs.JournalEntries.Keeping.{take_stored, take_free, take_fits}
use Rattle.sja_link.proofs.world.World.take.Goals as goal

pub overflow_add-self : goal.overflow_add-self
overflow_add-self c =
    let f = c.self.inside in let h = c.self.invariant in
    let less : f.taken < length f.given.items = let len = f.given.ok.0 in let is = c.len.ensures in let few =
    c.if-self-len.false in omega (arith, len, is, few) in
    let fits = take_fits f.put.items f.got f.given.items f.taken f.may_send f.free f.released c.index.result.now h
    less c.index.ensures in
    let is = c.credit_of.ensures in omega (arith, fits, is)

pub invariant_of-self : goal.invariant_of-self
invariant_of-self c =
    let f = c.self.inside in let h = c.self.invariant in
    let less : f.taken < length f.given.items = let len = f.given.ok.0 in let is = c.len.ensures in let few =
    c.if-self-len.false in omega (arith, len, is, few) in
    let free = take_free f.put.items f.got f.given.items f.taken f.may_send f.free f.released c.index.result.now h
    less c.index.ensures in
    take_stored _ _ _ _ _ _ _ _ h less (rw c.credit_of.ensures free)
