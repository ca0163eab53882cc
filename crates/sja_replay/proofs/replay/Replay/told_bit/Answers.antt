use Rattle.std.proofs.Common.{◌≡◌, ◌+◌, ◌<◌, ◌^◌, false, rules}
use Rattle.sja_replay.proofs.BitTaken.Bits.{has_bit, told_bit, untold_bit, misdriven_at}
use Rattle.sja_replay.proofs.replay.Replay.told_bit.Goals as goal

-- src/replay.rt
pub returns-then-not-is_same-clause-brings : goal.returns-then-not-is_same-clause-brings
returns-then-not-is_same-clause-brings c =
    rw c.end.ensures.none (λ before h.
    misdriven_at c.args.self.now before c.args.driven c.args.seen c.drive.result _ h c.drive.ensures
    (c.is_same.ensures.no c.if-not-is_same.true))

pub returns-in_default-close-clause-brings : goal.returns-in_default-close-clause-brings
returns-in_default-close-clause-brings c = rw c.end-in_default-close.ensures.none (λ before h.
    let bits : c.in-Some.bits ≡ c.args.self.now.bits + 1 = search rules in
    let few : c.in-Some.bits < 2 ^ 32 = search rules in
    untold_bit c.args.self.now
    (record c.args.self.now { node = c.sample-events.new.self; bits = c.in-Some.bits; aborted = false })
    c.close.new.self before c.args.driven c.args.seen c.drive.result
    c.of-before.result c.sample-events.result c.of-after.result c.in_default-close.field-0 h c.drive.ensures
    (c.is_same.ensures.yes c.if-not-is_same.false) c.sample-events.ensures.samples c.of-before.ensures
    c.of-after.ensures c.in_default-close.ensures
    (has_bit c.args.self.now c.sample-events.new.self c.in-Some.bits _ bits few))

pub returns-clause-brings : goal.returns-clause-brings
returns-clause-brings c = λ before h.
    let bits : c.in-Some.bits ≡ c.args.self.now.bits + 1 = search rules in
    let few : c.in-Some.bits < 2 ^ 32 = search rules in
    told_bit c.args.self.now _ c.close.new.self before c.args.driven c.args.seen c.drive.result
    c.of-before.result c.sample-events.result c.of-after.result c.in-Ok.reception h c.drive.ensures
    (c.is_same.ensures.yes c.if-not-is_same.false) c.sample-events.ensures.samples c.of-before.ensures
    c.of-after.ensures c.in-Ok.ensures
    (has_bit c.args.self.now c.sample-events.new.self c.in-Some.bits _ bits few)
