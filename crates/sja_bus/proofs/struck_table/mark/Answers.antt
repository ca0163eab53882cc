use Rattle.std.proofs.Common.{◌≡◌, ◌+◌, ◌*◌, ◌<◌, ℕ, length, rules, arith, refl, subst}
use Rattle.sja_bus.specs.Inside.StrikesByBit.{IsMarked}
use Rattle.sja_bus.proofs.WholeBus.Marking.{front, marked_more, marked_all}
use Rattle.sja_bus.proofs.struck_table.mark.Goals as goal

pub loop-time-preserved : goal.loop-time-preserved
loop-time-preserved c =
    let s = c.args.strike.now in let time = c.loop-time.time in
    let at = s.bit + time * s.every in
    let few : at < length c.loop-time.bits = search rules in
    marked_more s time at c.args.bits.now c.loop-time.bits c.add.new.self _ refl few (search rules)
    c.loop-time.invariant c.add.ensures

pub returns : goal.returns
returns c =
    let s = c.args.strike.now in
    let all : c.loop-time.time ≡ c.times_within-time-end.result = omega arith in
    let P : ℕ → Type 0 = λ n. IsMarked (front s n) c.args.bits.now c.loop-time.bits in
    marked_all s c.times_within-time-end.result c.args.bits.now c.loop-time.bits (search rules)
    c.times_within-time-end.ensures.all (subst P all c.loop-time.invariant)
