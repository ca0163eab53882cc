use Rattle.std.proofs.Common.{◌<◌, ◌≤◌, List, length, rules, arith, subst}
use Rattle.std.specs.Prelude.{slice_index_or}
use Rattle.std.proofs.lemmas.List.{take_all}
use Rattle.sja_steps.specs.declared.strike.Strike.{Strike}
use Rattle.sja_bus.specs.Inside.StrikesByBit.{IsUnstruck}
use Rattle.sja_bus.proofs.WholeBus.Marking.{sooner_next}
use Rattle.sja_bus.proofs.coming.next_strike.Goals as goal

pub loop-strike-preserved : goal.loop-strike-preserved
loop-strike-preserved c =
    let k = c.loop-strike.strike-index in let inv = c.loop-strike.invariant in
    let few : k < length c.args.strikes.now = search rules in
    let s = slice_index_or c.args.strikes.now k (record { node = 0; bit = 0; every = 0; times = 0 }) in
    let within = c.sooner-next.ensures.within in let old = inv.within in
    let both = sooner_next c.args.strikes.now k s c.args.from c.loop-strike.next c.sooner-next.result c.args.end few
    (search rules) within inv.quiet inv.stop c.sooner-next.ensures.quiet c.sooner-next.ensures.stop in record {
      on = c.sooner-next.ensures.on;
      within = omega (arith, within, old);
      quiet = both.0;
      stop = both.1;
    }

pub returns-clause-quiet : goal.returns-clause-quiet
returns-clause-quiet c =
    let k = c.loop-strike.strike-index in let script = c.args.strikes.now in
    let past : length script ≤ k = search rules in
    let P : List Strike → Type 0 = λ l. IsUnstruck l c.args.from c.loop-strike.next in
    subst P (take_all k script past) c.loop-strike.invariant.quiet
