use Rattle.std.proofs.Common.{◌≡◌, ◌+◌, ◌<◌, ◌++◌, ◌∷◌, [], List, length, take, sym, subst, add-one, ◌∙◌}
use Rattle.std.specs.Prelude.{slice_index_or}
use Rattle.std.proofs.Math.Seq.{take-suc}
use Rattle.sja_steps.specs.declared.strike.Strike.{Strike}
use Rattle.sja_bus.specs.Inside.StrikesByBit.{IsTableOf}
use Rattle.sja_bus.proofs.WholeBus.Marking.{table_of_more}
use Rattle.sja_bus.proofs.struck_bits.strike_all.Goals as goal

pub loop-strike-preserved : goal.loop-strike-preserved
loop-strike-preserved c =
    let i = c.loop-strike.strike-index in let script = c.args.script.now in
    let d : Strike = record { node = 0; bit = 0; every = 0; times = 0 } in
    let few : i < length script = c.loop-strike-test.true in
    let s = slice_index_or script i d in
    let next : take (i + 1) script ≡ take i script ++ s ∷ [] = rw add-one (take-suc script i d few) in
    let more = table_of_more (take i script) s c.loop-strike.table c.strike.new.self c.loop-strike.invariant.struck
    c.strike.ensures in
    let P : List Strike → Type 0 = λ l. IsTableOf l c.strike.new.self in record {
      bits = c.strike.ensures.bits ∙ c.loop-strike.invariant.bits;
      struck = subst P (sym next) more;
    }
