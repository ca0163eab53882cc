use Rattle.std.proofs.Common.{◌≡◌, ◌+◌, cond, sym, ap, ◌∙◌, arith}
use Rattle.sja_sweep.specs.SweepText.{is_one}
use Rattle.sja_sweep.specs.Inside.Reaching.{outcome_value}
use Rattle.sja_sweep.proofs.NumberLists.Texts.{seen_count}
use Rattle.sja_sweep.proofs.write_texts.count_of.Goals as goal
use Rattle.sja_sweep.proofs.write_texts.count_of.Goals.{then-is, else-is}

pub loop-told-preserved : goal.loop-told-preserved
loop-told-preserved c =
    let n = c.loop-told.count in
    let few = c.loop-told.invariant.few in
    elim c.if-is.branch [
      | then-is w ↦ record {
        counted = seen_count (is_one c.args.kind) outcome_value c.args.tolds.now c.loop-told.told-index
            c.told-item.result n _ c.loop-told-test.true c.told-item.is c.loop-told.invariant.counted
            (w.count-is ∙ ap (λ b. n + cond b 1 0) (sym (sym c.is.ensures ∙ w.if-is.true)));
        few = let is = w.count-is in omega (arith, is, few);
      }
      | else-is w ↦ record {
        counted = seen_count (is_one c.args.kind) outcome_value c.args.tolds.now c.loop-told.told-index
            c.told-item.result n _ c.loop-told-test.true c.told-item.is c.loop-told.invariant.counted
            (let none : n ≡ n + 0 = omega arith in
            w.count-is ∙ none ∙ ap (λ b. n + cond b 1 0) (sym (sym c.is.ensures ∙ w.if-is.false)));
        few = let is = w.count-is in omega (arith, is, few);
      }
    ]
