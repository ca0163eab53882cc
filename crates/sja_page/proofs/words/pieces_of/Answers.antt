use Rattle.sja_page.proofs.words.pieces_of.Goals as goal
use Rattle.std.specs.List.{join_with_byte}
use Rattle.sja_page.proofs.Pieces.{each}
use Rattle.std.proofs.Common.{◌∙◌, IfSome, ap, arith, map, rules, subst, sym}
use Rattle.std.specs.Prelude.{All}
use Rattle.std.specs.Iterator.Runs.{YieldsRun}
use Rattle.std.specs.Str.Iter.{LacksByte}
use Rattle.std.proofs.lemmas.Result.{IfOk-weaker}

-- src/words.rt:23:1
pub returns : goal.returns
unfolding YieldsRun
returns c = IfOk-weaker c.collect.result _ _ (λ words made.
    let run = made tt in
    let read = c.split.ensures.runs run.0 run.0.seen run.1 in
    let cut = read.2 (omega arith) (search rules) in
    record {
      joined = cut.0.2 run.2 ∙ ap (λ items. join_with_byte 0 (map (λ word. word.now) items)) (sym run.3.0);
      bare = subst (λ items. All (LacksByte 0) (map (λ word. word.now) items)) (sym run.3.0)
          (each 0 run.0.items (λ k. subst (λ o. IfSome o (λ x. LacksByte 0 x.now)) (run.0.gave.1 k) (cut.1.0 k)));
    }) c.collect.ensures.runs
