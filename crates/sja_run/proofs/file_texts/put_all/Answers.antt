use Rattle.std.proofs.Common.{◌≡◌, ◌<◌, ◌∙◌, ◌&&◌, ap, ap₂, arith, get_or, length, refl, sym}
use Rattle.std.proofs.lemmas.List.Folds.{list_all_more}
use Rattle.sja_run.specs.Files.{is_printed, printed_of, refused_of}
use Rattle.sja_run.proofs.FilesDone.FileTexts.{wrote_at}
use Rattle.sja_run.proofs.file_texts.put_all.Goals as goal

pub loop-index-preserved : goal.loop-index-preserved
loop-index-preserved g c =
    let names = c.args.names.now in
    let outcomes = c.args.outcomes.now in
    let i = c.loop-index.index in
    let o = c.index-outcomes-index.result in
    let within : i < length names = omega arith in
    let looked_up : o ≡ get_or outcomes i o = c.index-outcomes-index.is in
    let so_far = c.loop-index.invariant in
    let told = c.put-answered.ensures in
    record {
      all = ap₂ (λ a b. a && b) so_far.all (told.answered ∙ ap is_printed looked_up)
          ∙ sym (list_all_more is_printed outcomes i o (omega (arith, c.requires)));
      out = wrote_at (printed_of c.args.several) names outcomes i _ _ o _ _ _ _ _ _ within c.requires refl looked_up
          so_far.out told.out;
      err = wrote_at (refused_of c.args.several) names outcomes i _ _ o _ _ _ _ _ _ within c.requires refl looked_up
          so_far.err told.err;
    }
