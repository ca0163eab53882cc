use Rattle.std.proofs.Common.{◌<◌, ◌∙◌, ◌&&◌, ap, arith, length}
use Rattle.lemmas.proofs.Lists.{some_of}
use Rattle.sja_run.specs.Files.{printed_of, refused_of}
use Rattle.sja_run.proofs.FilesDone.FileTexts.{none_printed, wrote_refused}
use Rattle.sja_run.proofs.file_texts.refuse_all.Goals as goal

pub loop-name-preserved : goal.loop-name-preserved
loop-name-preserved g c =
    let names = c.args.names.now in
    let i = c.loop-name.name-index in
    let within : i < length names = omega arith in
    let any = some_of names i within in
    let so_far = c.loop-name.invariant in
    let told = c.put-answered.ensures in
    record {
      refused = so_far.refused;
      all = ap (λ b. c.loop-name.all && b) told.answered ∙ none_printed names i any c.loop-name.all within so_far.all;
      out = wrote_refused (printed_of c.args.several) names i any _ _ _ _ _ _ within so_far.out told.out;
      err = wrote_refused (refused_of c.args.several) names i _ _ _ _ _ _ _ within so_far.err told.err;
    }
