use Rattle.std.proofs.Common.{◌<◌, true, length, refl, arith}
use Rattle.std.proofs.lemmas.Grind.{common_steps}
use Rattle.toml_parser.proofs.LexicalLemmas.{skip_from-drop, skip_from-nil}
use Rattle.sja_plan_reading.proofs.comments.behind_comments.Goals as goal

pub loop-place-init : goal.loop-place-init
loop-place-init c = refl

pub returns-in-None : goal.returns-in-None
returns-in-None c =
    let within : c.loop-place.place < length c.args.bytes.now = omega arith in
    let step = skip_from-drop true c.loop-place.inside c.args.bytes.now c.loop-place.place within in
    grind (arith, common_steps)

pub loop-place-preserved : goal.loop-place-preserved
loop-place-preserved c =
    let within : c.loop-place.place < length c.args.bytes.now = omega arith in
    let step = skip_from-drop true c.loop-place.inside c.args.bytes.now c.loop-place.place within in
    grind (arith, common_steps)

pub returns : goal.returns
returns c = grind (arith, common_steps, skip_from-nil)
