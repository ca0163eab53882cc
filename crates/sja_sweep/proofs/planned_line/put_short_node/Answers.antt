use Rattle.std.proofs.Common.{◌<◌, ◌++◌, length, string_bytes, ap, ◌∙◌, arith}
use Rattle.std.proofs.lemmas.List.{get_or_read}
use Rattle.sja_log.specs.Log.{ActivationValue}
use Rattle.sja_sweep.specs.Nodes.{no_activation, activation_at}
use Rattle.sja_sweep.specs.SweepText.{short_activation}
use Rattle.sja_sweep.proofs.NumberLists.Ranges.{text_more}
use Rattle.sja_sweep.proofs.planned_line.put_short_node.Goals as goal

pub loop-place-preserved : goal.loop-place-preserved
loop-place-preserved c =
    let k = c.loop-place.place in
    let list = c.activations-activations.result.now in
    let less : k < length c.activations-activations.result.now = omega arith in
    text_more (λ a. short_activation c.args.number a (activation_at list a)) k _ _ _ c.loop-place.invariant
    (c.in_ok-put_short_activation.ensures
    ∙ ap (λ (x : ActivationValue). string_bytes c.loop-place.text ++ short_activation c.args.number k x)
    (get_or_read list k c.index-activations-place.result less c.index-activations-place.is no_activation))
