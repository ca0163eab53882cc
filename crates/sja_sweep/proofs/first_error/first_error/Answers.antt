use Rattle.std.proofs.Common.{◌≡◌, ◌<◌, [], None, length, map, sym, ap, ap₂, ◌∙◌, arith}
use Rattle.std.specs.Prelude.{fold}
use Rattle.std.specs.List.{range_with_len}
use Rattle.std.proofs.lemmas.List.FromFn.{map-range_with_len_more}
use Rattle.std.proofs.lemmas.List.Sums.{fold_push}
use Rattle.sja_sweep.specs.FirstErrors.{earlier, error_by, errors_of_node, first_bit, first_of_node}
use Rattle.sja_sweep.proofs.TriedRuns.ErrorLemmas.{read_seen}
use Rattle.sja_sweep.proofs.first_error.first_error.Goals as goal

pub loop-node-preserved : goal.loop-node-preserved
loop-node-preserved c =
    let k = c.loop-node.node in
    let without = map (λ v. v.items) c.args.without.now in
    let now = map (λ v. v.items) c.args.now.now in
    let f = first_of_node without now in
    let less : k < length c.args.now.now = omega arith in
    let there : k < length c.args.without.now = omega (arith, c.requires) in
    let before : c.as_slice.result.now ≡ errors_of_node without k =
    c.as_slice.ensures.value
    ∙ read_seen (λ v. v.items) c.args.without.now k c.index-without-node.result [] there c.index-without-node.is in
    let after : c.as_slice-errors.result.now ≡ errors_of_node now k =
    c.as_slice-errors.ensures.value
    ∙ read_seen (λ v. v.items) c.args.now.now k c.index-now-node.result [] less c.index-now-node.is in
    let one : c.error_by.result ≡ f k =
    c.error_by.ensures
    ∙ ap₂ (error_by k) after (c.first_bit-bit.ensures ∙ ap₂ first_bit before after) in
    c.earlier-earliest.ensures ∙ ap₂ earlier c.loop-node.invariant one
    ∙ sym (fold_push earlier None (map f (range_with_len 0 k)) (f k))
    ∙ sym (ap (fold earlier None) (map-range_with_len_more f 0 k k (omega arith)))
