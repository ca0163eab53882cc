use Rattle.std.proofs.Common.{◌≡◌, ◌<◌, ℕ, arith, rules, sym, subst, ap, ◌∙◌, inl, inr, get_or}
use Rattle.std.proofs.lemmas.Bool.{cases_lt}
use Rattle.std.proofs.lemmas.List.{get_or_default as or_same}
use Rattle.std.specs.Prelude.{slice_index_or}
use Rattle.text_trace.specs.declared.node_trace.NodeTrace.{NodeTrace}
use Rattle.text_trace.specs.Inside.Reading.{MayHear}
use Rattle.text_trace.proofs.readers.hear_next.Goals as goal

pub loop-node_trace-preserved : goal.loop-node_trace-preserved
loop-node_trace-preserved c = λ k t less within.
    let l = c.loop-node_trace in
    let ts = c.args.node_traces.now in
    let one = c.node_trace-item.result in
    elim (cases_lt k l.node_trace-index) [
      | inl earlier ↦ l.invariant k t earlier within
      | inr later ↦
          let same : k ≡ l.node_trace-index = omega (arith, less, later) in
          subst (λ (o : NodeTrace). MayHear c.args.bus c.args.bit o)
          (c.node_trace-item.is ∙ ap (λ j. get_or ts j one) (sym same) ∙ or_same ts k one t within)
          (c.hears.ensures c.if-not-hears.false)
    ]

pub returns : goal.returns
returns c = λ yes k t less.
    let l = c.loop-node_trace in
    let all = c.loop-node_trace-test.false in
    l.invariant k t (omega (arith, less, all)) less
