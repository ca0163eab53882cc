use Rattle.std.proofs.Common.{◌≡◌, ◌+◌, ◌<◌, ◌^◌, ◌++◌, ◌∙◌, true, length, string_bytes}
use Rattle.std.proofs.Common.{rules, refl, sym, ap, subst, append-nil}
use Rattle.std.proofs.lemmas.List.{get_or_default as or_same}
use Rattle.std.specs.Prelude.{slice_index_or}
use Rattle.text_trace.specs.Inside.Reading.{HearsOne, other_line}
use Rattle.lemmas.proofs.ChangedInTurn.{part_none, part_at, part_next, part_all}
use Rattle.text_trace.specs.declared.node_trace.NodeTrace.{NodeTrace}
use Rattle.text_trace.proofs.SoFar.InTurn.{lines_next, lines_all}
use Rattle.text_trace.proofs.Stories.Heard.{line_before}
use Rattle.text_trace.proofs.frame_bits.hear_all.Goals as goal

pub loop-k-init : goal.loop-k-init
loop-k-init c = record {
  hears = part_none HearsOne c.args.node_traces.now;
  text = sym (append-nil (string_bytes c.args.text.now));
}

pub hear-requires : goal.hear-requires
hear-requires c =
    let k = c.loop-k.k in let d = c.index-node_traces-k-in-loop-k.result in
    let here : k < length c.loop-k.node_traces = search rules in
    let there : k < length c.args.node_traces.now = search rules in
    let P : NodeTrace → Type 0 = λ t. t.reads ≡ true → t.bits.replay.bits + 1 < 2 ^ 32 in
    subst P (sym (part_at HearsOne k c.args.node_traces.now c.loop-k.node_traces d c.loop-k.invariant.hears here))
    (c.requires k d there)

pub loop-k-preserved : goal.loop-k-preserved
loop-k-preserved c =
    let k = c.loop-k.k in
    let ts = c.loop-k.node_traces in
    let d = c.index-node_traces-k-in-loop-k.result in
    let old = string_bytes c.loop-k.text in
    let here : k < length ts = search rules in
    let same : slice_index_or ts k c.index-node_traces-k.result ≡ slice_index_or ts k d =
    or_same ts k c.index-node_traces-k.result d here in
    record {
      hears = part_next HearsOne k c.args.node_traces.now ts d c.hear.new.self c.loop-k.invariant.hears here
          c.hear.ensures;
      text = lines_next (other_line c.args.bus c.args.bit) k ts c.hear.new.self _ _ _ here c.loop-k.invariant.text
          (c.in_ok-put_other.ensures.text
          ∙ ap (λ (t : NodeTrace). old ++ other_line c.args.bus c.args.bit k t) same
          ∙ ap (λ l. old ++ l)
          (line_before c.args.bus c.args.bit k (slice_index_or ts k d) c.hear.new.self (slice_index_or ts k d).reads
          refl c.hear.ensures));
    }

pub returns-clause-hears : goal.returns-clause-hears
returns-clause-hears c =
    part_all HearsOne c.loop-k.k c.args.node_traces.now c.loop-k.node_traces c.loop-k.invariant.hears (search rules)

pub returns-clause-text : goal.returns-clause-text
returns-clause-text c =
    c.loop-k.invariant.text
    ∙ ap (λ l. string_bytes c.args.text.now ++ l)
    (lines_all (other_line c.args.bus c.args.bit) 0 c.loop-k.k c.loop-k.node_traces (search rules))
