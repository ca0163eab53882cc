use Rattle.std.proofs.Common.{◌<◌, ◌∙◌, length, refl, rules}
use Rattle.text_trace.specs.Inside.Reading.{OtherPasses, other_driven}
use Rattle.lemmas.proofs.ChangedInTurn.{part_none, part_next, part_all}
use Rattle.text_trace.proofs.SoFar.InTurn.{level_next, level_all}
use Rattle.text_trace.proofs.readers.pass_others.Goals as goal

pub loop-k-init : goal.loop-k-init
loop-k-init c = record { passes = part_none OtherPasses c.args.node_traces.now; bus = refl }

pub loop-k-preserved : goal.loop-k-preserved
loop-k-preserved c =
    let here : c.loop-k.k < length c.loop-k.node_traces = search rules in
    record {
      passes = part_next OtherPasses c.loop-k.k c.args.node_traces.now c.loop-k.node_traces c.index-node_traces-k.result
          c.pass_other-bus.new.self c.loop-k.invariant.passes here c.pass_other-bus.ensures.passes;
      bus = level_next other_driven c.loop-k.k c.loop-k.node_traces c.pass_other-bus.new.self c.loop-k.bus _ here
          c.loop-k.invariant.bus c.pass_other-bus.ensures.driven;
    }

pub returns-clause-passes : goal.returns-clause-passes
returns-clause-passes c =
    part_all OtherPasses c.loop-k.k c.args.node_traces.now c.loop-k.node_traces c.loop-k.invariant.passes (search rules)

pub returns-clause-bus : goal.returns-clause-bus
returns-clause-bus c =
    c.loop-k.invariant.bus ∙ level_all other_driven c.loop-k.k c.loop-k.node_traces (search rules)
