use Rattle.std.proofs.Common.{◌<◌, ◌≤◌, arith}
use Rattle.text_trace.specs.TraceRest.PassesUnsaid.{none}
use Rattle.text_trace.proofs.Stories.Rested.{rest_unsaid}
use Rattle.text_trace.proofs.node_traces.rest_on.Goals as goal

pub rest_all-requires : goal.rest_all-requires
rest_all-requires c = λ k t less.
    let some : 0 < c.rest_for_all-count.result = omega (arith, c.if-count-eq0.false) in
    (c.rest_for_all-count.ensures.rests some k t less).rests

pub returns-then-count-eq0-clause-unsaid : goal.returns-then-count-eq0-clause-unsaid
returns-then-count-eq0-clause-unsaid c = none

pub returns-clause-unsaid : goal.returns-clause-unsaid
returns-clause-unsaid c =
    let some : 0 < c.rest_for_all-count.result = omega (arith, c.if-count-eq0.false) in
    rest_unsaid c.args.bit c.rest_for_all-count.result c.args.node_traces.now _ (c.rest_for_all-count.ensures.rests
    some)
    c.requires c.rest_all.ensures (omega (arith, some))
