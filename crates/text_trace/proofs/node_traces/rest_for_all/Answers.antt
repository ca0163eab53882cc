use Rattle.std.proofs.Common.{◌<◌, ◌≤◌, ◌≡◌, ℕ, arith, rules, sym, subst, inl, inr}
use Rattle.std.proofs.lemmas.Bool.{cases_lt}
use Rattle.std.specs.Prelude.{slice_index_or}
use Rattle.text_trace.specs.declared.node_trace.NodeTrace.{NodeTrace}
use Rattle.text_trace.specs.TraceRest.{NodeTraceRests}
use Rattle.text_trace.proofs.Stories.Rested.{node_trace_fewer, node_trace_at}
use Rattle.text_trace.proofs.node_traces.rest_for_all.Goals as goal

pub loop-node_trace-preserved : goal.loop-node_trace-preserved
loop-node_trace-preserved c =
    let l = c.loop-node_trace in
    let least = c.rest_for-count.ensures.most in
    record {
      most = (let before = l.invariant.most in omega (arith, least, before));
      rests = λ some k t less.
          node_trace_at c.args.bit l.count c.rest_for-count.result c.args.node_traces.now l.node_trace-index
          c.node_trace-item.result
          c.node_trace-item.is least (l.invariant.rests (omega (arith, some, least))) (c.rest_for-count.ensures.rests
          some)
          k t (omega (arith, less)) (search rules);
    }

pub returns-clause-rests : goal.returns-clause-rests
returns-clause-rests c = λ some k t less.
    let l = c.loop-node_trace in let all = c.loop-node_trace-test.false in l.invariant.rests some k t
    (omega (arith, less, all))
