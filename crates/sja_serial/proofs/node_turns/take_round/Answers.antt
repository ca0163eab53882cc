use Rattle.std.proofs.Common.{rules, ◌≡◌, ℕ, ◌<◌, ◌+◌, suc, length, ap, ◌∙◌, subst, arith}
use Rattle.sja_serial.specs.Inside.Rounds.{TakesAll}
use Rattle.sja_serial.specs.Inside.Rounds.TakesAll.{no_node_more, one_node}
use Rattle.sja_serial.specs.Stepping.{with_step_runs}
use Rattle.sja_serial.proofs.node_turns.take_round.Goals as goal

pub loop-node-preserved : goal.loop-node-preserved
loop-node-preserved c = record {
  bits = let h = c.requires.run in let m = c.loop-node.invariant.goes h.0 h.1 in
      (c.take_all_steps.ensures m.0 m.1).bits ∙ c.loop-node.invariant.bits;
  goes = λ step_runs h.
      let node = c.loop-node.node in let plan = c.args.plan.now in
      let m = c.loop-node.invariant.goes step_runs h in let t = c.take_all_steps.ensures m.0 m.1 in
      let less : node < length plan.nodes = search rules in (
        with_step_runs m.0 node t.more,
        t.stands,
        λ after last rest. m.2 after last (one_node node m.0 after c.loop-node.run c.take_all_steps.new.run last less t
            (subst (λ (n : ℕ). TakesAll plan n (with_step_runs m.0 node t.more) c.take_all_steps.new.run after last)
            (omega arith) rest)),
      );
}

pub returns-clause-round : goal.returns-clause-round
returns-clause-round c = λ step_runs h.
    let m = c.loop-node.invariant.goes step_runs h in let far = c.loop-node-test.false in
    let many = c.nodes-node-end.ensures.value in
    (m.0, m.2 m.0 c.loop-node.run (no_node_more c.loop-node.node m.0 c.loop-node.run (omega (arith, far, many))), m.1)
