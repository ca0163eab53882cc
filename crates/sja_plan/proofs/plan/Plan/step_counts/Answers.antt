use Rattle.std.proofs.Common.{◌∙◌, ◌<◌, [], ◌∷◌, ◌++◌, length, map, ap, ap₂, sym, arith}
use Rattle.std.proofs.lemmas.List.{map_more, take_all}
use Rattle.sja_plan.proofs.plan.Plan.step_counts.Goals as goal

pub loop-node-preserved : goal.loop-node-preserved
loop-node-preserved c =
    let within : c.loop-node.node < length c.args.self.now.nodes =
    omega (arith, c.loop-node-test.true, c.nodes-nodes.ensures.value) in record {
      count = omega (arith, c.push_reserved.ensures.len, c.loop-node.invariant.count);
      room = omega (arith, c.push_reserved.ensures.capacity, c.loop-node.invariant.room);
      made = c.push_reserved.ensures.items
          ∙ ap₂ (λ a b. a ++ (b ∷ [])) c.loop-node.invariant.made (ap (λ l. length l) c.steps.ensures.value)
          ∙ sym (map_more (λ steps. length steps) c.args.self.now.nodes c.loop-node.node [] within);
    }

pub returns-clause-value : goal.returns-clause-value
returns-clause-value c =
    c.loop-node.invariant.made ∙ ap (map (λ steps. length steps)) (take_all c.loop-node.node c.args.self.now.nodes
    (omega (arith, c.loop-node-test.false, c.nodes-nodes.ensures.value)))
