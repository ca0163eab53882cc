use Rattle.can_node.proofs.together.take_both.Goals as goal

pub returns-clause-one : goal.returns-clause-one
returns-clause-one c =
    let took = c.if-not-take_inside-2.false in λ yes. record {
      right = λ seen h. (c.take_inside-2.ensures.exactly seen h).0 took;
      stands = c.take_inside-2.ensures.takes took;
      inside = c.take_inside-2.ensures.inside took;
      near = c.take_inside-2.ensures.near;
    }

pub returns-clause-other : goal.returns-clause-other
returns-clause-other c =
    let took = c.if-not-take_inside.false in λ yes. record {
      right = λ seen h. (c.take_inside.ensures.exactly seen h).0 took;
      stands = c.take_inside.ensures.takes took;
      inside = c.take_inside.ensures.inside took;
      near = c.take_inside.ensures.near;
    }
