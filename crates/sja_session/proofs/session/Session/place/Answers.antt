use Rattle.std.proofs.Common.{ℕ, List, length, ap, arith}
use Rattle.sja_serial.specs.Serial.{all_acts}
use Rattle.sja_serial.proofs.AllNodes.Several.{at_own}
use Rattle.sja_session.proofs.session.Session.place.Goals as goal

pub place-requires : goal.place-requires
place-requires c =
    let inv = c.self.invariant.0 in let near = c.if-from-nodes.false in let n = c.nodes.ensures.value in
    let count = inv.at.count in
    let all = inv.at.stands.stands.may.nodes in let steps = ap (λ (l : List ℕ). length l) inv.at.stands.stands.steps in
    ((all_acts inv.step_runs, at_own inv.at.stands.stands), omega (arith, near, n, count, all, steps))
