use Rattle.std.proofs.Common.{arith}
use Rattle.sja_link.proofs.deque_links.DequeLinks.is_next.Goals as goal

pub overflow_add-self-inside : goal.overflow_add-self-inside
overflow_add-self-inside c =
    let inside = c.self.invariant.inside in let most = c.self.invariant.most in let len = c.len.ensures in
    omega (arith, inside, most, len)
