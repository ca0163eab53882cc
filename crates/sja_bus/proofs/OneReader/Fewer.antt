-- Who goes on with a node for so many bits goes on with it for fewer.
use Rattle.std.proofs.Common.{◌≤◌, ℕ, arith}
use Rattle.can_node.specs.declared.node.Node.{Node}
use Rattle.can_node.specs.Together.{GoesWith}
use Rattle.can_node.specs.Together.GoesWith.{receives, rests, sends}

pub fewer : (a b : Node) (m n : ℕ) → m ≤ n → GoesWith a n b → GoesWith a m b
fewer a b m n few (receives h) = receives h
fewer a b m n few (rests h) = rests h
fewer a b m n few (sends h) = sends (record {
  sends = h.sends;
  same = h.same;
  drives = h.drives;
  agree = λ place low. h.agree place (omega (arith, low, few));
})
