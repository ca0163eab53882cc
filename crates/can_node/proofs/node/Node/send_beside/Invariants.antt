use Rattle.std.proofs.Common.{◌≡◌, ◌≤◌, ◌+◌, ◌-◌, ℕ, length, take, drop}
use Rattle.can_bits.specs.Sending.{place_of}
use Rattle.can_node.specs.declared.node.Node.{Node}
use Rattle.can_node.specs.Together.{SendsAlike, TakesBits}
use Rattle.can_node.proofs.Machine.SendingAlike.{HasSentAlike}
use Rattle.can_node.proofs.node.Node.send_beside.Given as goal

-- so many levels were sent, a node that goes on with this one sent them too, and the other reader took them
abbrev pub invariant-loop-count : goal.invariant-loop-count
invariant-loop-count l = record {
  few : l.count ≤ length l.levels;
  same : length l.levels ≡ length l.initial.levels;
  rest : drop l.count l.levels ≡ drop l.count l.initial.levels;
  near : place_of l.shift ≤ place_of l.self.shift + l.count;
  sent : ((n : ℕ) (other : Node) → l.count ≤ n → SendsAlike l.self n other →
      HasSentAlike l.shift l.next l.count (take l.count l.levels) n other);
  takes : TakesBits l.initial.beside (take l.count l.levels) l.beside;
}

abbrev pub decreases-loop-count : goal.decreases-loop-count
decreases-loop-count l = length l.initial.levels - l.count
