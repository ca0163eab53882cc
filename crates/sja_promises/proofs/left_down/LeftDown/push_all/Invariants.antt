use Rattle.std.proofs.Common.{◌≡◌, ◌+◌, ◌++◌, length, drop}
use Rattle.sja_link.specs.Deques.{all_down}
use Rattle.sja_promises.proofs.left_down.LeftDown.push_all.Given as goal

-- what was added, and what lies on the links that are left, are the whole
abbrev pub invariant-loop-link : goal.invariant-loop-link
invariant-loop-link l = record {
  items : l.self ++ all_down l.activation (drop l.link-index l.links) ≡ l.fn.self ++ all_down l.first l.links;
  few : l.activation + length (drop l.link-index l.links) ≡ l.first + length l.links;
}
