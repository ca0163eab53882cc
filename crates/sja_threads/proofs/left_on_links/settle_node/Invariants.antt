use Rattle.std.proofs.Common.{◌≡◌, ◌≤◌, length, drop}
use Rattle.std.specs.Vec.Iter.{into_iter_items}
use Rattle.sja_rings.specs.NodeRings.{rings_of_bus, rings_of_driver}
use Rattle.sja_threads.proofs.End.LeftOnLinks.{AreLeftSoFar}
use Rattle.sja_threads.proofs.left_on_links.settle_node.Given as goal

abbrev pub invariant-loop-link : goal.invariant-loop-link
invariant-loop-link l = record {
  few : l.activation ≤ length (rings_of_bus l.fn.bus);
  rest : into_iter_items l.link-iterator ≡ drop l.activation (rings_of_bus l.fn.bus);
  ends : into_iter_items l.ends ≡ drop l.activation (rings_of_driver l.fn.driver);
  left : AreLeftSoFar l.fn.bus l.fn.driver l.activation l.left;
}
