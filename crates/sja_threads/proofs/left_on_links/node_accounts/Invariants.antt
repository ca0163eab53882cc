use Rattle.std.specs.Vec.Iter.{into_iter_items}
use Rattle.sja_rings.specs.NodeRings.{rings_of_bus, rings_of_driver}
use Rattle.sja_threads.specs.Inside.Settling.{CameFrom}
use Rattle.sja_threads.proofs.End.GoneThrough.{AreGone}
use Rattle.sja_threads.proofs.left_on_links.node_accounts.Given as goal

abbrev pub invariant-loop-link : goal.invariant-loop-link
invariant-loop-link l =
    AreGone CameFrom (rings_of_bus l.fn.bus) (rings_of_driver l.fn.driver) (into_iter_items l.link-iterator)
    (into_iter_items l.ends)
