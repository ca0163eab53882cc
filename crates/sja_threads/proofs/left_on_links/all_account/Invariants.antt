use Rattle.std.specs.Vec.Iter.{into_iter_items}
use Rattle.sja_threads.specs.Inside.Settling.{AllCameFrom}
use Rattle.sja_threads.proofs.End.GoneThrough.{AreGone}
use Rattle.sja_threads.proofs.left_on_links.all_account.Given as goal

abbrev pub invariant-loop-link : goal.invariant-loop-link
invariant-loop-link l =
    AreGone AllCameFrom l.fn.links.items l.fn.ends.items (into_iter_items l.link-iterator) (into_iter_items l.ends)
