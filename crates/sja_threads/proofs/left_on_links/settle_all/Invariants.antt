use Rattle.std.proofs.Common.{◌≡◌, ◌≤◌, length, drop}
use Rattle.std.specs.Vec.Iter.{into_iter_items}
use Rattle.sja_threads.specs.Inside.Settling.{AreLeftOn}
use Rattle.sja_threads.proofs.left_on_links.settle_all.Given as goal

abbrev pub invariant-loop-link : goal.invariant-loop-link
invariant-loop-link l = record {
  few : length l.lists.items ≤ length l.fn.links.items;
  rest : into_iter_items l.link-iterator ≡ drop (length l.lists.items) l.fn.links.items;
  ends : into_iter_items l.ends ≡ drop (length l.lists.items) l.fn.ends.items;
  left : AreLeftOn l.fn.links.items l.fn.ends.items (length l.lists.items) l.lists.items;
}
