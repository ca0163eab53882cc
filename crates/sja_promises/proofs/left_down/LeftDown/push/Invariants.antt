use Rattle.std.proofs.Common.{◌≡◌, ◌≤◌, ◌+◌, ◌++◌, length, drop, vec_capacity}
use Rattle.sja_link.specs.Deques.{on_link}
use Rattle.sja_promises.proofs.left_down.LeftDown.push.Given as goal

-- what was added, and the items that are left, are the whole
abbrev pub invariant-loop-item : goal.invariant-loop-item
invariant-loop-item l = record {
  items : l.self-inside.items.items ++ on_link l.activation (drop l.item-index l.down)
      ≡ l.fn.self ++ on_link l.activation l.down;
  room : length l.self-inside.items.items + length (drop l.item-index l.down) ≤ vec_capacity l.self-inside.items;
}
