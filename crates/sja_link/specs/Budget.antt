-- What holds of every world of one link (this project's own rule).
use Rattle.std.specs.Prelude.{◌≡◌, ◌+◌, ◌≤◌, List, ◌++◌, length}
use Rattle.sja_journal.specs.declared.down.Down.{Down}
use Rattle.sja_journal.specs.declared.up.Up.{Up}
use Rattle.sja_link.specs.World.{WorldValue, free, held, way}

pub record IsBudget (w : WorldValue) : Type 0 where
  -- what was got is a front of what was put, and what was taken of what was given
  pub down : List Down
  pub up : List Up
  pub put_is : w.lists.put ≡ w.lists.got ++ down
  pub given_is : w.lists.given ≡ w.lists.taken ++ up
  -- the 64 bytes are free, or held, or on the way back
  pub sum : free w + held w + way w ≡ 64
  -- no more items lie on the link than it has room for
  pub few_down : length down ≤ 22
  pub few_up : length up ≤ 24
