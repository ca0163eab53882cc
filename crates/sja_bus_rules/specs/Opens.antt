-- What a node's journal has more before a bit of the bus (this project's own rule).
use Rattle.std.specs.Prelude.{◌≡◌, true, false, List}
use Rattle.sja_regs.specs.declared.orders.Orders.{Orders}
use Rattle.sja_journal.specs.declared.entry.Entry.{Entry}
use Rattle.sja_journal.specs.Aborting.{IsApplied}
use Rattle.sja_journal.specs.BitEntries.{MayHaveItems, MayHaveAbort}

-- the items that were taken, and then an abort or none: none where the port doesn't order one, and where it does as an
-- abort changes the node there
pub record Opens (has_orders : Orders → Type 0) (j k : List Entry) : Type 0 where
  pub taken : List Entry
  pub items : MayHaveItems j taken
  pub aborts : MayHaveAbort taken k
  pub orders : Orders
  pub are_orders : has_orders orders
  pub unasked : orders.abort ≡ false → aborts.changed ≡ false
  pub applied : orders.abort ≡ true → IsApplied taken aborts.changed
