-- That all was taken from the links of all controllers right before a bit.
use Rattle.std.specs.Prelude.{◌<◌, ℕ, List, length, slice_index_or}
use Rattle.sja_link.specs.declared.bus_end.BusEnd.{Ghosts as Ends}
use Rattle.sja_journal.specs.Accounts.{Account}
use Rattle.lemmas.specs.Related.{EachRelated}
use Rattle.sja_bus.specs.declared.bus_node.BusNode.{BusNode}
use Rattle.sja_journal.specs.Links.{Kept}
use Rattle.sja_bus.specs.TakingAll.{HasTaken}
use Rattle.sja_bus.specs.Inside.Rows.{AllRead}

-- right before the bit the links were these: the one that each bus node reads showed nothing, and what had been taken
-- is what the bus nodes' journals have now
pub record RowTakesAll {E : Type 0} (e : Ends E) (bus_nodes after : List BusNode) (links : List E) : Type 0 where
  pub between : List E
  pub sames : EachRelated e.same links between
  pub read : AllRead e.dry after between
  pub taken : (k : ℕ) (s : BusNode) (d : E) (h : ℕ → Account) → k < length bus_nodes →
      Kept e.stands (slice_index_or bus_nodes k s).journal.entries (slice_index_or links k d) h →
      HasTaken e.stands (slice_index_or bus_nodes k s).journal.entries (slice_index_or after k s).journal.entries
      (slice_index_or between k d) h
