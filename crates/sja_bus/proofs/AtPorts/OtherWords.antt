-- A bit of a node, where what holds of its port is said in other words.
use Rattle.std.proofs.Common.{Bool, List, inl, inr}
use Rattle.can_levels.specs.declared.level.Level.{Level}
use Rattle.sja_journal.specs.declared.entry.Entry.{Entry}
use Rattle.sja_regs.specs.declared.bus_turn.BusTurn.{BusTurn}
use Rattle.sja_regs.specs.declared.orders.Orders.{Orders}
use Rattle.sja_bus_rules.specs.Buses.{IsNodeBit}

pub other_node_bit : (O P : Orders → Type 0) (T U : BusTurn → Type 0) (K L : Type 0) (untold : Bool) (j k : List Entry)
    (driven seen : Level) → ((o : Orders) → O o → P o) → ((t : BusTurn) → T t → U t) → (K → L) →
    IsNodeBit O T K untold j k driven seen → IsNodeBit P U L untold j k driven seen
other_node_bit O P T U K L untold j k driven seen f g c b = record {
  opened = b.opened;
  opens = record {
    taken = b.opens.taken;
    items = b.opens.items;
    aborts = b.opens.aborts;
    orders = b.opens.orders;
    are_orders = f b.opens.orders b.opens.are_orders;
    unasked = b.opens.unasked;
    applied = b.opens.applied;
  };
  bit = b.bit;
  turn = b.turn;
  is_turn = b.is_turn;
  port = elim b.port [
    | inl told ↦ inl (g b.turn told)
    | inr over ↦ inr (record { kept = c over.kept; told = over.told; same = over.same; alone = over.alone })
  ];
}
