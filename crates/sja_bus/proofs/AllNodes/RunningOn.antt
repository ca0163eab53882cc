-- Bits in which nothing is taken and nothing aborted.
use Rattle.std.proofs.Common.{◌≡◌, ℕ, ◌+◌, ◌-◌, ◌<◌, ◌≤◌, true, false, List, length}
use Rattle.std.proofs.Common.{refl, sym, ◌∙◌, subst, append-nil, arith}
use Rattle.std.specs.Prelude.{slice_index_or, ◌↔◌}
use Rattle.can_levels.specs.declared.level.Level.{Level}
use Rattle.sja_journal.specs.declared.entry.Entry.{Entry}
use Rattle.sja_regs.specs.declared.orders.Orders.{Orders}
use Rattle.sja_regs.specs.declared.bus_turn.BusTurn.{BusTurn}
use Rattle.sja_steps.specs.declared.strike.Strike.{Strike}
use Rattle.sja_steps.specs.Striking.{Strikes}
use Rattle.sja_bus.specs.declared.struck_nodes.StruckNodes.{StruckNodes}
use Rattle.sja_bus.specs.declared.bus_node.BusNode.{BusNode}
use Rattle.sja_bus.specs.Inside.StrikesByBit.{IsAmong}
use Rattle.can_levels.specs.BusLevel.{wired}
use Rattle.sja_bus_rules.specs.Opens.{Opens}
use Rattle.sja_bus.specs.Inside.Rows.{AreReady, EachBusNode, BusNodeTurns, IsBus, driven_by}
use Rattle.sja_bus.specs.Boards.{KeepsOthers}
use Rattle.sja_bus.specs.Inside.RunningOn.{NoneAborts}
use Rattle.sja_bus.specs.Inside.Whole.{IsRowBit}
use Rattle.sja_bus.proofs.Resting.AtRest.{untold_none}
use Rattle.sja_journal.proofs.Growing.Items.{items_none}
use Rattle.sja_bus.proofs.AllNodes.Journals.{all_told, wired_row}
use Rattle.sja_bus.proofs.WholeBus.Logs.{calm_by}

-- ---- one bit

-- no item was taken, and no abort is ordered
pub opens_none : (has_orders : Orders → Type 0) (j : List Entry) (o : Orders) → has_orders o →
    o.abort ≡ false → Opens has_orders j j
opens_none has_orders j o has none = record {
  taken = j;
  items = items_none j;
  aborts = record { changed = false; whole = sym (append-nil j) };
  orders = o;
  are_orders = has;
  unasked = λ no. refl;
  applied = λ yes. let wrong : true ≡ false = sym yes ∙ none in absurd cc;
}

-- of all bus nodes
pub row_on : (orders_are : ℕ → Orders → Type 0) (was_told : ℕ → BusTurn → Type 0) (was_kept : ℕ → Type 0)
    (struck : StruckNodes) (level : Level) (bus_nodes after : List BusNode) →
    NoneAborts orders_are (length bus_nodes) → level ≡ wired (driven_by bus_nodes) →
    EachBusNode (BusNodeTurns was_told was_kept struck level) bus_nodes after →
    IsRowBit orders_are was_told was_kept struck bus_nodes after
row_on orders_are was_told was_kept struck level bus_nodes after none is turns = record {
  opened = bus_nodes;
  level = level;
  count = refl;
  opens = λ m s few. let o = none m few in opens_none (orders_are m)
      (slice_index_or bus_nodes m s).journal.entries o.0 o.1 o.2;
  untold = λ m s few. untold_none (slice_index_or bus_nodes m s);
  is_level = is;
  turns = turns;
}

-- the bus after it
pub bus_row : (orders_are : ℕ → Orders → Type 0) (was_told : ℕ → BusTurn → Type 0) (was_kept : ℕ → Type 0)
    (script : List Strike) (n : ℕ) (struck : StruckNodes) (bus_nodes after : List BusNode) →
    length after ≡ length bus_nodes → length bus_nodes ≤ 8 → ((node : ℕ) → node < 8 →
    IsAmong node struck ↔ Strikes script n node) → IsRowBit orders_are was_told was_kept struck bus_nodes after →
    AreReady after → IsBus script n bus_nodes → (next : ℕ) → next ≡ n + 1 → IsBus script next after
bus_row orders_are was_told was_kept script n struck bus_nodes after len few at row ready bus next is =
    let P : ℕ → Type 0 = λ m. IsBus script m after in
    subst P (sym is) (record {
      ready = ready;
      calm = calm_by after (all_told was_told was_kept struck bus_nodes after len row);
      wired = wired_row orders_are was_told was_kept script n struck bus_nodes after len few at row bus.wired;
    })

-- the ports are as they were when they were asked
pub none_still : {B : Type 0} (orders_are : B → ℕ → Orders → Type 0) (nodes : ℕ) (first board : B)
    (bus_nodes : List BusNode) →
    length bus_nodes ≡ nodes → board ≡ first → NoneAborts (orders_are first) nodes →
    NoneAborts (orders_are board) (length bus_nodes)
none_still orders_are nodes first board bus_nodes count same orders =
    let P : _ → Type 0 = λ b. NoneAborts (orders_are b) (length bus_nodes) in
    let Q : ℕ → Type 0 = λ n. NoneAborts (orders_are first) n in
    subst P (sym same) (subst Q (sym count) orders)

-- a bit in which nothing was taken, and the bus after it
pub record Passes {B : Type 0} (orders_are : B → ℕ → Orders → Type 0) (was_told : ℕ → BusTurn → Type 0)
    (was_kept : ℕ → Type 0) (script : List Strike) (n : ℕ) (struck : StruckNodes) (board : B)
    (bus_nodes after : List BusNode) : Type 0 where
  pub few : length bus_nodes ≤ 8
  pub at : (node : ℕ) → node < 8 → IsAmong node struck ↔ Strikes script n node
  pub row : IsRowBit (orders_are board) was_told was_kept struck bus_nodes after
  pub bus : (next : ℕ) → next ≡ n + 1 → IsBus script next after

pub passes : {B : Type 0} (orders_are : B → ℕ → Orders → Type 0) (was_told : ℕ → BusTurn → Type 0)
    (was_kept : ℕ → Type 0) (script : List Strike) (n nodes : ℕ) (none : StruckNodes) (level : Level)
    (first board : B) (bus_nodes after : List BusNode) →
    nodes ≤ 8 → length bus_nodes ≡ nodes → length after ≡ length bus_nodes → board ≡ first →
    NoneAborts (orders_are first) nodes → ((node : ℕ) → IsAmong node none → ⊥) →
    ((node : ℕ) → node < 8 → Strikes script n node → ⊥) → level ≡ wired (driven_by bus_nodes) →
    EachBusNode (BusNodeTurns was_told was_kept none level) bus_nodes after → AreReady after →
    IsBus script n bus_nodes →
    Passes orders_are was_told was_kept script n none board bus_nodes after
passes orders_are was_told was_kept script n nodes none level first board bus_nodes after most count len same orders
    is_none unstruck is turns ready bus =
    let few : length bus_nodes ≤ 8 = omega (arith, most, count) in
    let at : (node : ℕ) → node < 8 → IsAmong node none ↔ Strikes script n node =
    λ node low. (λ hit. absurd (is_none node hit), λ strikes. absurd (unstruck node low strikes)) in
    let row = row_on (orders_are board) was_told was_kept none level bus_nodes after
    (none_still orders_are nodes first board bus_nodes count same orders) is turns in record {
      few = few;
      at = at;
      row = row;
      bus = bus_row (orders_are board) was_told was_kept script n none bus_nodes after len few at row ready bus;
    }

-- the ports that are of no node, after a bit before which the ports were as they had been at first
pub others_now : {B : Type 0} (ports : B → ℕ) (kept : B → B → ℕ → Type 0) (first board now : B) (n nodes : ℕ) →
    board ≡ first → nodes ≡ n → KeepsOthers ports kept nodes board now → KeepsOthers ports kept n first now
others_now ports kept first board now n nodes same count keeps =
    let P : _ → Type 0 = λ b. KeepsOthers ports kept n b now in
    let Q : ℕ → Type 0 = λ m. KeepsOthers ports kept m board now in subst P same (subst Q count keeps)

-- and where they are so still
pub others_still : {B : Type 0} (ports : B → ℕ) (kept : B → B → ℕ → Type 0) → ((x : B) (m : ℕ) → kept x x m) →
    (first board : B) (n : ℕ) → board ≡ first → KeepsOthers ports kept n first board
others_still ports kept kept_refl first board n same =
    let P : _ → Type 0 = λ b. KeepsOthers ports kept n b board in subst P same (refl, λ m far. kept_refl board m)
