-- Why bits in which nothing happens end: how many more find room, and what stands in the way of the next one.
use Rattle.std.proofs.Common.{◌≡◌, ℕ, ◌+◌, ◌-◌, ◌<◌, Bool, List, [], ◌∷◌, ◌++◌, length, ap, subst, arith}
use Rattle.std.proofs.Common.{inl, inr}
use Rattle.std.specs.Prelude.{◌⊎◌, slice_index_or}
use Rattle.std.proofs.lemmas.List.{get_or_default as or_same, length-append}
use Rattle.can_levels.specs.declared.level.Level.{Level}
use Rattle.sja_journal.specs.Written.{Room}
use Rattle.sja_journal.specs.declared.entry.Entry.{Entry}
use Rattle.sja_journal.specs.declared.entry.Entry.TheVariants.{Bit}
use Rattle.sja_regs.specs.declared.bus_turn.BusTurn.{BusTurn}
use Rattle.sja_steps.specs.declared.strike.Strike.{Strike}
use Rattle.sja_steps.specs.Striking.{Strikes}
use Rattle.sja_journal.specs.BitEntries.{judged_as, off_as}
use Rattle.sja_bus.specs.declared.bus_node.BusNode.{BusNode}
use Rattle.sja_bus.specs.declared.struck_nodes.StruckNodes.{StruckNodes}
use Rattle.sja_bus.specs.Inside.Refusing.{AreFree, HaveRoom}
use Rattle.sja_bus.specs.Inside.Rows.{EachBusNode, BusNodeTurns, seen_by}
use Rattle.sja_bus.specs.Inside.RunningOn.{RowsEnd, RowsRunNone, SomeFull}
use Rattle.sja_bus.specs.Inside.Together.{AreQuietRows}
use Rattle.sja_bus.proofs.OneReader.QuietRows.{rooms_after}

-- ---- one journal has no room for more than so many entries, and then for fewer

-- at first
pub full_first : (most fit : ℕ) (bus_nodes : List BusNode) → (fit ≡ most) ⊎ SomeFull fit bus_nodes →
    (most ≡ fit) ⊎ SomeFull (fit - 0) bus_nodes
full_first most fit bus_nodes (inl all) = inl (omega (arith, all))
full_first most fit bus_nodes (inr full) =
    let same : fit ≡ fit - 0 = omega arith in
    let P : ℕ → Type 0 = λ n. SomeFull n bus_nodes in inr (subst P same full)

-- after one bit of each, whatever happened in it
full_turn : {was_told : ℕ → BusTurn → Type 0} {was_kept : ℕ → Type 0} (struck : StruckNodes) (level : Level)
    (bus_nodes after : List BusNode) (n : ℕ) → length after ≡ length bus_nodes →
    EachBusNode (BusNodeTurns was_told was_kept struck level) bus_nodes after →
    ((r : ℕ → Room) → HaveRoom r bus_nodes → HaveRoom r after) → SomeFull n bus_nodes → SomeFull (n - 1) after
full_turn struck level bus_nodes after n count turns rooms (k, few, full) = (
  k,
  omega (arith, few, count),
  λ s.
      let old = slice_index_or bus_nodes k s in let bit = (turns k s few).bit in
      let long = ap (λ (l : List Entry). length l) bit.whole in
      let one = Bit old.drives (seen_by struck level k) ∷ [] in
      let a = length-append ((old.journal.entries ++ one) ++ judged_as bit.verdict) (off_as bit.off) in
      let b = length-append (old.journal.entries ++ one) (judged_as bit.verdict) in
      let c = length-append old.journal.entries one in
      let room = ap (λ (r : Room). r.all) (rooms (λ m. (slice_index_or bus_nodes m s).journal.room)
      (λ m t low. ap (λ (x : BusNode). x.journal.room) (or_same bus_nodes m t s low)) k s (omega (arith, few, count)))
      in
      let free = full s in omega (arith, long, a, b, c, room, free),
)

-- after so many quiet ones
full_after : (to_rest : Bool) (bus_nodes : List BusNode) (n m : ℕ) (after : List BusNode) →
    AreQuietRows to_rest bus_nodes n after → SomeFull m bus_nodes → SomeFull (m - n) after
full_after to_rest bus_nodes n m after rows (k, few, full) =
    let stay = rooms_after to_rest bus_nodes n after rows in let c = stay.count in (
      k,
      omega (arith, few, c),
      λ s.
          let room = ap (λ (r : Room). r.all) (stay.rooms k s few) in let used = stay.used k s few in
          let free = full s in
          omega (arith, room, used, free),
    )

-- after one and then so many, of those that find room: these are all that are asked for, or one journal is full then
pub full_on : {was_told : ℕ → BusTurn → Type 0} {was_kept : ℕ → Type 0} (struck : StruckNodes) (level : Level)
    (to_rest : Bool) (bus_nodes one : List BusNode) (n : ℕ) (after : List BusNode) (most fit run : ℕ) →
    length one ≡ length bus_nodes → EachBusNode (BusNodeTurns was_told was_kept struck level) bus_nodes one →
    ((r : ℕ → Room) → HaveRoom r bus_nodes → HaveRoom r one) → AreQuietRows to_rest one n after →
    (most ≡ fit) ⊎ SomeFull (fit - run) bus_nodes → (most ≡ fit) ⊎ SomeFull (fit - (run + 1 + n)) after
full_on struck level to_rest bus_nodes one n after most fit run count turns rooms rows (inl all) = inl all
full_on struck level to_rest bus_nodes one n after most fit run count turns rooms rows (inr full) =
    let is : fit - run - 1 - n ≡ fit - (run + 1 + n) = omega arith in
    let P : ℕ → Type 0 = λ m. SomeFull m after in
    inr (subst P is (full_after to_rest one n (fit - run - 1) after rows
    (full_turn struck level bus_nodes one (fit - run) count turns rooms full)))

-- ---- why no more are run

-- as many were run as find room and strike nobody
pub ends_full : (to_rest : Bool) (script : List Strike) (from most fit calm run : ℕ) (bus_nodes : List BusNode) →
    (most ≡ fit) ⊎ SomeFull (fit - run) bus_nodes →
    (calm ≡ fit) ⊎ ((node : ℕ) × (node < 8) × Strikes script (from + calm) node) → run ≡ calm →
    RowsRunNone to_rest script (from + run) (most - run) bus_nodes
ends_full to_rest script from most fit calm run bus_nodes used (inr (node, low, hit)) past =
    let at : from + calm ≡ from + run = omega (arith, past) in
    let P : ℕ → Type 0 = λ n. Strikes script n node in inr (inr (inl (node, low, subst P at hit)))
ends_full to_rest script from most fit calm run bus_nodes (inl all) (inl fits) past = inl
    (omega (arith, all, fits, past))
ends_full to_rest script from most fit calm run bus_nodes (inr full) (inl fits) past =
    let none : fit - run ≡ 0 = omega (arith, fits, past) in
    let P : ℕ → Type 0 = λ n. SomeFull n bus_nodes in inr (inl (subst P none full))

-- none was run so far
none_first : (to_rest : Bool) (script : List Strike) (from most run : ℕ) (bus_nodes first : List BusNode) → run ≡ 0 →
    bus_nodes ≡ first → RowsRunNone to_rest script (from + run) (most - run) bus_nodes →
    RowsRunNone to_rest script from most first
none_first to_rest script from most run bus_nodes first none same why =
    let at : from + run ≡ from = omega (arith, none) in let left : most - run ≡ most = omega (arith, none) in
    let P : ℕ → Type 0 = λ n. RowsRunNone to_rest script n (most - run) bus_nodes in
    let Q : ℕ → Type 0 = λ n. RowsRunNone to_rest script from n bus_nodes in
    let R : List BusNode → Type 0 = λ l. RowsRunNone to_rest script from most l in
    subst R same (subst Q left (subst P at why))

-- so after as many as were run, of which no port was told
pub ends_untold : {was_told : ℕ → BusTurn → Type 0} (to_rest : Bool) (script : List Strike) (from most run : ℕ)
    (first bus_nodes : List BusNode) → AreFree run first → (run ≡ 0 → bus_nodes ≡ first) →
    RowsRunNone to_rest script (from + run) (most - run) bus_nodes →
    RowsEnd was_told to_rest script from most first bus_nodes run
ends_untold to_rest script from most run first bus_nodes free same why = record {
  free = free;
  none = λ none. none_first to_rest script from most run bus_nodes first none (same none) why;
  why = inl why;
}
