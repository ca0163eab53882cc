-- Bits before each of which no port was told anything: the journals have bits alone more.
use Rattle.std.proofs.Common.{◌≡◌, ◌≢◌, ℕ, ◌+◌, ◌-◌, ◌<◌, ◌≤◌, Bool, false, true, None, List, [], ◌∷◌, ◌++◌, length}
use Rattle.std.proofs.Common.{inl, inr, sym, ap, ◌∙◌, subst, arith}
use Rattle.std.specs.Prelude.{◌⊎◌, Option, slice_index_or}
use Rattle.can_levels.specs.declared.level.Level.{Level}
use Rattle.can_node.specs.Stands.{ShowsRest}
use Rattle.sja_journal.specs.Written.{Room}
use Rattle.sja_journal.specs.declared.entry.Entry.{Entry}
use Rattle.sja_journal.specs.declared.entry.Entry.TheVariants.{Bit}
use Rattle.sja_regs.specs.declared.orders.Orders.{Orders}
use Rattle.sja_steps.specs.declared.strike.Strike.{Strike}
use Rattle.sja_bus.specs.declared.board.Board.{Ghosts as Ports}
use Rattle.sja_journal.specs.declared.bus_fault.BusFault.{BusFault}
use Rattle.can_levels.specs.BusLevel.{wired}
use Rattle.sja_bus_rules.specs.Wire.{journal_at}
use Rattle.sja_bus.specs.declared.bus_node.BusNode.{BusNode}
use Rattle.sja_bus_rules.specs.Buses.{BusValue}
use Rattle.sja_bus_rules.specs.Reasons.{room_for}
use Rattle.sja_bus.specs.Moment.{Moment}
use Rattle.sja_bus.specs.UntilTold.{EndsUntilTold, HasBitsMore, IsLastTurn, NoMore, NoneTold, RunsNone, TellsNothing}
use Rattle.sja_bus.specs.UntilTold.{HasFree, IsCalm, WorksUntold}
use Rattle.sja_bus.specs.UntilTold.EndsUntilTold.{no_more as by_none, told as by_told}
use Rattle.sja_bus.specs.UntilTold.HasBitsMore.{none, one_more}
use Rattle.sja_bus.specs.UntilTold.NoMore.{all_run, spent, rests, struck, full}
use Rattle.sja_bus.specs.UntilTold.RunsNone.{no_more, untold, aborts}
use Rattle.sja_bus.specs.Inside.Refusing.{AreFree, HaveRoom}
use Rattle.sja_bus.specs.Inside.Rows.{AreReady, AreTold, EachBusNode, BusNodeHasBits, driven_by, journals_of}
use Rattle.sja_bus.specs.Inside.RunningOn.{NoneAborts, RowsRunNone, SomeAborts, SomeTold, SomeUntold, moment_of}
use Rattle.sja_bus.specs.Inside.Together.{IsQuietRow}
use Rattle.sja_bus.specs.Inside.Turning.{IsIdleBit, is_untold}
use Rattle.sja_bus.proofs.AtPorts.TurnsTold.{idle_bit}
use Rattle.sja_bus.proofs.AllNodes.BitAfterBit.{some_work}
use Rattle.sja_bus.proofs.AllNodes.RanOn.{bus_with}
use Rattle.sja_bus.proofs.AllNodes.Running.{count_is, journal_is, untold_is}
use Rattle.sja_bus.proofs.Resting.Rests.{rests_at}

pub bus_node_at : (bus_nodes : List BusNode) (k : ℕ) → k < length bus_nodes → BusNode
bus_node_at [] k few = absurd (omega (arith, few))
bus_node_at (s ∷ bus_nodes) k few = s

-- one bit more
pub bit_more : (j k l : List Entry) (driven seen : Level) → HasBitsMore j k → TellsNothing k driven seen →
    l ≡ k ++ Bit driven seen ∷ [] → HasBitsMore j l
bit_more j k l driven seen more tells is =
    subst (λ (x : List Entry). HasBitsMore j x) (sym is) (one_more k driven seen more tells)

pub idle_more : (seen : Level) (old new : BusNode) → IsIdleBit seen old new →
    HasBitsMore old.journal.entries new.journal.entries
idle_more seen old new bit =
    bit_more old.journal.entries old.journal.entries new.journal.entries old.drives seen none bit.tells bit.whole

-- several more
pub bits_then : (j k l : List Entry) → HasBitsMore j k → HasBitsMore k l → HasBitsMore j l
bits_then j k _ first none = first
bits_then j k _ first (one_more l driven seen more tells) =
    one_more l driven seen (bits_then j k l first more) tells

-- of each bus node
pub bus_nodes_then : (begun bus_nodes after : List BusNode) → length bus_nodes ≡ length begun →
    EachBusNode BusNodeHasBits begun bus_nodes →
    EachBusNode BusNodeHasBits bus_nodes after → EachBusNode BusNodeHasBits begun after
bus_nodes_then begun bus_nodes after count first more m s few =
    bits_then (slice_index_or begun m s).journal.entries (slice_index_or bus_nodes m s).journal.entries
    (slice_index_or after m s).journal.entries (first m s few) (more m s (omega (arith, few, count)))

-- bits in which nothing happens
pub row_bits : (to_rest : Bool) (begun bus_nodes after : List BusNode) → length bus_nodes ≡ length begun →
    AreReady bus_nodes →
    EachBusNode BusNodeHasBits begun bus_nodes → IsQuietRow to_rest bus_nodes after →
    EachBusNode BusNodeHasBits begun after
row_bits to_rest begun bus_nodes after count ready first row m s few =
    let old = slice_index_or bus_nodes m s in let new = slice_index_or after m s in
    let here : m < length bus_nodes = omega (arith, few, count) in let level = wired (driven_by bus_nodes) in
    bits_then (slice_index_or begun m s).journal.entries old.journal.entries new.journal.entries (first m s few)
    (idle_more level old new (idle_bit level old new (ready m s here).ready (row.bits m s here)))

-- since the bus had these bus nodes no port was told anything
none_told : {E B : Type 0} (script : List Strike) (starts : ℕ) (steps : List ℕ) (from run left less : ℕ)
    (begun bus_nodes : List BusNode) (given links : List E) (first board : B) → board ≡ first →
    length bus_nodes ≡ length begun → EachBusNode BusNodeHasBits begun bus_nodes →
    NoneTold (moment_of script starts steps from left begun given first) (moment_of script starts steps run less
    bus_nodes
    links board)
none_told script starts steps from run left less begun bus_nodes given links first board still count more = record {
  board = still;
  journals = λ node few. each node (let c = count_is begun in omega (arith, few, c));
}
  where
    each : (node : ℕ) → node < length begun →
        HasBitsMore (journal_at (journals_of begun) node) (journal_at (journals_of bus_nodes) node)
    each node few = let s = bus_node_at begun node few in
        subst (λ (j : List Entry). HasBitsMore j (journal_at (journals_of bus_nodes) node))
        (sym (journal_is begun node s few))
        (subst (λ (j : List Entry). HasBitsMore (slice_index_or begun node s).journal.entries j)
        (sym (journal_is bus_nodes node s (omega (arith, few, count)))) (more node s few))

-- and some node works, where that is asked for
pub works_untold : {E B : Type 0} (to_rest : Bool) (script : List Strike) (starts : ℕ) (steps : List ℕ)
    (from run left less : ℕ) (begun bus_nodes : List BusNode) (given links : List E) (first board : B) →
    AreReady bus_nodes →
    (to_rest ≡ true → (k : ℕ) × (k < length bus_nodes) × ((s : BusNode) → ShowsRest (slice_index_or bus_nodes k s).node
    false)) →
    board ≡ first → length bus_nodes ≡ length begun → EachBusNode BusNodeHasBits begun bus_nodes →
    WorksUntold to_rest (moment_of script starts steps from left begun given first)
    (moment_of script starts steps run less bus_nodes links board)
works_untold to_rest script starts steps from run left less begun bus_nodes given links first board ready works still
    len
    more = (
      λ yes. some_work bus_nodes ready (works yes),
      none_told script starts steps from run left less begun bus_nodes given links first board still len more,
    )

-- ---- why none of them was run, and why no more

-- why no more are run of so many, after n of them: by how many were asked for, by a journal, by the script, or as all
-- nodes are at rest
module _ (to_rest : Bool) (count : ℕ) (script : List Strike) (starts : ℕ) (steps : List ℕ) (run left : ℕ)
    (fault : Option BusFault) (bus_nodes : List BusNode) where
  inside : (k : ℕ) → k < length bus_nodes → k < length (journals_of bus_nodes)
  inside k few = let c = count_is bus_nodes in omega (arith, few, c)

  none_after : (n more : ℕ) → (more ≡ 0 → n ≡ count) → AreReady bus_nodes →
      HaveRoom (room_for (run + left) steps) bus_nodes →
      RowsRunNone to_rest script run more bus_nodes → NoMore to_rest count n (bus_with script starts steps run left
      fault
      bus_nodes)
  none_after n more all ready rooms (inl zero) = all_run (all zero)
  none_after n more all ready rooms (inr (inl some)) =
      let s = bus_node_at bus_nodes some.0 some.1 in let room = ap (λ (r : Room). r.all) (rooms some.0 s some.1) in
      let free = some.2 s in
      let P : List Entry → Type 0 = λ j. (room_for (run + left) steps some.0).all ≤ length j in
      full some.0 (inside some.0 some.1) (subst P (sym (journal_is bus_nodes some.0 s some.1))
      (omega (arith, room, free)))
  none_after n more all ready rooms (inr (inr (inl some))) = struck some.0 some.1 some.2
  none_after n more all ready rooms (inr (inr (inr some))) = rests some.0 (λ k few.
      let c = count_is bus_nodes in let near : k < length bus_nodes = omega (arith, few, c) in
      rests_at bus_nodes true k ready few (λ s. some.1 k s near))

  -- there is room for so many
  pub free_bus : (n : ℕ) → n ≢ 0 → AreFree n bus_nodes → HaveRoom (room_for (run + left) steps) bus_nodes →
      HasFree n (bus_with script starts steps run left fault bus_nodes)
  free_bus n some free rooms node few =
      let c = count_is bus_nodes in let near : node < length bus_nodes = omega (arith, few, c) in
      let s = bus_node_at bus_nodes node near in let fits = free node s near in
      let room = ap (λ (r : Room). r.all) (rooms node s near) in
      let P : List Entry → Type 0 = λ j. length j + n ≤ (room_for (run + left) steps node).all in
      subst P (sym (journal_is bus_nodes node s near)) (omega (arith, fits, room, some))

  module _ (orders_are : ℕ → Orders → Type 0) where
    -- some may be run
    pub calm_bus : NoneAborts orders_are (length bus_nodes) → AreTold bus_nodes →
        IsCalm orders_are (bus_with script starts steps run left fault bus_nodes)
    calm_bus asked calm = record {
      told = λ node few. let c = count_is bus_nodes in let near : node < length bus_nodes = omega (arith, few, c) in
          let s = bus_node_at bus_nodes node near in
          untold_is bus_nodes node s near ∙ ap is_untold (calm node s near);
      orders = λ node few. let c = count_is bus_nodes in asked node (omega (arith, few, c));
    }

    -- none was run: by a port
    pub held_by_port : SomeAborts orders_are (length bus_nodes) ⊎ SomeUntold bus_nodes →
        RunsNone orders_are to_rest count (bus_with script starts steps run left fault bus_nodes)
    held_by_port (inl some) = aborts some.0 some.1 (inside some.0 some.2) some.3 some.4
    held_by_port (inr some) = let s = bus_node_at bus_nodes some.0 some.1 in
        untold some.0 (inside some.0 some.1) (untold_is bus_nodes some.0 s some.1 ∙ some.2 s)

    -- by the rest
    pub held_by_rows : AreReady bus_nodes → HaveRoom (room_for (run + left) steps) bus_nodes →
        RowsRunNone to_rest script run count bus_nodes →
        RunsNone orders_are to_rest count (bus_with script starts steps run left fault bus_nodes)
    held_by_rows ready rooms why = no_more (none_after 0 count (λ zero. sym zero) ready rooms why)

-- some were run, and no more, or a port was told in the last one
pub ended : {E B : Type 0} (b : Ports B) (to_rest : Bool) (most n : ℕ) (script : List Strike) (starts : ℕ)
    (steps : List ℕ) (run left : ℕ) (bus_nodes : List BusNode) (was : Moment E B) (links : List E) (board : B) →
    n ≤ most → AreReady bus_nodes → HaveRoom (room_for (run + left) steps) bus_nodes →
    RowsRunNone to_rest script run (most - n) bus_nodes ⊎ SomeTold (b.told was.board board) bus_nodes →
    EndsUntilTold b to_rest most was n (moment_of script starts steps run left bus_nodes links board)
ended b to_rest most n script starts steps run left bus_nodes was links board few ready rooms (inl why) =
    by_none (none_after to_rest most script starts steps run left None bus_nodes n (most - n) (λ zero. omega (
      arith,
      zero,
      few,
    ))
    ready rooms why)
ended b to_rest most n script starts steps run left bus_nodes was links board few ready rooms (inr some) =
    let s = bus_node_at bus_nodes some.node some.few in let P : List Entry → Type 0 = λ j. IsLastTurn j some.turn in
    by_told some.node some.turn (inside to_rest most script starts steps run left None bus_nodes some.node some.few)
    some.told
    (subst P (sym (journal_is bus_nodes some.node s some.few)) (some.last s))

-- of as many as are left of those that were asked for
pub none_of : (to_rest : Bool) (most count n : ℕ) (bus : BusValue) → (most ≡ count) ⊎ (most ≡ bus.left + n) →
    NoMore to_rest most n bus → NoMore to_rest count n bus
none_of to_rest most count n bus (inl all) (all_run is) = all_run (is ∙ all)
none_of to_rest most count n bus (inr few) (all_run is) = spent (omega (arith, few, is))
none_of to_rest most count n bus which (spent zero) = spent zero
none_of to_rest most count n bus which (rests asked all) = rests asked all
none_of to_rest most count n bus which (struck node low strikes) = struck node low strikes
none_of to_rest most count n bus which (full node few is) = full node few is

pub held_of : (orders_are : ℕ → Orders → Type 0) (to_rest : Bool) (most count : ℕ) (bus : BusValue) →
    (most ≡ count) ⊎ (most ≡ bus.left) → RunsNone orders_are to_rest most bus → RunsNone orders_are to_rest count bus
held_of orders_are to_rest most count bus (inl all) (no_more why) =
    no_more (none_of to_rest most count 0 bus (inl all) why)
held_of orders_are to_rest most count bus (inr few) (no_more why) =
    no_more (none_of to_rest most count 0 bus (inr (omega (arith, few))) why)
held_of orders_are to_rest most count bus which (untold node few is) = untold node few is
held_of orders_are to_rest most count bus which (aborts node o few are wants) = aborts node o few are wants

pub ended_of : {E B : Type 0} (b : Ports B) (to_rest : Bool) (most count n : ℕ) (was now : Moment E B) →
    (most ≡ count) ⊎ (most ≡ was.bus.left) → now.bus.left + n ≡ was.bus.left →
    EndsUntilTold b to_rest most was n now → EndsUntilTold b to_rest count was n now
ended_of b to_rest most count n was now (inl all) left (by_none why) =
    by_none (none_of to_rest most count n now.bus (inl all) why)
ended_of b to_rest most count n was now (inr few) left (by_none why) =
    by_none (none_of to_rest most count n now.bus (inr (omega (arith, few, left))) why)
ended_of b to_rest most count n was now which left (by_told node turn few is last) = by_told node turn few is last
