-- Bits of all nodes in which nothing happens, one after the other.
use Rattle.std.proofs.Common.{◌≡◌, ℕ, suc, ◌+◌, ◌-◌, ◌<◌, ◌≤◌, Bool, List, [], ◌∷◌}
use Rattle.std.proofs.Common.{length, refl, sym, ap, ◌∙◌, subst, arith, cond}
use Rattle.std.specs.Prelude.{slice_index_or}
use Rattle.std.specs.Int.{bit_at}
use Rattle.std.proofs.lemmas.Bool.{ne_eqb}
use Rattle.std.proofs.lemmas.List.{length-append}
use Rattle.can_levels.specs.declared.level.Level.{Level}
use Rattle.can_levels.specs.Digits.{opposite}
use Rattle.sja_journal.specs.Written.{Room}
use Rattle.sja_journal.specs.declared.entry.Entry.{Entry}
use Rattle.sja_journal.specs.declared.entry.Entry.TheVariants.{Bit}
use Rattle.sja_link.specs.declared.bus_end.BusEnd.{Ghosts as Ends}
use Rattle.sja_journal.specs.Lists.{Lists}
use Rattle.sja_steps.specs.declared.strike.Strike.{Strike}
use Rattle.sja_steps.specs.Striking.{Strikes}
use Rattle.sja_regs.specs.declared.bus_turn.BusTurn.{BusTurn}
use Rattle.can_levels.specs.BusLevel.{wired}
use Rattle.sja_bus.specs.declared.board.Board.{Ghosts as Ports}
use Rattle.sja_bus.specs.declared.bus_node.BusNode.{BusNode}
use Rattle.sja_bus.specs.Inside.StrikesByBit.{nobody}
use Rattle.sja_bus.specs.Several.{AreBits}
use Rattle.sja_bus.specs.Inside.Refusing.{AreFree, HaveRoom}
use Rattle.sja_bus.specs.Inside.Rows.{AreBegun, AreReady, AreTold, EachBusNode, GoesAll, IsBus, BusNodeTurns, driven_by}
use Rattle.sja_bus.specs.Inside.Rows.{BusNodeHasBits, seen_by}
use Rattle.sja_bus.specs.UntilTold.{WorksUntold}
use Rattle.sja_bus.specs.Inside.RunningOn.{AnyBit, NoneAborts, moment_of}
use Rattle.sja_bus.specs.Inside.Together.{AreQuietRows, IsQuietRow, RunsTogether}
use Rattle.sja_bus.specs.Inside.Turning.{IsQuietBit}
use Rattle.sja_bus.specs.Inside.Together.AreQuietRows.{no_row, one_more}
use Rattle.sja_bus.proofs.AllNodes.RunningOn.{passes}
use Rattle.sja_bus.proofs.AllNodes.Begins.{begun_bits, begun_turned}
use Rattle.sja_bus.proofs.AllNodes.BitAfterBit.{bits_on}
use Rattle.sja_bus.proofs.AllNodes.UntilTold.{row_bits, works_untold}
use Rattle.sja_bus.proofs.AtPorts.TurnsTold.{quiet_turns}
use Rattle.sja_link.proofs.Growing.Moving.{goes_quiet}
use Rattle.sja_bus.proofs.Resting.WholeStretches.{not_among}
use Rattle.lemmas.proofs.Related.{each_refl}

-- ---- what stays, and what each bit takes

-- as many bus nodes, each with the room that it had; and each further entry was free
pub record StayRooms (n : ℕ) (bus_nodes after : List BusNode) : Type 0 where
  pub count : length after ≡ length bus_nodes
  pub rooms : EachBusNode (λ m old new. new.journal.room ≡ old.journal.room) bus_nodes after
  pub used : EachBusNode (λ m old new. length new.journal.entries ≡ length old.journal.entries + n) bus_nodes after

pub rooms_after : (to_rest : Bool) (bus_nodes : List BusNode) (n : ℕ) (after : List BusNode) →
    AreQuietRows to_rest bus_nodes n after → StayRooms n bus_nodes after
rooms_after to_rest bus_nodes _ _ no_row = record {
  count = refl;
  rooms = λ m s few. refl;
  used = λ m s few. omega arith;
}
rooms_after to_rest bus_nodes _ _ (one_more mid after n rows row) =
    let before = rooms_after to_rest bus_nodes n mid rows in let c = before.count in record {
      count = row.count ∙ before.count;
      rooms = λ m s few. row.rooms m s (omega (arith, few, c)) ∙ before.rooms m s few;
      used = λ m s few.
          let near : m < length mid = omega (arith, few, c) in let was = before.used m s few in
          let old = slice_index_or mid m s in
          let whole = ap (λ (l : List Entry). length l) (row.bits m s near).whole in
          let more = length-append old.journal.entries (Bit old.drives (wired (driven_by mid)) ∷ []) in
          omega (arith, was, whole, more);
    }

pub have_room_after : (bus_nodes after : List BusNode) (n : ℕ) → StayRooms n bus_nodes after → (r : ℕ → Room) →
    HaveRoom r bus_nodes →
    HaveRoom r after
have_room_after bus_nodes after n stay r h k s few =
    let c = stay.count in let near : k < length bus_nodes = omega (arith, few, c) in stay.rooms k s near ∙ h k s near

pub free_after : (bus_nodes after : List BusNode) (n m : ℕ) → StayRooms n bus_nodes after → AreFree m bus_nodes →
    AreFree (m - n) after
free_after bus_nodes after n m stay h k s few =
    let c = stay.count in let near : k < length bus_nodes = omega (arith, few, c) in
    let room = ap (λ (r : Room). r.all) (stay.rooms k s near) in let used = stay.used k s near in
    let free = h k s near in
    omega (arith, room, used, free)

pub told_after : (to_rest : Bool) (bus_nodes : List BusNode) (n : ℕ) (after : List BusNode) →
    AreQuietRows to_rest bus_nodes n after → AreTold bus_nodes → AreTold after
told_after to_rest bus_nodes _ _ no_row told = told
told_after to_rest bus_nodes _ _ (one_more mid after n rows row) told = λ k s few.
    let c = row.count in (row.bits k s (omega (arith, few, c))).told

-- none at all
pub none_run : (to_rest : Bool) (bus_nodes after : List BusNode) (n : ℕ) → AreQuietRows to_rest bus_nodes n after →
    n ≡ 0 →
    after ≡ bus_nodes
none_run to_rest bus_nodes _ _ no_row none = refl
none_run to_rest bus_nodes _ _ (one_more mid after n rows row) none = absurd (omega (arith, none))

pub runs_none : (to_rest : Bool) (most : ℕ) (bus_nodes : List BusNode) → RunsTogether to_rest most bus_nodes 0 bus_nodes
runs_none to_rest most bus_nodes = record { few = omega arith; rows = no_row }

-- ---- one of them

-- nobody is struck, so each sees the level
seen_all : (level : Level) (node : ℕ) → level ≡ seen_by nobody level node
seen_all level node =
    ap (λ b. cond b (opposite level) level) (sym (ne_eqb (bit_at 0 node) 1 (not_among node)))

row_turns : (was_told : ℕ → BusTurn → Type 0) (was_kept : ℕ → Type 0) → ((m : ℕ) → was_kept m) → (to_rest : Bool)
    (bus_nodes after : List BusNode) → AreReady bus_nodes → IsQuietRow to_rest bus_nodes after →
    EachBusNode (BusNodeTurns was_told was_kept nobody (wired (driven_by bus_nodes))) bus_nodes after
row_turns was_told was_kept kept to_rest bus_nodes after ready row m s few =
    let level = wired (driven_by bus_nodes) in let old = slice_index_or bus_nodes m s in let new = slice_index_or after
    m s in
    quiet_turns (was_told m) (was_kept m) (seen_by nobody level m) old new (kept m) (ready m s few).ready
    (subst (λ y. IsQuietBit y old new) (seen_all level m) (row.bits m s few))

row_goes : {E : Type 0} (same : E → E → Type 0) (stands : E → ℕ → Lists → Type 0) → ((x : E) → same x x) →
    (to_rest : Bool) (bus_nodes after : List BusNode) (links : List E) → IsQuietRow to_rest bus_nodes after →
    GoesAll same stands bus_nodes after links links
row_goes same stands r to_rest bus_nodes after links row = record {
  sames = each_refl same r links;
  kept = λ k s d h few was.
      let old = slice_index_or bus_nodes k s in let bit = Bit old.drives (wired (driven_by bus_nodes)) in
      rw (row.bits k s few).whole
      ((goes_quiet same stands r (slice_index_or links k d) old.journal.entries bit (λ l. refl)).kept h was);
  grows = λ k s few.
      let old = slice_index_or bus_nodes k s in
      (Bit old.drives (wired (driven_by bus_nodes)) ∷ [], (row.bits k s few).whole);
}

-- ---- all of them

-- the bus so many bits after this one, in none of which a port was told anything
pub record IsAfter {E B : Type 0} (e : Ends E) (b : Ports B) (to_rest : Bool) (script : List Strike)
    (from most : ℕ) (begun : List BusNode) (given : List E) (first : B) (links : List E) (board : B) (run : ℕ)
    (bus_nodes : List BusNode) : Type 0 where
  pub count : length bus_nodes ≡ length begun
  pub bus : IsBus script (from + run) bus_nodes
  pub more : EachBusNode BusNodeHasBits begun bus_nodes
  pub bits : (starts : ℕ) (steps : List ℕ) (left : ℕ) → AreBegun starts begun → most ≤ left →
      AreBits (AnyBit e b) (WorksUntold to_rest (moment_of script starts steps from left begun given first))
      (moment_of script starts steps from left begun given first) run
      (moment_of script starts steps (from + run) (left - run) bus_nodes links board)

module _ {E B : Type 0} (e : Ends E) (b : Ports B) (same_refl : (x : E) → e.same x x)
    (kept_refl : (x : B) (m : ℕ) → b.kept x x m) (to_rest : Bool) (script : List Strike) (from most : ℕ)
    (begun : List BusNode) (given : List E) (first : B) (few : length begun ≤ 8) (links : List E) (board : B)
    (still : board ≡ first) (asked : NoneAborts (b.orders_are first) (length begun))
    (facts : (k : ℕ) → k < length begun → b.facts board k) where
  abbrev So_far : ℕ → List BusNode → Type 0
  So_far run bus_nodes = IsAfter e b to_rest script from most begun given first links board run bus_nodes

  row_on : (run : ℕ) (bus_nodes after : List BusNode) → run < most →
      ((node : ℕ) → node < 8 → Strikes script (from + run) node → ⊥) → IsQuietRow to_rest bus_nodes after →
      So_far run bus_nodes →
      So_far (run + 1) after
  row_on run bus_nodes after early unstruck row far =
      let told = b.told board board in let kept = b.kept board board in let count = far.count in
      let turns = row_turns told kept (λ m. kept_refl board m) to_rest bus_nodes after far.bus.ready row in
      let pass = passes b.orders_are told kept script (from + run) (length begun) nobody (wired (driven_by bus_nodes))
      first
      board bus_nodes after few count row.count still asked not_among unstruck refl turns row.ready far.bus in
      let next = pass.bus (from + (run + 1)) (omega arith) in record {
        count = row.count ∙ count;
        bus = next;
        more = row_bits to_rest begun bus_nodes after count far.bus.ready far.more row;
        bits = λ starts steps left none enough.
            let was = moment_of script starts steps from left begun given first in
            bits_on e b (WorksUntold to_rest was) was script starts steps from run most left nobody bus_nodes after
            links links board board early enough row.count pass.few pass.at pass.row
            (each_refl e.same same_refl links) (refl, λ m far. kept_refl board m)
            (row_goes e.same e.stands same_refl to_rest bus_nodes after links row)
            (begun_turned starts told kept nobody (wired (driven_by bus_nodes)) bus_nodes after row.count turns
            (begun_bits starts begun bus_nodes count far.more none)) far.bus next
            (λ k low. facts k (omega (arith, low, count)))
            (works_untold to_rest script starts steps from (from + run) left (left - run) begun bus_nodes given links
            first board
            far.bus.ready row.works still count far.more) (far.bits starts steps left none enough);
      }

  pub rows_on : (run : ℕ) (bus_nodes : List BusNode) (n : ℕ) (after : List BusNode) → run + n ≤ most →
      ((i node : ℕ) → i < n → node < 8 → Strikes script (from + (run + i)) node → ⊥) →
      AreQuietRows to_rest bus_nodes n after →
      So_far run bus_nodes → So_far (run + n) after
  rows_on run bus_nodes _ _ within unstruck no_row far =
      let P : ℕ → Type 0 = λ k. So_far k bus_nodes in let is : run ≡ run + 0 = omega arith in subst P is far
  rows_on run bus_nodes _ _ within unstruck (one_more mid after n rows row) far =
      let P : ℕ → Type 0 = λ k. So_far k after in let is : run + n + 1 ≡ run + suc n = omega arith in
      let before = rows_on run bus_nodes n mid (omega (arith, within)) (λ i node low. unstruck i node
      (omega (arith, low)))
      rows far in
      let here : (node : ℕ) → node < 8 → Strikes script (from + (run + n)) node → ⊥ =
      λ node. unstruck n node (omega arith) in
      subst P is (row_on (run + n) mid after (omega (arith, within)) here row before)
