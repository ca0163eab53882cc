-- What all nodes do, by their journals.
use Rattle.std.proofs.Common.{◌≡◌, ◌≢◌, ℕ, suc, ◌+◌, ◌<◌, ◌≤◌, Bool, inl, inr, List, [], ◌∷◌, length, refl, sym, ap}
use Rattle.std.proofs.Common.{◌∙◌, subst, arith}
use Rattle.std.specs.Prelude.{slice_index_or, ◌↔◌, ◌⊎◌}
use Rattle.std.proofs.lemmas.List.{length-map}
use Rattle.can_levels.specs.declared.level.Level.{Level}
use Rattle.can_levels.specs.declared.level.Level.TheVariants.{Recessive}
use Rattle.sja_journal.specs.declared.entry.Entry.{Entry}
use Rattle.sja_journal.specs.Lists.{Lists}
use Rattle.sja_regs.specs.declared.orders.Orders.{Orders}
use Rattle.sja_regs.specs.declared.bus_turn.BusTurn.{BusTurn}
use Rattle.sja_steps.specs.declared.strike.Strike.{Strike}
use Rattle.sja_steps.specs.Striking.{Strikes}
use Rattle.sja_bus.specs.declared.struck_nodes.StruckNodes.{StruckNodes}
use Rattle.sja_bus.specs.declared.bus_node.BusNode.{BusNode}
use Rattle.sja_bus.specs.Inside.StrikesByBit.{IsAmong}
use Rattle.can_levels.specs.BusLevel.{wired}
use Rattle.sja_bus_rules.specs.Wire.{journal_at, IsWired}
use Rattle.sja_journal.specs.Links.{Kept, stops_of}
use Rattle.sja_bus_rules.specs.Opens.{Opens}
use Rattle.sja_journal.specs.BitEntries.{MayHaveItems}
use Rattle.sja_bus_rules.specs.Telling.{SaysAlone, IsPassedOver, IsUntold}
use Rattle.sja_bus_rules.specs.Buses.{EachJournal, EachUntold, KeepsAll, AllDry, untold_at, IsNodeBit, IsBit}
use Rattle.sja_bus.specs.declared.pending_event.PendingEvent.TheVariants.{Nothing, Changed, Dropped}
use Rattle.sja_bus.specs.Inside.Turning.{is_untold, is_dropped, TakesUntold, OpensUntold, Drops, Turns}
use Rattle.sja_bus.specs.Inside.Rows.{AreReady, AreCalm, EachBusNode, BusNodeTakes, BusNodeUntold, GoesAll, AllRead}
use Rattle.sja_bus.specs.Inside.Rows.{journals_of}
use Rattle.sja_bus.specs.Inside.Rows.{untold_of, driven_by, seen_by}
use Rattle.sja_bus.specs.Inside.Whole.{IsRowBit}
use Rattle.sja_bus.proofs.AllNodes.NodeBit.{changed_once}
use Rattle.sja_bus.proofs.AllNodes.Running.{journal_is, untold_is, count_is, driven_at_place, seen_right, wired_opened}
use Rattle.sja_bus.proofs.AllNodes.Running.{wired_ticked}

pub keeps_all : {E : Type 0} (same : E → E → Type 0) (stands : E → ℕ → Lists → Type 0) (bus_nodes after : List BusNode)
    (links links_after : List E) → length after ≡ length bus_nodes →
    GoesAll same stands bus_nodes after links links_after →
    KeepsAll stands (journals_of bus_nodes) (journals_of after) links links_after
keeps_all same stands [] after links links_after len goes = λ node d h few. absurd (omega arith)
keeps_all same stands (s ∷ bus_nodes) after links links_after len goes = λ node d h few kept.
    let all = s ∷ bus_nodes in let cb = count_is all in
    let near : node < length all = omega (arith, few, cb) in
    let P : List Entry → Type 0 = λ j. Kept stands j (slice_index_or links node d) h in
    let Q : List Entry → Type 0 = λ j. Kept stands j (slice_index_or links_after node d) h in
    subst Q (sym (journal_is after node s (omega (arith, near, len))))
    (goes.kept node s d h near (subst P (journal_is all node s near) kept))

pub all_items : (bus_nodes after : List BusNode) → length after ≡ length bus_nodes →
    EachBusNode BusNodeTakes bus_nodes after →
    EachJournal MayHaveItems (journals_of bus_nodes) (journals_of after)
all_items [] after len takes = λ node few. absurd (omega arith)
all_items (s ∷ bus_nodes) after len takes = λ node few.
    let all = s ∷ bus_nodes in let cb = count_is all in
    let near : node < length all = omega (arith, few, cb) in
    let P : List Entry → Type 0 = λ j. MayHaveItems j (journal_at (journals_of after) node) in
    let Q : List Entry → Type 0 = λ k. MayHaveItems (slice_index_or all node s).journal.entries k in
    subst P (sym (journal_is all node s near)) (subst Q
    (sym (journal_is after node s (omega (arith, near, len)))) (takes node s near))

-- whether something is untold of each, after items were taken
bus_node_untold : (old new : BusNode) → TakesUntold old new → IsUntold (is_untold old.untold) (is_untold new.untold)
    old.journal.entries new.journal.entries
bus_node_untold old new (inl (untold, same)) = record {
  stays = λ e. ap is_untold untold ∙ e;
  takes = λ ne. absurd (ne same);
  none = λ e _. ap is_untold untold ∙ e;
}
bus_node_untold old new (inr (untold, more)) = record {
  stays = λ e. ap is_untold untold;
  takes = λ ne. ap is_untold untold;
  none = λ e same. let l = ap (λ (j : List Entry). length j) same in absurd (omega (arith, l, more));
}

pub all_untold : (bus_nodes after : List BusNode) → length after ≡ length bus_nodes →
    EachBusNode BusNodeUntold bus_nodes after →
    EachUntold (untold_of bus_nodes) (untold_of after) (journals_of bus_nodes) (journals_of after)
all_untold [] after len takes = λ node few. absurd (omega arith)
all_untold (s ∷ bus_nodes) after len takes = λ node few.
    let all = s ∷ bus_nodes in let cb = count_is all in
    let near : node < length all = omega (arith, few, cb) in
    let there : node < length after = omega (arith, near, len) in
    let old = slice_index_or all node s in let new = slice_index_or after node s in
    let P : List Entry → Type 0 = λ j. IsUntold (untold_at (untold_of all) node) (untold_at (untold_of after) node) j
    (journal_at (journals_of after) node) in
    let Q : List Entry → Type 0 = λ k. IsUntold (untold_at (untold_of all) node) (untold_at (untold_of after) node)
    old.journal.entries k in
    let R : Bool → Type 0 = λ b. IsUntold b (untold_at (untold_of after) node)
    old.journal.entries new.journal.entries in
    let S : Bool → Type 0 = λ b. IsUntold (is_untold old.untold) b old.journal.entries new.journal.entries in
    subst P (sym (journal_is all node s near)) (subst Q (sym (journal_is after node s there))
    (subst R (sym (untold_is all node s near)) (subst S (sym (untold_is after node s there))
    (bus_node_untold old new (takes node s near)))))

-- no request was dropped
pub calm_taken : (bus_nodes after : List BusNode) → length after ≡ length bus_nodes →
    EachBusNode BusNodeUntold bus_nodes after →
    AreCalm bus_nodes → AreCalm after
calm_taken bus_nodes after len takes calm k s few = one (slice_index_or bus_nodes k s) (slice_index_or after k s)
    (takes k s (omega (arith, few, len))) (calm k s (omega (arith, few, len)))
  where
    one : (old new : BusNode) → TakesUntold old new → old.untold ≢ Dropped → new.untold ≢ Dropped
    one old new (inl (untold, same)) ne e = ne (sym untold ∙ e)
    one old new (inr (untold, more)) ne e = let wrong : Changed ≡ Dropped = sym untold ∙ e in cc

pub all_dry : {E : Type 0} (dry : E → ℕ → Type 0) (bus_nodes : List BusNode) (links : List E) → AreReady bus_nodes →
    AllRead dry bus_nodes links → AllDry dry (journals_of bus_nodes) links
all_dry dry [] links ready read = λ node d few. absurd (omega arith)
all_dry dry (s ∷ bus_nodes) links ready read = λ node d few.
    let all = s ∷ bus_nodes in let cb = count_is all in
    let near : node < length all = omega (arith, few, cb) in
    let e : stops_of (journal_at (journals_of all) node) ≡ (slice_index_or all node s).ended =
    ap stops_of (journal_is all node s near) ∙ (ready node s near).ready.sound.reads.stopped in
    let P : ℕ → Type 0 = λ n. dry (slice_index_or links node d) (suc n) in subst P (sym e) (read node s d near)

-- one node of them
node_bit : (has_orders : Orders → Type 0) (was_told : BusTurn → Type 0) (was_kept : Type 0) (untold : Bool)
    (old opened new : BusNode) (seen : Level) →
    untold ≡ is_untold old.untold → old.untold ≢ Dropped → Opens has_orders old.journal.entries opened.journal.entries →
    OpensUntold old opened → Turns was_told was_kept seen opened new →
    IsNodeBit has_orders was_told was_kept untold old.journal.entries new.journal.entries opened.drives seen
node_bit has_orders was_told was_kept untold old opened new seen is calm opens tells turns =
    let changed : tells.aborts.changed ≡ opens.aborts.changed =
    changed_once old.journal.entries tells.taken opens.taken opened.journal.entries tells.items tells.aborts
    opens.items opens.aborts in
    let P : Bool → Type 0 = λ c. Drops c opened.journal.entries (is_dropped opened.untold) in record {
      opened = opened.journal.entries;
      opens = opens;
      bit = turns.bit;
      turn = turns.turn;
      is_turn = turns.is_turn opens.aborts.changed (subst P changed (tells.drops calm));
      port = port turns.port;
    }
  where
    port : was_told turns.turn ⊎ (was_kept × (opened.untold ≡ Nothing) × SaysAlone opened.journal.entries turns.turn) →
        was_told turns.turn ⊎ IsPassedOver was_kept untold old.journal.entries opened.journal.entries turns.turn
    port (inl told) = inl told
    port (inr (kept, none, alone)) =
        let s = tells.still none in
        let Q : List Entry → Type 0 = λ j. SaysAlone j turns.turn in
        inr (record { kept = kept; told = is ∙ ap is_untold s.0; same = s.1; alone = subst Q s.1 alone })

pub is_bit : (orders_are : ℕ → Orders → Type 0) (was_told : ℕ → BusTurn → Type 0) (was_kept : ℕ → Type 0)
    (script : List Strike) (n : ℕ) (struck : StruckNodes) (bus_nodes after : List BusNode) →
    length after ≡ length bus_nodes → length bus_nodes ≤ 8 →
    ((node : ℕ) → node < 8 → IsAmong node struck ↔ Strikes script n node) → AreCalm bus_nodes →
    IsRowBit orders_are was_told was_kept struck bus_nodes after →
    IsBit orders_are was_told was_kept script n (untold_of bus_nodes) (journals_of bus_nodes) (journals_of after)
is_bit orders_are was_told was_kept script n struck bus_nodes after len few at calm row =
    let co = length-map row.opened (λ (x : BusNode). x.drives) in let cs = count_is bus_nodes in let c = row.count in
    record {
      driven = driven_by row.opened;
      seen = seen_by struck row.level;
      count = omega (arith, co, cs, c);
      nodes = nodes bus_nodes len c;
      sees = λ node near. seen_right script n struck (wired (driven_by row.opened)) row.level node row.is_level
          (at node (omega (arith, near, cs, few)));
    }
  where
    nodes : (before : List BusNode) → length after ≡ length bus_nodes → length row.opened ≡ length bus_nodes →
        (node : ℕ) →
        node < length (journals_of bus_nodes) →
        IsNodeBit (orders_are node) (was_told node) (was_kept node) (untold_at (untold_of bus_nodes) node)
        (journal_at (journals_of bus_nodes) node) (journal_at (journals_of after) node)
        (slice_index_or (driven_by row.opened) node Recessive) (seen_by struck row.level node)
    nodes before la lo node near = one bus_nodes refl
      where
        one : (xs : List BusNode) → xs ≡ bus_nodes →
            IsNodeBit (orders_are node) (was_told node) (was_kept node) (untold_at (untold_of bus_nodes) node)
            (journal_at (journals_of bus_nodes) node) (journal_at (journals_of after) node)
            (slice_index_or (driven_by row.opened) node Recessive) (seen_by struck row.level node)
        one [] e = let cs = count_is bus_nodes in let z : length bus_nodes ≡ 0 = ap (λ (l : List BusNode). length l)
            (sym e) in
            absurd (omega (arith, near, cs, z))
        one (s ∷ xs) e =
            let cs = count_is bus_nodes in
            let here : node < length bus_nodes = omega (arith, near, cs) in
            let there : node < length row.opened = omega (arith, here, lo) in
            let seen = seen_by struck row.level node in
            let P : List Entry → Type 0 = λ j. IsNodeBit (orders_are node) (was_told node) (was_kept node)
            (untold_at (untold_of bus_nodes) node) j (journal_at (journals_of after) node)
            (slice_index_or (driven_by row.opened) node Recessive) seen in
            let Q : List Entry → Type 0 = λ k. IsNodeBit (orders_are node) (was_told node) (was_kept node)
            (untold_at (untold_of bus_nodes) node) (slice_index_or bus_nodes node s).journal.entries k
            (slice_index_or (driven_by row.opened) node Recessive) seen in
            let R : Level → Type 0 = λ x. IsNodeBit (orders_are node) (was_told node) (was_kept node)
            (untold_at (untold_of bus_nodes) node) (slice_index_or bus_nodes node s).journal.entries
            (slice_index_or after node s).journal.entries x seen in
            subst P (sym (journal_is bus_nodes node s here))
            (subst Q (sym (journal_is after node s (omega (arith, here, la))))
            (subst R (sym (driven_at_place row.opened node s there))
            (node_bit (orders_are node) (was_told node) (was_kept node) (untold_at (untold_of bus_nodes) node)
            (slice_index_or bus_nodes node s) (slice_index_or row.opened node s) (slice_index_or after node s) seen
            (untold_is bus_nodes node s here) (calm node s here) (row.opens node s here) (row.untold node s here)
            (row.turns node s there))))

-- nothing is to be told after it
pub all_told : {orders_are : ℕ → Orders → Type 0} (was_told : ℕ → BusTurn → Type 0) (was_kept : ℕ → Type 0)
    (struck : StruckNodes) (bus_nodes after : List BusNode) → length after ≡ length bus_nodes →
    IsRowBit orders_are was_told was_kept struck bus_nodes after → (k : ℕ) (s : BusNode) → k < length after →
    (slice_index_or after k s).untold ≡ Nothing
all_told was_told was_kept struck bus_nodes after len row k s few = let c = row.count in
    (row.turns k s (omega (arith, few, len, c))).told

pub wired_row : (orders_are : ℕ → Orders → Type 0) (was_told : ℕ → BusTurn → Type 0) (was_kept : ℕ → Type 0)
    (script : List Strike) (n : ℕ) (struck : StruckNodes) (bus_nodes after : List BusNode) →
    length after ≡ length bus_nodes → length bus_nodes ≤ 8 →
    ((node : ℕ) → node < 8 → IsAmong node struck ↔ Strikes script n node) →
    IsRowBit orders_are was_told was_kept struck bus_nodes after → IsWired script n (journals_of bus_nodes) →
    IsWired script (n + 1) (journals_of after)
wired_row orders_are was_told was_kept script n struck bus_nodes after len few at row h =
    let c = row.count in
    wired_ticked was_told was_kept script n row.opened after struck row.level (omega (arith, len, c))
    (omega (arith, c, few)) row.is_level at row.turns
    (wired_opened orders_are script n bus_nodes row.opened c row.opens h)
