-- A stretch of bits in which every node is at rest, run at once.
use Rattle.std.proofs.Common.{◌≡◌, ℕ, zero, suc, ◌+◌, ◌<◌, ◌≤◌, Bool, false, cond, List, [], ◌∷◌, ◌++◌, length}
use Rattle.std.proofs.Common.{refl, sym, ap, ◌∙◌, subst, arith, inl, inr}
use Rattle.std.specs.Prelude.{slice_index_or, slice_set, ◌↔◌, ◌⊎◌}
use Rattle.std.specs.Int.{bit_at}
use Rattle.std.proofs.lemmas.Bool.{ne_eqb}
use Rattle.std.proofs.lemmas.List.{get_or-set_same as set_here, get_or_default as or_same}
use Rattle.std.proofs.lemmas.Nat.Bits.{bit_at-zero}
use Rattle.can_levels.specs.declared.level.Level.{Level}
use Rattle.can_levels.specs.declared.level.Level.TheVariants.{Recessive}
use Rattle.can_levels.specs.Digits.{opposite}
use Rattle.sja_journal.specs.Written.{Room}
use Rattle.sja_journal.specs.declared.entry.Entry.{Entry}
use Rattle.sja_regs.specs.declared.orders.Orders.{Orders}
use Rattle.sja_regs.specs.declared.bus_turn.BusTurn.{BusTurn}
use Rattle.sja_steps.specs.declared.strike.Strike.{Strike}
use Rattle.sja_steps.specs.Striking.{Strikes}
use Rattle.sja_bus.specs.declared.pending_event.PendingEvent.TheVariants.{Nothing, Dropped}
use Rattle.sja_bus.specs.declared.bus_node.BusNode.{BusNode}
use Rattle.sja_bus.specs.Inside.StrikesByBit.{IsAmong, nobody}
use Rattle.can_levels.specs.BusLevel.{wired}
use Rattle.sja_bus_rules.specs.Wire.{IsWired}
use Rattle.sja_bus_rules.specs.Lawful.{IsBusRun}
use Rattle.sja_bus_rules.specs.Reasons.{room_for}
use Rattle.sja_journal.specs.declared.bus_fault.BusFault.{BusFault}
use Rattle.sja_journal.specs.declared.bus_fault.BusFault.TheVariants.{JournalFull}
use Rattle.sja_bus_rules.specs.Buses.{BusValue, untold_at, IsBit}
use Rattle.sja_bus.specs.Stretches.{recessive_bits, with_recessive, IsStretch, EndsStretch, IsOutOfEntries}
use Rattle.sja_bus.specs.Stretches.EndsStretch.{asked_for, spent, struck}
use Rattle.sja_bus.specs.Inside.Turning.{is_untold, Turns}
use Rattle.sja_bus.specs.Inside.Rows.{IsOf, AreReady, Done, AreCalm, journals_of, untold_of, seen_by, IsBus}
use Rattle.sja_bus.specs.Inside.Rows.{BusNodeOpens, BusNodeOpensUntold, BusNodeTurns}
use Rattle.sja_bus.specs.Inside.Whole.{IsRowBit}
use Rattle.sja_bus.specs.Inside.Idling.{AreResting, IsFullAfter, IsFullBy, after_bits, all_after}
use Rattle.sja_bus.specs.Inside.Refusing.{HaveRoom}
use Rattle.sja_bus.proofs.AllNodes.Running.{journal_is, untold_is, count_is, bus_run}
use Rattle.sja_bus.proofs.AllNodes.Journals.{is_bit, wired_row}
use Rattle.sja_bus.proofs.Resting.AtRest.{ready_after, turns_after, opens_after, untold_none}
use Rattle.sja_bus.proofs.Resting.Stretches.{after_count, after_at, after_nothing, after_journals, after_untold}
use Rattle.sja_bus.proofs.Resting.Stretches.{after_wired}

pub not_among : (node : ℕ) → IsAmong node nobody → ⊥
not_among node hit = let z = bit_at-zero node in omega (arith, z, hit)

seen_plain : (node : ℕ) → seen_by nobody Recessive node ≡ Recessive
seen_plain node = ap (λ c. cond c (opposite Recessive) Recessive) (ne_eqb (bit_at 0 node) 1 (not_among node))

module _ (orders_are : ℕ → Orders → Type 0) (was_told : ℕ → BusTurn → Type 0) (was_kept : ℕ → Type 0)
    (kept : (node : ℕ) → was_kept node)
    (bus_nodes : List BusNode) (ready : AreReady bus_nodes) (rest : AreResting bus_nodes)
    (asked : (node : ℕ) → node < length bus_nodes → (o : Orders) × orders_are node o) where
  here : (n m : ℕ) → m < length (all_after n bus_nodes) → m < length bus_nodes
  here n m few = let c = after_count n bus_nodes in omega (arith, few, c)

  row_after : (n : ℕ) → IsRowBit orders_are was_told was_kept nobody (all_after n bus_nodes)
      (all_after (suc n) bus_nodes)
  row_after n = record {
    opened = all_after n bus_nodes;
    level = Recessive;
    count = refl;
    opens = λ m s few.
        let P : BusNode → Type 0 = λ x. BusNodeOpens orders_are m x x in
        let o = asked m (here n m few) in
        subst P (sym (after_at n bus_nodes m s (here n m few)))
        (opens_after (orders_are m) n (slice_index_or bus_nodes m s) o.0 o.1 (ready m s (here n m few)).ready
        (rest m s (here n m few)));
    untold = λ m s few.
        let P : BusNode → Type 0 = λ x. BusNodeOpensUntold m x x in
        subst P (sym (after_at n bus_nodes m s (here n m few))) (untold_none (after_bits n
        (slice_index_or bus_nodes m s)));
    is_level = after_wired n bus_nodes (λ k s few. (rest k s few).drives);
    turns = λ m s few.
        let P : BusNode → Type 0 = λ x. BusNodeTurns was_told was_kept nobody Recessive m x
        (slice_index_or (all_after (suc n) bus_nodes) m s) in
        let Q : BusNode → Type 0 = λ x. BusNodeTurns was_told was_kept nobody Recessive m
        (after_bits n (slice_index_or bus_nodes m s)) x in
        let R : Level → Type 0 = λ x. Turns (was_told m) (was_kept m) x (after_bits n (slice_index_or bus_nodes m s))
        (after_bits (suc n) (slice_index_or bus_nodes m s)) in
        subst P (sym (after_at n bus_nodes m s (here n m few))) (subst Q (sym (after_at (suc n) bus_nodes m s
        (here n m few)))
        (subst R (sym (seen_plain m)) (turns_after (was_told m) (was_kept m) n (slice_index_or bus_nodes m s) (kept m)
        (ready m s (here n m few)).ready (rest m s (here n m few)))));
  }

  calm_after : (n : ℕ) → AreCalm (all_after n bus_nodes)
  calm_after n m s few e =
      let none : (slice_index_or (all_after n bus_nodes) m s).untold ≡ Nothing =
      ap (λ (x : BusNode). x.untold) (after_at n bus_nodes m s (here n m few)) ∙ (rest m s (here n m few)).none in
      let wrong : Nothing ≡ Dropped = sym none ∙ e in cc

  ready_all : (n : ℕ) → AreReady (all_after n bus_nodes)
  ready_all n m s few =
      let P : BusNode → Type 0 = λ x. IsOf x m in
      let was = ready m s (here n m few) in
      subst P (sym (after_at n bus_nodes m s (here n m few)))
      (record {
        ready = ready_after n (slice_index_or bus_nodes m s) was.ready
            (rest m s (here n m few));
        own = was.own;
      })

  module _ (script : List Strike) (run count : ℕ) (most : length bus_nodes ≤ 8)
      (unstruck : (bit node : ℕ) → run ≤ bit → bit < run + count → node < 8 → Strikes script bit node → ⊥) where
    unhit : (i : ℕ) → i < count → (node : ℕ) → node < 8 → IsAmong node nobody ↔ Strikes script (run + i) node
    unhit i early node few = (
      λ hit. absurd (not_among node hit),
      λ hit. absurd (unstruck (run + i) node (omega arith) (omega (arith, early)) few hit),
    )

    wired_after : (i : ℕ) → i ≤ count → IsWired script run (journals_of bus_nodes) →
        IsWired script (run + i) (journals_of (all_after i bus_nodes))
    wired_after zero early was =
        let P : List BusNode → Type 0 = λ l. IsWired script (run + 0) (journals_of l) in
        let Q : ℕ → Type 0 = λ k. IsWired script k (journals_of bus_nodes) in
        subst P (sym (after_nothing bus_nodes)) (subst Q (omega arith) was)
    wired_after (suc i) early was =
        let Q : ℕ → Type 0 = λ k. IsWired script k (journals_of (all_after (suc i) bus_nodes)) in
        let a = after_count i bus_nodes in let b = after_count (suc i) bus_nodes in
        let next : run + i + 1 ≡ run + suc i = omega arith in
        subst Q next
        (wired_row orders_are was_told was_kept script (run + i) nobody (all_after i bus_nodes)
        (all_after (suc i) bus_nodes)
        (omega (arith, a, b)) (omega (arith, a, most))
        (unhit i (omega (arith, early))) (row_after i) (wired_after i (omega (arith, early)) was))

    bus_then : (i : ℕ) → i ≤ count → IsBus script run bus_nodes → IsBus script (run + i) (all_after i bus_nodes)
    bus_then i early was = record {
      ready = ready_all i;
      calm = calm_after i;
      wired = wired_after i early was.wired;
    }

    pub bus_after : IsBus script run bus_nodes → IsBus script (run + count) (all_after count bus_nodes)
    bus_after = bus_then count (omega arith)

    one_bit : (i : ℕ) → i < count →
        IsBit orders_are was_told was_kept script (run + i) (untold_of bus_nodes) (with_recessive i
        (journals_of bus_nodes))
        (with_recessive (suc i) (journals_of bus_nodes))
    one_bit i early =
        let a = after_count i bus_nodes in let b = after_count (suc i) bus_nodes in
        let bit = is_bit orders_are was_told was_kept script (run + i) nobody (all_after i bus_nodes)
        (all_after (suc i) bus_nodes) (omega (arith, a, b)) (omega (arith, a, most))
        (unhit i early) (calm_after i) (row_after i) in
        let P : List Bool → Type 0 = λ u. IsBit orders_are was_told was_kept script (run + i) u
        (journals_of (all_after i bus_nodes)) (journals_of (all_after (suc i) bus_nodes)) in
        let Q : List (List Entry) → Type 0 = λ j. IsBit orders_are was_told was_kept script (run + i)
        (untold_of bus_nodes)
        j (journals_of (all_after (suc i) bus_nodes)) in
        let R : List (List Entry) → Type 0 = λ k. IsBit orders_are was_told was_kept script (run + i)
        (untold_of bus_nodes)
        (with_recessive i (journals_of bus_nodes)) k in
        subst R (after_journals (suc i) bus_nodes) (subst Q (after_journals i bus_nodes)
        (subst P (after_untold i bus_nodes) bit))

    pub stretch_after : IsBus script run bus_nodes → IsStretch orders_are was_told was_kept script run count
        (untold_of bus_nodes) (journals_of bus_nodes) (journals_of (all_after count bus_nodes))
    stretch_after was = record {
      told = told_by bus_nodes refl;
      grown = after_journals count bus_nodes;
      bits = one_bit;
      lawful = λ i early. subst (λ (l : List (List Entry)). IsBusRun script (run + i) l) (after_journals i bus_nodes)
          (bus_run script (run + i) (all_after i bus_nodes) (bus_then i early was));
    }
      where
        told_by : (xs : List BusNode) → xs ≡ bus_nodes → (node : ℕ) → node < length (journals_of bus_nodes) →
            untold_at (untold_of bus_nodes) node ≡ false
        told_by [] e node few = let cs = count_is bus_nodes in let z : length bus_nodes ≡ 0 =
            ap (λ (l : List BusNode). length l) (sym e) in absurd (omega (arith, few, cs, z))
        told_by (s ∷ xs) e node few =
            let cs = count_is bus_nodes in let near : node < length bus_nodes = omega (arith, few, cs) in
            untold_is bus_nodes node s near ∙ ap is_untold (rest node s near).none

-- ---- why they aren't more

-- as many were run as were asked for or strike no node; by the script as it is now, before the bit that is next now
pub struck_by : (was script : List Strike) (at run quiet n most : ℕ) → script ≡ was → at ≡ run → quiet ≡ n →
    (quiet ≡ most) ⊎ ((node : ℕ) × (node < 8) × Strikes was at node) →
    (n ≡ most) ⊎ ((node : ℕ) × (node < 8) × Strikes script run node)
struck_by was script at run quiet n most same here is (inl all) = inl (sym is ∙ all)
struck_by was script at run quiet n most same here is (inr (node, low, hit)) =
    inr (
      node,
      low,
      subst (λ (l : List Strike). Strikes l run node) (sym same)
          (subst (λ (r : ℕ). Strikes was r node) here hit),
    )

-- as many as strike no node, of those that were asked for and are left
pub ends_quiet : (count n most left : ℕ) (now : BusValue) → now.left + n ≡ left → (most ≡ count) ⊎ (most ≡ left) →
    (n ≡ most) ⊎ ((node : ℕ) × (node < 8) × Strikes now.script now.run node) → EndsStretch count n now
ends_quiet count n most left now all (inl least) (inl is) = asked_for (is ∙ least)
ends_quiet count n most left now all (inr least) (inl is) = spent (omega (arith, all, least, is))
ends_quiet count n most left now all which (inr (node, low, hit)) = struck node low hit

-- ---- no entry was free

-- of the first whose journal was full, after those that have so many bits more
pub full_by : (n k : ℕ) (before after : List BusNode) (s new : BusNode) (f : BusFault) → k < length before →
    length after ≡ length before → AreReady before →
    Done (λ m old now. now ≡ after_bits n old) k before after → IsFullAfter n (slice_index_or after k s) new f →
    IsFullBy n before (slice_set after k new) f
full_by n k before after s new f few len ready done h = record {
  node = k;
  few = few;
  own = λ e. (ready k e few).own;
  after = λ e.
      let here : slice_index_or (slice_set after k new) k e ≡ new = set_here after k new e (omega (arith, few, len)) in
      let was : slice_index_or after k s ≡ slice_index_or before k e = or_same after k s e (omega (arith, few, len))
      ∙ (done k e few).1 (omega arith) in
      let P : BusNode → Type 0 = λ x. IsFullAfter n (slice_index_or before k e) x f in
      let Q : BusNode → Type 0 = λ x. IsFullAfter n x new f in
      subst P (sym here) (subst Q was h);
}

pub out_of_entries : (bits : ℕ) (steps : List ℕ) (left count : ℕ) (bus_nodes now : List BusNode) (f : BusFault) →
    length now ≡
    length bus_nodes →
    count ≤ left → HaveRoom (room_for bits steps) bus_nodes → IsFullBy count bus_nodes now f →
    IsOutOfEntries bits steps left (journals_of bus_nodes) (journals_of now) f
out_of_entries bits steps left count [] now f len most rooms h = let few = h.few in absurd (omega (arith, few))
out_of_entries bits steps left count (s ∷ bus_nodes) now f len most rooms h =
    let all = s ∷ bus_nodes in let few = h.few in let cs = count_is all in let after = h.after s in
    let is = journal_is now h.node s (omega (arith, few, len)) in
    let was = journal_is all h.node s few in
    let room = ap (λ (r : Room). r.all) (rooms h.node s few) in let full = after.full in let early = after.early in
    let size = ap (λ (l : List Entry). length l) is in record {
      node = h.node;
      few = omega (arith, few, cs);
      is = after.is ∙ ap (λ k. JournalFull k) (h.own s);
      entered = after.entered;
      early = omega (arith, early, most);
      grown = is ∙ after.grown ∙ ap (λ (l : List Entry). l ++ recessive_bits after.entered) (sym was);
      full = omega (arith, room, full, size);
    }
