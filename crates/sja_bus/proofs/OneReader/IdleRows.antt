-- Bits of all nodes, each of which is at rest: nothing happens in them.
use Rattle.std.proofs.Common.{ℕ, zero, suc, ◌<◌, true, false, List, length, sym, ap, ◌∙◌, subst, arith}
use Rattle.std.specs.Prelude.{slice_index_or}
use Rattle.can_levels.specs.declared.level.Level.{Level}
use Rattle.can_levels.specs.declared.level.Level.TheVariants.{Recessive}
use Rattle.can_node.specs.Stands.{ShowsRest}
use Rattle.sja_bus.specs.declared.bus_node.BusNode.{BusNode}
use Rattle.sja_bus.specs.Inside.Idling.{AreResting, after_bits, all_after}
use Rattle.sja_bus.specs.Inside.Rows.{AreReady, AreTold, IsOf}
use Rattle.sja_bus.specs.Inside.Together.{AreQuietRows, IsQuietRow}
use Rattle.sja_bus.specs.Inside.Together.AreQuietRows.{no_row, one_more}
use Rattle.sja_bus.specs.Inside.Turning.{IsQuietBit}
use Rattle.sja_bus.proofs.Resting.AtRest.{quiet_after, ready_after}
use Rattle.sja_bus.proofs.Resting.Rests.{rest_recessive}
use Rattle.sja_bus.proofs.Resting.Stretches.{after_at, after_count, after_nothing, after_wired}

-- a node at rest drives recessive
pub resting_all : (bus_nodes : List BusNode) → AreReady bus_nodes → AreTold bus_nodes →
    ((k : ℕ) (s : BusNode) → k < length bus_nodes → ShowsRest (slice_index_or bus_nodes k s).node true) →
    AreResting bus_nodes
resting_all bus_nodes ready told shows k s few =
    let at = slice_index_or bus_nodes k s in let here = (ready k s few).ready in record {
      none = told k s few;
      drives = rest_recessive at.node at.journal.entries at.drives here.sound.follows (shows k s few) here.drives;
      rests = shows k s few;
    }

module _ (bus_nodes : List BusNode) (ready : AreReady bus_nodes) (rest : AreResting bus_nodes) where
  within : (n m : ℕ) → m < length (all_after n bus_nodes) → m < length bus_nodes
  within n m few = let c = after_count n bus_nodes in omega (arith, few, c)

  ready_all : (n : ℕ) → AreReady (all_after n bus_nodes)
  ready_all n m s few =
      let near = within n m few in let was = ready m s near in let P : BusNode → Type 0 = λ x. IsOf x m in
      subst P (sym (after_at n bus_nodes m s near))
      (record { ready = ready_after n (slice_index_or bus_nodes m s) was.ready (rest m s near); own = was.own })

  idle_row : (n : ℕ) → IsQuietRow false (all_after n bus_nodes) (all_after (suc n) bus_nodes)
  idle_row n = record {
    count = after_count (suc n) bus_nodes ∙ sym (after_count n bus_nodes);
    ready = ready_all (suc n);
    rooms = λ m s few.
        let near = within n m few in
        ap (λ (x : BusNode). x.journal.room) (after_at (suc n) bus_nodes m s near)
        ∙ sym (ap (λ (x : BusNode). x.journal.room) (after_at n bus_nodes m s near));
    bits = λ m s few.
        let near = within n m few in let at = slice_index_or bus_nodes m s in
        let level = after_wired n bus_nodes (λ k d low. (rest k d low).drives) in
        let P : Level → Type 0 = λ x. IsQuietBit x (slice_index_or (all_after n bus_nodes) m s)
        (slice_index_or (all_after (suc n) bus_nodes) m s) in
        let Q : BusNode → Type 0 = λ x. IsQuietBit Recessive x (slice_index_or (all_after (suc n) bus_nodes) m s) in
        let R : BusNode → Type 0 = λ x. IsQuietBit Recessive (after_bits n at) x in
        subst P level (subst Q (sym (after_at n bus_nodes m s near))
        (subst R (sym (after_at (suc n) bus_nodes m s near))
        (quiet_after n at (ready m s near).ready (rest m s near))));
    works = λ yes. absurd cc;
  }

  pub idle_rows : (n : ℕ) → AreQuietRows false bus_nodes n (all_after n bus_nodes)
  idle_rows zero =
      let P : List BusNode → Type 0 = λ l. AreQuietRows false bus_nodes 0 l in subst P (sym (after_nothing bus_nodes))
      no_row
  idle_rows (suc n) = one_more (all_after n bus_nodes) (all_after (suc n) bus_nodes) n (idle_rows n) (idle_row n)
