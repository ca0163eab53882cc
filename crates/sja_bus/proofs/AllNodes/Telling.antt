-- Whether a port is told of a bit of all nodes, node after node.
use Rattle.std.proofs.Common.{◌≡◌, ◌≢◌, ℕ, ◌+◌, ◌<◌, ◌≤◌, List, [], ◌∷◌, length, sym, ap, ◌∙◌, subst}
use Rattle.std.proofs.Common.{arith, inl, inr}
use Rattle.std.specs.Prelude.{slice_index_or, slice_set}
use Rattle.std.proofs.Math.ListN.{length-set}
use Rattle.std.proofs.lemmas.Bool.{cases_eq}
use Rattle.std.proofs.lemmas.List.{get_or_default as or_same, get_or-set_other as set_else, get_or-set_same as set_here}
use Rattle.std.proofs.lemmas.List.{length-append}
use Rattle.can_levels.specs.declared.level.Level.{Level}
use Rattle.sja_journal.specs.Written.{Room}
use Rattle.sja_journal.specs.declared.entry.Entry.{Entry}
use Rattle.sja_journal.specs.declared.entry.Entry.TheVariants.{Bit}
use Rattle.sja_regs.specs.declared.bus_turn.BusTurn.{BusTurn}
use Rattle.sja_bus.specs.declared.board.Board.{Ghosts as Ports}
use Rattle.sja_bus.specs.declared.bus_node.BusNode.{BusNode}
use Rattle.sja_bus.specs.declared.struck_nodes.StruckNodes.{StruckNodes}
use Rattle.sja_bus.specs.UntilTold.{IsLastTurn}
use Rattle.sja_bus.specs.Inside.Refusing.{HaveRoom}
use Rattle.sja_bus.specs.Inside.Rows.{EachBusNode, seen_by}
use Rattle.sja_bus.specs.Inside.RunningOn.{BusNodeIdle, SomeTold, TellsNone}
use Rattle.sja_bus.specs.Inside.Turning.{IsIdleBit}
use Rattle.sja_bus.proofs.AllNodes.UntilTold.{idle_more}

-- ---- one was told

-- the port of one before this place was told the turn of the last bit
pub record IsToldBelow (was_told : ℕ → BusTurn → Type 0) (bus_nodes : List BusNode) (k : ℕ) : Type 0 where
  pub some : SomeTold was_told bus_nodes
  pub low : some.node < k

module _ {B : Type 0} (b : Ports B) (bus_nodes : List BusNode) (k : ℕ) (new : BusNode) (a y z : B) where
  -- and still, after the bit of one behind it
  pub told_still : ((x y z : B) (m : ℕ) (t : BusTurn) → b.told x y m t → b.kept y z m → b.told x z m t) →
      ((m : ℕ) → m ≢ k → b.kept y z m) → IsToldBelow (b.told a y) bus_nodes k →
      IsToldBelow (b.told a z) (slice_set bus_nodes k new) (k + 1)
  told_still told_first others h =
      let t = h.some in let low = h.low in let few = t.few in let set = length-set bus_nodes k new in
      let P : BusNode → Type 0 = λ x. IsLastTurn x.journal.entries t.turn in record {
        some = record {
          node = t.node;
          turn = t.turn;
          few = omega (arith, few, set);
          told = told_first a y z t.node t.turn t.told (others t.node (λ is. omega (arith, is, low)));
          last = λ s. subst P (sym (set_else bus_nodes k t.node new s (λ is. omega (arith, is, low)))) (t.last s);
        };
        low = omega (arith, low);
      }

  -- that of this one was
  pub told_here : ((x y z : B) (m : ℕ) (t : BusTurn) → b.kept x y m → b.told y z m t → b.told x z m t) →
      k < length bus_nodes → b.kept a y k → (turn : BusTurn) × b.told y z k turn × IsLastTurn new.journal.entries turn →
      IsToldBelow (b.told a z) (slice_set bus_nodes k new) (k + 1)
  told_here told_last here kept h =
      let set = length-set bus_nodes k new in let P : BusNode → Type 0 = λ x. IsLastTurn x.journal.entries h.0 in
      record {
        some = record {
          node = k;
          turn = h.0;
          few = omega (arith, here, set);
          told = told_last a y z k h.0 kept h.1;
          last = λ s. subst P (sym (set_here bus_nodes k new s here)) h.2;
        };
        low = omega arith;
      }

-- ---- none was told

-- from this place on, and before that one, each had a bit that brought nothing
abbrev pub AreIdleBelow : ℕ → ℕ → StruckNodes → Level → List BusNode → List BusNode → Type 0
AreIdleBelow first k struck level begun bus_nodes = (m : ℕ) (s : BusNode) → first ≤ m → m < k → m < length begun →
    BusNodeIdle struck level m (slice_index_or begun m s) (slice_index_or bus_nodes m s)

-- and one more
pub idle_on : (first k : ℕ) (struck : StruckNodes) (level seen : Level) (begun bus_nodes : List BusNode)
    (s new : BusNode) →
    k < length bus_nodes → length bus_nodes ≡ length begun → seen ≡ seen_by struck level k →
    slice_index_or bus_nodes k s ≡ slice_index_or begun k s → IsIdleBit seen (slice_index_or bus_nodes k s) new →
    AreIdleBelow first k struck level begun bus_nodes →
    AreIdleBelow first (k + 1) struck level begun (slice_set bus_nodes k new)
idle_on first k struck level seen begun bus_nodes s new here count sees same idle before m t from low few =
    elim (cases_eq k m) [
      | inl eq ↦
          let is : slice_index_or (slice_set bus_nodes k new) m t ≡ new =
          ap (λ n. slice_index_or (slice_set bus_nodes k new) n t) (sym eq) ∙ set_here bus_nodes k new t here in
          let was : slice_index_or bus_nodes k s ≡ slice_index_or begun m t =
          same ∙ or_same begun k s t (omega (arith, here, count)) ∙ ap (λ n. slice_index_or begun n t) eq in
          let L : Level → Type 0 = λ x. IsIdleBit x (slice_index_or bus_nodes k s) new in
          let O : BusNode → Type 0 = λ x. BusNodeIdle struck level m x new in
          let N : BusNode → Type 0 = λ x. BusNodeIdle struck level m (slice_index_or begun m t) x in
          subst N (sym is) (subst O was (subst L (sees ∙ ap (seen_by struck level) eq) idle))
      | inr ne ↦
          let N : BusNode → Type 0 = λ x. BusNodeIdle struck level m (slice_index_or begun m t) x in
          subst N (sym (set_else bus_nodes k m new t (λ is. ne (sym is)))) (before m t from (omega (arith, low, ne))
          few)
    ]

-- each had such a bit
pub none_told : {B : Type 0} (struck : StruckNodes) (level : Level) (bus_nodes after : List BusNode) (was now : B) →
    length after ≡ length bus_nodes → now ≡ was → ((n : ℕ → Room) → HaveRoom n bus_nodes → HaveRoom n after) →
    EachBusNode (BusNodeIdle struck level) bus_nodes after → TellsNone bus_nodes after was now
none_told struck level bus_nodes after was now count still rooms idle = record {
  still = still;
  bits = λ m s few. idle_more (seen_by struck level m) (slice_index_or bus_nodes m s) (slice_index_or after m s)
      (idle m s few);
  free = λ n free k s few.
      let near : k < length bus_nodes = omega (arith, few, count) in
      let old = slice_index_or bus_nodes k s in
      let room = ap (λ (r : Room). r.all) (rooms (λ m. (slice_index_or bus_nodes m s).journal.room) (λ m t low.
      ap (λ (x : BusNode). x.journal.room) (or_same bus_nodes m t s low)) k s few) in
      let long = ap (λ (l : List Entry). length l) (idle k s near).whole in
      let one = length-append old.journal.entries (Bit old.drives (seen_by struck level k) ∷ []) in
      let fits = free k s near in omega (arith, room, long, one, fits);
}
