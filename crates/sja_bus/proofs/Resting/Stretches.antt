-- Bits in which every node is at rest.
use Rattle.std.proofs.Common.{◌≡◌, ℕ, zero, suc, ◌+◌, ◌<◌, List, [], ◌∷◌, ◌++◌, length, refl, sym, ap}
use Rattle.std.proofs.Common.{◌∙◌, append-nil, arith}
use Rattle.std.specs.Prelude.{slice_index_or}
use Rattle.std.proofs.lemmas.List.{length-map}
use Rattle.can_levels.specs.declared.level.Level.TheVariants.{Recessive}
use Rattle.sja_journal.specs.declared.entry.Entry.{Entry}
use Rattle.sja_journal.specs.declared.entry.Entry.TheVariants.{Bit}
use Rattle.sja_journal.specs.Opening.{begun_in}
use Rattle.sja_journal.specs.Written.{Room}
use Rattle.sja_journal.proofs.Growing.Begins.{begun_push}
use Rattle.sja_bus.specs.declared.bus_node.BusNode.{BusNode}
use Rattle.can_levels.specs.BusLevel.{wired}
use Rattle.sja_bus.specs.Stretches.{recessive_bits, with_recessive}
use Rattle.sja_bus.specs.Inside.Turning.{is_untold}
use Rattle.sja_bus.specs.Inside.Rows.{AreBegun, journals_of, untold_of, driven_by}
use Rattle.sja_bus.specs.Inside.Idling.{after_bits, all_after}
use Rattle.sja_bus.specs.Inside.Refusing.{HaveRoom}
use Rattle.sja_bus.proofs.Resting.AtRest.{after_none, one_more}

-- ---- all bus nodes after so many bits

pub after_count : (n : ℕ) (bus_nodes : List BusNode) → length (all_after n bus_nodes) ≡ length bus_nodes
after_count n bus_nodes = length-map bus_nodes (λ (s : BusNode). after_bits n s)

pub after_at : (n : ℕ) (bus_nodes : List BusNode) (m : ℕ) (s : BusNode) → m < length bus_nodes →
    slice_index_or (all_after n bus_nodes) m s ≡ after_bits n (slice_index_or bus_nodes m s)
after_at n [] m s few = absurd (omega arith)
after_at n (x ∷ bus_nodes) zero s few = refl
after_at n (x ∷ bus_nodes) (suc m) s few = after_at n bus_nodes m s (omega arith)

pub after_nothing : (bus_nodes : List BusNode) → all_after 0 bus_nodes ≡ bus_nodes
after_nothing [] = refl
after_nothing (s ∷ bus_nodes) = ap (λ x. x ∷ all_after 0 bus_nodes) (after_none s)
    ∙ ap (λ l. s ∷ l) (after_nothing bus_nodes)

-- bus nodes of which each was left so
pub all_after_by : (n : ℕ) (bus_nodes now : List BusNode) → length now ≡ length bus_nodes →
    ((m : ℕ) (s : BusNode) → m < length bus_nodes → slice_index_or now m s ≡ after_bits n
    (slice_index_or bus_nodes m s)) →
    now ≡ all_after n bus_nodes
all_after_by n [] [] len each = refl
all_after_by n [] (x ∷ now) len each = absurd (omega arith)
all_after_by n (s ∷ bus_nodes) [] len each = absurd (omega arith)
all_after_by n (s ∷ bus_nodes) (x ∷ now) len each =
    let first : x ≡ after_bits n s = each 0 s (omega arith) in
    let rest : now ≡ all_after n bus_nodes = all_after_by n bus_nodes now (omega (arith, len))
    (λ m d few. each (suc m) d (omega (arith, few))) in
    ap (λ y. y ∷ now) first ∙ ap (λ l. after_bits n s ∷ l) rest

-- what they show
pub after_journals : (n : ℕ) (bus_nodes : List BusNode) → journals_of (all_after n bus_nodes) ≡ with_recessive n
    (journals_of bus_nodes)
after_journals n [] = refl
after_journals n (s ∷ bus_nodes) = ap (λ l. (s.journal.entries ++ recessive_bits n) ∷ l) (after_journals n bus_nodes)

pub after_untold : (n : ℕ) (bus_nodes : List BusNode) → untold_of (all_after n bus_nodes) ≡ untold_of bus_nodes
after_untold n [] = refl
after_untold n (s ∷ bus_nodes) = ap (λ l. is_untold s.untold ∷ l) (after_untold n bus_nodes)

pub room_after : (n : ℕ) (room : ℕ → Room) (bus_nodes : List BusNode) → HaveRoom room bus_nodes →
    HaveRoom room (all_after n bus_nodes)
room_after n room bus_nodes h k s few =
    let c = after_count n bus_nodes in let near : k < length bus_nodes = omega (arith, few, c) in
    ap (λ (x : BusNode). x.journal.room) (after_at n bus_nodes k s near) ∙ h k s near

-- no activation began
begun_still : (n : ℕ) (j : List Entry) → begun_in (j ++ recessive_bits n) ≡ begun_in j
begun_still zero j = ap begun_in (append-nil j)
begun_still (suc n) j =
    ap begun_in (sym (one_more n j)) ∙ begun_push (j ++ recessive_bits n) (Bit Recessive Recessive) (λ p. refl)
    ∙ begun_still n j

pub begun_after : (n starts : ℕ) (bus_nodes : List BusNode) → AreBegun starts bus_nodes →
    AreBegun starts (all_after n bus_nodes)
begun_after n starts bus_nodes begun k s few =
    let c = after_count n bus_nodes in let near : k < length bus_nodes = omega (arith, few, c) in
    let is = ap (λ (x : BusNode). begun_in x.journal.entries) (after_at n bus_nodes k s near)
    ∙ begun_still n (slice_index_or bus_nodes k s).journal.entries in
    let was = begun k s near in omega (arith, is, was)

pub after_wired : (n : ℕ) (bus_nodes : List BusNode) → ((k : ℕ) (s : BusNode) → k < length bus_nodes →
    (slice_index_or bus_nodes k s).drives ≡ Recessive) → Recessive ≡ wired (driven_by (all_after n bus_nodes))
after_wired n [] drives = refl
after_wired n (s ∷ bus_nodes) drives =
    after_wired n bus_nodes (λ k d few. drives (suc k) d (omega (arith, few)))
    ∙ ap (λ x. wired (x ∷ driven_by (all_after n bus_nodes))) (sym (drives 0 s (omega arith)))

-- ---- a bit in which nobody is struck
