-- The level that all nodes drive together.
use Rattle.std.proofs.Common.{◌≡◌, ℕ, zero, suc, ◌<◌, ◌≤◌, List, [], ◌∷◌, ◌++◌, ◌+◌, length, take, drop, refl, sym, ap}
use Rattle.std.proofs.Common.{◌∙◌, arith}
use Rattle.std.specs.Prelude.{slice_index_or, slice_set}
use Rattle.std.proofs.lemmas.List.{map-append, take_more_set}
use Rattle.can_levels.specs.declared.level.Level.{Level}
use Rattle.can_levels.specs.declared.level.Level.TheVariants.{Dominant, Recessive}
use Rattle.sja_bus.specs.declared.bus_node.BusNode.{BusNode}
use Rattle.can_levels.specs.BusLevel.{wired}
use Rattle.sja_bus.specs.Inside.Rows.{driven_by}

wired_first : (x : Level) (levels : List Level) → x ≡ Dominant → wired (x ∷ levels) ≡ Dominant
wired_first Dominant levels e = refl
wired_first Recessive levels e = cc

wired_later : (x : Level) (levels : List Level) → x ≡ Recessive → wired (x ∷ levels) ≡ wired levels
wired_later Dominant levels e = absurd cc
wired_later Recessive levels e = refl

-- the first of those left drives dominant
pub dominant_here : (bus_nodes : List BusNode) (k : ℕ) (s : BusNode) → k < length bus_nodes →
    (slice_index_or bus_nodes k s).drives ≡ Dominant → wired (driven_by (drop k bus_nodes)) ≡ Dominant
dominant_here [] k s few e = absurd (omega arith)
dominant_here (x ∷ bus_nodes) zero s few e = wired_first x.drives (driven_by bus_nodes) e
dominant_here (x ∷ bus_nodes) (suc k) s few e = dominant_here bus_nodes k s (omega arith) e

-- it drives recessive
pub recessive_here : (bus_nodes : List BusNode) (k : ℕ) (s : BusNode) → k < length bus_nodes →
    (slice_index_or bus_nodes k s).drives ≡ Recessive → wired (driven_by (drop k bus_nodes)) ≡ wired
    (driven_by (drop (suc k) bus_nodes))
recessive_here [] k s few e = absurd (omega arith)
recessive_here (x ∷ bus_nodes) zero s few e = wired_later x.drives (driven_by bus_nodes) e
recessive_here (x ∷ bus_nodes) (suc k) s few e = recessive_here bus_nodes k s (omega arith) e

-- none is left
pub none_left : (bus_nodes : List BusNode) (k : ℕ) → length bus_nodes ≤ k →
    wired (driven_by (drop k bus_nodes)) ≡ Recessive
none_left [] zero few = refl
none_left [] (suc k) few = refl
none_left (x ∷ bus_nodes) zero few = absurd (omega arith)
none_left (x ∷ bus_nodes) (suc k) few = none_left bus_nodes k (omega arith)

pub not_dominant : (x : Level) → (x ≡ Dominant → ⊥) → x ≡ Recessive
not_dominant Dominant h = absurd (h refl)
not_dominant Recessive h = refl

-- ---- so far

wired_last : (levels : List Level) (x : Level) → wired (levels ++ x ∷ []) ≡ wired (wired levels ∷ x ∷ [])
wired_last [] x = refl
wired_last (Dominant ∷ levels) x = refl
wired_last (Recessive ∷ levels) x = wired_last levels x

-- one more had its bit
pub level_now : (bus_nodes : List BusNode) (k : ℕ) (new : BusNode) (before now : Level) → k < length bus_nodes →
    before ≡ wired (driven_by (take k bus_nodes)) → now ≡ wired (before ∷ new.drives ∷ []) →
    now ≡ wired (driven_by (take (k + 1) (slice_set bus_nodes k new)))
level_now bus_nodes k new before now few was is =
    is ∙ ap (λ l. wired (l ∷ new.drives ∷ [])) was ∙ sym (wired_last (driven_by (take k bus_nodes)) new.drives)
    ∙ ap wired (sym (map-append (λ (s : BusNode). s.drives) (take k bus_nodes) (new ∷ [])))
    ∙ ap (λ l. wired (driven_by l)) (sym (take_more_set bus_nodes k new few))
