-- A list made place by place between two others, and the level that all bus nodes drive together where one drives it.
use Rattle.std.proofs.Common.{◌≡◌, ◌⊎◌, ℕ, zero, suc, ◌<◌, List, [], ◌∷◌, length, refl, ap, ◌∙◌, arith, inl, inr}
use Rattle.std.specs.Prelude.{slice_index_or}
use Rattle.can_levels.specs.declared.level.Level.{Level}
use Rattle.can_levels.specs.declared.level.Level.TheVariants.{Dominant, Recessive}
use Rattle.can_levels.specs.BusLevel.{wired}
use Rattle.sja_bus.specs.declared.bus_node.BusNode.{BusNode}
use Rattle.sja_bus.specs.Inside.Rows.{driven_by}

-- ---- a list between two others

-- at each place something stands between what is there in both
pub record Between {A : Type 0} (P : ℕ → A → A → A → Type 0) (before after : List A) : Type 0 where
  pub items : List A
  pub count : length items ≡ length before
  pub each : (m : ℕ) (d : A) → m < length before →
      P m (slice_index_or before m d) (slice_index_or items m d) (slice_index_or after m d)

pub between : {A : Type 0} (P : ℕ → A → A → A → Type 0) (before after : List A) → length after ≡ length before →
    ((m : ℕ) (d : A) → m < length before →
    (x : A) × P m (slice_index_or before m d) x (slice_index_or after m d)) → Between P before after
between P [] [] count at = record { items = []; count = refl; each = λ m d few. absurd (omega (arith, few)) }
between P [] (y ∷ ys) count at = absurd (omega (arith, count))
between P (x ∷ xs) [] count at = absurd (omega (arith, count))
between {A = A} P (x ∷ xs) (y ∷ ys) count at =
    let first = at 0 x (omega arith) in
    let rest = between (λ m. P (suc m)) xs ys (omega (arith, count)) (λ m d few. at (suc m) d (omega (arith, few))) in
    record {
      items = first.0 ∷ rest.items;
      count = ap suc rest.count;
      each = place first.0 rest.items first.1 rest.each;
    }
  where
    place : (t : A) (ts : List A) → P 0 x t y →
        ((m : ℕ) (d : A) → m < length xs →
        P (suc m) (slice_index_or xs m d) (slice_index_or ts m d) (slice_index_or ys m d)) →
        (m : ℕ) (d : A) → m < length (x ∷ xs) →
        P m (slice_index_or (x ∷ xs) m d) (slice_index_or (t ∷ ts) m d) (slice_index_or (y ∷ ys) m d)
    place t ts one others zero d few = one
    place t ts one others (suc m) d few = others m d (omega (arith, few))

-- ---- the level

all_recessive : (bus_nodes : List BusNode) → ((m : ℕ) (s : BusNode) → m < length bus_nodes →
    (slice_index_or bus_nodes m s).drives ≡ Recessive) → wired (driven_by bus_nodes) ≡ Recessive
all_recessive [] each = refl
all_recessive (s ∷ bus_nodes) each =
    later s.drives (driven_by bus_nodes) (each 0 s (omega arith)) ∙ all_recessive bus_nodes
    (λ m d few. each (suc m) d (omega (arith, few)))
  where
    later : (x : Level) (levels : List Level) → x ≡ Recessive → wired (x ∷ levels) ≡ wired levels
    later Dominant levels e = absurd cc
    later Recessive levels e = refl

one_dominant : (bus_nodes : List BusNode) (k : ℕ) → k < length bus_nodes →
    ((s : BusNode) → (slice_index_or bus_nodes k s).drives ≡ Dominant) → wired (driven_by bus_nodes) ≡ Dominant
one_dominant [] k few here = absurd (omega (arith, few))
one_dominant (s ∷ bus_nodes) zero few here = first s.drives (here s)
  where
    first : (y : Level) → y ≡ Dominant → wired (y ∷ driven_by bus_nodes) ≡ Dominant
    first Dominant e = refl
    first Recessive e = absurd cc
one_dominant (s ∷ bus_nodes) (suc k) few here = later s.drives (one_dominant bus_nodes k (omega (arith, few)) here)
  where
    later : (y : Level) → wired (driven_by bus_nodes) ≡ Dominant → wired (y ∷ driven_by bus_nodes) ≡ Dominant
    later Dominant rest = refl
    later Recessive rest = rest

-- one drives this level, each other one this or recessive
pub one_drives : (bus_nodes : List BusNode) (k : ℕ) (x : Level) → k < length bus_nodes →
    ((s : BusNode) → (slice_index_or bus_nodes k s).drives ≡ x) →
    ((m : ℕ) (s : BusNode) → m < length bus_nodes →
    ((slice_index_or bus_nodes m s).drives ≡ x) ⊎ ((slice_index_or bus_nodes m s).drives ≡ Recessive)) →
    wired (driven_by bus_nodes) ≡ x
one_drives bus_nodes k Dominant few here each = one_dominant bus_nodes k few here
one_drives bus_nodes k Recessive few here each =
    all_recessive bus_nodes (λ m s near. elim (each m s near) [ inl e ↦ e | inr e ↦ e ])
