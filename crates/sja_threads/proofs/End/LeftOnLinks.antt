-- What is left on the links of a node, one after another, and on those of all nodes.
use Rattle.std.proofs.Common.{◌≡◌, ℕ, zero, suc, ◌+◌, ◌<◌, ◌⊎◌, Option, Some, None, List, [], ◌∷◌, ◌++◌, length, refl}
use Rattle.std.proofs.Common.{sym, ap, ◌∙◌, subst, arith, inl, inr, append-nil}
use Rattle.std.specs.Prelude.{slice_index_or}
use Rattle.std.proofs.lemmas.Bool.{cases_eq, cases_lt}
use Rattle.std.proofs.lemmas.List.{length_push, get_or_append_left, get_or_push}
use Rattle.lemmas.proofs.Lists.{some_of}
use Rattle.sja_journal.specs.declared.down.Down.{Down}
use Rattle.sja_link.specs.declared.older_down.OlderDown.{OlderDown}
use Rattle.sja_link.specs.Deques.{left_on}
use Rattle.sja_link.proofs.QueuedLinks.Left.{left_both, left_here, left_else}
use Rattle.sja_rings.specs.declared.node_bus.NodeBus.{NodeBus}
use Rattle.sja_rings.specs.declared.node_driver.NodeDriver.{NodeDriver}
use Rattle.sja_rings.specs.declared.ring_bus.RingBus.{RingBus}
use Rattle.sja_rings.specs.declared.ring_driver.RingDriver.{RingDriver}
use Rattle.sja_rings.specs.NodeRings.{rings_of_bus, rings_of_driver, ring_at, BusListsAt, DriverListsAt, OneNode}
use Rattle.sja_rings.proofs.RingsOfNode.{here, nowhere}
use Rattle.sja_promises.specs.LeftDown.{on_link}
use Rattle.sja_threads.specs.Inside.Settling.{IsLeftBy, IsLeftOn, IsLeftOnAll, AreLeftOn}
use Rattle.sja_threads.proofs.End.LinksOver.{as_many, some_ring}

-- ---- one node

-- nothing lies where there is no link
left_nowhere : (down : List Down) → down ≡ [] → IsLeftBy (BusListsAt None) (DriverListsAt None) down
left_nowhere down none l b d = (b.0 ∙ sym (ap (λ (g : List Down). g ++ down) d.0 ∙ none), d.1 ∙ sym b.1)

-- on the first so many links this was left, and on the others nothing
pub record AreLeftSoFar (bus : NodeBus) (driver : NodeDriver) (count : ℕ) (left : List OlderDown) : Type 0 where
  pub each : (i : ℕ) (b : RingBus) (d : RingDriver) → i < count →
      IsLeftOn (slice_index_or (rings_of_bus bus) i b) (slice_index_or (rings_of_driver driver) i d)
      (left_on left (suc i))
  pub none : (a : ℕ) → (a ≡ 0) ⊎ (count < a) → left_on left a ≡ []

module _ (bus : NodeBus) (driver : NodeDriver) where
  pub none_left : AreLeftSoFar bus driver 0 []
  none_left = record { each = λ i b d less. absurd (omega (arith, less)); none = λ a far. refl }

  -- one link more
  pub link_push : (count : ℕ) (left : List OlderDown) (down : List Down) → AreLeftSoFar bus driver count left →
      ((b : RingBus) (d : RingDriver) → IsLeftOn (slice_index_or (rings_of_bus bus) count b)
      (slice_index_or (rings_of_driver driver) count d) down) →
      AreLeftSoFar bus driver (count + 1) (left ++ on_link (count + 1) down)
  link_push count left down h is = record {
    each = λ i b d less. elim (cases_eq count i) [
      | inl e ↦
          let next : count + 1 ≡ suc i = omega (arith, e) in
          let at : left_on (left ++ on_link (count + 1) down) (suc i) ≡ down =
          left_both left (on_link (count + 1) down) (suc i)
          ∙ ap (λ l. l ++ left_on (on_link (count + 1) down) (suc i)) (h.none (suc i) (inr (omega (arith, e))))
          ∙ ap (λ (n : ℕ). left_on (on_link n down) (suc i)) next ∙ left_here (suc i) down in
          subst (λ (l : List Down). IsLeftOn (slice_index_or (rings_of_bus bus) i b)
          (slice_index_or (rings_of_driver driver) i d) l) (sym at)
          (subst (λ (n : ℕ). IsLeftOn (slice_index_or (rings_of_bus bus) n b)
          (slice_index_or (rings_of_driver driver) n d) down) e (is b d))
      | inr other ↦
          let at : left_on (left ++ on_link (count + 1) down) (suc i) ≡ left_on left (suc i) =
          left_both left (on_link (count + 1) down) (suc i)
          ∙ ap (λ l. left_on left (suc i) ++ l)
          (left_else (count + 1) (suc i) down (λ e. omega (arith, less, other, e)))
          ∙ append-nil (left_on left (suc i)) in
          subst (λ (l : List Down). IsLeftOn (slice_index_or (rings_of_bus bus) i b)
          (slice_index_or (rings_of_driver driver) i d) l) (sym at) (h.each i b d (omega (arith, less, other)))
    ];
    none = λ a far.
        left_both left (on_link (count + 1) down) a
        ∙ ap (λ l. l ++ left_on (on_link (count + 1) down) a) (h.none a (further count a far))
        ∙ left_else (count + 1) a down (elsewhere count a far);
  }
    where
      further : (n a : ℕ) → (a ≡ 0) ⊎ (n + 1 < a) → (a ≡ 0) ⊎ (n < a)
      further n a (inl first) = inl first
      further n a (inr more) = inr (omega (arith, more))

      elsewhere : (n a : ℕ) → (a ≡ 0) ⊎ (n + 1 < a) → n + 1 ≡ a → ⊥
      elsewhere n a (inl first) e = omega (arith, first, e)
      elsewhere n a (inr more) e = omega (arith, more, e)

  -- ---- once all are gone through

  abbrev LeftAt : Option RingBus → Option RingDriver → List Down → Type 0
  LeftAt b d down = IsLeftBy (BusListsAt b) (DriverListsAt d) down

  by_none : (left : List OlderDown) (a : ℕ) → OneNode bus driver → (a ≡ 0) ⊎ (length (rings_of_bus bus) < a) →
      left_on left a ≡ [] →
      LeftAt (ring_at (rings_of_bus bus) a) (ring_at (rings_of_driver driver) a) (left_on left a)
  by_none left a one far none =
      let many = as_many bus driver one in
      let there : (a ≡ 0) ⊎ (length (rings_of_driver driver) < a) =
      elim far [ inl first ↦ inl first | inr more ↦ inr (omega (arith, many, more)) ] in
      subst (λ (o : Option RingBus). LeftAt o (ring_at (rings_of_driver driver) a) (left_on left a))
      (sym (nowhere (rings_of_bus bus) a far))
      (subst (λ (o : Option RingDriver). LeftAt None o (left_on left a))
      (sym (nowhere (rings_of_driver driver) a there)) (left_nowhere (left_on left a) none))

  by_place : (left : List OlderDown) (place : ℕ) → OneNode bus driver →
      AreLeftSoFar bus driver (length (rings_of_bus bus)) left → (less : place < length (rings_of_bus bus)) →
      LeftAt (ring_at (rings_of_bus bus) (suc place)) (ring_at (rings_of_driver driver) (suc place))
      (left_on left (suc place))
  by_place left place one h less =
      let many = as_many bus driver one in
      let b = some_of (rings_of_bus bus) place less in
      let d = some_ring bus driver one (omega (arith, less)) in
      subst (λ (o : Option RingBus). LeftAt o (ring_at (rings_of_driver driver) (suc place)) (left_on left (suc place)))
      (sym (here (rings_of_bus bus) place (suc place) b refl less))
      (subst (λ (o : Option RingDriver). LeftAt (Some (slice_index_or (rings_of_bus bus) place b)) o
      (left_on left (suc place)))
      (sym (here (rings_of_driver driver) place (suc place) d refl (omega (arith, less, many))))
      (h.each place b d less))

  -- on each link that is left, and nothing where there is none
  pub left_all : (left : List OlderDown) → OneNode bus driver →
      AreLeftSoFar bus driver (length (rings_of_bus bus)) left → IsLeftOnAll bus driver (λ a. left_on left a)
  left_all left one h zero = by_none left 0 one (inl refl) (h.none 0 (inl refl))
  left_all left one h (suc place) = elim (cases_lt place (length (rings_of_bus bus))) [
    | inl less ↦ by_place left place one h less
    | inr most ↦ by_none left (suc place) one (inr (omega (arith, most)))
        (h.none (suc place) (inr (omega (arith, most))))
  ]

-- ---- all nodes

-- one node more
pub left_push : (buses : List NodeBus) (drivers : List NodeDriver) (n : ℕ) (lists : List (List OlderDown))
    (x : List OlderDown) → AreLeftOn buses drivers n lists → ((b : NodeBus) (d : NodeDriver) →
    IsLeftOnAll (slice_index_or buses n b) (slice_index_or drivers n d) (λ a. left_on x a)) →
    AreLeftOn buses drivers (n + 1) (lists ++ x ∷ [])
left_push buses drivers n lists x h is = record {
  count_is = let c = h.count_is in let e = length_push lists x in omega (arith, c, e);
  each = λ i b d less. elim (cases_eq n i) [
    | inl e ↦
        let at : slice_index_or (lists ++ x ∷ []) i [] ≡ x = get_or_push lists x [] i (h.count_is ∙ e) in
        subst (λ (y : List OlderDown). IsLeftOnAll (slice_index_or buses i b) (slice_index_or drivers i d)
        (λ a. left_on y a)) (sym at)
        (subst (λ (m : ℕ). IsLeftOnAll (slice_index_or buses m b) (slice_index_or drivers m d) (λ a. left_on x a)) e
        (is b d))
    | inr differ ↦
        let c = h.count_is in
        subst (λ (y : List OlderDown). IsLeftOnAll (slice_index_or buses i b) (slice_index_or drivers i d)
        (λ a. left_on y a))
        (sym (get_or_append_left lists (x ∷ []) [] i (omega (arith, c, less, differ))))
        (h.each i b d (omega (arith, less, differ)))
  ];
}
