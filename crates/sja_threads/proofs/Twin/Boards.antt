-- The lists of turns of a board of which one goes on.
use Rattle.std.proofs.Common.{◌≡◌, ◌≢◌, ◌++◌, ℕ, ◌+◌, ◌<◌, ◌≤◌, Bool, true, inl, inr, List, [], ◌∷◌, length, map}
use Rattle.std.proofs.Common.{refl, sym, ap, ◌∙◌, arith}
use Rattle.std.specs.Prelude.{slice_index_or, slice_set}
use Rattle.std.proofs.lemmas.Bool.{cases_eq}
use Rattle.std.proofs.lemmas.List.{get_or-set_same, get_or-set_other, get_or-map, length-map, map-set}
use Rattle.sja_threads.specs.declared.order.Order.{Ghosts as Orders}
use Rattle.sja_regs.specs.declared.orders.Orders.{Orders as BusOrders}
use Rattle.sja_thread_promises.specs.declared.port_update.PortUpdate.{PortUpdate}
use Rattle.sja_thread_promises.specs.declared.port_update.PortUpdate.TheVariants.{Ran}
use Rattle.sja_threads.specs.declared.turns_of_node.TurnsOfNode.{TurnsOfNode}
use Rattle.sja_thread_promises.specs.Ordering.{abort_told, ended_told}
use Rattle.sja_threads.specs.Inside.Boards.{EachTold, FirstTold, SaysBits, turns_at, turns_in}

module _ {N : Type 0} {o : Orders N} (told : List (TurnsOfNode N o)) (node : ℕ) (t : TurnsOfNode N o) where
  -- that of this node
  pub told_here : (turn : PortUpdate) (old : TurnsOfNode N o) → node < length told →
      old ≡ slice_index_or told node old →
      t.known.list ≡ old.known.list ++ turn ∷ [] →
      turns_at (turns_in (slice_set told node t)) node ≡ turns_at (turns_in told) node ++ turn ∷ []
  told_here turn old less there is =
      let within : node < length (map (λ (x : TurnsOfNode N o). x.known.list) told) =
      let long = length-map told (λ (x : TurnsOfNode N o). x.known.list) in omega (arith, long, less) in
      ap (λ l. slice_index_or l node []) (map-set (λ (x : TurnsOfNode N o). x.known.list) told node t)
      ∙ get_or-set_same (map (λ (x : TurnsOfNode N o). x.known.list) told) node t.known.list [] within
      ∙ is
      ∙ ap (λ l. l ++ turn ∷ []) (ap (λ (x : TurnsOfNode N o). x.known.list) there
      ∙ sym (get_or-map (λ (x : TurnsOfNode N o). x.known.list) told node old [] less))

  -- told how many bits have run
  pub bits_here : (bits : ℕ) (orders : BusOrders) (old : TurnsOfNode N o) → node < length told →
      old ≡ slice_index_or told node old → t.known.list ≡ old.known.list ++ Ran bits orders ∷ [] →
      (more : PortUpdate) × SaysBits bits more
      × (turns_at (turns_in (slice_set told node t)) node ≡ turns_at (turns_in told) node ++ more ∷ [])
  bits_here bits orders old less there is =
      (Ran bits orders, (orders, refl), told_here (Ran bits orders) old less there is)

  -- the others
  pub told_there : (k : ℕ) → k ≢ node →
      turns_at (turns_in (slice_set told node t)) k ≡ turns_at (turns_in told) k
  told_there k other =
      ap (λ l. slice_index_or l k []) (map-set (λ (x : TurnsOfNode N o). x.known.list) told node t)
      ∙ get_or-set_other (map (λ (x : TurnsOfNode N o). x.known.list) told) node k t.known.list [] other

  -- whether its driver was found to have ended
  pub ended_at : node < length told → t ≡ slice_index_or told node t → t.ended ≡ true →
      ended_told (turns_at (turns_in told) node) ≡ true
  ended_at less there is =
      ap ended_told (get_or-map (λ (x : TurnsOfNode N o). x.known.list) told node t [] less
      ∙ ap (λ (x : TurnsOfNode N o). x.known.list) (sym there)) ∙ sym t.ended_is ∙ is

  -- and whether an abort was found to stand
  pub abort_at : node < length told → t ≡ slice_index_or told node t → t.abort ≡ true →
      abort_told (turns_at (turns_in told) node) ≡ true
  abort_at less there is =
      ap abort_told (get_or-map (λ (x : TurnsOfNode N o). x.known.list) told node t [] less
      ∙ ap (λ (x : TurnsOfNode N o). x.known.list) (sym there)) ∙ sym t.abort_is ∙ is

-- ---- one after the other

module _ (IsMore : PortUpdate → Type 0) where
  pub first_none : (a : List (List PortUpdate)) → FirstTold IsMore 0 a a
  first_none a = record { told = λ k less. absurd (omega (arith, less)); others = λ k there. refl }

  pub first_more : (many : ℕ) (a b c : List (List PortUpdate)) → FirstTold IsMore many a b →
      (more : PortUpdate) × IsMore more × (turns_at c many ≡ turns_at b many ++ more ∷ []) →
      ((k : ℕ) → k ≢ many → turns_at c k ≡ turns_at b k) → FirstTold IsMore (many + 1) a c
  first_more many a b c first here there = record {
    told = λ k less.
        elim (cases_eq k many) [
          | inl is ↦ (
            here.0,
            here.1,
            ap (λ (i : ℕ). turns_at c i) is ∙ here.2
                ∙ ap (λ l. l ++ here.0 ∷ [])
                (first.others many (omega arith) ∙ ap (λ (i : ℕ). turns_at a i) (sym is)),
          )
          | inr other ↦
              let t = first.told k (omega (arith, less, other)) in (t.0, t.1, there k other ∙ t.2)
        ];
    others = λ k past.
        let other : k ≢ many = omega (arith, past) in there k other ∙ first.others k (omega (arith, past));
  }

  pub each_first : {N : Type 0} {o : Orders N} (many : ℕ) (a : List (TurnsOfNode N o)) (b : List (List PortUpdate)) →
      FirstTold IsMore many (turns_in a) b → length a ≤ many → EachTold IsMore (turns_in a) b
  each_first {N} {o} many a b first all = λ node less.
      let long = length-map a (λ (x : TurnsOfNode N o). x.known.list) in
      first.told node (omega (arith, less, all, long))
