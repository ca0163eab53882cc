-- One bit more on the wire.
use Rattle.std.proofs.Common.{◌≡◌, ℕ, zero, suc, ◌+◌, ◌<◌, List, [], ◌∷◌, ◌++◌, length, map, refl, sym, ap, ◌∙◌, subst}
use Rattle.std.proofs.Common.{arith, inl, inr}
use Rattle.std.specs.Prelude.{slice_index_or, replicate}
use Rattle.std.proofs.lemmas.Bool.{cases_lt}
use Rattle.std.proofs.lemmas.List.{length-append, get_or_append_left, get_or_push, get_or_default}
use Rattle.lemmas.proofs.Elements.{map_alike}
use Rattle.can_levels.specs.declared.level.Level.{Level}
use Rattle.can_levels.specs.declared.level.Level.TheVariants.{Recessive}
use Rattle.can_node_rules.specs.Bits.{Bit, recessive_bit}
use Rattle.sja_journal.specs.declared.entry.Entry.{Entry}
use Rattle.sja_journal.specs.Carried.{bits_of}
use Rattle.sja_steps.specs.declared.strike.Strike.{Strike}
use Rattle.sja_steps.specs.Striking.{Strikes}
use Rattle.can_levels.specs.BusLevel.{wired}
use Rattle.sja_bus_rules.specs.Wire.{IsSeen, journal_at, bit_at, driven_at, IsWired}

-- ---- lists by their places

-- two lists that agree at each place under f and g, where these stand for what is beyond them
agree : {A B C : Type 0} (f : A → C) (g : B → C) (xs : List A) (ys : List B) (d : A) (e : B) → length xs ≡ length ys →
    ((i : ℕ) → i < length xs → f (slice_index_or xs i d) ≡ g (slice_index_or ys i e)) → map f xs ≡ map g ys
agree f g xs ys d e len h = map_alike f g xs ys len (λ k x y few.
    ap f (get_or_default xs k x d few) ∙ h k few ∙ ap g (get_or_default ys k e y (omega (arith, len, few))))

-- of empty journals each is empty
pub no_journal : (n k : ℕ) → journal_at (replicate n []) k ≡ []
no_journal zero k = refl
no_journal (suc n) zero = refl
no_journal (suc n) (suc k) = no_journal n k

-- ---- one bit more

-- each journal has one bit more, by this list
abbrev pub AddsBits : List (List Entry) → List Bit → List (List Entry) → Type 0
AddsBits before bits after = (node : ℕ) → node < length before →
    bits_of (journal_at after node) ≡ bits_of (journal_at before node)
    ++ slice_index_or bits node (recessive_bit Recessive) ∷ []

pub wired_none : (script : List Strike) (journals : List (List Entry)) →
    ((node : ℕ) → node < length journals → journal_at journals node ≡ []) → IsWired script 0 journals
wired_none script journals none = record {
  count = λ node few. ap (λ j. length (bits_of j)) (none node few);
  seen = λ i node early few. absurd (omega arith);
}

pub wired_bit : (script : List Strike) (n : ℕ) (before after : List (List Entry)) (bits : List Bit) →
    length after ≡ length before → length bits ≡ length before →
    AddsBits before bits after →
    ((node : ℕ) → node < length before → IsSeen (Strikes script n node) (wired (map (λ (b : Bit). b.driven) bits))
    (slice_index_or bits node (recessive_bit Recessive)).seen) →
    IsWired script n before → IsWired script (n + 1) after
wired_bit script n before after bits len all adds sees h = record {
  count = λ node few.
      let l = length-append (bits_of (journal_at before node))
      (slice_index_or bits node (recessive_bit Recessive) ∷ []) in
      let c = h.count node (omega (arith, len, few)) in
      ap (λ (x : List Bit). length x) (adds node (omega (arith, len, few))) ∙ l ∙ ap (λ k. k + 1) c;
  seen = λ i node early few. elim (cases_lt i n) [
    | inl old ↦
        let was = h.seen i node old (omega (arith, len, few)) in
        let P : Level → Type 0 = λ s. IsSeen (Strikes script i node) (wired (driven_at i after)) s in
        let Q : List Level → Type 0 = λ l. IsSeen (Strikes script i node) (wired l)
        (bit_at i (journal_at before node)).seen in
        let levels : driven_at i before ≡ driven_at i after =
        agree (λ j. (bit_at i j).driven) (λ j. (bit_at i j).driven) before after [] [] (sym len)
        (λ k near. ap (λ (b : Bit). b.driven) (sym (same i k old near))) in
        subst P (ap (λ (b : Bit). b.seen) (sym (same i node old (omega (arith, len, few))))) (subst Q levels was)
    | inr now ↦
        let at : i ≡ n = omega (arith, early, now) in
        let was = sees node (omega (arith, len, few)) in
        let P : Level → Type 0 = λ s. IsSeen (Strikes script n node) (wired (driven_at n after)) s in
        let Q : List Level → Type 0 = λ l. IsSeen (Strikes script n node) (wired l)
        (slice_index_or bits node (recessive_bit Recessive)).seen in
        let levels : map (λ (b : Bit). b.driven) bits ≡ driven_at n after =
        agree (λ (b : Bit). b.driven) (λ j. (bit_at n j).driven) bits after
        (recessive_bit Recessive) [] (all ∙ sym len)
        (λ k near. ap (λ (b : Bit). b.driven) (sym (last k (omega (arith, all, near))))) in
        let R : ℕ → Type 0 = λ k. IsSeen (Strikes script k node) (wired (driven_at k after))
        (bit_at k (journal_at after node)).seen in
        subst R (sym at) (subst P (ap (λ (b : Bit). b.seen)
        (sym (last node (omega (arith, len, few))))) (subst Q levels was))
  ];
}
  where
    same : (i node : ℕ) → i < n → node < length before →
        bit_at i (journal_at after node) ≡ bit_at i (journal_at before node)
    same i node old few =
        let c = h.count node few in
        ap (λ (l : List Bit). slice_index_or l i (recessive_bit Recessive)) (adds node few)
        ∙ get_or_append_left (bits_of (journal_at before node))
        (slice_index_or bits node (recessive_bit Recessive) ∷ []) (recessive_bit Recessive) i (omega (arith, c, old))

    last : (node : ℕ) → node < length before → bit_at n (journal_at after node) ≡ slice_index_or bits node
        (recessive_bit Recessive)
    last node few =
        ap (λ (l : List Bit). slice_index_or l n (recessive_bit Recessive)) (adds node few)
        ∙ get_or_push (bits_of (journal_at before node)) (slice_index_or bits node (recessive_bit Recessive))
        (recessive_bit Recessive) n (h.count node few)

-- entries without a bit
pub wired_same : (script : List Strike) (n : ℕ) (before after : List (List Entry)) → length after ≡ length before →
    ((node : ℕ) → node < length before → bits_of (journal_at after node) ≡ bits_of (journal_at before node)) →
    IsWired script n before → IsWired script n after
wired_same script n before after len same h = record {
  count = λ node few. ap (λ (x : List Bit). length x) (same node (omega (arith, len, few)))
      ∙ h.count node (omega (arith, len, few));
  seen = λ i node early few.
      let P : Level → Type 0 = λ s. IsSeen (Strikes script i node) (wired (driven_at i after)) s in
      let Q : List Level → Type 0 = λ l. IsSeen (Strikes script i node) (wired l)
      (bit_at i (journal_at before node)).seen in
      let levels : driven_at i before ≡ driven_at i after =
      agree (λ j. (bit_at i j).driven) (λ j. (bit_at i j).driven) before after [] [] (sym len)
      (λ k near. ap (λ (l : List Bit). (slice_index_or l i (recessive_bit Recessive)).driven) (sym (same k near))) in
      subst P (ap (λ (l : List Bit). (slice_index_or l i (recessive_bit Recessive)).seen)
      (sym (same node (omega (arith, len, few))))) (subst Q levels (h.seen i node early (omega (arith, len, few))));
}
