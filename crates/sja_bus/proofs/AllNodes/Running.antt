-- A bus with a bit more, and with items taken.
use Rattle.std.proofs.Common.{◌≡◌, ℕ, zero, suc, ◌+◌, ◌<◌, ◌≤◌, Bool, true, false, cond, inl, inr, List, [], ◌∷◌, ◌++◌}
use Rattle.std.proofs.Common.{length, map, refl, sym, ap, ◌∙◌, subst, arith}
use Rattle.std.specs.Prelude.{slice_index_or, if◌then◌else◌, ◌↔◌, IsTrue}
use Rattle.std.specs.Int.{bit_at}
use Rattle.std.proofs.lemmas.Bool.{cases_eq, eq-eqb, ne_eqb}
use Rattle.std.proofs.lemmas.List.{length-map}
use Rattle.can_levels.specs.declared.level.Level.{Level}
use Rattle.can_levels.specs.declared.level.Level.TheVariants.{Recessive}
use Rattle.can_levels.specs.Digits.{opposite}
use Rattle.can_node_rules.specs.Bits.{Bit, recessive_bit}
use Rattle.sja_journal.specs.declared.entry.Entry.{Entry}
use Rattle.sja_journal.specs.Carried.{bits_of}
use Rattle.sja_journal.specs.Verdicts.{IsLawful}
use Rattle.sja_regs.specs.declared.orders.Orders.{Orders}
use Rattle.sja_steps.specs.declared.strike.Strike.{Strike}
use Rattle.sja_steps.specs.Striking.{Strikes}
use Rattle.sja_bus.specs.declared.struck_nodes.StruckNodes.{StruckNodes}
use Rattle.sja_bus.specs.Inside.StrikesByBit.{IsAmong}
use Rattle.sja_bus.specs.declared.bus_node.BusNode.{BusNode}
use Rattle.can_levels.specs.BusLevel.{wired}
use Rattle.sja_bus_rules.specs.Wire.{IsSeen, journal_at, IsWired}
use Rattle.sja_bus_rules.specs.Lawful.{IsBusRun}
use Rattle.sja_link.specs.Orderly.{AreOrderly}
use Rattle.sja_regs.specs.declared.bus_turn.BusTurn.{BusTurn}
use Rattle.sja_bus.specs.Inside.Turning.{is_untold}
use Rattle.sja_bus.specs.Inside.Rows.{EachBusNode, BusNodeTakes, BusNodeOpens, BusNodeTurns, seen_by, journals_of}
use Rattle.sja_bus.specs.Inside.Rows.{untold_of}
use Rattle.sja_bus.specs.Inside.Rows.{driven_by, IsBus}
use Rattle.sja_bus_rules.proofs.Wires.{wired_bit, wired_same}
use Rattle.sja_bus.proofs.WholeBus.Lawfuls.{lawful_of}
use Rattle.sja_bus.proofs.AllNodes.NodeBit.{bits_has, bits_items, bits_abort}

-- the journal of a node
pub journal_is : (bus_nodes : List BusNode) (k : ℕ) (s : BusNode) → k < length bus_nodes →
    journal_at (journals_of bus_nodes) k ≡ (slice_index_or bus_nodes k s).journal.entries
journal_is [] k s few = absurd (omega arith)
journal_is (x ∷ bus_nodes) zero s few = refl
journal_is (x ∷ bus_nodes) (suc k) s few = journal_is bus_nodes k s (omega arith)

-- whether something is untold of it
pub untold_is : (bus_nodes : List BusNode) (k : ℕ) (s : BusNode) → k < length bus_nodes →
    slice_index_or (untold_of bus_nodes) k false ≡ is_untold (slice_index_or bus_nodes k s).untold
untold_is [] k s few = absurd (omega arith)
untold_is (x ∷ bus_nodes) zero s few = refl
untold_is (x ∷ bus_nodes) (suc k) s few = untold_is bus_nodes k s (omega arith)

pub count_is : (bus_nodes : List BusNode) → length (journals_of bus_nodes) ≡ length bus_nodes
count_is bus_nodes = length-map bus_nodes (λ (s : BusNode). s.journal.entries)

-- what a node sees, by whether it is struck
pub seen_is : (b : Bool) (struck : StruckNodes) (level : Level) (node : ℕ) → IsTrue b ↔ IsAmong node struck →
    (if b then opposite level else level) ≡ seen_by struck level node
seen_is true struck level node h = ap (λ c. cond c (opposite level) level)
    (sym (eq-eqb (bit_at struck.mask node) 1 (h.0 refl)))
seen_is false struck level node h = ap (λ c. cond c (opposite level) level)
    (sym (ne_eqb (bit_at struck.mask node) 1 (λ e. let yes : false ≡ true = h.1 e in cc)))

pub seen_right : (script : List Strike) (n : ℕ) (struck : StruckNodes) (bus level : Level) (node : ℕ) → level ≡ bus →
    IsAmong node struck ↔ Strikes script n node → IsSeen (Strikes script n node) bus (seen_by struck level node)
seen_right script n struck bus level node same h = elim (cases_eq (bit_at struck.mask node) 1) [
  | inl hit ↦ record {
    struck = λ s. ap (λ c. cond c (opposite level) level) (eq-eqb (bit_at struck.mask node) 1 hit) ∙ ap opposite same;
    plain = λ no. absurd (no (h.0 hit));
  }
  | inr miss ↦ record {
    struck = λ s. absurd (miss (h.1 s));
    plain = λ no. ap (λ c. cond c (opposite level) level) (ne_eqb (bit_at struck.mask node) 1 miss) ∙ same;
  }
]

-- the bits of one bit time
abbrev bits_now : List Level → (ℕ → Level) → List Bit
bits_now [] seen = []
bits_now (x ∷ driven) seen = (record { driven = x; seen = seen 0 }) ∷ bits_now driven (λ n. seen (suc n))

now_length : (driven : List Level) (seen : ℕ → Level) → length (bits_now driven seen) ≡ length driven
now_length [] seen = refl
now_length (x ∷ driven) seen = ap suc (now_length driven (λ n. seen (suc n)))

now_driven : (driven : List Level) (seen : ℕ → Level) → map (λ (b : Bit). b.driven) (bits_now driven seen) ≡ driven
now_driven [] seen = refl
now_driven (x ∷ driven) seen = ap (λ l. x ∷ l) (now_driven driven (λ n. seen (suc n)))

now_at : (driven : List Level) (seen : ℕ → Level) (k : ℕ) → k < length driven →
    slice_index_or (bits_now driven seen) k (recessive_bit Recessive) ≡ record {
      driven =
          slice_index_or driven k Recessive;
      seen = seen k;
    }
now_at [] seen k few = absurd (omega arith)
now_at (x ∷ driven) seen zero few = refl
now_at (x ∷ driven) seen (suc k) few = now_at driven (λ n. seen (suc n)) k (omega arith)

pub driven_at_place : (bus_nodes : List BusNode) (k : ℕ) (s : BusNode) → k < length bus_nodes →
    slice_index_or (driven_by bus_nodes) k Recessive ≡ (slice_index_or bus_nodes k s).drives
driven_at_place [] k s few = absurd (omega arith)
driven_at_place (x ∷ bus_nodes) zero s few = refl
driven_at_place (x ∷ bus_nodes) (suc k) s few = driven_at_place bus_nodes k s (omega arith)

-- one bit of all nodes
pub wired_ticked : (was_told : ℕ → BusTurn → Type 0) (was_kept : ℕ → Type 0) (script : List Strike) (n : ℕ)
    (bus_nodes after : List BusNode) (struck : StruckNodes) (level : Level) → length after ≡ length bus_nodes →
    length bus_nodes ≤ 8 →
    level ≡ wired (driven_by bus_nodes) → ((node : ℕ) → node < 8 → IsAmong node struck ↔ Strikes script n node) →
    EachBusNode (BusNodeTurns was_told was_kept struck level) bus_nodes after →
    IsWired script n (journals_of bus_nodes) →
    IsWired script (n + 1) (journals_of after)
wired_ticked was_told was_kept script n [] [] struck level len few is at turns h =
    wired_bit script n [] [] [] refl refl (λ node near. absurd (omega arith)) (λ node near. absurd (omega arith)) h
wired_ticked was_told was_kept script n [] (x ∷ after) struck level len few is at turns h = absurd (omega arith)
wired_ticked was_told was_kept script n (s ∷ bus_nodes) after struck level len few is at turns h =
    let all = s ∷ bus_nodes in
    let driven = driven_by all in
    let seen = seen_by struck level in
    let bits = bits_now driven seen in
    let ca = count_is after in let cb = count_is all in let cn = now_length driven seen in let cd =
    length-map all (λ (x : BusNode). x.drives) in
    wired_bit script n (journals_of all) (journals_of after) bits (omega (arith, ca, cb, len))
    (omega (arith, cb, cn, cd))
    (λ node near.
    let here : node < length all = omega (arith, near, cb) in
    ap bits_of (journal_is after node s (omega (arith, here, len)))
    ∙ bits_has (slice_index_or all node s).journal.entries (slice_index_or after node s).journal.entries
    (slice_index_or all node s).drives (seen node) ((turns node s here).bit)
    ∙ ap (λ j. bits_of j ++ (record { driven = (slice_index_or all node s).drives; seen = seen node }) ∷ [])
    (sym (journal_is all node s here))
    ∙ ap (λ x. bits_of (journal_at (journals_of all) node) ++ (record { driven = x; seen = seen node }) ∷ [])
    (sym (driven_at_place all node s here))
    ∙ ap (λ (b : Bit). bits_of (journal_at (journals_of all) node) ++ b ∷ [])
    (sym (now_at driven seen node (omega (arith, here, cd)))))
    (λ node near.
    let here : node < length all = omega (arith, near, cb) in
    let P : List Level → Type 0 = λ l. IsSeen (Strikes script n node) (wired l) (seen node) in
    let Q : Bit → Type 0 = λ b. IsSeen (Strikes script n node) (wired (map (λ (z : Bit). z.driven) bits)) b.seen in
    subst Q (sym (now_at driven seen node (omega (arith, here, cd))))
    (subst P (sym (now_driven driven seen)) (seen_right script n struck (wired driven) level node is
    (at node (omega (arith, here, few))))))
    h

-- every bus is lawful
pub bus_run : (script : List Strike) (bits : ℕ) (bus_nodes : List BusNode) → IsBus script bits bus_nodes →
    IsBusRun script bits (journals_of bus_nodes)
bus_run script bits [] h = record {
  lawful = λ node few. absurd (omega arith);
  orderly = λ node few. absurd (omega arith);
  wired = h.wired;
}
bus_run script bits (s ∷ bus_nodes) h =
    let all = s ∷ bus_nodes in let cb = count_is all in record {
      lawful = λ node few.
          let near : node < length all = omega (arith, few, cb) in
          let bus_node = (h.ready node s near).ready.sound in
          subst (λ (j : List Entry). IsLawful j) (sym (journal_is all node s near))
          (lawful_of (slice_index_or all node s).node (slice_index_or all node s).journal.entries bus_node.follows);
      orderly = λ node few.
          let near : node < length all = omega (arith, few, cb) in
          let bus_node = (h.ready node s near).ready.sound in
          subst (λ (j : List Entry). AreOrderly j) (sym (journal_is all node s near)) bus_node.reads.orderly;
      wired = h.wired;
    }

-- no bit more
wired_kept : (script : List Strike) (n : ℕ) (bus_nodes after : List BusNode) → length after ≡ length bus_nodes →
    ((k : ℕ) (s : BusNode) → k < length bus_nodes → bits_of (slice_index_or after k
    s).journal.entries ≡ bits_of (slice_index_or bus_nodes k s).journal.entries) →
    IsWired script n (journals_of bus_nodes) → IsWired script n (journals_of after)
wired_kept script n [] [] len keep h = h
wired_kept script n [] (x ∷ after) len keep h = absurd (omega arith)
wired_kept script n (s ∷ bus_nodes) after len keep h =
    let all = s ∷ bus_nodes in let ca = count_is after in let cb = count_is all in
    wired_same script n (journals_of all) (journals_of after) (omega (arith, ca, cb, len))
    (λ node few.
    let near : node < length all = omega (arith, few, cb) in
    ap bits_of (journal_is after node s (omega (arith, near, len))) ∙ keep node s near
    ∙ ap bits_of (sym (journal_is all node s near)))
    h

-- items were taken, and aborts applied
pub wired_taken : (script : List Strike) (n : ℕ) (bus_nodes after : List BusNode) → length after ≡ length bus_nodes →
    EachBusNode BusNodeTakes bus_nodes after → IsWired script n (journals_of bus_nodes) →
    IsWired script n (journals_of after)
wired_taken script n bus_nodes after len takes h =
    wired_kept script n bus_nodes after len (λ k s few. bits_items (slice_index_or bus_nodes k s).journal.entries
    (slice_index_or after k s).journal.entries (takes k s few)) h

pub wired_opened : (orders_are : ℕ → Orders → Type 0) (script : List Strike) (n : ℕ) (bus_nodes after : List BusNode) →
    length after ≡ length bus_nodes → EachBusNode (BusNodeOpens orders_are) bus_nodes after →
    IsWired script n (journals_of bus_nodes) →
    IsWired script n (journals_of after)
wired_opened orders_are script n bus_nodes after len opens h =
    wired_kept script n bus_nodes after len
    (λ k s few. let o = opens k s few in bits_abort o.taken (slice_index_or after k s).journal.entries o.aborts
    ∙ bits_items (slice_index_or bus_nodes k s).journal.entries o.taken o.items) h
