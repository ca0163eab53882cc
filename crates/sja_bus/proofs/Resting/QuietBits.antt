-- Bits that were run at once, by the journals: after items of which none was taken, and by the links.
use Rattle.std.proofs.Common.{◌≡◌, ℕ, zero, suc, ◌+◌, ◌<◌, Bool, true, false, List, [], ◌∷◌, ◌++◌, length, refl}
use Rattle.std.proofs.Common.{sym, ap, ◌∙◌, subst, append-nil, arith}
use Rattle.std.specs.Prelude.{◌≢◌, slice_index_or, Result, Ok, Err, OnOk, IfOk}
use Rattle.std.proofs.lemmas.List.{length-map, length-append, ext_get_or}
use Rattle.can_levels.specs.declared.level.Level.TheVariants.{Recessive}
use Rattle.sja_journal.specs.declared.entry.Entry.{Entry}
use Rattle.sja_journal.specs.declared.entry.Entry.TheVariants.{Bit}
use Rattle.sja_journal.specs.Lists.{Lists}
use Rattle.sja_journal.specs.Accounts.{Account, account}
use Rattle.sja_journal.specs.declared.up.Up.{Up}
use Rattle.lemmas.proofs.Gathered.{total_push}
use Rattle.sja_regs.specs.declared.orders.Orders.{Orders}
use Rattle.sja_regs.specs.declared.bus_turn.BusTurn.{BusTurn}
use Rattle.sja_steps.specs.declared.strike.Strike.{Strike}
use Rattle.sja_bus_rules.specs.Lawful.{IsBusRun}
use Rattle.sja_bus_rules.specs.Wire.{journal_at}
use Rattle.sja_journal.specs.Links.{Kept, stops_in, stops_of}
use Rattle.sja_journal.specs.declared.bus_fault.BusFault.{BusFault}
use Rattle.sja_journal.specs.BitEntries.{MayHaveItems, entries_of_items}
use Rattle.sja_bus_rules.specs.Telling.{IsUntold}
use Rattle.sja_bus_rules.specs.Buses.{EachJournal, EachUntold, KeepsAll, AllDry, untold_at, IsNodeBit}
use Rattle.sja_bus_rules.specs.Buses.{IsBit}
use Rattle.sja_bus.specs.Stretches.{recessive_bits, with_recessive, IsStretch}
use Rattle.sja_link.proofs.Growing.Moving.{account_quiet}
use Rattle.sja_bus.proofs.Resting.AtRest.{one_more}

-- ---- by journals

-- nothing was taken where nothing is untold
none_taken : (j k : List Entry) (before now : Bool) → MayHaveItems j k → IsUntold before now j k → now ≡ false → k ≡ j
none_taken j k before now h u e = go h.items h.whole
  where
    go : (items : List Up) → k ≡ j ++ entries_of_items items → k ≡ j
    go [] whole = whole ∙ append-nil j
    go (v ∷ items) whole =
        let a = ap (λ (l : List Entry). length l) whole in
        let b = length-append j (entries_of_items (v ∷ items)) in
        let c : length (entries_of_items (v ∷ items)) ≡ suc (length (entries_of_items items)) = refl in
        let taken : now ≡ true = u.takes (λ same. let d = ap (λ (l : List Entry). length l) same in
        absurd (omega (arith, a, b, c, d))) in
        let wrong : true ≡ false = sym taken ∙ e in absurd cc

was_told_before : (before now : Bool) → (before ≡ true → now ≡ true) → now ≡ false → before ≡ false
was_told_before true now stays e = let wrong : true ≡ false = sym (stays refl) ∙ e in absurd cc
was_told_before false now stays e = refl

-- a bit where other things are untold of nodes of which nothing is
bit_untold : (orders_are : ℕ → Orders → Type 0) (was_told : ℕ → BusTurn → Type 0) (was_kept : ℕ → Type 0)
    (script : List Strike) (n : ℕ) (untold another : List Bool) (before after : List (List Entry)) →
    ((node : ℕ) → node < length before → untold_at untold node ≡ untold_at another node) →
    IsBit orders_are was_told was_kept script n untold before after →
    IsBit orders_are was_told was_kept script n another before after
bit_untold orders_are was_told was_kept script n untold another before after same h = record {
  driven = h.driven;
  seen = h.seen;
  count = h.count;
  nodes = λ node few.
      let P : Bool → Type 0 = λ u. IsNodeBit (orders_are node) (was_told node) (was_kept node) u
      (journal_at before node) (journal_at after node) (slice_index_or h.driven node Recessive) (h.seen node) in
      subst P (same node few) (h.nodes node few);
  sees = h.sees;
}

-- after items of which none was taken
pub stretch_taken : (orders_are : ℕ → Orders → Type 0) (was_told : ℕ → BusTurn → Type 0) (was_kept : ℕ → Type 0)
    (script : List Strike) (run count : ℕ) (untold now : List Bool) (before mid after : List (List Entry)) →
    length mid ≡ length before → EachJournal MayHaveItems before mid → EachUntold untold now before mid →
    IsStretch orders_are was_told was_kept script run count now mid after →
    IsStretch orders_are was_told was_kept script run count untold before after
stretch_taken orders_are was_told was_kept script run count untold now before mid after len items tells h =
    let same : mid ≡ before =
    ext_get_or [] mid before len
    (λ i few. let within : i < length before = omega (arith, few, len) in
    none_taken (journal_at before i) (journal_at mid i) (untold_at untold i) (untold_at now i) (items i within)
    (tells i within) (h.told i few)) in
    let told : (node : ℕ) → node < length before → untold_at untold node ≡ false =
    λ node few. was_told_before (untold_at untold node) (untold_at now node) (tells node few).stays
    (h.told node (omega (arith, few, len))) in record {
      told = told;
      grown = h.grown ∙ ap (λ l. with_recessive count l) same;
      bits = λ i early.
          let P : List (List Entry) → Type 0 = λ l. IsBit orders_are was_told was_kept script (run + i) now
          (with_recessive i l) (with_recessive (suc i) l) in
          bit_untold orders_are was_told was_kept script (run + i) now untold (with_recessive i before)
          (with_recessive (suc i) before)
          (λ node few.
          let c = length-map before (λ j. j ++ recessive_bits i) in
          let near : node < length before = omega (arith, few, c) in
          h.told node (omega (arith, near, len)) ∙ sym (told node near))
          (subst P same (h.bits i early));
      lawful = λ i early. subst (λ (l : List (List Entry)). IsBusRun script (run + i) (with_recessive i l)) same
          (h.lawful i early);
    }

-- ---- the links

pub longer_at : (n : ℕ) (journals : List (List Entry)) (node : ℕ) → node < length journals →
    journal_at (with_recessive n journals) node ≡ journal_at journals node ++ recessive_bits n
longer_at n [] node few = absurd (omega arith)
longer_at n (j ∷ journals) zero few = refl
longer_at n (j ∷ journals) (suc node) few = longer_at n journals node (omega arith)

pub account_still : (n : ℕ) (j : List Entry) (a : ℕ) (h : Account) → account (j ++ recessive_bits n) a h ≡ account j a h
account_still zero j a h = ap (λ l. account l a h) (append-nil j)
account_still (suc n) j a h =
    ap (λ l. account l a h) (sym (one_more n j)) ∙ account_quiet (j ++ recessive_bits n) (Bit Recessive Recessive) a h
    (λ l. refl) ∙ account_still n j a h

stops_still : (n : ℕ) (j : List Entry) → stops_of (j ++ recessive_bits n) ≡ stops_of j
stops_still zero j = ap stops_of (append-nil j)
stops_still (suc n) j =
    let a : stops_of ((j ++ recessive_bits n) ++ Bit Recessive Recessive ∷ []) ≡ stops_of (j ++ recessive_bits n) + 0 =
    total_push stops_in (j ++ recessive_bits n) (Bit Recessive Recessive) in
    let b = stops_still n j in let c = ap stops_of (one_more n j) in omega (arith, a, b, c)

-- they stand for the journals still
pub keeps_longer : {E : Type 0} (stands : E → ℕ → Lists → Type 0) (n : ℕ) (before mid after : List (List Entry))
    (links links_after : List E) → length mid ≡ length before →
    after ≡ with_recessive n mid → KeepsAll stands before mid links links_after →
    KeepsAll stands before after links links_after
keeps_longer stands n before mid after links links_after len grown keeps node d h few kept =
    let is : journal_at after node ≡ journal_at mid node ++ recessive_bits n = ap (λ l. journal_at l node) grown
    ∙ longer_at n mid node (omega (arith, few, len)) in
    let P : List Entry → Type 0 = λ j. Kept stands j (slice_index_or links_after node d) h in
    subst P (sym is)
    (λ a. subst (λ (x : Lists). stands (slice_index_or links_after node d) (suc a) x)
    (sym (account_still n (journal_at mid node) (suc a) (h a))) (keeps node d h few kept a))

pub dry_longer : {E : Type 0} (dry : E → ℕ → Type 0) (n : ℕ) (mid after : List (List Entry)) (links : List E) →
    after ≡ with_recessive n mid → AllDry dry mid links → AllDry dry after links
dry_longer dry n mid after links grown all node d few =
    let c = length-map mid (λ j. j ++ recessive_bits n) in
    let l = ap (λ (x : List (List Entry)). length x) grown in
    let near : node < length mid = omega (arith, few, c, l) in
    let is : stops_of (journal_at after node) ≡ stops_of (journal_at mid node) =
    ap (λ x. stops_of (journal_at x node)) grown ∙ ap stops_of (longer_at n mid node near)
    ∙ stops_still n (journal_at mid node) in
    let P : ℕ → Type 0 = λ k. dry (slice_index_or links node d) (suc k) in
    subst P (sym is) (all node d near)

-- ---- after what was taken before it

-- where it may be of no bits
pub keeps_rest : {E : Type 0} (orders_are : ℕ → Orders → Type 0) (was_told : ℕ → BusTurn → Type 0)
    (was_kept : ℕ → Type 0) (stands : E → ℕ → Lists → Type 0) (script : List Strike) (run : ℕ) (untold : List Bool)
    (r : Result ℕ BusFault)
    (before mid after : List (List Entry)) (links links_after : List E) → length mid ≡ length before →
    (r ≡ Ok 0 → after ≡ mid) →
    IfOk r (λ n. n ≢ 0 → IsStretch orders_are was_told was_kept script run n untold mid after) →
    KeepsAll stands before mid links links_after → OnOk r (KeepsAll stands before after links links_after)
keeps_rest orders_are was_told was_kept stands script run untold (Ok zero) before mid after links
    links_after len none h keeps =
    let P : List (List Entry) → Type 0 = λ l. KeepsAll stands before l links links_after in
    subst P (sym (none refl)) keeps
keeps_rest orders_are was_told was_kept stands script run untold (Ok (suc n)) before mid after links
    links_after len none h keeps =
    keeps_longer stands (suc n) before mid after links links_after len (h (λ z. absurd (omega (arith, z)))).grown keeps
keeps_rest orders_are was_told was_kept stands script run untold (Err f) before mid after links
    links_after len none h keeps = tt

pub dry_rest : {E : Type 0} (orders_are : ℕ → Orders → Type 0) (was_told : ℕ → BusTurn → Type 0) (was_kept : ℕ → Type 0)
    (dry : E → ℕ → Type 0) (script : List Strike) (run : ℕ) (untold : List Bool) (r : Result ℕ BusFault)
    (mid after : List (List Entry)) (links : List E) → (r ≡ Ok 0 → after ≡ mid) →
    IfOk r (λ n. n ≢ 0 → IsStretch orders_are was_told was_kept script run n untold mid after) →
    AllDry dry mid links → OnOk r (AllDry dry after links)
dry_rest orders_are was_told was_kept dry script run untold (Ok zero) mid after links none h all =
    let P : List (List Entry) → Type 0 = λ l. AllDry dry l links in subst P (sym (none refl)) all
dry_rest orders_are was_told was_kept dry script run untold (Ok (suc n)) mid after links none h all =
    dry_longer dry (suc n) mid after links (h (λ z. absurd (omega (arith, z)))).grown all
dry_rest orders_are was_told was_kept dry script run untold (Err f) mid after links none h all = tt

pub stretch_rest : (orders_are : ℕ → Orders → Type 0) (was_told : ℕ → BusTurn → Type 0) (was_kept : ℕ → Type 0)
    (script script_now : List Strike) (run run_now : ℕ) (r : Result ℕ BusFault)
    (untold now : List Bool) (before mid after : List (List Entry)) → script_now ≡ script → run_now ≡ run →
    length mid ≡ length before →
    EachJournal MayHaveItems before mid → EachUntold untold now before mid →
    IfOk r (λ n. n ≢ 0 → IsStretch orders_are was_told was_kept script_now run_now n now mid after) →
    IfOk r (λ n. n ≢ 0 → IsStretch orders_are was_told was_kept script run n untold before after)
stretch_rest orders_are was_told was_kept script script_now run run_now (Ok n) untold now before mid after same_script
    same_run len items tells h = λ ne.
    let P : List Strike → Type 0 = λ x. IsStretch orders_are was_told was_kept x run n now mid after in
    let Q : ℕ → Type 0 = λ k. IsStretch orders_are was_told was_kept script_now k n now mid after in
    stretch_taken orders_are was_told was_kept script run n untold now before mid after len items tells
    (subst P same_script (subst Q same_run (h ne)))
stretch_rest orders_are was_told was_kept script script_now run run_now (Err f) untold now before mid after same_script
    same_run len items tells h = tt
