-- How many entries of each kind a journal has after an act more of which all was taken.
use Rattle.std.proofs.Common.{◌≡◌, ℕ, ◌+◌, ◌*◌, ◌≤◌, Bool, true, false, List, [], ◌∷◌, ◌++◌, length, refl, sym, ap, ◌∙◌}
use Rattle.std.proofs.Common.{subst, append-nil, arith, inl, inr}
use Rattle.std.specs.Prelude.{◌⊎◌, if◌then◌else◌, Option, Some, None}
use Rattle.can_node_rules.specs.declared.request.Request.{Request}
use Rattle.can_node_rules.specs.Context.{ContextValue}
use Rattle.can_node_rules.specs.NextBit.{now_in}
use Rattle.sja_journal.specs.NodeWords.{NodeEntry, FinishedPiece, IsCut}
use Rattle.sja_journal.specs.declared.up.Up.{Up}
use Rattle.sja_journal.specs.declared.up.Up.TheVariants.{Start as StartItem, Credit, Send as SendItem, Stop as StopItem}
use Rattle.sja_journal.specs.declared.entry.Entry.{Entry}
use Rattle.sja_journal.specs.declared.entry.Entry.TheVariants.{Up as Item}
use Rattle.lemmas.specs.Gathering.{total}
use Rattle.sja_journal.specs.Places.{JournalPlace, past, place_of}
use Rattle.sja_journal.specs.Records.{record_of}
use Rattle.sja_journal.specs.Verdicts.{IsLawful}
use Rattle.sja_journal.proofs.JournalEntries.Entering.{place_push, record_push}
use Rattle.lemmas.proofs.Gathered.{total_push}
use Rattle.sja_regs.specs.declared.registers.Registers.{Registers}
use Rattle.sja_driver.specs.Carried.{asks_abort}
use Rattle.sja_driver.specs.TypedActs.{TypedAct}
use Rattle.sja_driver.specs.Counted.{item_in, off_in, abort_in, asks_by, gave_by, changes_left, pending}
use Rattle.sja_driver.specs.Counted.{IsCounted}

-- ---- what an abort that stands can change

changes_most : (held : Option Request) (marked : Bool) → changes_left held marked ≤ 2
changes_most None marked = omega arith
changes_most (Some request) true = omega arith
changes_most (Some request) false = omega arith

none_pending : (stands : Bool) (c : ContextValue) → stands ≡ false → pending stands c ≡ 0
none_pending true c e = absurd cc
none_pending false c e = refl

-- one more is commanded at most
pending_step : (now was asks : Bool) (c : ContextValue) → (now ≡ true → (was ≡ true) ⊎ (asks ≡ true)) →
    pending now c ≤ pending was c + 2 * (if asks then 1 else 0)
pending_step false was asks c f = omega arith
pending_step true true asks c f = omega arith
pending_step true false true c f = let m = changes_most c.held c.aborted in omega (arith, m)
pending_step true false false c f = elim (f refl) [
  | inl e ↦ absurd cc
  | inr e ↦ absurd cc
]

-- ---- activations and bus-off

abbrev left_of : Bool → ℕ
left_of off = if off then 0 else 1

left_most : (off : Bool) → left_of off ≤ 1
left_most true = omega arith
left_most false = omega arith

off_item : (p : JournalPlace) (u : Up) (offs : ℕ) → offs + left_of p.off ≤ p.activation + 1 →
    offs + left_of (past p (Item u)).off ≤ (past p (Item u)).activation + 1
off_item p (StartItem config) offs h = let m = left_most p.off in omega (arith, h, m)
off_item p (Credit n) offs h = h
off_item p (SendItem request) offs h = h
off_item p StopItem offs h = h

module _ (j : List Entry) (acts : List TypedAct) (d : TypedAct) (p q : Registers) (h : IsCounted j acts p)
    (stands : q.abort ≡ true → (p.abort ≡ true) ⊎ (asks_abort d.step d.answer ≡ true)) where
  aborts_same : (found : List FinishedPiece) (cut : IsCut (record_of j) found) →
      total abort_in j + pending q.abort (now_in cut) ≤ 2 * total asks_by (acts ++ d ∷ [])
  aborts_same found cut =
      let was = h.aborts found cut in
      let more = pending_step q.abort p.abort (asks_abort d.step d.answer) (now_in cut) stands in
      let all = total_push asks_by acts d in omega (arith, was, more, all)

  -- nothing was given
  pub counted_none : d.gave ≡ [] → IsCounted j (acts ++ d ∷ []) q
  counted_none none =
      let g = total_push gave_by acts d in let i = h.items in record {
        items = omega (arith, g, i);
        offs = h.offs;
        aborts = aborts_same;
      }

  counted_by : (u : Up) → d.gave ≡ u ∷ [] →
      ((found : List FinishedPiece) (cut : IsCut (record_of (j ++ Item u ∷ [])) found) →
      total abort_in (j ++ Item u ∷ []) + pending q.abort (now_in cut) ≤ 2 * total asks_by (acts ++ d ∷ [])) →
      IsCounted (j ++ Item u ∷ []) (acts ++ d ∷ []) q
  counted_by u gave aborts =
      let g = total_push gave_by acts d in let one : length d.gave ≡ 1 = ap (λ (l : List Up). length l) gave in
      let i = h.items in let n = total_push item_in j (Item u) in
      let o = off_item (place_of j) u (total off_in j) h.offs in let t = total_push off_in j (Item u) in
      let off = ap (λ (x : JournalPlace). left_of x.off) (place_push j (Item u)) in
      let a = ap (λ (x : JournalPlace). x.activation) (place_push j (Item u)) in record {
        items = omega (arith, g, one, i, n);
        offs = omega (arith, o, t, off, a);
        aborts = aborts;
      }

  -- an item after which no abort stands
  pub counted_item : IsLawful j → (u : Up) → d.gave ≡ u ∷ [] → q.abort ≡ false →
      IsCounted (j ++ Item u ∷ []) (acts ++ d ∷ []) q
  counted_item lawful u gave quiet = counted_by u gave (λ found cut.
      let was = h.aborts lawful.found lawful.cut in let t = total_push abort_in j (Item u) in
      let none = none_pending q.abort (now_in cut) quiet in
      let all = total_push asks_by acts d in omega (arith, was, t, none, all))

  -- a credit, of which the node isn't told
  pub counted_credit : (n : ℕ) → d.gave ≡ Credit n ∷ [] → IsCounted (j ++ Item (Credit n) ∷ []) (acts ++ d ∷ []) q
  counted_credit n gave =
      let same : record_of (j ++ Item (Credit n) ∷ []) ≡ record_of j = record_push j (Item (Credit n))
      ∙ append-nil (record_of j) in
      let t = total_push abort_in j (Item (Credit n)) in
      let P : List NodeEntry → Type 0 = λ l. (found : List FinishedPiece) (cut : IsCut l found) →
      total abort_in (j ++ Item (Credit n) ∷ []) + pending q.abort (now_in cut) ≤ 2 * total asks_by
      (acts ++ d ∷ []) in
      counted_by (Credit n) gave (subst P (sym same) (λ found cut.
      let s = aborts_same found cut in omega (arith, s, t)))
