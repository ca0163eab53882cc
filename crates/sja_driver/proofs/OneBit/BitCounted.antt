-- A bit keeps how many entries a journal can have by the acts of its driver.
use Rattle.std.proofs.Common.{◌≡◌, ◌≤◌, ℕ, suc, ◌+◌, ◌*◌, Bool, true, false, not, Option, Some, None, List, [], ◌∷◌}
use Rattle.std.proofs.Common.{◌++◌, inl, inr, refl, sym, ap, ◌∙◌, subst, append-nil, arith}
use Rattle.std.specs.Prelude.{◌||◌, ◌&&◌, ◌⊎◌, if◌then◌else◌}
use Rattle.std.proofs.lemmas.Bool.{cases_eq}
use Rattle.can_levels.specs.declared.level.Level.{Level}
use Rattle.can_node_rules.specs.declared.abort_outcome.AbortOutcome.TheVariants.{Unchanged, Marked}
use Rattle.can_node_rules.specs.declared.request.Request.{Request}
use Rattle.can_node_rules.specs.Context.{ContextValue}
use Rattle.can_node_rules.specs.Effects.{is_in_progress, with_abort}
use Rattle.can_node_rules.specs.FinishedPieces.{Count, FinishedPiece}
use Rattle.can_node_rules.specs.Cut.{IsCut}
use Rattle.can_node_rules.specs.NextBit.{now_in}
use Rattle.can_node_rules.specs.Outcomes.{abort_of}
use Rattle.sja_journal.specs.declared.verdict.Verdict.{Verdict}
use Rattle.sja_journal.specs.declared.verdict.Verdict.TheVariants.{Stored as ToStore, Overrun as ToLose}
use Rattle.sja_journal.specs.declared.up.Up.TheVariants.{Start, Credit, Send, Stop}
use Rattle.sja_journal.specs.declared.entry.Entry.{Entry}
use Rattle.sja_journal.specs.declared.entry.Entry.TheVariants.{Bit, Up as Item, Abort, Stored, Overrun, Off}
use Rattle.lemmas.specs.Gathering.{gathered, total}
use Rattle.sja_journal.specs.Places.{JournalPlace as Point, first_place, past, past_all, place_of, placed_from}
use Rattle.sja_journal.specs.Records.{told, told_at, record_of}
use Rattle.sja_journal.proofs.JournalEntries.Entering.{record_push, record_counted}
use Rattle.lemmas.proofs.Gathered.{total_append, total_push}
use Rattle.sja_regs.specs.declared.bus_turn.BusTurn.{BusTurn}
use Rattle.sja_regs.specs.declared.orders.Orders.{Orders}
use Rattle.sja_regs.specs.declared.registers.Registers.{Registers}
use Rattle.sja_regs.specs.Turns.{ends, goes_off, after_turn}
use Rattle.sja_journal.specs.Aborting.{abort_in as abort_at, changes, IsApplied}
use Rattle.sja_bus_rules.specs.Buses.{IsNodeBit}
use Rattle.sja_journal.specs.Links.{stops_of}
use Rattle.sja_journal.specs.BitEntries.{HasBit, abort_as, judged_as, off_as}
use Rattle.sja_driver.specs.TypedActs.{TypedAct}
use Rattle.sja_driver.specs.Counted.{item_in, off_in, abort_in, asks_by, changes_left, pending, off_left}
use Rattle.sja_driver.specs.Counted.{IsCounted}
use Rattle.can_node_rules.proofs.Requests.OneMore.{abort_more}
use Rattle.can_node_rules.proofs.Requests.OnceOff.{is_off, is_off_both, offs, offs_both, left, off_once}
use Rattle.can_node_rules.proofs.Machine.Changes.{KeepsRequest}
use Rattle.sja_driver.proofs.OneBit.BitAsked.{HasCut, opened_as, bit_keeps}

-- ---- bus-off, of every journal whose record has a cut

-- it counts in the journal as in the record
one_off : (p : Point) (off : Bool) (e : Entry) → p.off ≡ off → (is_off off (told off e) ≡ (past p e).off) ×
    (offs (told off e) ≡ off_in e)
one_off p off (Bit driven seen) h = (sym h, refl)
one_off p off (Item (Start config)) h = (refl, refl)
one_off p off (Item (Credit n)) h = (sym h, refl)
one_off p true (Item (Send request)) h = (sym h, refl)
one_off p false (Item (Send request)) h = (sym h, refl)
one_off p off (Item Stop) h = (sym h, refl)
one_off p off Abort h = (sym h, refl)
one_off p off (Stored m) h = (sym h, refl)
one_off p off (Overrun m) h = (sym h, refl)
one_off p off Off h = (refl, refl)

all_off : (p : Point) (es : List Entry) → let r = gathered told_at (placed_from p es) in
    (is_off p.off r ≡ (past_all p es).off) × (offs r ≡ total off_in es)
all_off p [] = (refl, refl)
all_off p (e ∷ es) =
    let first = told p.off e in
    let rest = gathered told_at (placed_from (past p e) es) in
    let one = one_off p p.off e refl in
    let more = all_off (past p e) es in
    let a = offs_both first rest in let b = one.1 in let c = more.1 in
    (is_off_both p.off first rest ∙ ap (λ o. is_off o rest) one.0 ∙ more.0, omega (arith, a, b, c))

-- an activation goes bus-off once at most
pub offs_few : (j : List Entry) (found : List FinishedPiece) → IsCut (record_of j) found → total off_in j + off_left j ≤
    (place_of j).activation + 1
offs_few j found cut =
    let same = all_off first_place j in
    let once = off_once (record_of j) found cut in
    let a = same.1 in
    let b : left (is_off false (record_of j)) ≡ off_left j = ap left same.0 in
    let c = ap (λ (k : Count). k.starts) (record_counted j) in omega (arith, once, a, b, c)

-- ---- the entries of a bit

-- what they count for
counts_bit : (f : Entry → ℕ) (j opened k : List Entry) (driven seen : Level) (changed : Bool) →
    opened ≡ j ++ abort_as changed → (h : HasBit opened driven seen k) →
    total f k ≡
    (((total f j + total f (abort_as changed)) + f (Bit driven seen)) + total f (judged_as h.verdict)) + total f
    (off_as h.off)
counts_bit f j opened k driven seen changed e h =
    let a = ap (total f) h.whole in
    let b = total_append f ((opened ++ Bit driven seen ∷ []) ++ judged_as h.verdict) (off_as h.off) in
    let c = total_append f (opened ++ Bit driven seen ∷ []) (judged_as h.verdict) in
    let d = total_push f opened (Bit driven seen) in
    let g = ap (total f) e in
    let i = total_append f j (abort_as changed) in omega (arith, a, b, c, d, g, i)

of_abort : (f : Entry → ℕ) (changed : Bool) → f Abort ≡ 0 → total f (abort_as changed) ≡ 0
of_abort f true none = omega (arith, none)
of_abort f false none = refl

of_off : (f : Entry → ℕ) (off : Bool) → f Off ≡ 0 → total f (off_as off) ≡ 0
of_off f true none = omega (arith, none)
of_off f false none = refl

of_judged : (f : Entry → ℕ) (v : Option (Verdict × List ℕ)) (n : ℕ) →
    ((m : List ℕ) → (f (Stored m) ≤ n) × (f (Overrun m) ≤ n)) → total f (judged_as v) ≤ n
of_judged f None n most = omega arith
of_judged f (Some (ToStore, m)) n most = let a = (most m).0 in omega (arith, a)
of_judged f (Some (ToLose, m)) n most = let a = (most m).1 in omega (arith, a)

-- ---- what an abort that stands can change still

-- a bit adds nothing to it
falls : (stood stands : Bool) (c d : ContextValue) → (stands ≡ true → stood ≡ true) → KeepsRequest c d →
    pending stands d ≤ pending stood c
falls stood false c d h keeps = omega arith
falls false true c d h keeps = let no : false ≡ true = h refl in absurd cc
falls true true c d h (inl none) = let e : changes_left d.held d.aborted ≡ 0 = ap
    (λ o. changes_left o d.aborted) none in omega (arith, e)
falls true true c d h (inr same) =
    let e : changes_left d.held d.aborted ≡ changes_left c.held c.aborted =
    ap (λ o. changes_left o d.aborted) same.0 ∙ ap (λ m. changes_left c.held m) same.1 in omega (arith, e)

-- an abort that changed the node takes one from it
marks_once : (shot marked : Bool) → changes (if shot || marked then Unchanged else Marked) ≡ true → marked ≡ false
marks_once shot false e = refl
marks_once true true e = absurd cc
marks_once false true e = absurd cc

some_left : (request : Request) (marked : Bool) → 1 ≤ changes_left (Some request) marked
some_left request true = omega arith
some_left request false = omega arith

lowers_by : (going : Bool) (held : Option Request) (marked : Bool) (c : ContextValue) → c.held ≡ held →
    c.aborted ≡ marked → changes (abort_of going held marked) ≡ true →
    1 + changes_left (if going then record c { aborted = true } else record c { held = None }).held
    (if going then record c { aborted = true } else record c { held = None }).aborted ≤ changes_left held marked
lowers_by going None marked c h m e = absurd cc
lowers_by true (Some request) marked c h m e =
    let now : changes_left c.held true ≡ 1 = ap (λ o. changes_left o true) h in
    let was : changes_left (Some request) marked ≡ 2 = ap (λ b. changes_left (Some request) b)
    (marks_once request.single_shot marked e) in omega (arith, now, was)
lowers_by false (Some request) marked c h m e = let some = some_left request marked in omega (arith, some)

-- where it changed the node, each cut says so
changed_at : (j : List Entry) (changed : Bool) → changed ≡ true → IsApplied j changed → (found : List FinishedPiece)
    (cut : IsCut (record_of j) found) → changes (abort_at cut) ≡ true
changed_at j changed is applied found cut =
    elim (cases_eq (place_of j).activation (suc (stops_of j))) [
      | inl begun ↦ by (place_of j).off refl begun
      | inr shut ↦ absurd (never (inl shut))
    ]
  where
    never : (((place_of j).activation ≡ suc (stops_of j) → ⊥) ⊎ ((place_of j).off ≡ true)) → ⊥
    never rests = let e : true ≡ false = sym is ∙ applied.rests rests in absurd cc

    by : (off : Bool) → (place_of j).off ≡ off → (place_of j).activation ≡ suc (stops_of j) → changes
        (abort_at cut) ≡ true
    by true off begun = absurd (never (inr off))
    by false off begun = sym (applied.runs begun off found cut) ∙ is

-- as the bit began: an abort that was entered, and what can change still
opened_counted : (j opened : List Entry) (changed : Bool) (abort : Bool) (most : ℕ) → opened ≡ j ++ abort_as changed →
    HasCut j → (changed ≡ true → abort ≡ true) →
    (abort ≡ true → IsApplied j changed) →
    ((found : List FinishedPiece) (cut : IsCut (record_of j) found) → total abort_in j + pending abort
    (now_in cut) ≤ most) →
    (found : List FinishedPiece) (cut : IsCut (record_of opened) found) →
    (total abort_in j + total abort_in (abort_as changed)) + pending abort (now_in cut) ≤ most
opened_counted j opened false abort most e lawful ordered applied few found cut =
    let P : List Entry → Type 0 = λ l. (pieces : List FinishedPiece) (h : IsCut (record_of l) pieces) →
    total abort_in j + pending abort (now_in h) ≤ most in
    let r = subst P (sym (e ∙ append-nil j)) few found cut in omega (arith, r)
opened_counted j opened true false most e lawful ordered applied few found cut = let no : false ≡ true = ordered refl in
    absurd cc
opened_counted j opened true true most e lawful ordered applied few found cut =
    let c = now_in lawful.cut in let place = lawful.cut.place in
    let made : now_in cut ≡ with_abort place c =
    abort_more (record_of j) (record_of opened) lawful.found found lawful.cut cut
    (ap record_of e ∙ record_push j Abort) in
    let now = ap (λ (d : ContextValue). changes_left d.held d.aborted) made in
    let one = lowers_by (is_in_progress c place) c.held c.aborted c refl refl
    (changed_at j true refl (applied refl) lawful.found lawful.cut) in
    let r = few lawful.found lawful.cut in omega (arith, now, one, r)

abort_stood : (gone stood : Bool) → (not gone && stood) ≡ true → stood ≡ true
abort_stood true stood e = absurd cc
abort_stood false stood e = e

unasked_not : (abort changed : Bool) → (abort ≡ false → changed ≡ false) → changed ≡ true → abort ≡ true
unasked_not true changed h is = refl
unasked_not false changed h is = let no : true ≡ false = sym is ∙ h refl in absurd cc

-- ---- the whole bit

-- after a bit a journal has no more entries than the acts allow, where it was so before it: of a port that was told
-- the turn of the bit, or passed over. No item was taken before the bit
pub bit_counted : {has_orders : Orders → Type 0} {was_told : BusTurn → Type 0} {was_kept : Type 0} (untold : Bool)
    (j k : List Entry) (driven seen : Level) (acts : List TypedAct) (p q : Registers) →
    (bit : IsNodeBit has_orders was_told was_kept untold j k driven seen) → bit.opens.taken ≡ j →
    ((orders : Orders) → has_orders orders → orders.abort ≡ p.abort) →
    ((turn : BusTurn) → was_told turn → q ≡ after_turn p turn) → (was_kept → q ≡ p) →
    HasCut j → IsCounted j acts p → IsCounted k acts q
bit_counted untold j k driven seen acts p q bit none orders told kept lawful h =
    let opened = bit.opened in let changed = bit.opens.aborts.changed in let one = bit.bit in let t = bit.is_turn in
    let whole = opened_as untold j k driven seen bit none in
    let abort : bit.opens.orders.abort ≡ p.abort = orders bit.opens.orders bit.opens.are_orders in
    let ordered : changed ≡ true → p.abort ≡ true = λ is. unasked_not p.abort changed
    (λ no. bit.opens.unasked (abort ∙ no)) is in
    let A : List Entry → Type 0 = λ l. IsApplied l changed in
    let applied : p.abort ≡ true → IsApplied j changed = λ stands. subst A none (bit.opens.applied (abort ∙ stands)) in
    let stood : q.abort ≡ true → p.abort ≡ true = elim bit.port [
      | inl has ↦ λ is. abort_stood (ends p bit.turn || goes_off p bit.turn) p.abort
          (sym (ap (λ (r : Registers). r.abort) (told bit.turn has)) ∙ is)
      | inr over ↦ λ is. sym (ap (λ (r : Registers). r.abort) (kept over.kept)) ∙ is
    ] in record {
      items =
          let a = counts_bit item_in j opened k driven seen changed whole one in
          let b = of_abort item_in changed refl in
          let c = of_judged item_in one.verdict 0 (λ m. (omega arith, omega arith)) in
          let d = of_off item_in one.off refl in
          let e = h.items in omega (arith, a, b, c, d, e);
      offs = offs_few k t.says.found t.says.cut;
      aborts = λ others c.
          let a = counts_bit abort_in j opened k driven seen changed whole one in
          let b = of_judged abort_in one.verdict 0 (λ m. (omega arith, omega arith)) in
          let d = of_off abort_in one.off refl in
          let e = opened_counted j opened changed p.abort
          (2 * total asks_by acts) whole lawful ordered applied h.aborts t.found t.cut in
          let g = falls p.abort q.abort (now_in t.cut) (now_in c) stood
          (bit_keeps opened k driven seen one t.found others t.cut c) in
          omega (arith, a, b, d, e, g);
    }
