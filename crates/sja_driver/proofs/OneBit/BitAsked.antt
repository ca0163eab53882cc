-- A bit keeps TBS of a node's port beside the request that the node holds.
use Rattle.std.proofs.Common.{◌≡◌, ℕ, ◌+◌, Bool, true, false, not, Option, Some, None, is_some, List, [], ◌∷◌, ◌++◌}
use Rattle.std.proofs.Common.{inl, inr, refl, sym, ap, ◌∙◌, subst, append-nil}
use Rattle.std.specs.Prelude.{◌||◌, ◌&&◌, ◌==◌, nat_le, if◌then◌else◌}
use Rattle.std.proofs.lemmas.Bool.{eq-eqb}
use Rattle.std.proofs.lemmas.List.{append_cancel_left}
use Rattle.can_levels.specs.declared.level.Level.{Level}
use Rattle.can_node_rules.specs.declared.bit_events.BitEvents.{BitEvents}
use Rattle.can_node_rules.specs.Bits.{Bit as Levels}
use Rattle.can_node_rules.specs.Context.{ContextValue, is_held}
use Rattle.can_node_rules.specs.Pieces.{Place}
use Rattle.can_node_rules.specs.Record.RecordEntry.{OneBit as Took}
use Rattle.can_node_rules.specs.Effects.{is_in_progress, with_abort}
use Rattle.can_node_rules.specs.Events.{stepped, ended_in}
use Rattle.can_node_rules.specs.FinishedPieces.{FinishedPiece, counted, none_yet}
use Rattle.can_node_rules.specs.Cut.{IsCut}
use Rattle.can_node_rules.specs.NextBit.{now_in, open_bits}
use Rattle.can_node_rules.specs.Outcomes.{closed_by}
use Rattle.can_node_rules.proofs.OneCut.CutOnce.{cut_once}
use Rattle.sja_journal.specs.declared.verdict.Verdict.{Verdict}
use Rattle.sja_journal.specs.declared.verdict.Verdict.TheVariants.{Stored as ToStore, Overrun as ToLose}
use Rattle.sja_journal.specs.declared.entry.Entry.{Entry}
use Rattle.sja_journal.specs.declared.entry.Entry.TheVariants.{Bit, Abort, Stored, Overrun, Off}
use Rattle.sja_journal.specs.Places.{JournalPlace as Point, past, place_of}
use Rattle.sja_journal.specs.Records.{record_of}
use Rattle.sja_journal.proofs.JournalEntries.Entering.{record_push, place_push}
use Rattle.sja_regs.specs.declared.bus_turn.BusTurn.{BusTurn}
use Rattle.sja_regs.specs.declared.orders.Orders.{Orders}
use Rattle.sja_regs.specs.declared.registers.Registers.{Registers}
use Rattle.sja_driver.proofs.Registers.TbsAndAbort.{TbsIsRight}
use Rattle.sja_regs.specs.Turns.{is_live, after_turn}
use Rattle.sja_bus_rules.specs.Buses.{IsNodeBit}
use Rattle.sja_journal.specs.BitEntries.{HasBit, abort_as, judged_as, off_as}
use Rattle.sja_journal.specs.Entries.{off_left}
use Rattle.sja_bus_rules.specs.Telling.{IsTurn}
use Rattle.sja_journal.proofs.Growing.BitRecords.{record_bit}
use Rattle.sja_driver.specs.Asking.{IsAsked}
use Rattle.can_node_rules.proofs.Requests.OneMore.{bit_more, abort_more}
use Rattle.can_node_rules.proofs.Requests.OnceOff.{off_more}
use Rattle.can_node_rules.proofs.Machine.Changes.{KeepsRequest}
use Rattle.can_node_rules.proofs.Requests.Requests.{step_keeps, held_alike, ended_is}

-- a journal whose record has a cut
pub record HasCut (j : List Entry) : Type 0 where
  pub found : List FinishedPiece
  pub cut : IsCut (record_of j) found

-- ---- the place of a journal with a bit more

pub place_abort : (j : List Entry) (changed : Bool) → place_of (j ++ abort_as changed) ≡ place_of j
place_abort j true = place_push j Abort
place_abort j false = ap place_of (append-nil j)

pub place_judged : (j : List Entry) (v : Option (Verdict × List ℕ)) → place_of (j ++ judged_as v) ≡ place_of j
place_judged j None = ap place_of (append-nil j)
place_judged j (Some (ToStore, m)) = place_push j (Stored m)
place_judged j (Some (ToLose, m)) = place_push j (Overrun m)

place_off : (j : List Entry) (off : Bool) →
    ((place_of (j ++ off_as off)).activation ≡ (place_of j).activation) ×
    ((place_of (j ++ off_as off)).bits ≡ (place_of j).bits)
place_off j true = let e = place_push j Off in (ap (λ (s : Point). s.activation) e, ap (λ (s : Point). s.bits) e)
place_off j false = let e = ap place_of (append-nil j) in
    (ap (λ (s : Point). s.activation) e, ap (λ (s : Point). s.bits) e)

pub place_bit : (j k : List Entry) (driven seen : Level) → HasBit j driven seen k →
    ((place_of k).activation ≡ (place_of j).activation) × ((place_of k).bits ≡ (place_of j).bits + 1)
place_bit j k driven seen h =
    let l = j ++ Bit driven seen ∷ [] in
    let whole = ap place_of h.whole in
    let o = place_off (l ++ judged_as h.verdict) h.off in
    let e : place_of (l ++ judged_as h.verdict) ≡ past (place_of j) (Bit driven seen) = place_judged l h.verdict
    ∙ place_push j (Bit driven seen) in (
      ap (λ (s : Point). s.activation) whole ∙ o.0 ∙ ap (λ (s : Point). s.activation) e,
      ap (λ (s : Point). s.bits) whole ∙ o.1 ∙ ap (λ (s : Point). s.bits) e,
    )

-- the journal as the bit began
pub opened_as : {has_orders : Orders → Type 0} {was_told : BusTurn → Type 0} {was_kept : Type 0} (untold : Bool)
    (j k : List Entry) (driven seen : Level) →
    (bit : IsNodeBit has_orders was_told was_kept untold j k driven seen) → bit.opens.taken ≡ j →
    bit.opened ≡ j ++ abort_as bit.opens.aborts.changed
opened_as untold j k driven seen bit none = bit.opens.aborts.whole
    ∙ ap (λ l. l ++ abort_as bit.opens.aborts.changed) none

-- ---- the request after a bit, by every cut

-- it is the one before it with its mark, or it ended
pub bit_keeps : (j k : List Entry) (driven seen : Level) (bit : HasBit j driven seen k)
    (found others : List FinishedPiece) (h : IsCut (record_of j) found) (c : IsCut (record_of k) others) →
    KeepsRequest (now_in h) (now_in c)
bit_keeps j k driven seen bit found others h c = by bit.off (record_bit j k driven seen bit)
  where
    by : (off : Bool) → record_of k ≡
        (record_of j ++ Took (record { driven = driven; seen = seen }) ∷ []) ++ off_left off → KeepsRequest (now_in h)
        (now_in c)
    by true e = inl
        (off_more (record_of j ++ Took (record { driven = driven; seen = seen }) ∷ []) (record_of k) others c e)
    by false e =
        let b : Levels = record { driven = driven; seen = seen } in
        let m = bit_more (record_of j) (record_of k) found others b h c (e ∙ append-nil (record_of j ++ Took b ∷ [])) in
        let P : ContextValue → Type 0 = λ d. KeepsRequest (now_in h) d in
        subst P (sym m.is) (step_keeps m.step (now_in h) h.place (open_bits h) b)

-- none is held exactly where the node went bus-off in the bit, or the bit tells its end, or none was held before it
pub bit_told : (changed : Bool) (j k : List Entry) (driven seen : Level) (bit : HasBit j driven seen k) (turn : BusTurn)
    (t : IsTurn changed j driven seen k bit turn) (others : List FinishedPiece)
    (c : IsCut (record_of k) others) → not (is_held (now_in c).held) ≡
    (turn.events.went_off || (is_some turn.events.ended || not (is_held (now_in t.cut).held)))
bit_told changed j k driven seen bit turn t others c = by bit.off t.off (record_bit j k driven seen bit)
  where
    by : (off : Bool) → turn.events.went_off ≡ off → record_of k ≡
        (record_of j ++ Took (record { driven = driven; seen = seen }) ∷ []) ++ off_left off →
        not (is_held (now_in c).held) ≡
        (turn.events.went_off || (is_some turn.events.ended || not (is_held (now_in t.cut).held)))
    by true off e =
        let none = off_more (record_of j ++ Took (record { driven = driven; seen = seen }) ∷ [])
        (record_of k) others c e in
        ap (λ o. not (is_held o)) none ∙ ap (λ w. w || (is_some turn.events.ended || not (is_held (now_in t.cut).held)))
        (sym off)
    by false off e =
        let b : Levels = record { driven = driven; seen = seen } in
        let h = t.cut in let before = now_in h in
        let n = counted none_yet (record_of j ++ Took b ∷ []) in
        let m = bit_more (record_of j) (record_of k) t.found others b h c
        (e ∙ append-nil (record_of j ++ Took b ∷ [])) in
        let once : t.found ++ closed_by n t.step ≡ others = cut_once (record_of k)
        (t.found ++ closed_by n t.step) others t.after c in
        let pieces : closed_by n t.step ≡ closed_by m.count m.step = append_cancel_left t.found (closed_by n t.step)
        (closed_by m.count m.step) (once ∙ m.pieces) in
        let now = stepped t.step before h.place (open_bits h) b in
        let held : (now_in c).held ≡ now.held = ap (λ (d : ContextValue). d.held) m.is
        ∙ sym (held_alike n m.count t.step m.step before h.place (open_bits h) b pieces) in
        let on_bus : nat_le 256 now.tec ≡ false = sym (ap (λ (v : BitEvents). v.went_off) t.events) ∙ off in
        let ended : turn.events.ended ≡ ended_in t.step before now = ap (λ (v : BitEvents). v.ended) t.events in
        ap (λ o. not (is_held o)) held ∙ ended_is t.step before h.place (open_bits h) b on_bus
        ∙ ap (λ o. is_some o || not (is_held before.held)) (sym ended)
        ∙ ap (λ w. w || (is_some turn.events.ended || not (is_held before.held))) (sym off)

-- ---- the request as the bit began

abort_none : (place : Place) (c : ContextValue) → is_held c.held ≡ false → is_held (with_abort place c).held ≡ false
abort_none place c none = by (is_in_progress c place)
  where
    by : (going : Bool) → is_held (if going then record c { aborted = true } else record c { held = None }).held ≡ false
    by true = none
    by false = refl

either : (was now tbs : Bool) → tbs ≡ not was → (was ≡ false → now ≡ false) → not now ≡ (not now || tbs)
either true true tbs e h = sym e
either true false tbs e h = refl
either false false tbs e h = refl
either false true tbs e h = let no : true ≡ false = h refl in absurd cc

-- none is held where TBS was 1 already, or the abort left none
opened_asked : (j opened : List Entry) (changed : Bool) (p : Registers) → opened ≡ j ++ abort_as changed → HasCut j →
    IsAsked j p →
    (found : List FinishedPiece) (cut : IsCut (record_of opened) found) →
    not (is_held (now_in cut).held) ≡ ((changed && not (is_held (now_in cut).held)) || p.tbs)
opened_asked j opened false p e lawful asked found cut =
    let P : List Entry → Type 0 = λ l. IsAsked l p in sym (subst P (sym (e ∙ append-nil j)) asked found cut)
opened_asked j opened true p e lawful asked found cut =
    let was = now_in lawful.cut in
    let made : now_in cut ≡ with_abort lawful.cut.place was =
    abort_more (record_of j) (record_of opened) lawful.found found lawful.cut cut
    (ap record_of e ∙ record_push j Abort) in
    either (is_held was.held) (is_held (now_in cut).held) p.tbs (asked lawful.found lawful.cut)
    (λ none. ap (λ (d : ContextValue). is_held d.held) made ∙ abort_none lawful.cut.place was none)

-- ---- TBS after a turn

tbs_as : (live off ended aborted tbs : Bool) → (live ≡ false → tbs ≡ true) →
    (live && (ended || aborted) || live && off || tbs) ≡ (off || (ended || (aborted || tbs)))
tbs_as true true true aborted tbs h = refl
tbs_as true true false true tbs h = refl
tbs_as true true false false tbs h = refl
tbs_as true false true aborted tbs h = refl
tbs_as true false false true tbs h = refl
tbs_as true false false false tbs h = refl
tbs_as false off ended aborted false h = let no : false ≡ true = h refl in absurd cc
tbs_as false true ended aborted true h = refl
tbs_as false false true aborted true h = refl
tbs_as false false false true true h = refl
tbs_as false false false false true h = refl

resets : (rm same : Bool) → same ≡ true → (not rm && same) ≡ false → rm ≡ true
resets true same is rests = refl
resets false same is rests = let e : true ≡ false = sym is ∙ rests in absurd cc

-- TBS is 1 in a port that isn't live
rests_released : (p : Registers) (turn : BusTurn) → TbsIsRight p → turn.activation ≡ p.activation →
    is_live p turn ≡ false → p.tbs ≡ true
rests_released p turn buffer same rests =
    buffer.in_reset (resets p.mode.rm (turn.activation == p.activation)
    (eq-eqb turn.activation p.activation same) rests)

-- ---- the whole bit

-- after a bit TBS is 0 exactly where the node holds a request, where it was so before it: of a port that was told the
-- turn of the bit, or passed over. No item was taken before the bit
pub bit_asked : {has_orders : Orders → Type 0} {was_told : BusTurn → Type 0} {was_kept : Type 0} (untold : Bool)
    (j k : List Entry) (driven seen : Level) (p q : Registers) →
    (bit : IsNodeBit has_orders was_told was_kept untold j k driven seen) → bit.opens.taken ≡ j →
    ((turn : BusTurn) → was_told turn → q ≡ after_turn p turn) → (was_kept → q ≡ p) →
    HasCut j → TbsIsRight p → p.activation ≡ (place_of j).activation → IsAsked j p → IsAsked k q
bit_asked untold j k driven seen p q bit none told kept lawful buffer activation asked others c =
    let turn = bit.turn in let t = bit.is_turn in let opened = bit.opened in let changed = bit.opens.aborts.changed in
    let whole = opened_as untold j k driven seen bit none in
    let before = not (is_held (now_in t.cut).held) in
    let was : before ≡ (turn.aborted || p.tbs) = opened_asked j opened changed p whole lawful asked t.found t.cut
    ∙ ap (λ a. a || p.tbs) (sym t.aborted) in
    let now : not (is_held (now_in c).held) ≡
    (turn.events.went_off || (is_some turn.events.ended || (turn.aborted || p.tbs))) =
    bit_told changed opened k driven seen bit.bit turn t others c
    ∙ ap (λ x. turn.events.went_off || (is_some turn.events.ended || x)) was in
    let place = place_bit opened k driven seen bit.bit in
    let at : turn.activation ≡ p.activation =
    t.says.activation ∙ place.0 ∙ ap (λ (s : Point). s.activation) (ap place_of whole ∙ place_abort j changed)
    ∙ sym activation in
    elim bit.port [
      | inl has ↦
          ap (λ (r : Registers). r.tbs) (told turn has)
          ∙ tbs_as (is_live p turn) turn.events.went_off (is_some turn.events.ended) turn.aborted p.tbs
          (rests_released p turn buffer at) ∙ sym now
      | inr over ↦
          let quiet = over.alone.events in
          let off : turn.events.went_off ≡ false = ap (λ (v : BitEvents). v.went_off) quiet in
          let ended : turn.events.ended ≡ None = ap (λ (v : BitEvents). v.ended) quiet in
          ap (λ (r : Registers). r.tbs) (kept over.kept)
          ∙ sym (now ∙ ap (λ w. w || (is_some turn.events.ended || (turn.aborted || p.tbs))) off
          ∙ ap (λ o. is_some o || (turn.aborted || p.tbs)) ended
          ∙ ap (λ a. a || p.tbs) over.alone.aborted)
    ]
