-- A bit of a journal that steps and bits made is told.
use Rattle.std.proofs.Common.{◌≡◌, ◌<◌, ◌+◌, ◌^◌, ℕ, Bool, true, false, Option, Some, None, List, []}
use Rattle.std.proofs.Common.{◌∷◌, ◌++◌, refl, sym, ap, ◌∙◌, subst, arith, append_assoc}
use Rattle.can_levels.specs.declared.level.Level.{Level}
use Rattle.can_frame.specs.Frame.{FrameValue}
use Rattle.can_frame.specs.Message.{message}
use Rattle.can_node_rules.specs.declared.bit_events.BitEvents.{BitEvents}
use Rattle.can_node_rules.specs.NextBit.{DrivesIn}
use Rattle.can_node_rules.proofs.Driven.Records.{a_bit_is_driven}
use Rattle.can_node_rules.proofs.CutRecords.Receptions.{partner_of, received_there}
use Rattle.lemmas.specs.Gathering.{gathered}
use Rattle.lemmas.specs.Picking.{EachAfter}
use Rattle.sja_journal.specs.NodeWords.{NodeEntry, NodeTook, FinishedPiece, received, IsCut, Count, none_yet, counted}
use Rattle.sja_journal.specs.declared.entry.Entry.{Entry}
use Rattle.sja_journal.specs.declared.entry.Entry.TheVariants.{Bit, Stored as StoredEntry, Overrun as OverrunEntry}
use Rattle.sja_journal.specs.declared.verdict.Verdict.{Verdict}
use Rattle.sja_journal.specs.declared.verdict.Verdict.TheVariants.{Stored as ToStore, Overrun as ToLose}
use Rattle.sja_replay.specs.Taking.{ends_in_abort, last_part}
use Rattle.sja_journal.specs.Judged.{Judged, judged_at, judged_in}
use Rattle.sja_journal.specs.Parts.{in_part, part}
use Rattle.sja_journal.specs.Places.{JournalPlace, past, place_of, placed_from}
use Rattle.sja_journal.specs.Records.{told_at, record_of}
use Rattle.sja_journal.specs.Verdicts.{HasVerdicts, IsAccepted, IsOn, IsDue, filter_of}
use Rattle.sja_journal.proofs.JournalEntries.Entering.{all_rise, place_push, record_counted}
use Rattle.sja_journal.specs.BitEntries.{HasBit, judged_as, off_as}
use Rattle.sja_bus_rules.specs.Telling.{IsTurn}
use Rattle.sja_regs.specs.declared.bus_turn.BusTurn.{BusTurn}
use Rattle.sja_replay.specs.declared.reception.Reception.{Reception}
use Rattle.sja_replay.specs.declared.bit_event.BitEvent.{BitEvent}
use Rattle.sja_replay.specs.Closing.{Closes}
use Rattle.sja_replay.specs.Happened.{Happened}
use Rattle.sja_replay.specs.Happened.Happened.{bit}
use Rattle.sja_replay.specs.BitEvent.{Brings, bit_of}
use Rattle.sja_replay.proofs.Once.Bits.{tells, events_once}
use Rattle.sja_driver.proofs.OneBit.BitAsked.{place_bit}
use Rattle.sja_replay.specs.Quiet.{IsQuiet}
use Rattle.sja_replay.proofs.Knowledge.SomeViews.{view_there}
use Rattle.sja_journal.proofs.JournalEntries.EachInPart.{of_part_at, each_part, record_both, place_both}
use Rattle.sja_laws.proofs.Listed.PastBits.{bit_on}
use Rattle.sja_laws.proofs.Listed.BitEntries.{IsRightFor, closes_by, StoresIn, stores_by, tells_turn}

module _ (whole : List Entry) (others : List FinishedPiece) (cut : IsCut (record_of whole) others)
    (verdicts : HasVerdicts whole (received others)) (few : (place_of whole).bits < 2 ^ 32)
    (changed : Bool) (j k rest : List Entry) (driven seen : Level) (b : HasBit j driven seen k) (turn : BusTurn)
    (t : IsTurn changed j driven seen k b turn) (is : whole ≡ k ++ rest) (quiet : IsQuiet rest) where
  abbrev pub with_bit : List Entry
  with_bit = j ++ Bit driven seen ∷ []

  -- what stands behind the bit
  abbrev pub behind : List Entry
  behind = judged_as b.verdict ++ (off_as b.off ++ rest)

  whole_is : whole ≡ with_bit ++ behind
  whole_is = is ∙ ap (λ l. l ++ rest) b.whole
      ∙ append_assoc (with_bit ++ judged_as b.verdict) (off_as b.off) rest
      ∙ append_assoc with_bit (judged_as b.verdict) (off_as b.off ++ rest)

  pub split : whole ≡ j ++ Bit driven seen ∷ behind
  split = whole_is ∙ append_assoc j (Bit driven seen ∷ []) behind

  bits_are : (place_of k).bits ≡ (place_of j).bits + 1
  bits_are = (place_bit j k driven seen b).1

  pub fewer : (place_of j).bits + 1 < 2 ^ 32
  fewer =
      let n = ap (λ (x : JournalPlace). x.bits) (ap place_of is ∙ place_both k rest) in
      let m = (all_rise (place_of k) rest).bits in
      let o = bits_are in
      omega (arith, few, n, m, o)

  pub drives : (found : List FinishedPiece) (h : IsCut (record_of j) found) → DrivesIn h driven
  drives found h =
      let more = gathered told_at (placed_from (past (place_of j) (Bit driven seen)) behind) in
      let P : List NodeEntry → Type 0 = λ l. IsCut l others in
      a_bit_is_driven (record_of j) more (bit_of driven seen) found others h
      (subst P (ap record_of split ∙ record_both j (Bit driven seen ∷ behind)) cut)

  -- a verdict is on the frame that the turn tells
  on_frame : (m : List ℕ) (o : Bool) (e : Entry) (later : List Entry) → whole ≡ with_bit ++ e ∷ later →
      (past (place_of with_bit) e).activation ≡ (place_of with_bit).activation →
      judged_at (record { before = place_of with_bit; entry = e })
      ≡ (record { bits = (place_of with_bit).bits; bytes = m; overrun = o }) ∷ [] →
      (frame : FrameValue) × (turn.events.received ≡ Some frame) × (m ≡ message frame)
  on_frame m o e later all same judged =
      let a = (place_of with_bit).activation in
      let y : Judged = record { bits = (place_of with_bit).bits; bytes = m; overrun = o } in
      let more = gathered (in_part judged_at a) (placed_from (past (place_of with_bit) e) later) in
      let list : judged_in whole a ≡ judged_in with_bit a ++ y ∷ more =
      ap (λ l. judged_in l a) all ∙ of_part_at judged_at with_bit later e a same
      ∙ ap (λ l. judged_in with_bit a ++ (l ++ more)) judged in
      let p = partner_of (IsAccepted a (filter_of (part whole a))) IsOn (received others) (judged_in whole a)
      (judged_in with_bit a) more y (verdicts.are a) list in
      let h = p.0 in
      let before = ap (λ (c : Count). c.bits) (record_counted j) in
      let after = ap (λ (c : Count). c.bits) (record_counted k) in
      let n = bits_are in
      let pushed = ap (λ (x : JournalPlace). x.bits) (place_push j (Bit driven seen)) in
      let on = p.2.bits in
      let P : List NodeEntry → Type 0 = λ l. IsCut l others in
      let x = gathered told_at (placed_from (place_of k) rest) in
      let there = received_there (record_of j) (record_of k) x t.found others
      (counted none_yet (record_of j ++ NodeTook (bit_of driven seen) ∷ [])) t.step h t.cut t.after
      (subst P (ap record_of is ∙ record_both k rest) cut) (omega (arith, before, after, n))
      (omega (arith, on, after, n, pushed)) p.1 in
      (h.frame, ap (λ (v : BitEvents). v.received) t.events ∙ there, p.2.bytes)

  -- the verdict is right
  pub right : IsRightFor (last_part with_bit) turn.events.received b.verdict
  right = by b.verdict refl
    where
      a : ℕ
      a = (place_of with_bit).activation

      due : (e : Entry) (later : List Entry) → whole ≡ with_bit ++ e ∷ later →
          (past (place_of with_bit) e).activation ≡ a → IsDue (part with_bit a) e
      due e later all same =
          each_part IsDue with_bit later e a same (subst (λ l. EachAfter IsDue [] (part l a)) all (verdicts.due a))

      by : (v : Option (Verdict × List ℕ)) → b.verdict ≡ v →
          IsRightFor (last_part with_bit) turn.events.received v
      by None e = tt
      by (Some (ToStore, m)) e =
          let all : whole ≡ with_bit ++ StoredEntry m ∷ (off_as b.off ++ rest) =
          whole_is ∙ ap (λ v. with_bit ++ (judged_as v ++ (off_as b.off ++ rest))) e in (
            (due (StoredEntry m) (off_as b.off ++ rest) all refl).1,
            on_frame m false (StoredEntry m) (off_as b.off ++ rest) all refl refl,
          )
      by (Some (ToLose, m)) e =
          let all : whole ≡ with_bit ++ OverrunEntry m ∷ (off_as b.off ++ rest) =
          whole_is ∙ ap (λ v. with_bit ++ (judged_as v ++ (off_as b.off ++ rest))) e in (
            (due (OverrunEntry m) (off_as b.off ++ rest) all refl).1,
            on_frame m true (OverrunEntry m) (off_as b.off ++ rest) all refl refl,
          )

  -- what a bit event tells is what the turn tells
  events_same : (h : BitEvent) → Brings j driven seen h → turn.events ≡ h.events
  events_same h brings =
      events_once j driven seen turn.events h.events (tells_turn changed j k driven seen b turn t)
      (tells j driven seen h brings)

  -- so the entries behind the bit are those that it brings
  pub closes : (h : BitEvent) → Brings j driven seen h →
      (reception : Option Reception) × Closes (last_part with_bit) h.events behind reception (judged_as b.verdict
      ++ off_as b.off) rest
  closes h brings =
      let P : BitEvents → Type 0 = λ e. (reception : Option Reception)
      × Closes (last_part with_bit) e behind reception (judged_as b.verdict ++ off_as b.off) rest in
      subst P (events_same h brings)
      (closes_by (last_part with_bit) rest b.off turn.events b.verdict quiet right t.off)

  -- whatever happens after the bit, something happens with it
  pub with_more : (more : List BitEvent) → Happened k rest more →
      (hs : List BitEvent) × Happened j (Bit driven seen ∷ behind) hs
  with_more more x =
      let h = tells_turn changed j k driven seen b turn t in
      let before = view_there h.cut in
      let after = view_there h.with_bit in
      let c = closes_by (last_part with_bit) rest b.off turn.events b.verdict quiet right t.off in
      let here : BitEvent = record {
        bit = (place_of j).bits;
        driven = driven;
        seen = seen;
        aborted = ends_in_abort j;
        before = before.0;
        events = turn.events;
        after = after.0;
        reception = c.0;
      } in
      let brings : Brings j driven seen here = record {
        found = h.found;
        cut = h.cut;
        step = h.step;
        drives = drives h.found h.cut;
        bit = refl;
        levels = (refl, refl);
        aborted = refl;
        before = before.1;
        events = h.told;
        with_bit = h.with_bit;
        role = h.role;
        after = after.1;
      } in
      let same : with_bit ++ (judged_as b.verdict ++ off_as b.off) ≡ k =
      sym (append_assoc with_bit (judged_as b.verdict) (off_as b.off)) ∙ sym b.whole in
      let P : List Entry → Type 0 = λ l. Happened l rest more in
      (here ∷ more, bit fewer brings c.1 (subst P (sym same) x))

  -- a list of bit events goes on past the bit
  pub past_bit : (hs : List BitEvent) → Happened j (Bit driven seen ∷ behind) hs →
      (h : BitEvent) × (more : List BitEvent) × (hs ≡ h ∷ more) × StoresIn b.verdict h × Happened k rest more
  past_bit hs x =
      let on = bit_on j driven seen behind (judged_as b.verdict ++ off_as b.off) rest hs x fewer drives closes in
      let same : with_bit ++ (judged_as b.verdict ++ off_as b.off) ≡ k =
      sym (append_assoc with_bit (judged_as b.verdict) (off_as b.off)) ∙ sym b.whole in
      let P : List Entry → Type 0 = λ l. Happened l rest on.1 in
      let Q : BitEvents → Type 0 = λ e. IsRightFor (last_part with_bit) e.received b.verdict in
      let stores = stores_by (last_part with_bit) rest b.off b.verdict on.0 (judged_as b.verdict ++ off_as b.off) rest
      (subst Q (events_same on.0 on.3) right) on.4 in
      (on.0, on.1, on.2, stores, subst P same on.5)
