-- What comes of the frame that is received with a bit is one.
use Rattle.std.proofs.Common.{◌≡◌, ◌<◌, ◌≤◌, ◌+◌, ℕ, Bool, true, false, Option, Some, None, List, [], ◌∷◌, ◌++◌, length}
use Rattle.std.proofs.Common.{refl, sym, ap, ◌∙◌, subst, arith, append_assoc}
use Rattle.can_levels.specs.declared.level.Level.{Level}
use Rattle.can_frame.specs.Frame.{FrameValue}
use Rattle.can_frame.specs.Message.{message}
use Rattle.can_node_rules.specs.declared.bit_events.BitEvents.{BitEvents}
use Rattle.can_node_rules.specs.FinishedPieces.{ReceivedFrame}
use Rattle.can_node_rules.proofs.CutRecords.Receptions.{received_there}
use Rattle.lemmas.specs.Gathering.{gathered}
use Rattle.lemmas.specs.Picking.{EachAfter}
use Rattle.sja_journal.specs.NodeWords.{NodeBit, NodeEntry, NodeTook, FinishedPiece, received, IsCut, Count, none_yet}
use Rattle.sja_journal.specs.NodeWords.{counted}
use Rattle.sja_journal.specs.declared.entry.Entry.{Entry}
use Rattle.sja_journal.specs.declared.entry.Entry.TheVariants.{Bit, Up as Item, Abort, Off}
use Rattle.sja_journal.specs.declared.entry.Entry.TheVariants.{Stored as StoredEntry, Overrun as OverrunEntry}
use Rattle.sja_journal.specs.declared.up.Up.TheVariants.{Start, Credit, Send, Stop}
use Rattle.sja_journal.specs.declared.verdict.Verdict.{Verdict}
use Rattle.sja_journal.specs.declared.verdict.Verdict.TheVariants.{Stored as ToStore, Overrun as ToLose}
use Rattle.sja_journal.specs.BitEntries.{HasBit, judged_as, off_as}
use Rattle.sja_journal.specs.Free.{free_of}
use Rattle.sja_journal.specs.Judged.{Judged, judged_at, judged_in}
use Rattle.sja_journal.specs.Parts.{entry_at, in_part, part}
use Rattle.sja_journal.specs.Places.{JournalPlace, first_place, past, place_of, placed, placed_from}
use Rattle.sja_journal.specs.Records.{told_at, record_of}
use Rattle.sja_journal.specs.Verdicts.{HasVerdicts, IsAccepted, IsDue, IsOn, PassesAny, filter_of}
use Rattle.sja_journal.proofs.JournalEntries.EachInPart.{each_part, of_part_at, record_both}
use Rattle.sja_journal.proofs.JournalEntries.Entering.{part_here, place_push, placed_append, record_counted}
use Rattle.sja_journal.proofs.JournalEntries.Entering.{record_push}
use Rattle.lemmas.proofs.Gathered.{gathered_append}
use Rattle.sja_regs.specs.declared.bus_turn.BusTurn.{BusTurn}
use Rattle.sja_bus_rules.specs.Telling.{IsTurn}
use Rattle.sja_driver.proofs.OneBit.BitAsked.{place_bit}
use Rattle.sja_laws.specs.LongerJournals.{BringsLater}
use Rattle.sja_laws.proofs.Journals.Partners.{OfNone, frame_of, has_verdict, received_here}
use Rattle.sja_laws.proofs.Journals.VerdictBits.{StandsAfter, none_there, none_there_off}

-- ---- the filter is that of the first entry

filter_same : (x : Entry) (xs ys : List Entry) → filter_of (x ∷ (xs ++ ys)) ≡ filter_of (x ∷ xs)
filter_same (Item (Start config)) xs ys = refl
filter_same (Item (Credit n)) xs ys = refl
filter_same (Item (Send request)) xs ys = refl
filter_same (Item Stop) xs ys = refl
filter_same (Bit driven seen) xs ys = refl
filter_same Abort xs ys = refl
filter_same (StoredEntry m) xs ys = refl
filter_same (OverrunEntry m) xs ys = refl
filter_same Off xs ys = refl

filter_push : (xs : List Entry) (e : Entry) (ys : List Entry) →
    filter_of ((xs ++ e ∷ []) ++ ys) ≡ filter_of (xs ++ e ∷ [])
filter_push [] e ys = filter_same e [] ys
filter_push (x ∷ xs) e ys = filter_same x (xs ++ e ∷ []) ys

module _ (whole : List Entry) (others : List FinishedPiece) (cut : IsCut (record_of whole) others)
    (verdicts : HasVerdicts whole (received others)) (changed : Bool) (j k rest : List Entry) (driven seen : Level)
    (b : HasBit j driven seen k) (turn : BusTurn) (t : IsTurn changed j driven seen k b turn)
    (is : whole ≡ k ++ rest) (later : BringsLater rest) where
  abbrev with_bit : List Entry
  with_bit = j ++ Bit driven seen ∷ []

  abbrev bit : NodeBit
  bit = record { driven = driven; seen = seen }

  abbrev behind : List Entry
  behind = judged_as b.verdict ++ (off_as b.off ++ rest)

  abbrev a : ℕ
  a = (place_of with_bit).activation

  -- the number of starts and bits up to the bit
  abbrev count : Count
  count = counted none_yet (record_of j ++ NodeTook bit ∷ [])

  whole_is : whole ≡ with_bit ++ behind
  whole_is = is ∙ ap (λ l. l ++ rest) b.whole
      ∙ append_assoc (with_bit ++ judged_as b.verdict) (off_as b.off) rest
      ∙ append_assoc with_bit (judged_as b.verdict) (off_as b.off ++ rest)

  count_is : count ≡ record { starts = a; bits = (place_of with_bit).bits }
  count_is = ap (counted none_yet) (sym (record_push j (Bit driven seen))) ∙ record_counted with_bit

  bits_are : (place_of with_bit).bits ≡ (place_of j).bits + 1
  bits_are = ap (λ (x : JournalPlace). x.bits) (place_push j (Bit driven seen))

  filter_is : filter_of (part whole a) ≡ filter_of (part with_bit a)
  filter_is =
      let there : (past (place_of j) (Bit driven seen)).activation ≡ a =
      sym (ap (λ (x : JournalPlace). x.activation) (place_push j (Bit driven seen))) in
      let here : part with_bit a ≡ part j a ++ Bit driven seen ∷ [] = part_here j (Bit driven seen) a there in
      let more = gathered (in_part entry_at a) (placed_from (place_of with_bit) behind) in
      let split : part whole a ≡ part with_bit a ++ more =
      ap (λ l. part l a) whole_is
      ∙ ap (gathered (in_part entry_at a)) (placed_append first_place with_bit behind)
      ∙ gathered_append (in_part entry_at a) (placed with_bit) (placed_from (place_of with_bit) behind) in
      ap filter_of split ∙ ap (λ l. filter_of (l ++ more)) here ∙ filter_push (part j a) (Bit driven seen) more
      ∙ ap filter_of (sym here)

  -- the record of the whole journal, from the bit on
  after_cut : IsCut (record_of k ++ gathered told_at (placed_from (place_of k) rest)) others
  after_cut = let P : List NodeEntry → Type 0 = λ l. IsCut l others in
      subst P (ap record_of is ∙ record_both k rest) cut

  -- ---- a verdict is on the frame that the turn tells, which the filter passes

  pub record IsOnFrame (m : List ℕ) : Type 0 where
    pub frame : FrameValue
    pub told : turn.events.received ≡ Some frame
    pub bytes : m ≡ message frame
    pub passes : PassesAny (filter_of (part with_bit a)) frame

  on_frame : (m : List ℕ) (o : Bool) (e : Entry) (es : List Entry) → whole ≡ with_bit ++ e ∷ es →
      (past (place_of with_bit) e).activation ≡ a →
      judged_at (record { before = place_of with_bit; entry = e })
      ≡ (record { bits = (place_of with_bit).bits; bytes = m; overrun = o }) ∷ [] → IsOnFrame m
  on_frame m o e es all same judged =
      let y : Judged = record { bits = (place_of with_bit).bits; bytes = m; overrun = o } in
      let more = gathered (in_part judged_at a) (placed_from (past (place_of with_bit) e) es) in
      let list : judged_in whole a ≡ judged_in with_bit a ++ y ∷ more =
      ap (λ l. judged_in l a) all ∙ of_part_at judged_at with_bit es e a same
      ∙ ap (λ l. judged_in with_bit a ++ (l ++ more)) judged in
      let p = frame_of (IsAccepted a (filter_of (part whole a))) IsOn (received others) (judged_in whole a)
      (judged_in with_bit a) more y (verdicts.are a) list in
      let before = ap (λ (c : Count). c.bits) (record_counted j) in
      let after = ap (λ (c : Count). c.bits) (record_counted k) in
      let n = (place_bit j k driven seen b).1 in
      let pushed = bits_are in
      let on = p.beside.bits in
      let told = received_there (record_of j) (record_of k) (gathered told_at (placed_from (place_of k) rest)) t.found
      others count t.step p.frame t.cut t.after after_cut (omega (arith, before, after, n))
      (omega (arith, on, after, n, pushed)) p.among in
      record {
        frame = p.frame.frame;
        told = ap (λ (v : BitEvents). v.received) t.events ∙ told;
        bytes = p.beside.bytes;
        passes = subst (λ f. PassesAny f p.frame.frame) filter_is p.has.passes;
      }

  due : (e : Entry) (es : List Entry) → whole ≡ with_bit ++ e ∷ es → (past (place_of with_bit) e).activation ≡ a →
      IsDue (part with_bit a) e
  due e es all same =
      each_part IsDue with_bit es e a same (subst (λ l. EachAfter IsDue [] (part l a)) all (verdicts.due a))

  -- a verdict that is right
  abbrev pub IsRight : Option (Verdict × List ℕ) → Type 0
  IsRight None = Unit {0}
  IsRight (Some (ToStore, m)) = IsOnFrame m × (length m ≤ free_of (part with_bit a))
  IsRight (Some (ToLose, m)) = IsOnFrame m × (free_of (part with_bit a) < length m)

  pub right : (v : Option (Verdict × List ℕ)) → b.verdict ≡ v → IsRight v
  right None e = tt
  right (Some (ToStore, m)) e =
      let all : whole ≡ with_bit ++ StoredEntry m ∷ (off_as b.off ++ rest) =
      whole_is ∙ ap (λ v. with_bit ++ (judged_as v ++ (off_as b.off ++ rest))) e in (
        on_frame m false (StoredEntry m) (off_as b.off ++ rest) all refl refl,
        (due (StoredEntry m) (off_as b.off ++ rest) all refl).1,
      )
  right (Some (ToLose, m)) e =
      let all : whole ≡ with_bit ++ OverrunEntry m ∷ (off_as b.off ++ rest) =
      whole_is ∙ ap (λ v. with_bit ++ (judged_as v ++ (off_as b.off ++ rest))) e in (
        on_frame m true (OverrunEntry m) (off_as b.off ++ rest) all refl refl,
        (due (OverrunEntry m) (off_as b.off ++ rest) all refl).1,
      )

  -- ---- and a frame that the turn tells and the filter passes has one

  pub judged_too : (frame : FrameValue) → b.verdict ≡ None → turn.events.received ≡ Some frame →
      PassesAny (filter_of (part with_bit a)) frame → ⊥
  judged_too frame none told passes =
      let here : ReceivedFrame = record { frame = frame; activation = count.starts; bits = count.bits } in
      let among = received_here (record_of k) (gathered told_at (placed_from (place_of k) rest)) t.found others count
      t.step frame t.after after_cut (sym (ap (λ (v : BitEvents). v.received) t.events) ∙ told) in
      let bits = ap (λ (c : Count). c.bits) count_is ∙ bits_are in
      has_verdict (IsAccepted a (filter_of (part whole a))) IsOn (StandsAfter ((place_of j).bits + 1)) here
      (received others) (judged_in whole a) (verdicts.are a) among (record {
        activation = ap (λ (c : Count). c.starts) count_is;
        passes = subst (λ f. PassesAny f frame) (sym filter_is) passes;
      }) (λ y on. on.bits ∙ bits) (by b.off whole_none)
    where
      whole_none : whole ≡ j ++ Bit driven seen ∷ (off_as b.off ++ rest)
      whole_none = whole_is ∙ ap (λ v. with_bit ++ (judged_as v ++ (off_as b.off ++ rest))) none
          ∙ append_assoc j (Bit driven seen ∷ []) (off_as b.off ++ rest)

      by : (off : Bool) → whole ≡ j ++ Bit driven seen ∷ (off_as off ++ rest) →
          OfNone (StandsAfter ((place_of j).bits + 1)) (judged_in whole a)
      by true e = subst
          (λ l. OfNone (StandsAfter ((place_of j).bits + 1)) (judged_in l a))
          (sym e) (none_there_off j rest driven seen a later)
      by false e = subst
          (λ l. OfNone (StandsAfter ((place_of j).bits + 1)) (judged_in l a))
          (sym e) (none_there j rest driven seen a later)
