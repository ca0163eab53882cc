-- A bit adds one thing to the journal of a node, and tells its port one thing.
use Rattle.std.proofs.Common.{◌≡◌, ℕ, suc, Bool, true, false, Option, Some, None, List, [], ◌∷◌, ◌++◌, length}
use Rattle.std.proofs.Common.{refl, sym, ap, ◌∙◌, subst, arith, append_assoc, append-nil, inl, inr}
use Rattle.std.proofs.lemmas.Bool.{cases_eq}
use Rattle.can_levels.specs.declared.level.Level.{Level}
use Rattle.can_frame.specs.Frame.{FrameValue}
use Rattle.can_frame.specs.Message.{message}
use Rattle.can_node_rules.specs.declared.bit_events.BitEvents.{BitEvents}
use Rattle.can_node_rules.specs.NextBit.{DrivesIn}
use Rattle.can_node_rules.proofs.CutRecords.Fronts.{cut_front}
use Rattle.can_node_rules.proofs.Driven.Records.{a_bit_is_driven}
use Rattle.can_node_rules.proofs.OneCut.SameCuts.{drives_same}
use Rattle.lemmas.specs.Gathering.{gathered}
use Rattle.sja_journal.specs.NodeWords.{NodeAborted, NodeEntry, FinishedPiece, IsCut}
use Rattle.sja_journal.specs.declared.entry.Entry.{Entry}
use Rattle.sja_journal.specs.declared.entry.Entry.TheVariants.{Abort, Bit}
use Rattle.sja_journal.specs.declared.verdict.Verdict.{Verdict}
use Rattle.sja_journal.specs.declared.verdict.Verdict.TheVariants.{Stored as ToStore, Overrun as ToLose}
use Rattle.sja_journal.specs.Aborting.{IsApplied}
use Rattle.sja_journal.specs.BitEntries.{HasBit, abort_as, judged_as, off_as}
use Rattle.sja_journal.specs.Links.{stops_of}
use Rattle.sja_journal.specs.Places.{past, place_of, placed_from}
use Rattle.sja_journal.specs.Records.{record_of, told_at}
use Rattle.sja_journal.specs.Verdicts.{IsLawful}
use Rattle.sja_journal.proofs.JournalEntries.EachInPart.{record_both}
use Rattle.sja_journal.proofs.JournalEntries.Entering.{record_push}
use Rattle.sja_regs.specs.declared.bus_turn.BusTurn.{BusTurn}
use Rattle.sja_regs.specs.declared.registers.Registers.{Registers}
use Rattle.sja_regs.specs.Turns.{after_turn}
use Rattle.sja_bus_rules.specs.Telling.{IsTurn}
use Rattle.sja_driver.proofs.OneBit.BitAsked.{HasCut}
use Rattle.sja_replay.proofs.Once.Bits.{events_once}
use Rattle.sja_laws.proofs.Listed.BitEntries.{tells_turn}
use Rattle.sja_promises.specs.Registering.{IsPortBit}
use Rattle.sja_laws.specs.LongerJournals.{GoesOn}
use Rattle.sja_laws.proofs.Journals.LastBits.{bit_whole}
use Rattle.sja_laws.proofs.OneNode.OneTurn.{turn_once}
use Rattle.sja_laws.proofs.OneNode.OneVerdict.{IsOnFrame, IsRight, judged_too, right}

-- ---- an abort

pub cut_before : (j : List Entry) (changed : Bool) → HasCut (j ++ abort_as changed) → HasCut j
cut_before j true has =
    let P : List NodeEntry → Type 0 = λ l. IsCut l has.found in
    let front = cut_front (record_of j) NodeAborted has.found tt (subst P (record_push j Abort) has.cut) in
    record { found = front.0; cut = front.1 }
cut_before j false has =
    let P : List NodeEntry → Type 0 = λ l. IsCut l has.found in
    record { found = has.found; cut = subst P (ap record_of (append-nil j)) has.cut }

applied_once : (j : List Entry) (x y : Bool) → HasCut j → IsApplied j x → IsApplied j y → x ≡ y
applied_once j x y has h g = by (place_of j).off refl
  where
    by : (off : Bool) → (place_of j).off ≡ off → x ≡ y
    by true e = h.rests (inr e) ∙ sym (g.rests (inr e))
    by false e = elim (cases_eq (place_of j).activation (suc (stops_of j))) [
      | inl opened ↦ h.runs opened e has.found has.cut ∙ sym (g.runs opened e has.found has.cut)
      | inr closed ↦ h.rests (inl closed) ∙ sym (g.rests (inl closed))
    ]

abort_same : (j k l : List Entry) (p q r : Registers) (b : IsPortBit p q j k) (c : IsPortBit p r j l) →
    b.changed ≡ c.changed
abort_same j k l p q r b c = by p.abort refl
  where
    has : HasCut j
    has = cut_before j b.changed (record { found = b.is_turn.found; cut = b.is_turn.cut })

    by : (stands : Bool) → p.abort ≡ stands → b.changed ≡ c.changed
    by true e = applied_once j b.changed c.changed has (b.applied e) (c.applied e)
    by false e = b.unasked e ∙ sym (c.unasked e)

-- ---- the level that is driven

driven_by : (whole : List Entry) → IsLawful whole → (opened k : List Entry) (driven seen : Level) →
    HasBit opened driven seen k → GoesOn k whole → (found : List FinishedPiece) (h : IsCut (record_of opened) found) →
    DrivesIn h driven
driven_by whole lawful opened k driven seen b on found h =
    let behind = (judged_as b.verdict ++ off_as b.off) ++ on.rest in
    let split : whole ≡ opened ++ Bit driven seen ∷ behind =
    on.is ∙ ap (λ l. l ++ on.rest) (bit_whole opened k driven seen b)
    ∙ append_assoc opened (Bit driven seen ∷ (judged_as b.verdict ++ off_as b.off)) on.rest in
    let more = gathered told_at (placed_from (past (place_of opened) (Bit driven seen)) behind) in
    let P : List NodeEntry → Type 0 = λ l. IsCut l lawful.found in
    a_bit_is_driven (record_of opened) more (record { driven = driven; seen = seen }) found lawful.found h
    (subst P (ap record_of split ∙ record_both opened (Bit driven seen ∷ behind)) lawful.cut)

-- two bits after one front are driven alike
pub driven_once : (whole other : List Entry) → IsLawful whole → IsLawful other → (opened begun k l : List Entry)
    (x v y w : Level) → opened ≡ begun → HasBit opened x v k → HasBit begun y w l → GoesOn k whole → GoesOn l other →
    HasCut opened → x ≡ y
driven_once whole other lawful right opened begun k l x v y w same b c on off has =
    let P : List Entry → Type 0 = λ o. HasBit o y w l in
    let again = subst P (sym same) c in
    drives_same (record_of opened) has.found has.found has.cut has.cut x y
    (driven_by whole lawful opened k x v b on has.found has.cut)
    (driven_by other right opened l y w again off has.found has.cut)

-- ---- what came of a frame

frames_same : (e : Option FrameValue) (f g : FrameValue) → e ≡ Some f → e ≡ Some g → f ≡ g
frames_same e f g h k = let same : Some f ≡ Some g = sym h ∙ k in cc

module _ (changed : Bool) (j k l : List Entry) (driven seen : Level) (b : HasBit j driven seen k)
    (c : HasBit j driven seen l) (t u : BusTurn) (x : IsTurn changed j driven seen k b t)
    (y : IsTurn changed j driven seen l c u) (whole other : List Entry) (a : IsLawful whole) (o : IsLawful other)
    (on : GoesOn k whole) (off : GoesOn l other) where
  abbrev with_bit : List Entry
  with_bit = j ++ Bit driven seen ∷ []

  events : t.events ≡ u.events
  events = events_once j driven seen t.events u.events (tells_turn changed j k driven seen b t x)
      (tells_turn changed j l driven seen c u y)

  events_are : (frame : FrameValue) → u.events.received ≡ Some frame → t.events.received ≡ Some frame
  events_are frame e = ap (λ (v : BitEvents). v.received) events ∙ e

  abbrev RightOne : Option (Verdict × List ℕ) → Type 0
  RightOne v = IsRight whole a.found a.cut (a.verdicts a.found a.cut) changed j k on.rest driven seen b t x on.is
      on.later v

  abbrev RightTwo : Option (Verdict × List ℕ) → Type 0
  RightTwo v = IsRight other o.found o.cut (o.verdicts o.found o.cut) changed j l off.rest driven seen c u y off.is
      off.later v

  right_one : (v : Option (Verdict × List ℕ)) → b.verdict ≡ v → RightOne v
  right_one = right whole a.found a.cut (a.verdicts a.found a.cut) changed j k on.rest driven seen b t x on.is on.later

  right_two : (v : Option (Verdict × List ℕ)) → c.verdict ≡ v → RightTwo v
  right_two = right other o.found o.cut (o.verdicts o.found o.cut) changed j l off.rest driven seen c u y off.is
      off.later

  abbrev OnOne : List ℕ → Type 0
  OnOne m = IsOnFrame whole a.found a.cut (a.verdicts a.found a.cut) changed j k on.rest driven seen b t x on.is
      on.later m

  abbrev OnTwo : List ℕ → Type 0
  OnTwo m = IsOnFrame other o.found o.cut (o.verdicts o.found o.cut) changed j l off.rest driven seen c u y off.is
      off.later m

  bytes_same : (m n : List ℕ) → OnOne m → OnTwo n → m ≡ n
  bytes_same m n h g =
      h.bytes ∙ ap message (frames_same t.events.received h.frame g.frame h.told (events_are g.frame g.told))
      ∙ sym g.bytes

  never_one : (m : List ℕ) → c.verdict ≡ None → OnOne m → ⊥
  never_one m none h =
      judged_too other o.found o.cut (o.verdicts o.found o.cut) changed j l off.rest driven seen c u y off.is off.later
      h.frame none (ap (λ (v : BitEvents). v.received) (sym events) ∙ h.told) h.passes

  never_two : (m : List ℕ) → b.verdict ≡ None → OnTwo m → ⊥
  never_two m none h =
      judged_too whole a.found a.cut (a.verdicts a.found a.cut) changed j k on.rest driven seen b t x on.is on.later
      h.frame none (events_are h.frame h.told) h.passes

  verdict_once : b.verdict ≡ c.verdict
  verdict_once =
      let same = by b.verdict c.verdict refl refl (right_one b.verdict refl) (right_two c.verdict refl) in same
    where
      by : (v w : Option (Verdict × List ℕ)) → b.verdict ≡ v → c.verdict ≡ w → RightOne v → RightTwo w → v ≡ w
      by None None e f h g = refl
      by None (Some (ToStore, n)) e f h g = absurd (never_two n e g.0)
      by None (Some (ToLose, n)) e f h g = absurd (never_two n e g.0)
      by (Some (ToStore, m)) None e f h g = absurd (never_one m f h.0)
      by (Some (ToLose, m)) None e f h g = absurd (never_one m f h.0)
      by (Some (ToStore, m)) (Some (ToStore, n)) e f h g =
          ap (λ (z : List ℕ). Some (ToStore, z)) (bytes_same m n h.0 g.0)
      by (Some (ToLose, m)) (Some (ToLose, n)) e f h g =
          ap (λ (z : List ℕ). Some (ToLose, z)) (bytes_same m n h.0 g.0)
      by (Some (ToStore, m)) (Some (ToLose, n)) e f h g =
          let long = ap (λ (z : List ℕ). length z) (bytes_same m n h.0 g.0) in
          let few = h.1 in let many = g.1 in absurd (omega (arith, long, few, many))
      by (Some (ToLose, m)) (Some (ToStore, n)) e f h g =
          let long = ap (λ (z : List ℕ). length z) (bytes_same m n h.0 g.0) in
          let few = g.1 in let many = h.1 in absurd (omega (arith, long, few, many))

  pub entries_once : k ≡ l
  entries_once =
      let gone : b.off ≡ c.off = sym x.off ∙ ap (λ (v : BitEvents). v.went_off) events ∙ y.off in
      b.whole ∙ ap (λ v. (with_bit ++ judged_as v) ++ off_as b.off) verdict_once
      ∙ ap (λ v. (with_bit ++ judged_as c.verdict) ++ off_as v) gone ∙ sym c.whole

  pub told_once : t ≡ u
  told_once = turn_once changed j k l driven seen b c t u entries_once verdict_once x y

-- ---- the whole bit

pub record IsOneMore (k l : List Entry) (q r : Registers) : Type 0 where
  pub entries : k ≡ l
  pub port : q ≡ r

module _ (j k l : List Entry) (p q r : Registers) (b : IsPortBit p q j k) (c : IsPortBit p r j l)
    (whole other : List Entry) (lawful : IsLawful whole) (too : IsLawful other) (on : GoesOn k whole)
    (off : GoesOn l other) where
  changed : b.changed ≡ c.changed
  changed = abort_same j k l p q r b c

  opened : j ++ abort_as b.changed ≡ j ++ abort_as c.changed
  opened = ap (λ o. j ++ abort_as o) changed

  pub driven_alike : b.driven ≡ c.driven
  driven_alike = driven_once whole other lawful too (j ++ abort_as b.changed) (j ++ abort_as c.changed) k l b.driven
      b.seen c.driven c.seen opened b.bit c.bit on off (record { found = b.is_turn.found; cut = b.is_turn.cut })

  pub bit_once : b.seen ≡ c.seen → IsOneMore k l q r
  bit_once seen =
      let A : Bool → List Entry → Level → Level → Type 0 =
      λ v o d s. (e : HasBit o d s l) → IsTurn v o d s l e c.turn → (k ≡ l) × (b.turn ≡ c.turn) in
      let first : A b.changed (j ++ abort_as b.changed) b.driven b.seen =
      λ e z. (
        entries_once b.changed (j ++ abort_as b.changed) k l b.driven b.seen b.bit e b.turn c.turn b.is_turn z whole
            other lawful too on off,
        told_once b.changed (j ++ abort_as b.changed) k l b.driven b.seen b.bit e b.turn c.turn b.is_turn z whole
            other lawful too on off,
      ) in
      let second = subst (λ v. A v (j ++ abort_as b.changed) b.driven b.seen) changed first in
      let third = subst (λ o. A c.changed o b.driven b.seen) opened second in
      let fourth = subst (λ d. A c.changed (j ++ abort_as c.changed) d b.seen) driven_alike third in
      let last = subst (λ s. A c.changed (j ++ abort_as c.changed) c.driven s) seen fourth in
      let both = last c.bit c.is_turn in
      record { entries = both.0; port = b.told ∙ ap (after_turn p) both.1 ∙ sym c.told }
