-- A bit whose entries the reserved ones of a journal don't hold.
use Rattle.std.proofs.Common.{◌≡◌, arith, Option, ◌+◌, ◌≤◌, ℕ, Bool, true, false, None, Some, List, [], ◌∷◌, ◌++◌}
use Rattle.std.proofs.Common.{length, refl, sym, ap, ◌∙◌, subst, append_assoc, append-nil}
use Rattle.std.proofs.lemmas.List.{length-append}
use Rattle.can_levels.specs.declared.level.Level.{Level}
use Rattle.can_node.specs.declared.node.Node.{Node}
use Rattle.sja_journal.specs.declared.entry.Entry.{Entry}
use Rattle.sja_journal.specs.declared.entry.Entry.TheVariants.{Bit, Off}
use Rattle.sja_journal.specs.declared.verdict.Verdict.{Verdict}
use Rattle.sja_journal.specs.declared.verdict.Verdict.TheVariants.{Stored, Overrun}
use Rattle.sja_journal.specs.Between.{between_bits}
use Rattle.sja_journal.specs.Written.{Room, IsFullFor}
use Rattle.sja_journal.proofs.JournalEntries.Rooms.{HasFree, between_both, bit_more}
use Rattle.sja_journal.specs.Parts.{part}
use Rattle.sja_journal.specs.Verdicts.{IsDue, IsLawful, entry_of}
use Rattle.sja_journal.specs.BitEntries.{MayHaveVerdict, judged_as, off_as}
use Rattle.sja_bus_rules.specs.OutOfRoom.{IsOutOfRoom}
use Rattle.sja_bus_rules.specs.Telling.{is_overrun}
use Rattle.sja_bus.specs.Inside.Following.{FollowsBit}
use Rattle.sja_bus.specs.Inside.Taking.{IsJudgedShort}
use Rattle.sja_bus.proofs.WholeBus.Lawfuls.{lawful_of}
use Rattle.sja_bus.proofs.Journal.BitSteps.{follows_on, follows_off}

-- the journal with bus-off after the bit, where the node went bus-off
pub bit_lawful : (node : Node) (k : List Entry) (went : Bool) → FollowsBit node k went → IsLawful (k ++ off_as went)
bit_lawful node k true h = lawful_of node (k ++ Off ∷ []) (follows_off node k h)
bit_lawful node k false h =
    let P : List Entry → Type 0 = λ l. IsLawful l in
    subst P (sym (append-nil k)) (lawful_of node k (follows_on node k h))

-- the entry of the bit itself finds no room
pub bit_short : (node : Node) (room : Room) (j k : List Entry) (x seen : Level) (went : Bool) → k ≡ j →
    IsFullFor room j (Bit x seen) → FollowsBit node (j ++ Bit x seen ∷ []) went → IsOutOfRoom room j k
bit_short node room j k x seen went same used follows =
    let with = j ++ Bit x seen ∷ [] in
    let whole : with ++ off_as went ≡ j ++ Bit x seen ∷ off_as went = append_assoc j (Bit x seen ∷ []) (off_as went) in
    let L : List Entry → Type 0 = λ l. IsLawful l in
    let P : List Entry → Type 0 = λ l. IsOutOfRoom room j l in
    subst P (sym same) (record {
      used = used;
      grows = ([], sym (append-nil j));
      due = Bit x seen;
      later = off_as went;
      driven = x;
      seen = seen;
      bit = record {
        verdict = None;
        off = went;
        whole = sym whole ∙ ap (λ l. l ++ off_as went) (sym (append-nil with));
      };
      lawful = subst L whole (bit_lawful node with went follows);
    })

-- of a bit with a verdict the entry of the bit finds no room
pub bit_unjudged : (room : Room) (j k : List Entry) (x seen : Level) (a : ℕ) (v : Verdict) (m : List ℕ) → k ≡ j →
    IsFullFor room j (Bit x seen) → IsDue (part (j ++ Bit x seen ∷ []) a) (entry_of v m) →
    IsJudgedShort room j x seen a m k
bit_unjudged room j k x seen a v m same used due =
    let P : List Entry → Type 0 = λ l. IsJudgedShort room j x seen a m l in
    subst P (sym same) (record {
      used = used;
      grows = ([], sym (append-nil j));
      overrun = is_overrun (Some (v, m));
      due = Bit x seen;
      later = entry_of v m ∷ [];
      judged = record {
        verdict = v;
        overrun_is = refl;
        whole = sym (append_assoc j (Bit x seen ∷ []) (entry_of v m ∷ []));
        due = due;
      };
    })

-- the verdict's does
pub verdict_unjudged : (room : Room) (j k : List Entry) (x seen : Level) (a : ℕ) (v : Verdict) (m : List ℕ) →
    k ≡ j ++ Bit x seen ∷ [] → IsFullFor room (j ++ Bit x seen ∷ []) (entry_of v m) →
    IsDue (part (j ++ Bit x seen ∷ []) a) (entry_of v m) → IsJudgedShort room j x seen a m k
verdict_unjudged room j k x seen a v m same used due =
    let P : List Entry → Type 0 = λ l. IsJudgedShort room j x seen a m l in
    subst P (sym same) (record {
      used = used;
      grows = (Bit x seen ∷ [], refl);
      overrun = is_overrun (Some (v, m));
      due = entry_of v m;
      later = [];
      judged = record { verdict = v; overrun_is = refl; whole = refl; due = due };
    })

-- the bit or its verdict does
pub judged_short : (node : Node) (room : Room) (j k : List Entry) (x seen : Level) (a : ℕ) (m : List ℕ) (went : Bool) →
    (short : IsJudgedShort room j x seen a m k) → FollowsBit node (k ++ short.due ∷ short.later)
    went → IsOutOfRoom room j k
judged_short node room j k x seen a m went short follows =
    let whole : (k ++ short.due ∷ short.later) ++ off_as went ≡ k ++ short.due ∷ (short.later ++ off_as went)
    = append_assoc k (short.due ∷ short.later) (off_as went) in
    let L : List Entry → Type 0 = λ l. IsLawful l in record {
      used = short.used;
      grows = short.grows;
      due = short.due;
      later = short.later ++ off_as went;
      driven = x;
      seen = seen;
      bit = record {
        verdict = Some (short.judged.verdict, m);
        off = went;
        whole = sym whole ∙ ap (λ l. l ++ off_as went) short.judged.whole;
      };
      lawful = subst L whole (bit_lawful node (k ++ short.due ∷ short.later) went follows);
    }

-- bus-off does, after the bit and its verdict
pub off_short : (node : Node) (room : Room) (j mid k : List Entry) (x seen : Level) →
    MayHaveVerdict j x seen mid → k ≡ mid →
    IsFullFor room mid Off → FollowsBit node mid true → IsOutOfRoom room j k
off_short node room j mid k x seen has same used follows =
    let P : List Entry → Type 0 = λ l. IsOutOfRoom room j l in
    subst P (sym same) (record {
      used = used;
      grows = (
        Bit x seen ∷ judged_as has.verdict,
        has.whole
            ∙ append_assoc j (Bit x seen ∷ []) (judged_as has.verdict),
      );
      due = Off;
      later = [];
      driven = x;
      seen = seen;
      bit = record { verdict = has.verdict; off = true; whole = ap (λ l. l ++ Off ∷ []) has.whole };
      lawful = bit_lawful node mid true follows;
    })

-- with room for three entries more it doesn't come so far
pub short_never : (room : Room) (j k : List Entry) → IsOutOfRoom room j k → HasFree 3 room j → ⊥
short_never room j k h free =
    let all = free.all in let others = free.others in
    let x = Bit h.driven h.seen in let v = judged_as h.bit.verdict in let off = off_as h.bit.off in
    let whole = append_assoc k (h.due ∷ []) h.later ∙ h.bit.whole in
    let long = ap (λ (l : List Entry). length l) whole in
    let many = ap (λ (l : List Entry). length (between_bits l)) whole in
    let a = length-append (k ++ h.due ∷ []) h.later in let b = length-append ((j ++ x ∷ []) ++ v) off in
    let c = length-append (j ++ x ∷ []) v in let d = length-append j (x ∷ []) in
    let e = between_both (k ++ h.due ∷ []) h.later in let f = between_both ((j ++ x ∷ []) ++ v) off in
    let g = between_both (j ++ x ∷ []) v in let i = bit_more j h.driven h.seen in
    let few = one_verdict h.bit.verdict in let last = one_off h.bit.off in
    h.used.none (record {
      all = omega (arith, long, a, b, c, d, few, last, all);
      others = omega (arith, many, e, f, g, i, few, last, others);
    })
  where
    one_verdict : (v : Option _) → (length (judged_as v) ≤ 1) × (length (between_bits (judged_as v)) ≤ 1)
    one_verdict None = (omega arith, omega arith)
    one_verdict (Some (Stored, m)) = (omega arith, omega arith)
    one_verdict (Some (Overrun, m)) = (omega arith, omega arith)

    one_off : (off : Bool) → (length (off_as off) ≤ 1) × (length (between_bits (off_as off)) ≤ 1)
    one_off true = (omega arith, omega arith)
    one_off false = (omega arith, omega arith)
