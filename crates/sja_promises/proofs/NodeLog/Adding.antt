-- What a bit adds to a journal in which nothing is taken: an abort or none, the bit, a verdict or none, bus-off or
-- none.
use Rattle.std.proofs.Common.{◌≡◌, ℕ, ◌+◌, Bool, true, false, List, [], ◌∷◌, ◌++◌, refl, sym, ap, ◌∙◌}
use Rattle.std.proofs.Common.{subst, append_assoc, append-nil, arith}
use Rattle.std.specs.Prelude.{◌||◌, Option, Some, None}
use Rattle.can_levels.specs.declared.level.Level.{Level}
use Rattle.sja_journal.specs.declared.down.Down.{Down}
use Rattle.sja_journal.specs.declared.verdict.Verdict.{Verdict}
use Rattle.sja_journal.specs.declared.verdict.Verdict.TheVariants.{Stored as ToStore, Overrun as ToLose}
use Rattle.sja_journal.specs.declared.entry.Entry.{Entry}
use Rattle.sja_journal.specs.declared.entry.Entry.TheVariants.{Bit, Abort, Stored, Overrun, Off}
use Rattle.sja_link.specs.Looking.{off_among}
use Rattle.lemmas.specs.Picking.{EachAfter}
use Rattle.sja_journal.specs.Places.{JournalPlace, past, place_of}
use Rattle.sja_journal.specs.Parts.{part}
use Rattle.sja_journal.specs.Carried.{put_in, put_of}
use Rattle.lemmas.proofs.Gathered.{gathered_append}
use Rattle.sja_journal.proofs.JournalEntries.Entering.{place_push}
use Rattle.sja_link.proofs.Ledger.Pullings.{off_both}
use Rattle.sja_journal.specs.BitEntries.{abort_as, judged_as, off_as, HasBit}
use Rattle.sja_driver.specs.TypedActs.{TypedAct}
use Rattle.sja_driver.specs.Aborting.{IsCommanded, AbortIsDue}
use Rattle.sja_driver.specs.Windows.{put_by, off_by}
use Rattle.sja_driver.proofs.Trace.Timings.{put_now}
use Rattle.sja_driver.proofs.Trace.AbortsDue.{aborts_push}
use Rattle.sja_promises.proofs.Trace.Windows.{put_quiet}
use Rattle.sja_driver.proofs.Trace.Later.{SameBy}
use Rattle.sja_driver.proofs.Account.Own.{AreOwn, own_part, own_late}

-- the entries after the bit, and all of them
abbrev pub after_bit : Option (Verdict × List ℕ) → Bool → List Entry
after_bit v off = judged_as v ++ off_as off

abbrev pub added : Bool → Level → Level → Option (Verdict × List ℕ) → Bool → List Entry
added changed driven seen v off = abort_as changed ++ Bit driven seen ∷ after_bit v off

after_own : (v : Option (Verdict × List ℕ)) (off : Bool) → AreOwn (after_bit v off)
after_own None true = (tt, tt)
after_own None false = tt
after_own (Some (ToStore, m)) true = (tt, (tt, tt))
after_own (Some (ToStore, m)) false = (tt, tt)
after_own (Some (ToLose, m)) true = (tt, (tt, tt))
after_own (Some (ToLose, m)) false = (tt, tt)

pub added_own : (changed : Bool) (driven seen : Level) (v : Option (Verdict × List ℕ)) (off : Bool) →
    AreOwn (added changed driven seen v off)
added_own true driven seen v off = (tt, (tt, after_own v off))
added_own false driven seen v off = (tt, after_own v off)

pub bit_whole : (opened k : List Entry) (driven seen : Level) (b : HasBit opened driven seen k) →
    k ≡ opened ++ Bit driven seen ∷ after_bit b.verdict b.off
bit_whole opened k driven seen b =
    b.whole ∙ append_assoc (opened ++ Bit driven seen ∷ []) (judged_as b.verdict) (off_as b.off)
    ∙ append_assoc opened (Bit driven seen ∷ []) (after_bit b.verdict b.off)

-- ---- bits

module _ (j : List Entry) (changed : Bool) (driven seen : Level) (v : Option (Verdict × List ℕ)) (off : Bool) where
  abbrev opened : List Entry
  opened = j ++ abort_as changed

  abbrev with_bit : List Entry
  with_bit = opened ++ Bit driven seen ∷ []

  pub added_is : j ++ added changed driven seen v off ≡ with_bit ++ after_bit v off
  added_is = sym (append_assoc j (abort_as changed) (Bit driven seen ∷ after_bit v off))
      ∙ sym (append_assoc opened (Bit driven seen ∷ []) (after_bit v off))

  opened_bits : (place_of opened).bits ≡ (place_of j).bits
  opened_bits = over changed
    where
      over : (c : Bool) → (place_of (j ++ abort_as c)).bits ≡ (place_of j).bits
      over true = ap (λ (p : JournalPlace). p.bits) (place_push j Abort)
      over false = ap (λ (l : List Entry). (place_of l).bits) (append-nil j)

  bit_bits : (place_of with_bit).bits ≡ (place_of j).bits + 1
  bit_bits = ap (λ (p : JournalPlace). p.bits) (place_push opened (Bit driven seen)) ∙ ap (λ (n : ℕ). n + 1) opened_bits

  pub added_bits : (place_of (j ++ added changed driven seen v off)).bits ≡ (place_of j).bits + 1
  added_bits = ap (λ (l : List Entry). (place_of l).bits) added_is ∙ over v off
    where
      same : (l : List Entry) (e : Entry) → (past (place_of l) e).bits ≡ (place_of l).bits →
          (place_of l).bits ≡ (place_of j).bits + 1 → (place_of (l ++ e ∷ [])).bits ≡ (place_of j).bits + 1
      same l e q h = ap (λ (p : JournalPlace). p.bits) (place_push l e) ∙ q ∙ h

      judged : (w : Option (Verdict × List ℕ)) → (place_of (with_bit ++ judged_as w)).bits ≡ (place_of j).bits + 1
      judged None = ap (λ (l : List Entry). (place_of l).bits) (append-nil with_bit) ∙ bit_bits
      judged (Some (ToStore, m)) = same with_bit (Stored m) refl bit_bits
      judged (Some (ToLose, m)) = same with_bit (Overrun m) refl bit_bits

      over : (w : Option (Verdict × List ℕ)) (o : Bool) →
          (place_of (with_bit ++ after_bit w o)).bits ≡ (place_of j).bits + 1
      over w true = ap (λ (l : List Entry). (place_of l).bits) (sym (append_assoc with_bit (judged_as w) (Off ∷ [])))
          ∙ same (with_bit ++ judged_as w) Off refl (judged w)
      over w false = ap (λ (l : List Entry). (place_of l).bits)
          (sym (append_assoc with_bit (judged_as w) []) ∙ append-nil (with_bit ++ judged_as w)) ∙ judged w

  -- what was put by the bits before is the same
  pub added_put : SameBy (place_of j).bits j (j ++ added changed driven seen v off)
  added_put n a few =
      let b = bit_bits in
      ap (λ (l : List Entry). put_by n l a) added_is
      ∙ own_late n with_bit (after_bit v off) a (after_own v off) (omega (arith, b, few))
      ∙ put_quiet n opened (Bit driven seen) a refl
      ∙ over changed
    where
      over : (c : Bool) → put_by n (j ++ abort_as c) a ≡ put_by n j a
      over true = put_quiet n j Abort a refl
      over false = ap (λ (l : List Entry). put_by n l a) (append-nil j)

  -- ---- aborts

  pub added_due : (acts : List TypedAct) → (changed ≡ true → IsCommanded acts j) → EachAfter (AbortIsDue acts) [] j →
      EachAfter (AbortIsDue acts) [] (j ++ added changed driven seen v off)
  added_due acts due h =
      subst (λ (l : List Entry). EachAfter (AbortIsDue acts) [] l) (sym added_is)
      (rest v off (aborts_push acts opened (Bit driven seen) (begun changed due) tt))
    where
      begun : (c : Bool) → (c ≡ true → IsCommanded acts j) → EachAfter (AbortIsDue acts) [] (j ++ abort_as c)
      begun true d = aborts_push acts j Abort h (d refl)
      begun false d = subst (λ (l : List Entry). EachAfter (AbortIsDue acts) [] l) (sym (append-nil j)) h

      judged : (w : Option (Verdict × List ℕ)) → EachAfter (AbortIsDue acts) [] with_bit →
          EachAfter (AbortIsDue acts) [] (with_bit ++ judged_as w)
      judged None g = subst (λ (l : List Entry). EachAfter (AbortIsDue acts) [] l) (sym (append-nil with_bit)) g
      judged (Some (ToStore, m)) g = aborts_push acts with_bit (Stored m) g tt
      judged (Some (ToLose, m)) g = aborts_push acts with_bit (Overrun m) g tt

      rest : (w : Option (Verdict × List ℕ)) (o : Bool) → EachAfter (AbortIsDue acts) [] with_bit →
          EachAfter (AbortIsDue acts) [] (with_bit ++ after_bit w o)
      rest w true g =
          subst (λ (l : List Entry). EachAfter (AbortIsDue acts) [] l)
          (append_assoc with_bit (judged_as w) (Off ∷ []))
          (aborts_push acts (with_bit ++ judged_as w) Off (judged w g) tt)
      rest w false g = subst (λ (l : List Entry). EachAfter (AbortIsDue acts) [] l)
          (append_assoc with_bit (judged_as w) [])
          (subst (λ (l : List Entry). EachAfter (AbortIsDue acts) [] l) (sym (append-nil (with_bit ++ judged_as w)))
          (judged w g))

  -- ---- bus-off

  -- whether bus-off was put in the last activation that has begun
  pub added_off : (a : ℕ) → (place_of j).activation ≡ a →
      off_by (place_of (j ++ added changed driven seen v off)).bits (j ++ added changed driven seen v off) a ≡
      (off_by (place_of j).bits j a || off)
  added_off a at =
      let es = added changed driven seen v off in
      let own = added_own changed driven seen v off in
      ap (off_among false) (put_now (j ++ es) a ∙ ap put_of (own_part j es a own at)
      ∙ gathered_append put_in (part j a) es)
      ∙ off_both false (put_of (part j a)) (put_of es) ∙ before changed (off_among false (put_of (part j a))) v off
      ∙ ap (λ (xs : List Down). off_among false xs || off) (sym (put_now j a))
    where
      last : (b : Bool) (w : Option (Verdict × List ℕ)) (o : Bool) → off_among b (put_of (after_bit w o)) ≡ (b || o)
      last true None true = refl
      last true None false = refl
      last false None true = refl
      last false None false = refl
      last true (Some (ToStore, m)) true = refl
      last true (Some (ToStore, m)) false = refl
      last false (Some (ToStore, m)) true = refl
      last false (Some (ToStore, m)) false = refl
      last true (Some (ToLose, m)) true = refl
      last true (Some (ToLose, m)) false = refl
      last false (Some (ToLose, m)) true = refl
      last false (Some (ToLose, m)) false = refl

      before : (c b : Bool) (w : Option (Verdict × List ℕ)) (o : Bool) →
          off_among b (put_of (added c driven seen w o)) ≡ (b || o)
      before true b w o = last b w o
      before false b w o = last b w o
