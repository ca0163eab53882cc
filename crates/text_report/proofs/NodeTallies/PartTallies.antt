-- What the parts of a journal come to.
use Rattle.std.proofs.Common.{◌≡◌, ℕ, ◌+◌, ◌<◌, ◌≤◌, zero, suc, true, false, cond, List, [], ◌∷◌, ◌++◌}
use Rattle.std.proofs.Common.{refl, sym, ap, ap₂, ◌∙◌, arith, append-nil, append_assoc}
use Rattle.std.specs.Prelude.{slice_index_or}
use Rattle.std.proofs.lemmas.Bool.{eq-eqb, ne_eqb}
use Rattle.sja_journal.specs.declared.up.Up.TheVariants.{Start, Credit, Send, Stop}
use Rattle.sja_journal.specs.declared.entry.Entry.{Entry}
use Rattle.sja_journal.specs.declared.entry.Entry.TheVariants.{Bit, Up as Item, Abort, Stored, Overrun, Off}
use Rattle.lemmas.specs.Gathering.{gathered}
use Rattle.sja_journal.specs.Places.{JournalPlace, first_place, past, placed_from}
use Rattle.sja_journal.specs.Parts.{in_part, entry_at, part}
use Rattle.sja_journal.specs.Carried.{overrun_of}
use Rattle.sja_journal.specs.Between.{between_bits}
use Rattle.sja_log.specs.Log.{ActivationValue}
use Rattle.text_report.specs.ReportLines.{lines_text, numbered, activation_lines}
use Rattle.text_report.specs.Inside.Tallies.{TallyValue, tally_of, no_tally, with_entry, opens, tallied}
use Rattle.text_report.specs.Inside.Tallies.{activation_lines_of, tallied_lines}

-- ---- an entry after another

-- a start ends a tally and begins the next
pub tallied_opens : (t : TallyValue) (e : Entry) (es : List Entry) → opens e ≡ true →
    tallied t (e ∷ es) ≡ t ∷ tallied no_tally es
tallied_opens t (Item (Start config)) es h = refl
tallied_opens t (Item (Credit n)) es h = cc
tallied_opens t (Item (Send request)) es h = cc
tallied_opens t (Item Stop) es h = cc
tallied_opens t (Bit driven seen) es h = cc
tallied_opens t Abort es h = cc
tallied_opens t (Stored m) es h = cc
tallied_opens t (Overrun m) es h = cc
tallied_opens t Off es h = cc

-- any other entry is counted
pub tallied_enters : (t : TallyValue) (e : Entry) (es : List Entry) → opens e ≡ false →
    tallied t (e ∷ es) ≡ tallied (with_entry t e) es
tallied_enters t (Item (Start config)) es h = cc
tallied_enters t (Item (Credit n)) es h = refl
tallied_enters t (Item (Send request)) es h = refl
tallied_enters t (Item Stop) es h = refl
tallied_enters t (Bit driven seen) es h = refl
tallied_enters t Abort es h = refl
tallied_enters t (Stored m) es h = refl
tallied_enters t (Overrun m) es h = refl
tallied_enters t Off es h = refl

-- ---- the parts of a journal

-- the part of an activation, from a place on
abbrev part_from : JournalPlace → List Entry → ℕ → List Entry
part_from p es a = gathered (in_part entry_at a) (placed_from p es)

part_here : (p : JournalPlace) (e : Entry) (es : List Entry) (a : ℕ) → (past p e).activation ≡ a →
    part_from p (e ∷ es) a ≡ e ∷ part_from (past p e) es a
part_here p e es a h = ap (λ b. cond b (e ∷ []) [] ++ part_from (past p e) es a) (eq-eqb (past p e).activation a h)

part_else : (p : JournalPlace) (e : Entry) (es : List Entry) (a : ℕ) → ((past p e).activation ≡ a → ⊥) →
    part_from p (e ∷ es) a ≡ part_from (past p e) es a
part_else p e es a h = ap (λ b. cond b (e ∷ []) [] ++ part_from (past p e) es a) (ne_eqb (past p e).activation a h)

-- an entry begins an activation, or stays in one
data Begins (p : JournalPlace) (e : Entry) : Type 0 where
  begins : opens e ≡ true → (past p e).activation ≡ p.activation + 1 → Begins p e
  stays : opens e ≡ false → (past p e).activation ≡ p.activation → Begins p e

begins_or_stays : (p : JournalPlace) (e : Entry) → Begins p e
begins_or_stays p (Item (Start config)) = begins refl refl
begins_or_stays p (Item (Credit n)) = stays refl refl
begins_or_stays p (Item (Send request)) = stays refl refl
begins_or_stays p (Item Stop) = stays refl refl
begins_or_stays p (Bit driven seen) = stays refl refl
begins_or_stays p Abort = stays refl refl
begins_or_stays p (Stored m) = stays refl refl
begins_or_stays p (Overrun m) = stays refl refl
begins_or_stays p Off = stays refl refl

-- nothing more comes of an activation that has passed
part_none : (p : JournalPlace) (es : List Entry) (a : ℕ) → a < p.activation → part_from p es a ≡ []
part_none p [] a h = refl
part_none p (e ∷ es) a h = elim (begins_or_stays p e) [
  | begins o n ↦ part_else p e es a (λ q. omega (arith, h, n, q)) ∙ part_none (past p e) es a (omega (arith, h, n))
  | stays o n ↦ part_else p e es a (λ q. omega (arith, h, n, q)) ∙ part_none (past p e) es a (omega (arith, h, n))
]

-- ---- tallies together

abbrev both : TallyValue → TallyValue → TallyValue
both t u = record {
  stored = t.stored + u.stored;
  overrun = t.overrun ++ u.overrun;
  bytes = t.bytes + u.bytes;
  credits = t.credits + u.credits;
}

abbrev tally : ℕ → List (List ℕ) → ℕ → ℕ → TallyValue
tally stored overrun bytes credits = record { stored = stored; overrun = overrun; bytes = bytes; credits = credits }

same : (s r : ℕ) (o q : List (List ℕ)) (b y c d : ℕ) → s ≡ r → o ≡ q → b ≡ y → c ≡ d → tally s o b c ≡ tally r q y d
same s r o q b y c d e f g h =
    ap (λ n. tally n o b c) e ∙ ap (λ n. tally r n b c) f ∙ ap (λ n. tally r q n c) g ∙ ap (λ n. tally r q y n) h

both_none : (t : TallyValue) → both t no_tally ≡ t
both_none t =
    same (t.stored + 0) t.stored (t.overrun ++ []) t.overrun (t.bytes + 0) t.bytes (t.credits + 0) t.credits
    (omega arith) (append-nil t.overrun) (omega arith) (omega arith)

none_both : (t : TallyValue) → both no_tally t ≡ t
none_both t =
    same (0 + t.stored) t.stored t.overrun t.overrun (0 + t.bytes) t.bytes (0 + t.credits) t.credits
    (omega arith) refl (omega arith) (omega arith)

-- with an entry more is with what the entry comes to
both_entry : (t : TallyValue) (e : Entry) (p : List Entry) →
    both (with_entry t e) (tally_of p) ≡ both t (tally_of (e ∷ p))
both_entry t (Item (Start config)) p = same _ _ _ _ _ _ _ _ refl refl (omega arith) (omega arith)
both_entry t (Item (Credit n)) p = same _ _ _ _ _ _ _ _ refl refl (omega arith) (omega arith)
both_entry t (Item (Send request)) p = same _ _ _ _ _ _ _ _ refl refl (omega arith) (omega arith)
both_entry t (Item Stop) p = same _ _ _ _ _ _ _ _ refl refl (omega arith) (omega arith)
both_entry t (Bit driven seen) p = same _ _ _ _ _ _ _ _ refl refl (omega arith) (omega arith)
both_entry t Abort p = same _ _ _ _ _ _ _ _ refl refl (omega arith) (omega arith)
both_entry t (Stored m) p = same _ _ _ _ _ _ _ _ (omega arith) refl (omega arith) (omega arith)
both_entry t (Overrun m) p =
    same _ _ _ _ _ _ _ _ refl (append_assoc t.overrun (m ∷ []) (overrun_of p)) (omega arith) (omega arith)
both_entry t Off p = same _ _ _ _ _ _ _ _ refl refl (omega arith) (omega arith)

-- an entry that begins an activation comes to nothing
opens_nothing : (e : Entry) (p : List Entry) → opens e ≡ true → tally_of (e ∷ p) ≡ tally_of p
opens_nothing (Item (Start config)) p h = same _ _ _ _ _ _ _ _ refl refl (omega arith) (omega arith)
opens_nothing (Item (Credit n)) p h = cc
opens_nothing (Item (Send request)) p h = cc
opens_nothing (Item Stop) p h = cc
opens_nothing (Bit driven seen) p h = cc
opens_nothing Abort p h = cc
opens_nothing (Stored m) p h = cc
opens_nothing (Overrun m) p h = cc
opens_nothing Off p h = cc

-- ---- the tally at each place of the list

-- the first one goes on from what is there, and the others begin anew
abbrev onto : ℕ → TallyValue → TallyValue → TallyValue
onto zero t u = both t u
onto (suc k) t u = u

at_place : (t : TallyValue) (p : JournalPlace) (es : List Entry) (k a : ℕ) → a ≡ p.activation + k →
    slice_index_or (tallied t es) k no_tally ≡ onto k t (tally_of (part_from p es a))
at_place t p [] zero a h = sym (both_none t)
at_place t p [] (suc k) a h = refl
at_place t p (e ∷ es) zero a h = elim (begins_or_stays p e) [
  | begins o n ↦
      ap (λ l. slice_index_or l 0 no_tally) (tallied_opens t e es o)
      ∙ sym (ap (λ q. both t (tally_of q)) (part_else p e es a (λ q. omega (arith, h, n, q))
      ∙ part_none (past p e) es a (omega (arith, h, n))) ∙ both_none t)
  | stays o n ↦
      ap (λ l. slice_index_or l 0 no_tally) (tallied_enters t e es o)
      ∙ at_place (with_entry t e) (past p e) es zero a (omega (arith, h, n))
      ∙ both_entry t e (part_from (past p e) es a)
      ∙ sym (ap (λ q. both t (tally_of q)) (part_here p e es a (omega (arith, h, n))))
]
at_place t p (e ∷ es) (suc zero) a h = elim (begins_or_stays p e) [
  | begins o n ↦
      ap (λ l. slice_index_or l 1 no_tally) (tallied_opens t e es o)
      ∙ at_place no_tally (past p e) es zero a (omega (arith, h, n))
      ∙ none_both (tally_of (part_from (past p e) es a))
      ∙ sym (ap tally_of (part_here p e es a (omega (arith, h, n))) ∙ opens_nothing e (part_from (past p e) es a) o)
  | stays o n ↦
      ap (λ l. slice_index_or l 1 no_tally) (tallied_enters t e es o)
      ∙ at_place (with_entry t e) (past p e) es 1 a (omega (arith, h, n))
      ∙ sym (ap tally_of (part_else p e es a (λ q. omega (arith, h, n, q))))
]
at_place t p (e ∷ es) (suc (suc k)) a h = elim (begins_or_stays p e) [
  | begins o n ↦
      ap (λ l. slice_index_or l (suc (suc k)) no_tally) (tallied_opens t e es o)
      ∙ at_place no_tally (past p e) es (suc k) a (omega (arith, h, n))
      ∙ sym (ap tally_of (part_else p e es a (λ q. omega (arith, h, n, q))))
  | stays o n ↦
      ap (λ l. slice_index_or l (suc (suc k)) no_tally) (tallied_enters t e es o)
      ∙ at_place (with_entry t e) (past p e) es (suc (suc k)) a (omega (arith, h, n))
      ∙ sym (ap tally_of (part_else p e es a (λ q. omega (arith, h, n, q))))
]

-- ---- bits passed over

tallied_between : (t : TallyValue) (es : List Entry) → tallied t (between_bits es) ≡ tallied t es
tallied_between t [] = refl
tallied_between t (Item (Start config) ∷ es) = ap (λ l. t ∷ l) (tallied_between no_tally es)
tallied_between t (Item (Credit n) ∷ es) = tallied_between (with_entry t (Item (Credit n))) es
tallied_between t (Item (Send request) ∷ es) = tallied_between t es
tallied_between t (Item Stop ∷ es) = tallied_between t es
tallied_between t (Bit driven seen ∷ es) = tallied_between t es
tallied_between t (Abort ∷ es) = tallied_between t es
tallied_between t (Stored m ∷ es) = tallied_between (with_entry t (Stored m)) es
tallied_between t (Overrun m ∷ es) = tallied_between (with_entry t (Overrun m)) es
tallied_between t (Off ∷ es) = tallied_between t es

-- the tally of each activation is what its part comes to
pub tally_at : (j : List Entry) (a : ℕ) → 1 ≤ a →
    slice_index_or (tallied no_tally (between_bits j)) a no_tally ≡ tally_of (part j a)
tally_at j zero h = absurd (omega (arith, h))
tally_at j (suc k) h =
    ap (λ l. slice_index_or l (suc k) no_tally) (tallied_between no_tally j)
    ∙ at_place no_tally first_place j (suc k) (suc k) (omega arith)

-- so are the lines
lines_at : (j : List Entry) (n : ℕ) (acts : List ActivationValue) → 1 ≤ n →
    numbered (tallied_lines (tallied no_tally (between_bits j))) n acts ≡ numbered (activation_lines j) n acts
lines_at j n [] h = refl
lines_at j n (act ∷ acts) h =
    ap₂ (λ x y. x ++ y) (ap (λ t. activation_lines_of t n act) (tally_at j n h))
    (lines_at j (n + 1) acts (omega (arith, h)))

pub tallied_right : (j : List Entry) (ts : List TallyValue) (acts : List ActivationValue) →
    ts ≡ tallied no_tally (between_bits j) →
    lines_text (numbered (tallied_lines ts) 1 acts) ≡ lines_text (numbered (activation_lines j) 1 acts)
tallied_right j ts acts h =
    ap (λ l. lines_text (numbered (tallied_lines l) 1 acts)) h ∙ ap lines_text (lines_at j 1 acts (omega arith))
