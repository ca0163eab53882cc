-- What holds of each entry of an activation and of those before it, at one entry of a journal.
use Rattle.std.proofs.Common.{◌≡◌, ℕ, List, [], ◌∷◌, ◌++◌, refl, ap, ◌∙◌, subst, cond}
use Rattle.std.proofs.lemmas.Bool.{eq-eqb}
use Rattle.lemmas.specs.Gathering.{gathered}
use Rattle.lemmas.specs.Picking.{EachAfter}
use Rattle.lemmas.proofs.Gathered.{gathered_append}
use Rattle.lemmas.proofs.Picking.{each_inside}
use Rattle.sja_journal.specs.declared.entry.Entry.{Entry}
use Rattle.sja_journal.specs.Parts.{in_part, of_part, entry_at, part}
use Rattle.sja_journal.specs.Places.{JournalPlace, first_place, past, past_all, place_of, Placed, placed_from, placed}
use Rattle.sja_journal.specs.Records.{told_at, record_of}
use Rattle.sja_journal.proofs.JournalEntries.Entering.{placed_append}

gathered_both : {B : Type 0} (f : Placed → List B) (j rest : List Entry) →
    gathered f (placed (j ++ rest)) ≡ gathered f (placed j) ++ gathered f (placed_from (place_of j) rest)
gathered_both f j rest =
    ap (gathered f) (placed_append first_place j rest)
    ∙ gathered_append f (placed j) (placed_from (place_of j) rest)

-- the record of a longer journal
pub record_both : (j rest : List Entry) →
    record_of (j ++ rest) ≡ record_of j ++ gathered told_at (placed_from (place_of j) rest)
record_both j rest = gathered_both told_at j rest

-- what the entries of an activation give, at an entry of it
pub of_part_at : {B : Type 0} (f : Placed → List B) (j rest : List Entry) (e : Entry) (a : ℕ) →
    (past (place_of j) e).activation ≡ a →
    of_part f (j ++ e ∷ rest) a
    ≡ of_part f j a ++ (f (record { before = place_of j; entry = e })
    ++ gathered (in_part f a) (placed_from (past (place_of j) e) rest))
of_part_at f j rest e a h =
    let q : Placed = record { before = place_of j; entry = e } in
    gathered_both (in_part f a) j (e ∷ rest)
    ∙ ap (λ b. of_part f j a ++ (cond b (f q) [] ++ gathered (in_part f a) (placed_from (past (place_of j) e) rest)))
    (eq-eqb (past (place_of j) e).activation a h)

-- at one entry of the activation
pub each_part : (P : List Entry → Entry → Type 0) (j rest : List Entry) (e : Entry) (a : ℕ) →
    (past (place_of j) e).activation ≡ a → EachAfter P [] (part (j ++ e ∷ rest) a) → P (part j a) e
each_part P j rest e a h each =
    each_inside P [] (part j a) (gathered (in_part entry_at a) (placed_from (past (place_of j) e) rest)) e
    (subst (λ l. EachAfter P [] l) (of_part_at entry_at j rest e a h) each)

-- ---- the place of a longer journal

past_both : (p : JournalPlace) (xs ys : List Entry) → past_all p (xs ++ ys) ≡ past_all (past_all p xs) ys
past_both p [] ys = refl
past_both p (x ∷ xs) ys = past_both (past p x) xs ys

pub place_both : (j rest : List Entry) → place_of (j ++ rest) ≡ past_all (place_of j) rest
place_both j rest = past_both _ j rest
