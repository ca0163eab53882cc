-- The part of an activation that has begun begins with its start.
use Rattle.std.proofs.Common.{◌≡◌, ℕ, ◌+◌, ◌<◌, ◌≤◌, Some, List, [], ◌∷◌, ◌++◌, refl, sym, ap, subst, cond, arith, inl}
use Rattle.std.proofs.Common.{inr}
use Rattle.std.proofs.lemmas.Bool.{cases_eq, eq-eqb, ne_eqb}
use Rattle.can_node_rules.specs.declared.config.Config.{Config}
use Rattle.sja_journal.specs.declared.up.Up.TheVariants.{Start, Credit, Send, Stop}
use Rattle.sja_journal.specs.declared.entry.Entry.{Entry}
use Rattle.sja_journal.specs.declared.entry.Entry.TheVariants.{Bit, Up as Item, Abort, Stored, Overrun, Off}
use Rattle.lemmas.specs.Gathering.{gathered}
use Rattle.sja_journal.specs.Places.{JournalPlace, first_place, past, past_all, place_of, placed_from}
use Rattle.sja_journal.specs.Parts.{in_part, entry_at, part}
use Rattle.sja_journal.specs.Verdicts.{filter_of}

pub record Opens (p : List Entry) : Type 0 where
  pub config : Config
  pub rest : List Entry
  pub opens : p ≡ Item (Start config) ∷ rest

-- only a start begins an activation, and only one
begins : (p : JournalPlace) (e : Entry) (a : ℕ) → p.activation < a → (past p e).activation ≡ a →
    (rest : List Entry) → Opens (e ∷ rest)
begins p (Item (Start config)) a less same rest = record { config = config; rest = rest; opens = refl }
begins p (Bit driven seen) a less same rest = absurd (omega (arith, less, same))
begins p (Item (Credit n)) a less same rest = absurd (omega (arith, less, same))
begins p (Item (Send request)) a less same rest = absurd (omega (arith, less, same))
begins p (Item Stop) a less same rest = absurd (omega (arith, less, same))
begins p Abort a less same rest = absurd (omega (arith, less, same))
begins p (Stored m) a less same rest = absurd (omega (arith, less, same))
begins p (Overrun m) a less same rest = absurd (omega (arith, less, same))
begins p Off a less same rest = absurd (omega (arith, less, same))

one_at_most : (p : JournalPlace) (e : Entry) → (past p e).activation ≤ p.activation + 1
one_at_most p (Item (Start config)) = omega arith
one_at_most p (Bit driven seen) = omega arith
one_at_most p (Item (Credit n)) = omega arith
one_at_most p (Item (Send request)) = omega arith
one_at_most p (Item Stop) = omega arith
one_at_most p Abort = omega arith
one_at_most p (Stored m) = omega arith
one_at_most p (Overrun m) = omega arith
one_at_most p Off = omega arith

opens_from : (p : JournalPlace) (es : List Entry) (a : ℕ) → p.activation < a → a ≤ (past_all p es).activation →
    Opens (gathered (in_part entry_at a) (placed_from p es))
opens_from p [] a less more = absurd (omega (arith, less, more))
opens_from p (e ∷ es) a less more =
    let P : List Entry → Type 0 = λ l. Opens l in
    let later = gathered (in_part entry_at a) (placed_from (past p e) es) in
    elim (cases_eq (past p e).activation a) [
      | inl q ↦ subst P (ap (λ b. cond b (e ∷ []) [] ++ later) (sym (eq-eqb (past p e).activation a q)))
          (begins p e a less q later)
      | inr n ↦
          let few = one_at_most p e in
          subst P (ap (λ b. cond b (e ∷ []) [] ++ later) (sym (ne_eqb (past p e).activation a n)))
          (opens_from (past p e) es a (omega (arith, less, few, n)) more)
    ]

pub part_opens : (j : List Entry) (a : ℕ) → 1 ≤ a → a ≤ (place_of j).activation → Opens (part j a)
part_opens j a some begun = opens_from first_place j a (omega (arith, some)) begun

pub filter_opens : (p : List Entry) (o : Opens p) → filter_of p ≡ Some o.config.filter
filter_opens p o = ap filter_of o.opens
