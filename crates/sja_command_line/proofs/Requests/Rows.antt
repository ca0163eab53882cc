-- From what the calls on a parse's matches answer to the rows of its subcommand.
use Rattle.std.proofs.Common.{◌≡◌, ◌<◌, ◌≤◌, ℕ, Bool, true, false, List, [], ◌∷◌, Option, Some, None, refl, arith}
use Rattle.std.proofs.Common.{length, slice_index_or}
use Rattle.std.specs.Prelude.{option_map, option_and_then, find, slice_get, map}
use Rattle.std.specs.Str.{bytes_eq}
use Rattle.std.specs.Borrow.{Bor}
use Rattle.clap.specs.Words.{Text, all_of, first_of, first_value, found_of}
use Rattle.clap.specs.Words.{matched_of, raw_values, rows_of}
use Rattle.clap.specs.Walk.{row_of}
use Rattle.clap.specs.declared.parser.matches.MatchedArg.{MatchedArg}
use Rattle.clap.specs.declared.parser.matches.ArgMatches.{ArgMatches}

-- the first text of a list of texts behind references
first_now : (vs : List (Bor (List ℕ))) → slice_get (map (λ v. v.now) vs) 0 ≡ option_map (λ v. v.now) (slice_get vs 0)
first_now [] = refl
first_now (v ∷ vs) = refl

-- the first value of an argument, of the entries of a parse
abbrev first_in : List (Bor (List ℕ) × MatchedArg) → Text → Option Text
first_in xs id = option_and_then (λ a. option_map (λ s. s.now) (slice_get a.vals.items 0))
    (option_map (λ e. e.1) (find (λ e. bytes_eq e.0.now id) xs))

-- it is the same in the rows and in the matches
first_of-entries : (xs : List (Bor (List ℕ) × MatchedArg)) (id : Text) → first_of id (map row_of xs) ≡ first_in xs id
first_of-entries [] id = refl
first_of-entries (x ∷ xs) id = go (bytes_eq x.0.now id) refl (first_of-entries xs id)
  where
    go : (t : Bool) → bytes_eq x.0.now id ≡ t → first_of id (map row_of xs) ≡ first_in xs id →
        first_of id (map row_of (x ∷ xs)) ≡ first_in (x ∷ xs) id
    go true t rest = rw t (first_now x.1.vals.items)
    go false t rest = rw t rest

-- the first value of an argument, in the matches and in their rows
pub first_value-rows : (n : ArgMatches) (id : Text) → first_value (found_of n) id ≡ first_of id (rows_of (found_of n))
first_value-rows n id = rw (first_of-entries (found_of n).entries.items id) refl

-- all values of an argument, of the entries of a parse
abbrev all_in : List (Bor (List ℕ) × MatchedArg) → Text → Option (List Text)
all_in xs id = option_map raw_values (option_map (λ e. e.1) (find (λ e. bytes_eq e.0.now id) xs))

-- they are the same in the rows and in the matches
all_of-entries : (xs : List (Bor (List ℕ) × MatchedArg)) (id : Text) → all_of id (map row_of xs) ≡ all_in xs id
all_of-entries [] id = refl
all_of-entries (x ∷ xs) id = go (bytes_eq x.0.now id) refl (all_of-entries xs id)
  where
    go : (t : Bool) → bytes_eq x.0.now id ≡ t → all_of id (map row_of xs) ≡ all_in xs id →
        all_of id (map row_of (x ∷ xs)) ≡ all_in (x ∷ xs) id
    go true t rest = rw t refl
    go false t rest = rw t rest

-- all values of an argument, in the matches and in their rows
pub raw_values-rows : (n : ArgMatches) (id : Text) →
    option_map raw_values (matched_of (found_of n) id) ≡ all_of id (rows_of (found_of n))
raw_values-rows n id = rw (all_of-entries (found_of n).entries.items id) refl

-- the second of two texts or more behind references
pub second_now : (vs : List (Bor (List ℕ))) (d : Bor (List ℕ)) → 2 ≤ length vs →
    slice_get (map (λ v. v.now) vs) 1 ≡ Some (slice_index_or vs 1 d).now
second_now [] d h = absurd (omega arith)
second_now (v ∷ []) d h = absurd (omega arith)
second_now (v ∷ w ∷ vs) d h = refl

-- there is none
pub no_second : (vs : List (Bor (List ℕ))) → length vs < 2 → slice_get (map (λ v. v.now) vs) 1 ≡ None
no_second [] h = refl
no_second (v ∷ []) h = refl
no_second (v ∷ w ∷ vs) h = absurd (omega arith)
