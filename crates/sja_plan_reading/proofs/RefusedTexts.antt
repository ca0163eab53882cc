-- Where a part of a text isn't TOML, the text isn't.
use Rattle.std.proofs.Common.{◌≡◌, ℕ, ◌<◌, ◌==◌, Bool, true, false, List, [], ◌∷◌, length, drop, slice_index}
use Rattle.std.proofs.Common.{Option, Some, None, option_and_then, if◌then◌else◌, refl, sym, ap, ◌∙◌}
use Rattle.std.proofs.Common.{inl, inr, map, option_map}
use Rattle.std.proofs.lemmas.Option.{none-some}
use Rattle.toml_parser.specs.Lexical.{Read, first, skip_ws, skip_blank}
use Rattle.toml_parser.specs.Strings.{Key, recursion_limit}
use Rattle.toml.specs.Data.{Data}
use Rattle.toml.specs.Tables.{Nodes, no_nodes, close, put, Expression}
use Rattle.toml.specs.Parse.{keyval, members, after_element, expression, line, lines, val, header_key, after_byte}
use Rattle.toml.specs.Parse.{ends_line, parse_document}
use Rattle.toml.proofs.Turns.{document_none, lines_bad, members_bad_put, members_bad_end}
use Rattle.sja_plan_reading.specs.Words.{Text}
use Rattle.sja_plan_reading.specs.Inside.Items.{Item, run}
use Rattle.sja_plan_reading.specs.Inside.Definitions.{bare, AreBad}
use Rattle.sja_plan_reading.proofs.ByKey.{cases_option}
use Rattle.sja_plan_reading.proofs.ReadLines.{ReadsFrom}
use Rattle.sja_plan_reading.proofs.ReadMembers.{MembersFrom}

then_none : {A B : Type 0} (f : A → Option B) (o : Option A) → ((a : A) → f a ≡ None) → option_and_then f o ≡ None
then_none f None none = refl
then_none f (Some a) none = none a

module _ (val : List ℕ → Read Data) where
  -- the pairs of an inline table that stop
  pub members_stop : (whole : List ℕ) (n m : ℕ) (is : List Item) (text : List ℕ) →
      ((ns : Nodes) → members val m ns text ≡ None) → MembersFrom val whole n m is text →
      members val n no_nodes whole ≡ None
  members_stop whole n m is text none so = so ∙ then_none (λ ns. members val m ns text) (run is no_nodes) none

  pub members_unclosed : (m : ℕ) (ns : Nodes) (text after : List ℕ) (k : Key) (d : Data) → 0 < m →
      (first (skip_blank text) == 125) ≡ false → keyval val (skip_blank text) ≡ Some ((k, d), after) →
      after_element 125 after ≡ None → members val m ns text ≡ None
  members_unclosed m ns text after k d some other read ends =
      elim (cases_option (put k d ns)) [
        | inl none ↦ members_bad_put val m ns text k d after some other read none
        | inr found ↦ members_bad_end val m ns found.0 text k d after some other read found.1 ends
      ]

  -- or that don't go together
  pub members_apart : (whole : List ℕ) (n m : ℕ) (is bs : List Item) (text : List ℕ) → map bare is ≡ bs → AreBad bs →
      MembersFrom val whole n m is text → members val n no_nodes whole ≡ None
  members_apart whole n m is bs text same bad so =
      elim (cases_option (run is no_nodes)) [
        | inl none ↦ so ∙ ap (option_and_then (λ ns. members val m ns text)) none
        | inr good ↦ absurd (bad is same good)
      ]

pub expression_no_pair : (text : List ℕ) → (first text == 91) ≡ false → keyval (val recursion_limit) text ≡ None →
    expression text ≡ None
unfolding expression
expression_no_pair text other none = rw (other, none)

pub expression_no_array : (text : List ℕ) → (first text == 91) ≡ true → (slice_index text 1 == 91) ≡ true →
    header_key (drop 2 text) ≡ None → expression text ≡ None
unfolding expression
expression_no_array text one two none = rw (one, two, none)

pub expression_open_array : (text middle : List ℕ) (k : Key) → (first text == 91) ≡ true →
    (slice_index text 1 == 91) ≡ true → header_key (drop 2 text) ≡ Some (k, middle) → after_byte 93 middle ≡ None →
    expression text ≡ None
unfolding expression
expression_open_array text middle k one two read none = rw (one, two, read, none)

pub expression_no_table : (text : List ℕ) → (first text == 91) ≡ true → (slice_index text 1 == 91) ≡ false →
    header_key (drop 1 text) ≡ None → expression text ≡ None
unfolding expression
expression_no_table text one two none = rw (one, two, none)

pub line_none : (text : List ℕ) → expression text ≡ None → line text ≡ None
unfolding line
line_none text none = rw none

ends_not : (b : Bool) (text : List ℕ) → (if b then Some text else None) ≡ None → b ≡ false
ends_not true text is = absurd (none-some text (sym is))
ends_not false text is = refl

pub line_goes_on : (text rest : List ℕ) (e : Expression) → expression text ≡ Some (e, rest) →
    (if ends_line (skip_ws rest) then Some rest else None) ≡ None → line text ≡ None
unfolding line
line_goes_on text rest e read none = rw (read, ends_not (ends_line (skip_ws rest)) rest none)

-- a line that isn't TOML
pub reads_bad : (whole : List ℕ) (m : ℕ) (is : List Item) (section : List Text) (text : List ℕ) → 0 < m →
    (length (skip_blank text) == 0) ≡ false → line (skip_blank text) ≡ None → ReadsFrom whole m is section text →
    parse_document whole ≡ None
reads_bad whole m is section text some other none so =
    document_none whole (so ∙ then_none (λ ns. lines m (ns, section) text) (run is no_nodes)
    (λ ns. lines_bad m (ns, section) text some other none))

-- definitions that don't go together
pub reads_apart : (whole : List ℕ) (is bs : List Item) → map bare is ≡ bs → AreBad bs →
    parse_document whole ≡ option_map close (run is no_nodes) → parse_document whole ≡ None
reads_apart whole is bs same bad so =
    elim (cases_option (run is no_nodes)) [
      | inl none ↦ so ∙ ap (option_map close) none
      | inr good ↦ absurd (bad is same good)
    ]
