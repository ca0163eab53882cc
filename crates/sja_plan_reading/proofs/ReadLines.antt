-- How the lines of a document make its definitions.
use Rattle.std.proofs.Common.{◌≡◌, ℕ, suc, ◌+◌, ◌-◌, ◌<◌, Bool, true, false, List, [], ◌∷◌, ◌++◌, map, length}
use Rattle.std.proofs.Common.{drop, slice_index, ◌==◌}
use Rattle.std.proofs.Common.{Option, Some, None, option_map, option_and_then, if◌then◌else◌, refl, sym, ap, ◌∙◌, inl}
use Rattle.std.proofs.Common.{inr}
use Rattle.std.proofs.lemmas.List.{map_push}
use Rattle.std.proofs.lemmas.Option.{none-some}
use Rattle.toml_parser.specs.Lexical.{first, skip_ws, skip_blank}
use Rattle.toml_parser.specs.Strings.{Key, quoted, starts_string, recursion_limit}
use Rattle.toml_parser.specs.Numbers.{unquoted}
use Rattle.toml_parser.specs.declared.scalar.Scalar.{Scalar}
use Rattle.toml.specs.Data.{Data, string}
use Rattle.toml.specs.Tables.{Nodes, no_nodes, close, Definition, key_value, std_table, array_table, Expression}
use Rattle.toml.specs.Tables.{define, along_dots}
use Rattle.toml.specs.Parse.{atom, scalar_data, expression, line, lines, keyval, val, header_key, after_byte}
use Rattle.toml.specs.Parse.{ends_line, skip_bom, parse_document}
use Rattle.toml.proofs.Turns.{document_none, document_some, lines_end, lines_more, lines_refused}
use Rattle.sja_plan_reading.specs.Words.{Text}
use Rattle.sja_plan_reading.specs.Inside.Items.{Item, run, apply}
use Rattle.sja_plan_reading.specs.Inside.Definitions.{bare}
use Rattle.sja_plan_reading.specs.Inside.Rooms.{item_behind, section_behind}
use Rattle.sja_plan_reading.proofs.ByKey.{cases_option}
use Rattle.sja_plan_reading.proofs.OneKey.{run_more}

pub atom_string : (text rest s : List ℕ) → starts_string text ≡ true → quoted text ≡ Some (s, rest) →
    atom text ≡ Some (string s, rest)
unfolding atom
atom_string text rest s starts read = rw (starts, read)

pub atom_scalar : (text rest : List ℕ) (z : Scalar) → starts_string text ≡ false → unquoted text ≡ Some (z, rest) →
    atom text ≡ Some (scalar_data z, rest)
unfolding atom
atom_scalar text rest z starts read = rw (starts, read)

pub expression_pair : (text rest : List ℕ) (k : Key) (d : Data) → (first text == 91) ≡ false →
    keyval (val recursion_limit) text ≡ Some ((k, d), rest) → expression text ≡ Some ((k, key_value d), rest)
unfolding expression
expression_pair text rest k d other read = rw (other, read)

pub expression_array : (text middle rest : List ℕ) (k : Key) → (first text == 91) ≡ true →
    (slice_index text 1 == 91) ≡ true →
    header_key (drop 2 text) ≡ Some (k, middle) → after_byte 93 middle ≡ Some rest →
    expression text ≡ Some ((k, array_table), rest)
unfolding expression
expression_array text middle rest k one two read closes = rw (one, two, read, closes)

pub expression_table : (text rest : List ℕ) (k : Key) → (first text == 91) ≡ true → (slice_index text 1 == 91) ≡ false →
    header_key (drop 1 text) ≡ Some (k, rest) → expression text ≡ Some ((k, std_table), rest)
unfolding expression
expression_table text rest k one two read = rw (one, two, read)

pub line_is : (text rest : List ℕ) (e : Expression) → expression text ≡ Some (e, rest) →
    ends_line (skip_ws rest) ≡ true →
    line text ≡ Some (e, rest)
unfolding line
line_is text rest e read ends = rw (read, ends)

pub ends_if : (b : Bool) (text rest : List ℕ) → (if b then Some text else None) ≡ Some rest → b ≡ true
ends_if true text rest is = refl
ends_if false text rest is = absurd (none-some rest is)

-- what an expression defines
define_as_is : (ns : Nodes) (section : List Text) (k : Key) (what : Definition) →
    define (ns, section) (k, what) ≡ option_map (λ new. (new, section_behind section (k, what)))
    (apply (item_behind section (k, what)) ns)
unfolding define along_dots
define_as_is ns section k (key_value d) = refl
define_as_is ns section k std_table = refl
define_as_is ns section k array_table = refl

-- a line more, behind definitions
line_by : (m : ℕ) (ns : Nodes) (section : List Text) (text after : List ℕ) (e : Expression) → 0 < m →
    (length (skip_blank text) == 0) ≡ false → line (skip_blank text) ≡ Some (e, after) →
    lines m (ns, section) text
    ≡ option_and_then (λ new. lines (m - 1) (new, section_behind section e) after) (apply (item_behind section e) ns)
line_by m ns section text after e some other read =
    elim (cases_option (apply (item_behind section e) ns)) [
      | inl none ↦
          rw none (lines_refused m (ns, section) text e after some other read (define_as_is ns section e.0 e.1
          ∙ rw none))
      | inr found ↦
          let (new, is_new) = found in
          rw is_new (lines_more m (ns, section) (new, section_behind section e) text e after some other read
          (define_as_is ns section e.0 e.1 ∙ rw is_new))
    ]

then_line : (m : ℕ) (section : List Text) (text after : List ℕ) (e : Expression) (o : Option Nodes) → 0 < m →
    (length (skip_blank text) == 0) ≡ false → line (skip_blank text) ≡ Some (e, after) →
    option_and_then (λ ns. lines m (ns, section) text) o
    ≡ option_and_then (λ new. lines (m - 1) (new, section_behind section e) after) (option_and_then
    (apply (item_behind section e)) o)
then_line m section text after e None some other read = refl
then_line m section text after e (Some ns) some other read = line_by m ns section text after e some other read

-- the lines from a text on, behind these definitions
abbrev pub ReadsFrom : List ℕ → ℕ → List Item → List Text → List ℕ → Type 0
ReadsFrom whole m is section text =
    lines (suc (length whole)) (no_nodes, []) (skip_bom whole) ≡ option_and_then (λ ns. lines m (ns, section) text)
    (run is no_nodes)

pub reads_more : (whole : List ℕ) (m : ℕ) (is : List Item) (section : List Text) (text after : List ℕ)
    (e : Expression) → 0 < m →
    (length (skip_blank text) == 0) ≡ false → line (skip_blank text) ≡ Some (e, after) →
    ReadsFrom whole m is section text →
    ReadsFrom whole (m - 1) (is ++ item_behind section e ∷ []) (section_behind section e) after
reads_more whole m is section text after e some other read so =
    so ∙ then_line m section text after e (run is no_nodes) some other read
    ∙ ap (option_and_then (λ new. lines (m - 1) (new, section_behind section e) after))
    (sym (run_more is (item_behind section e) no_nodes))

bare_push : (is bs : List Item) (i : Item) → map bare is ≡ bs → map bare (is ++ i ∷ []) ≡ bs ++ bare i ∷ []
bare_push is bs i same = map_push bare is i ∙ ap (λ l. l ++ bare i ∷ []) same

pub bare_more : (is bs cs : List Item) (i : Item) → map bare is ≡ bs → cs ≡ bs ++ bare i ∷ [] →
    map bare (is ++ i ∷ []) ≡ cs
bare_more is bs cs i same longer = bare_push is bs i same ∙ sym longer

at_end : (whole : List ℕ) (m : ℕ) (section : List Text) (text : List ℕ) (o : Option Nodes) → 0 < m →
    length (skip_blank text) ≡ 0 →
    lines (suc (length whole)) (no_nodes, []) (skip_bom whole) ≡ option_and_then (λ ns. lines m (ns, section) text) o →
    parse_document whole ≡ option_map close o
at_end whole m section text None some over so = document_none whole so
at_end whole m section text (Some ns) some over so =
    document_some whole (ns, section) (so ∙ lines_end m (ns, section) text some over)

-- no line is left: the document is what the definitions make
pub reads_end : (whole : List ℕ) (m : ℕ) (is : List Item) (section : List Text) (text : List ℕ) → 0 < m →
    length (skip_blank text) ≡ 0 →
    ReadsFrom whole m is section text → parse_document whole ≡ option_map close (run is no_nodes)
reads_end whole m is section text some over so = at_end whole m section text (run is no_nodes) some over so
