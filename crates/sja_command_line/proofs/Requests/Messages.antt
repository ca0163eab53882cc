-- What `arbitrate` and a list of texts ask for, by a walk over the list.
use Rattle.std.proofs.Common.{◌≡◌, ◌<◌, ◌≤◌, ◌++◌, ℕ, List, Option, [], ◌∷◌, codes, refl, false}
use Rattle.std.proofs.Common.{None, Some, ◌∙◌, sym, ap, ap₂, arith, length, inr}
use Rattle.std.specs.List.{fold}
use Rattle.std.specs.Prelude.{is_some}
use Rattle.std.proofs.lemmas.Bool.{le-ltb, ne_eqb}
use Rattle.std.proofs.lemmas.List.{append-nil, append_assoc}
use Rattle.clap.specs.Kinds.{Kinds, or_else, range_kinds, values_kinds}
use Rattle.clap.specs.Faults.{check_fault, defaults_fault, entered_fault, level_fault, settle_fault, walk_fault}
use Rattle.clap.specs.Simple.{Shape, built, built_leaf, entered, names_of}
use Rattle.clap.specs.Walk.{Names, Walk, settled, finished, nothing_held, positional, walk, walk_from, walked}
use Rattle.clap.specs.Words.{App, Rule, Text, all_of}
use Rattle.clap.specs.declared.builder.value_parser.ValueParser.TheVariants as parser
use Rattle.sja_command_line.specs.CommandLine.{arbitrate_app, sja_app}
use Rattle.sja_command_line.specs.Values.{HasNoFlag, begins_with_hyphen}
use Rattle.sja_command_line.specs.Requests.{Request, arbitrate}
use Rattle.sja_command_line.specs.Commands.{arbitrate_in}
use Rattle.sja_command_line.specs.Words.{ParsesAs, asked, faults, request_in}
use Rattle.sja_command_line.proofs.LiteralWords.NoFlag.{each_of, no_dashes, no_hyphen}
use Rattle.sja_command_line.proofs.Requests.Several.{arbitrate_asked, not_asked}
use Rattle.sja_command_line.proofs.LiteralWords.OnWords.{sja_on_literals}

-- `arbitrate` as the parser has built it
abbrev pub shape : Shape
shape = built_leaf arbitrate_app.top

-- the walk behind some of its messages
abbrev pub read : List Text → Walk
read messages = record {
  held = record { rows = []; pending = Some (codes "MESSAGE", messages); skip = 0 };
  waiting = positional;
  position = 1;
  is_trailing = false;
  stopped = None;
}

-- the first of them
first_read : (text : Text) → begins_with_hyphen text ≡ false →
    walked shape.rules [] (walk_from nothing_held) text ≡ read (text ∷ [])
unfolding sja_on_literals
first_read text h = rw (no_dashes text h, no_hyphen text h, no_hyphen text h) refl

-- one more
one_read : (before : List Text) (text : Text) → begins_with_hyphen text ≡ false →
    walked shape.rules [] (read before) text ≡ read (before ++ text ∷ [])
unfolding sja_on_literals
one_read before text h = rw (no_dashes text h, no_hyphen text h, no_hyphen text h) refl

-- all that follow
all_read : (before texts : List Text) → HasNoFlag texts →
    fold (walked shape.rules []) (read before) texts ≡ read (before ++ texts)
all_read before [] h = ap read (sym (append-nil before))
all_read before (text ∷ texts) h =
    let each = each_of text texts h in
    rw (one_read before text each.0) (all_read (before ++ text ∷ []) texts each.1
    ∙ ap read (append_assoc before (text ∷ []) texts))

-- the walk over at least one of them
walk_read : (first : Text) (texts : List Text) → HasNoFlag (first ∷ texts) →
    walk shape.rules [] nothing_held (first ∷ texts) ≡ read (first ∷ texts)
walk_read first texts h =
    let each = each_of first texts h in
    rw (first_read first each.0) (all_read (first ∷ []) texts each.1)

-- what was found is the messages
abbrev found_in : Walk → Option (List Text)
found_in w = all_of (codes "MESSAGE") (finished shape.rules w.held)

found_read : (first : Text) (texts : List Text) → HasNoFlag (first ∷ texts) →
    found_in (walk shape.rules [] nothing_held (first ∷ texts)) ≡ Some (first ∷ texts)
unfolding sja_on_literals
found_read first texts h = ap found_in (walk_read first texts h)

-- ---- the words before them

abbrev pub program : App
program = built sja_app

-- a walk that met a subcommand leaves it the words that follow
pub left_over : (rules : List Rule) (names : Names) (w : Walk) (name : Text) (before words : List Text) →
    fold (walked rules names) (record w { stopped = Some (name, before) }) words
    ≡ record w { stopped = Some (name, before ++ words) }
unfolding walked
left_over rules names w name before [] =
    ap (λ (l : List Text). record w { stopped = Some (name, l) }) (sym (append-nil before))
left_over rules names w name before (word ∷ words) =
    left_over rules names w name (before ++ word ∷ []) words
    ∙ ap (λ (l : List Text). record w { stopped = Some (name, l) }) (append_assoc before (word ∷ []) words)

-- behind `arbitrate`
entering : (words : List Text) →
    walk program.top.rules (names_of program) nothing_held (codes "arbitrate" ∷ words)
    ≡ record (walk_from nothing_held) { stopped = Some (codes "arbitrate", words) }
unfolding sja_on_literals
entering words =
    left_over program.top.rules (names_of program) (walk_from nothing_held) (codes "arbitrate") [] words

abbrev pub asked_in : Walk → Option Request
asked_in w = request_in (entered program w.stopped)

-- what the words ask for
pub asked_messages : (name first : Text) (texts : List Text) → HasNoFlag (first ∷ texts) →
    asked (name ∷ codes "arbitrate" ∷ first ∷ texts) ≡ arbitrate_in (Some (first ∷ texts))
unfolding sja_on_literals asked
asked_messages name first texts h =
    ap asked_in (entering (first ∷ texts)) ∙ ap arbitrate_in (found_read first texts h)

-- ---- no fault

-- a list of texts passes the parser of texts
pub texts_pass : (texts : List Text) → values_kinds false parser.String texts ≡ []
texts_pass [] = refl
texts_pass (text ∷ texts) = texts_pass texts

-- one to eight of them are as many as are wanted
in_range : (count : ℕ) → 1 ≤ count → count ≤ 8 → range_kinds 1 8 count ≡ []
in_range count some few = rw (ne_eqb count 0 (λ is. absurd (omega arith)), le-ltb count 1 some, le-ltb 8 count few) refl

-- no message is a flag
all_fit : (before texts : List Text) → HasNoFlag texts → walk_fault shape [] (read before) texts ≡ []
unfolding sja_on_literals
all_fit before [] h = refl
all_fit before (text ∷ texts) h =
    let each = each_of text texts h in
    rw (no_dashes text each.0, no_hyphen text each.0, no_hyphen text each.0)
    (all_fit (before ++ text ∷ []) texts each.1)

walk_fits : (first : Text) (texts : List Text) → HasNoFlag (first ∷ texts) →
    walk_fault shape [] (walk_from nothing_held) (first ∷ texts) ≡ []
unfolding sja_on_literals
walk_fits first texts h =
    let each = each_of first texts h in
    rw (no_dashes first each.0, no_hyphen first each.0, no_hyphen first each.0) (all_fit (first ∷ []) texts each.1)

-- `arbitrate` refuses none of its words, by the faults of the walk and where it ends
abbrev ends_with : Kinds → Walk → Kinds
ends_with fault w =
    or_else fault (or_else (settle_fault shape.rules false w.held)
    (or_else (defaults_fault (settled shape.rules w.held).rows shape.rules)
    (check_fault shape (finished shape.rules w.held) false)))

messages_fit : (first : Text) (texts : List Text) → HasNoFlag (first ∷ texts) → length (first ∷ texts) ≤ 8 →
    level_fault shape [] nothing_held (first ∷ texts) false [] ≡ []
unfolding sja_on_literals
messages_fit first texts h few =
    ap₂ ends_with (walk_fits first texts h) (walk_read first texts h)
    ∙ rw (in_range (length (first ∷ texts)) (omega arith) few, texts_pass texts) refl

-- a walk that met a subcommand refuses no word that follows
pub left_alone : (s : Shape) (names : Names) (w : Walk) (name : Text) (before words : List Text) →
    walk_fault s names (record w { stopped = Some (name, before) }) words ≡ []
unfolding walked walk_fault
left_alone s names w name before [] = refl
left_alone s names w name before (word ∷ words) = left_alone s names w name (before ++ word ∷ []) words

-- nor does the program's own walk refuse one
words_fit : (words : List Text) →
    walk_fault program.top (names_of program) (walk_from nothing_held) (codes "arbitrate" ∷ words) ≡ []
unfolding sja_on_literals
words_fit words = left_alone program.top (names_of program) (walk_from nothing_held) (codes "arbitrate") [] words

-- what the program refuses, by the faults of its walk, what the subcommand refuses, and where the walk ends
abbrev pub program_ends_with : Kinds → Walk → Kinds
program_ends_with fault w =
    or_else fault (or_else (entered_fault program w.stopped)
    (or_else (settle_fault program.top.rules false w.held)
    (or_else (defaults_fault (settled program.top.rules w.held).rows program.top.rules)
    (check_fault program.top (finished program.top.rules w.held) (is_some (entered program w.stopped))))))

pub taken_messages : (name first : Text) (texts : List Text) → HasNoFlag (first ∷ texts) →
    length (first ∷ texts) ≤ 8 → faults (name ∷ codes "arbitrate" ∷ first ∷ texts) ≡ []
unfolding sja_on_literals faults
taken_messages name first texts h few =
    ap₂ program_ends_with (words_fit (first ∷ texts)) (entering (first ∷ texts))
    ∙ rw (messages_fit first texts h few) refl

-- ---- the laws

pub some_messages : (name : Text) (messages : List Text) → HasNoFlag messages → 1 ≤ length messages →
    length messages ≤ 8 → ParsesAs (name ∷ codes "arbitrate" ∷ messages) (arbitrate messages)
some_messages name [] h some few = absurd (omega arith)
some_messages name (first ∷ texts) h some few = record {
  taken = taken_messages name first texts h few;
  asks = asked_messages name first texts h ∙ sym (arbitrate_asked _ (first ∷ texts) refl some few);
}

pub no_messages : (name : Text) (r : Request) → ¬ ParsesAs (name ∷ codes "arbitrate" ∷ []) r
unfolding sja_on_literals asked
no_messages name r parses = cc (parses.asks)

pub more_messages : (name : Text) (messages : List Text) (r : Request) → HasNoFlag messages → 8 < length messages →
    ¬ ParsesAs (name ∷ codes "arbitrate" ∷ messages) r
more_messages name [] r h many parses = absurd (omega arith)
more_messages name (first ∷ texts) r h many parses =
    let nothing : None ≡ Some r = not_asked _ (first ∷ texts) refl (inr many)
    ∙ sym (asked_messages name first texts h) ∙ parses.asks in
    cc
