-- What `run` and `check` ask for with names of files, by a walk over the names.
use Rattle.std.proofs.Common.{◌≡◌, ◌<◌, ◌≤◌, ◌++◌, ◌^◌, ℕ, Bool, List, [], ◌∷◌, codes, refl, false, true}
use Rattle.std.proofs.Common.{Option, None, Some, ◌∙◌, sym, ap, ap₂, arith, length}
use Rattle.std.specs.List.{fold}
use Rattle.std.proofs.lemmas.Bool.{le-ltb, ne_eqb}
use Rattle.std.proofs.lemmas.List.{append-nil, append_assoc}
use Rattle.clap.specs.Kinds.{Kinds, or_else, range_kinds}
use Rattle.clap.specs.Faults.{check_fault, defaults_fault, level_fault, settle_fault, walk_fault}
use Rattle.clap.specs.Simple.{Shape, built_leaf, names_of}
use Rattle.clap.specs.Walk.{Walk, settled, finished, nothing_held, positional, walk, walk_from, walked}
use Rattle.clap.specs.Words.{Text}
use Rattle.sja_command_line.specs.CommandLine.{check_app, run_app}
use Rattle.sja_command_line.specs.Values.{HasNoFlag, begins_with_hyphen}
use Rattle.sja_command_line.specs.Requests.{Request, files}
use Rattle.sja_command_line.specs.Words.{ParsesAs, asked, faults, request_by}
use Rattle.sja_command_line.specs.declared.plan_question.PlanQuestion.{PlanQuestion}
use Rattle.sja_command_line.specs.declared.plan_question.PlanQuestion.TheVariants.{Check, Report}
use Rattle.sja_command_line.proofs.Requests.Messages.{asked_in, left_alone, left_over, program, program_ends_with}
use Rattle.sja_command_line.proofs.Requests.Messages.{texts_pass}
use Rattle.sja_command_line.proofs.LiteralWords.NoFlag.{each_of, no_dashes, no_hyphen}
use Rattle.sja_command_line.proofs.LiteralWords.OnWords.{sja_on_literals}

-- `check` (`true`), or `run`
abbrev word : Bool → Text
word true = codes "check"
word false = codes "run"

abbrev question : Bool → PlanQuestion
question true = Check false
question false = Report false

-- as the parser has built it
abbrev shape : Bool → Shape
shape true = built_leaf check_app.top
shape false = built_leaf run_app.top

-- the walk behind some of its names
abbrev read : List Text → Walk
read names = record {
  held = record { rows = []; pending = Some (codes "FILE", names); skip = 0 };
  waiting = positional;
  position = 1;
  is_trailing = false;
  stopped = None;
}

-- the first of them
first_read : (c : Bool) (text : Text) → begins_with_hyphen text ≡ false →
    walked (shape c).rules [] (walk_from nothing_held) text ≡ read (text ∷ [])
unfolding sja_on_literals
first_read true text h = rw (no_dashes text h, no_hyphen text h, no_hyphen text h) refl
first_read false text h = rw (no_dashes text h, no_hyphen text h, no_hyphen text h) refl

-- one more
one_read : (c : Bool) (before : List Text) (text : Text) → begins_with_hyphen text ≡ false →
    walked (shape c).rules [] (read before) text ≡ read (before ++ text ∷ [])
unfolding sja_on_literals
one_read true before text h = rw (no_dashes text h, no_hyphen text h, no_hyphen text h) refl
one_read false before text h = rw (no_dashes text h, no_hyphen text h, no_hyphen text h) refl

-- all that follow
all_read : (c : Bool) (before texts : List Text) → HasNoFlag texts →
    fold (walked (shape c).rules []) (read before) texts ≡ read (before ++ texts)
all_read c before [] h = ap read (sym (append-nil before))
all_read c before (text ∷ texts) h =
    let each = each_of text texts h in
    rw (one_read c before text each.0) (all_read c (before ++ text ∷ []) texts each.1
    ∙ ap read (append_assoc before (text ∷ []) texts))

-- the walk over at least one of them
walk_read : (c : Bool) (first : Text) (texts : List Text) → HasNoFlag (first ∷ texts) →
    walk (shape c).rules [] nothing_held (first ∷ texts) ≡ read (first ∷ texts)
walk_read c first texts h =
    let each = each_of first texts h in
    rw (first_read c first each.0) (all_read c (first ∷ []) texts each.1)

-- ---- what they ask for

-- behind the command
entering : (c : Bool) (words : List Text) →
    walk program.top.rules (names_of program) nothing_held (word c ∷ words)
    ≡ record (walk_from nothing_held) { stopped = Some (word c, words) }
unfolding sja_on_literals
entering true words = left_over program.top.rules (names_of program) (walk_from nothing_held) (codes "check") [] words
entering false words = left_over program.top.rules (names_of program) (walk_from nothing_held) (codes "run") [] words

abbrev asked_behind : Bool → Walk → Option Request
asked_behind c w = request_by (word c) (finished (shape c).rules w.held)

asked_files : (c : Bool) (name first : Text) (texts : List Text) → HasNoFlag (first ∷ texts) →
    asked (name ∷ word c ∷ first ∷ texts) ≡ Some (files (question c) 1 (first ∷ texts))
unfolding sja_on_literals asked
asked_files true name first texts h =
    ap asked_in (entering true (first ∷ texts)) ∙ ap (asked_behind true) (walk_read true first texts h)
asked_files false name first texts h =
    ap asked_in (entering false (first ∷ texts)) ∙ ap (asked_behind false) (walk_read false first texts h)

-- ---- no fault

-- as many of them as a machine can hold are as many as are wanted
in_range : (count : ℕ) → 1 ≤ count → count < 2 ^ 64 → range_kinds 1 18446744073709551615 count ≡ []
in_range count some few =
    rw (
      ne_eqb count 0 (λ is. absurd (omega (arith, some, is))),
      le-ltb count 1 some,
      le-ltb 18446744073709551615 count (omega (arith, few)),
    ) refl

-- no name is a flag
all_fit : (c : Bool) (before texts : List Text) → HasNoFlag texts → walk_fault (shape c) [] (read before) texts ≡ []
unfolding sja_on_literals
all_fit c before [] h = refl
all_fit true before (text ∷ texts) h =
    let each = each_of text texts h in
    rw (no_dashes text each.0, no_hyphen text each.0, no_hyphen text each.0)
    (all_fit true (before ++ text ∷ []) texts each.1)
all_fit false before (text ∷ texts) h =
    let each = each_of text texts h in
    rw (no_dashes text each.0, no_hyphen text each.0, no_hyphen text each.0)
    (all_fit false (before ++ text ∷ []) texts each.1)

walk_fits : (c : Bool) (first : Text) (texts : List Text) → HasNoFlag (first ∷ texts) →
    walk_fault (shape c) [] (walk_from nothing_held) (first ∷ texts) ≡ []
unfolding sja_on_literals
walk_fits true first texts h =
    let each = each_of first texts h in
    rw (no_dashes first each.0, no_hyphen first each.0, no_hyphen first each.0)
    (all_fit true (first ∷ []) texts each.1)
walk_fits false first texts h =
    let each = each_of first texts h in
    rw (no_dashes first each.0, no_hyphen first each.0, no_hyphen first each.0)
    (all_fit false (first ∷ []) texts each.1)

-- the command refuses none of its words, by the faults of the walk and where it ends
abbrev ends_with : Bool → Kinds → Walk → Kinds
ends_with c fault w =
    or_else fault (or_else (settle_fault (shape c).rules false w.held)
    (or_else (defaults_fault (settled (shape c).rules w.held).rows (shape c).rules)
    (check_fault (shape c) (finished (shape c).rules w.held) false)))

names_fit : (c : Bool) (first : Text) (texts : List Text) → HasNoFlag (first ∷ texts) →
    length (first ∷ texts) < 2 ^ 64 → level_fault (shape c) [] nothing_held (first ∷ texts) false [] ≡ []
unfolding sja_on_literals
names_fit true first texts h few =
    ap₂ (ends_with true) (walk_fits true first texts h) (walk_read true first texts h)
    ∙ rw (in_range (length (first ∷ texts)) (omega arith) few, texts_pass texts) refl
names_fit false first texts h few =
    ap₂ (ends_with false) (walk_fits false first texts h) (walk_read false first texts h)
    ∙ rw (in_range (length (first ∷ texts)) (omega arith) few, texts_pass texts) refl

-- nor does the program's own walk refuse one
words_fit : (c : Bool) (words : List Text) →
    walk_fault program.top (names_of program) (walk_from nothing_held) (word c ∷ words) ≡ []
unfolding sja_on_literals
words_fit true words = left_alone program.top (names_of program) (walk_from nothing_held) (codes "check") [] words
words_fit false words = left_alone program.top (names_of program) (walk_from nothing_held) (codes "run") [] words

taken_files : (c : Bool) (name first : Text) (texts : List Text) → HasNoFlag (first ∷ texts) →
    length (first ∷ texts) < 2 ^ 64 → faults (name ∷ word c ∷ first ∷ texts) ≡ []
unfolding sja_on_literals faults
taken_files true name first texts h few =
    ap₂ program_ends_with (words_fit true (first ∷ texts)) (entering true (first ∷ texts))
    ∙ rw (names_fit true first texts h few) refl
taken_files false name first texts h few =
    ap₂ program_ends_with (words_fit false (first ∷ texts)) (entering false (first ∷ texts))
    ∙ rw (names_fit false first texts h few) refl

-- ---- the laws

asks_files : (c : Bool) (name : Text) (names : List Text) → HasNoFlag names → 1 ≤ length names →
    length names < 2 ^ 64 → ParsesAs (name ∷ word c ∷ names) (files (question c) 1 names)
asks_files c name [] h some few = absurd (omega (arith, some))
asks_files c name (first ∷ texts) h some few = record {
  taken = taken_files c name first texts h few;
  asks = asked_files c name first texts h;
}

pub run_files : (name : Text) (names : List Text) → HasNoFlag names → 1 ≤ length names → length names < 2 ^ 64 →
    ParsesAs (name ∷ codes "run" ∷ names) (files (Report false) 1 names)
run_files = asks_files false

pub check_files : (name : Text) (names : List Text) → HasNoFlag names → 1 ≤ length names → length names < 2 ^ 64 →
    ParsesAs (name ∷ codes "check" ∷ names) (files (Check false) 1 names)
check_files = asks_files true
