-- The texts of a sweep (this project's own rule).
use Rattle.std.specs.Prelude.{◌+◌, ◌==◌, ◌&&◌, ℕ, Bool, true, false, not, if◌then◌else◌, Option, Some, None}
use Rattle.std.specs.Prelude.{List, [], ◌∷◌, ◌++◌, length, codes, decimal}
use Rattle.std.specs.List.{range_with_len}
use Rattle.std.specs.Str.{bytes_eq}
use Rattle.can_node_rules.specs.declared.cause.Cause.{Cause}
use Rattle.can_node_rules.specs.declared.cause.Cause.TheVariants.{Bit, Stuff, Form, Crc, Ack}
use Rattle.lemmas.specs.Gathering.{gathered, total}
use Rattle.sja_log.specs.Log.{ActivationValue, NodeValue, RunValue}
use Rattle.sja_log.specs.EndWord.{end_word}
use Rattle.sja_sweep.specs.declared.first_error.FirstError.{FirstError}
use Rattle.sja_sweep.specs.declared.kind.Kind.{Kind}
use Rattle.sja_sweep.specs.declared.kind.Kind.TheVariants.{Same, Ecc, Twice, Lost, Stuck, Other, Changed}
use Rattle.sja_sweep.specs.declared.kinds.Kinds.{Kinds}
use Rattle.sja_sweep.specs.declared.target.Target.{Target}
use Rattle.sja_sweep.specs.declared.trial.Trial.{Trial}
use Rattle.sja_sweep.specs.Nodes.{node_at, activation_at}
use Rattle.sja_sweep.specs.Kinds.{is_of, shows}
use Rattle.sja_sweep.specs.Outcome.{Outcome, counters}
use Rattle.sja_sweep.specs.Spans.{SpanValue, spans}

-- ---- the plan as it is

-- of an activation, counted from 1, its place from 0: how many messages were released, and how many left unread
abbrev pub short_activation : ℕ → ℕ → ActivationValue → List ℕ
short_activation k a act =
    codes "; node " ++ (decimal k ++ (codes " activation " ++ (decimal (a + 1) ++ (codes " released "
    ++ (decimal (length act.released) ++ (codes " unread " ++ decimal (length act.unread)))))))

abbrev pub short_node : ℕ → NodeValue → List ℕ
short_node k n =
    gathered (λ a. short_activation k a (activation_at n.activations a)) (range_with_len 0 (length n.activations))

-- how many bits were run, why the run ended, the activations of each node, and the error counters
abbrev pub planned_line : RunValue → List ℕ
planned_line log =
    (codes "as planned: bits " ++ (decimal log.bits ++ (codes " end " ++ end_word log.end)))
    ++ gathered (λ k. short_node k (node_at log.nodes k)) (range_with_len 0 (length log.nodes))
    ++ counters log.nodes
    ++ 10 ∷ []

-- ---- the strikes

-- the kinds of error (Bosch CAN 2.0 part A, section 6.1)
abbrev pub cause_word : Cause → List ℕ
cause_word Bit = codes "bit"
cause_word Stuff = codes "stuff"
cause_word Form = codes "form"
cause_word Crc = codes "CRC"
cause_word Ack = codes "acknowledgement"

-- where an error is
abbrev pub place_words : FirstError → List ℕ
place_words e = codes " error at node " ++ (decimal e.node ++ (codes " bit " ++ decimal e.bit))

-- the first error of a run, and that there is none
abbrev pub error_words : Option FirstError → List ℕ
error_words None = codes "no error"
error_words (Some e) = cause_word e.cause ++ place_words e

-- whether both are the same
abbrev pub same_error : Option FirstError → Option FirstError → Bool
same_error None None = true
same_error None (Some q) = false
same_error (Some p) None = false
same_error (Some p) (Some q) =
    ((p.node == q.node) && (p.bit == q.bit)) && bytes_eq (cause_word p.cause) (cause_word q.cause)

-- the first error of the first one of several runs, and that of the last one where it is another
abbrev pub errors_words : Option FirstError → Option FirstError → List ℕ
errors_words from to =
    codes ": " ++ error_words from ++ (if same_error from to then [] else codes " to " ++ error_words to)

-- the bits that are struck
abbrev pub bits_words : ℕ → ℕ → List ℕ
bits_words first last =
    if first == last then codes " at bit " ++ decimal first
    else codes " at bits " ++ (decimal first ++ (45 ∷ decimal last))

-- the second node of a pair, and its bits
abbrev pub second_words : Option Target → Option Target → List ℕ
second_words None u = []
second_words (Some t) None = []
second_words (Some t) (Some u) = (codes ", node " ++ decimal t.node) ++ bits_words t.bit u.bit

-- the nodes and bits that are struck, from the first trial to the last one
abbrev pub struck_words : Trial → Trial → List ℕ
struck_words t u =
    (codes "node " ++ (decimal t.first.node ++ codes " struck")) ++ bits_words t.first.bit u.first.bit
    ++ second_words t.second u.second

abbrev pub span_line : SpanValue → List ℕ
span_line s = struck_words s.first s.last ++ errors_words s.from s.to ++ s.words ++ 10 ∷ []

-- the line, unless lines of other kinds alone are asked for
abbrev pub shown_line : Kinds → SpanValue → List ℕ
shown_line asked s = if shows asked s.kinds then span_line s else []

-- ---- how many there are

-- how many outcomes are of a kind
abbrev pub is_one : Kind → Outcome → ℕ
is_one kind o = if is_of o.kinds kind then 1 else 0

abbrev pub count_of : Kind → List Outcome → ℕ
count_of kind os = total (is_one kind) os

-- a word, and that number
abbrev pub count_words : List ℕ → Kind → List Outcome → List ℕ
count_words word kind os = word ++ decimal (count_of kind os)

-- before all others: how many of each kind
abbrev pub first_line : List Outcome → List ℕ
first_line os =
    count_words (codes "outcomes: as without a strike ") Same os ++ count_words (codes ", told by ECC ") Ecc os
    ++ count_words (codes ", twice ") Twice os ++ count_words (codes ", lost ") Lost os
    ++ count_words (codes ", stuck ") Stuck os ++ count_words (codes ", other ") Other os ++ 10 ∷ []

-- behind all others: how many runs there were
abbrev pub last_line : List Outcome → List ℕ
last_line os =
    codes "runs " ++ (decimal (length os) ++ (codes ", with another outcome "
    ++ (decimal (count_of Changed os) ++ 10 ∷ [])))

-- ---- the texts

-- how many outcomes of each kind there were, the plan as it is, a line for each run of bits with one outcome, and how
-- many runs there were
abbrev pub sweep_text : Kinds → RunValue → List Outcome → List ℕ
sweep_text asked planned os =
    first_line os ++ planned_line planned ++ gathered (shown_line asked) (spans os) ++ last_line os

-- a row: the node, the bit, of a pair the second ones too, whether the outcome is another one, the first error, and
-- the outcome
abbrev pub kind_word : Bool → List ℕ
kind_word true = codes "other"
kind_word false = codes "same"

-- a node and a bit
abbrev pub target_row : Target → List ℕ
target_row t = decimal t.node ++ (32 ∷ (decimal t.bit ++ 32 ∷ []))

-- of a pair the second node and its bit
abbrev pub second_row : Option Target → List ℕ
second_row None = []
second_row (Some t) = target_row t

abbrev pub row_beginning : Trial → Bool → List ℕ
row_beginning t changed = target_row t.first ++ second_row t.second ++ kind_word changed

abbrev pub row_line : Outcome → List ℕ
row_line o =
    row_beginning o.trial o.kinds.changed ++ errors_words o.error o.error ++ o.words ++ 10 ∷ []

-- a row for each run, in order
abbrev pub sweep_rows : List Outcome → List ℕ
sweep_rows os = gathered row_line os
