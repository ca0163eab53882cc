-- The lines of a plan's document are read as its table.
use Rattle.std.proofs.Common.{◌≡◌, ◌≤◌, ◌∙◌, ℕ, suc, pos, Bool, true, false, Option, Some, None}
use Rattle.std.proofs.Common.{List, [], ◌∷◌, ◌++◌, codes, length, refl, sym, ap, subst, arith, append_assoc}
use Rattle.std.proofs.lemmas.List.{append-nil}
use Rattle.std.proofs.lemmas.Option.{none-some, same_Some}
use Rattle.toml.specs.Data.{integer, Members, member, no_members, members_are_sorted}
use Rattle.toml.specs.Tables.{Nodes, no_nodes, Expression, Document, at_key, along_dots, along_header, define}
use Rattle.toml.specs.Parse.{skip_bom, parse_document}
use Rattle.toml.specs.Text.{IsLinesText, expressions}
use Rattle.toml.proofs.Turns.{document_some}
use Rattle.toml.proofs.ReadLines.{run, AllPrinted, line_turn, read_lines}
use Rattle.toml.proofs.Fill.{roots, body_from, run_sections}
use Rattle.toml.proofs.Filled.{fill_filled}
use Rattle.sja_plan_reading.specs.Words.{Text}
use Rattle.sja_steps.specs.declared.step.Step.{Step}
use Rattle.sja_steps.specs.declared.strike.Strike.{Strike}
use Rattle.sja_plan_text.specs.Inside.Table.{nodes_data, with_strikes, members_of, Adds}
use Rattle.sja_plan_text.specs.Written.{texts_data, pair, strike_lines, node_lines, front_lines}
use Rattle.sja_plan_text.proofs.Tables.Values.{texts_sorted, nodes_sorted, nodes_are_tables}
use Rattle.sja_plan_text.proofs.Documents.Lines.{element_lines, elements_are, all_lines, all_printed}

from_roots : (o : Option Document) (n : Nodes) → roots o ≡ Some n → (doc : Document) × (o ≡ Some doc) × (doc.0 ≡ n)
from_roots None n e = absurd (none-some n e)
from_roots (Some doc) n e = (doc, refl, same_Some doc.0 n e)

-- lines that lead where those of a table lead are read as that table
lines_read : (pretty : Bool) (ms : Members) (e : Expression) (es : List Expression) (text : Text) →
    IsLinesText pretty false (e ∷ es) text → AllPrinted (e ∷ es) → members_are_sorted ms ≡ true →
    run (no_nodes, []) (e ∷ es) ≡ run (no_nodes, []) (expressions ms) → parse_document text ≡ Some ms
unfolding along_header skip_bom
lines_read pretty ms e es text h printed sorted lead =
    let (this, rest, whole, line, more) = h in
    let turn = line_turn pretty false e.0 e.1 this rest line printed.0 in
    let skipped : skip_bom text ≡ text = rw (whole, turn.5) refl in
    let room = suc (length text) in
    let read = read_lines pretty false (e ∷ es) text text (no_nodes, []) room h printed refl (omega arith) in
    let (n, filled, closed) = fill_filled ms sorted in
    let body = body_from ms [] no_nodes refl (λ root s there. run_sections ms [] root s there) in
    let (doc, ran, same) = from_roots (run (no_nodes, []) (expressions ms)) n (body ∙ filled) in
    document_some text doc (rw skipped (read ∙ lead ∙ ran)) ∙ rw (same, closed)

-- the lines of the table, in the order of its keys
abbrev sorted_lines : Bool → ℕ → ℕ → List Text → List Strike → List Expression → List Expression
sorted_lines named version bits turns strikes es =
    pair (codes "bits") (integer (pos bits)) ∷ (strike_lines named strikes
    ++ pair (codes "turns") (texts_data turns) ∷ pair (codes "version") (integer (pos version)) ∷ es)

table_lines : (named : Bool) (version bits : ℕ) (turns : List Text) (strikes : List Strike) (steps : List Step)
    (nodes : List (List Step)) → expressions (members_of named version bits (steps ∷ nodes) turns strikes)
    ≡ sorted_lines named version bits turns strikes (element_lines named (steps ∷ nodes))
table_lines true version bits [] [] steps nodes =
    rw (nodes_are_tables true nodes) (ap (sorted_lines true version bits [] []) (append-nil _))
table_lines true version bits [] (s ∷ strikes) steps nodes =
    rw (nodes_are_tables true nodes) (ap (sorted_lines true version bits [] (s ∷ strikes)) (append-nil _))
table_lines true version bits (t ∷ turns) [] steps nodes =
    rw (nodes_are_tables true nodes) (ap (sorted_lines true version bits (t ∷ turns) []) (append-nil _))
table_lines true version bits (t ∷ turns) (s ∷ strikes) steps nodes =
    rw (nodes_are_tables true nodes) (ap (sorted_lines true version bits (t ∷ turns) (s ∷ strikes)) (append-nil _))
table_lines false version bits [] [] steps nodes =
    rw (nodes_are_tables false nodes) (ap (sorted_lines false version bits [] []) (append-nil _))
table_lines false version bits [] (s ∷ strikes) steps nodes =
    rw (nodes_are_tables false nodes) (ap (sorted_lines false version bits [] (s ∷ strikes)) (append-nil _))
table_lines false version bits (t ∷ turns) [] steps nodes =
    rw (nodes_are_tables false nodes) (ap (sorted_lines false version bits (t ∷ turns) []) (append-nil _))
table_lines false version bits (t ∷ turns) (s ∷ strikes) steps nodes =
    rw (nodes_are_tables false nodes) (ap (sorted_lines false version bits (t ∷ turns) (s ∷ strikes)) (append-nil _))

-- both orders lead to the same
same_lead : (named : Bool) (version bits : ℕ) (turns : List Text) (strikes : List Strike) (es : List Expression) →
    run (no_nodes, []) (front_lines named version bits turns strikes es)
    ≡ run (no_nodes, []) (sorted_lines named version bits turns strikes es)
unfolding define along_header along_dots at_key
same_lead named version bits turns [] es = refl
same_lead true version bits turns (s ∷ strikes) es = refl
same_lead false version bits turns (s ∷ strikes) es = refl

is_sorted : (named : Bool) (version bits : ℕ) (turns : List Text) (strikes : List Strike) (nodes : List (List Step)) →
    members_are_sorted (members_of named version bits nodes turns strikes) ≡ true
is_sorted true version bits turns [] nodes = rw (texts_sorted turns, nodes_sorted true nodes) refl
is_sorted true version bits turns (s ∷ strikes) nodes =
    rw (texts_sorted turns, nodes_sorted true nodes, texts_sorted _) refl
is_sorted false version bits turns [] nodes = rw (texts_sorted turns, nodes_sorted false nodes) refl
is_sorted false version bits turns (s ∷ strikes) nodes =
    rw (texts_sorted turns, nodes_sorted false nodes, texts_sorted _) refl

-- what is written one after another has a plan's lines
pub lines_written : (pretty named : Bool) (version bits : ℕ) (turns : List Text) (strikes : List Strike)
    (nodes : List (List Step)) (t₀ t₁ t₂ t₃ t₄ t₅ t₆ : Text) → 1 ≤ length nodes → t₀ ≡ [] →
    Adds pretty (member (codes "version") (integer (pos version)) no_members) t₀ t₁ →
    Adds pretty (member (codes "bits") (integer (pos bits)) no_members) t₁ t₂ →
    Adds pretty (member (codes "turns") (texts_data turns) no_members) t₂ t₃ →
    Adds pretty (with_strikes named strikes no_members) t₃ t₄ → t₅ ≡ t₄ ++ 10 ∷ [] →
    Adds pretty (member (codes "node") (nodes_data named nodes) no_members) t₅ t₆ →
    IsLinesText pretty false (front_lines named version bits turns strikes (node_lines named nodes)) t₆
lines_written pretty named version bits turns strikes [] t₀ t₁ t₂ t₃ t₄ t₅ t₆ some nil ha hb hc hd line he =
    absurd (omega arith)
lines_written pretty named version bits turns strikes (steps ∷ nodes) t₀ t₁ t₂ t₃ t₄ t₅ t₆ some nil (a, ea, ha)
    (b, eb, hb) (c, ec, hc) (d, ed, hd) line (e, ee, he) =
    let whole : t₆ ≡ a ++ (b ++ (c ++ (d ++ 10 ∷ e))) =
    rw (ee, line, ed, ec, eb, ea, nil) (simp append_assoc refl) in
    let lines = all_lines pretty named version bits turns strikes steps nodes a b c d e ha hb hc hd he in
    let front = front_lines named version bits turns strikes in
    subst (λ es. IsLinesText pretty false (front es) t₆) (elements_are named (steps ∷ nodes)) (rw whole lines)

-- a text that has a plan's lines is read as its table
pub written_read : (pretty named : Bool) (version bits : ℕ) (turns : List Text) (strikes : List Strike)
    (nodes : List (List Step)) (text : Text) → 1 ≤ length nodes →
    IsLinesText pretty false (front_lines named version bits turns strikes (node_lines named nodes)) text →
    parse_document text ≡ Some (members_of named version bits nodes turns strikes)
written_read pretty named version bits turns strikes [] text some lines = absurd (omega arith)
written_read pretty named version bits turns strikes (steps ∷ nodes) text some written =
    let node_part = element_lines named (steps ∷ nodes) in
    let rest = pair (codes "bits") (integer (pos bits)) ∷ pair (codes "turns") (texts_data turns)
    ∷ (strike_lines named strikes ++ node_part) in
    let front = front_lines named version bits turns strikes in
    let same = sym (elements_are named (steps ∷ nodes)) in
    let lines = subst (λ es. IsLinesText pretty false (front es) text) same written in
    let lead = same_lead named version bits turns strikes node_part
    ∙ ap (run (no_nodes, [])) (sym (table_lines named version bits turns strikes steps nodes)) in
    let printed = all_printed named version bits turns strikes (steps ∷ nodes) in
    lines_read pretty (members_of named version bits (steps ∷ nodes) turns strikes)
    (pair (codes "version") (integer (pos version))) rest text lines printed
    (is_sorted named version bits turns strikes (steps ∷ nodes)) lead
