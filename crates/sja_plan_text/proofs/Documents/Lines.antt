-- The lines of a plan's document, in the order in which they are written.
use Rattle.std.proofs.Common.{◌≡◌, ◌∙◌, ℕ, pos, Bool, true, false, List, [], ◌∷◌, ◌++◌, codes, map, refl, ap, arith}
use Rattle.std.proofs.lemmas.List.{append-nil}
use Rattle.toml.specs.Data.{Data, integer, member, no_members}
use Rattle.toml.specs.Tables.{Expression, array_table}
use Rattle.toml.specs.Text.{IsLinesText, IsDocumentText, expressions, elements}
use Rattle.toml.proofs.ReadLines.{AllPrinted}
use Rattle.sja_plan_reading.specs.Words.{Text}
use Rattle.sja_steps.specs.declared.step.Step.{Step}
use Rattle.sja_steps.specs.declared.strike.Strike.{Strike}
use Rattle.sja_plan_text.specs.Texts.{spelled_step, strike_text}
use Rattle.sja_plan_text.specs.Written.{pair, strikes_key, strike_lines, node_lines, front_lines, texts_data}
use Rattle.sja_plan_text.specs.Inside.Table.{nodes_data, with_strikes}
use Rattle.sja_plan_text.proofs.Tables.Values.{node_items, texts_flat, texts_dated, nodes_are_tables}

-- the header of a node
abbrev header : Expression
header = (([], codes "node"), array_table)

-- the lines of the nodes, as those of a table
abbrev pub element_lines : Bool → List (List Step) → List Expression
element_lines named nodes = elements ([], codes "node") (node_items named nodes)

-- these are the lines of the nodes
pub elements_are : (named : Bool) (nodes : List (List Step)) → element_lines named nodes ≡ node_lines named nodes
elements_are named [] = refl
elements_are named ([] ∷ nodes) =
    ap (λ es. header ∷ pair (codes "steps") (texts_data []) ∷ es) (elements_are named nodes)
elements_are named ((s ∷ steps) ∷ nodes) =
    ap (λ es. header ∷ pair (codes "steps") (texts_data (map (spelled_step named) (s ∷ steps))) ∷ es)
    (elements_are named nodes)

-- a line, and others behind it
line_then : (pretty started : Bool) (k a t : Text) (d : Data) (es : List Expression) →
    IsLinesText pretty false (pair k d ∷ []) a → IsLinesText pretty true es t →
    IsLinesText pretty started (pair k d ∷ es) (a ++ t)
line_then pretty started k a t d es (this, rest, whole, line, nil) more =
    let same : a ≡ this = whole ∙ ap (λ l. this ++ l) nil ∙ append-nil this in
    (this, t, ap (λ l. l ++ t) same, line, more)

-- an empty line in front of the first header
header_then : (pretty : Bool) (k t : Text) (es : List Expression) →
    IsLinesText pretty false ((([], k), array_table) ∷ es) t →
    IsLinesText pretty true ((([], k), array_table) ∷ es) (10 ∷ t)
header_then pretty k t es (this, rest, whole, line, more) =
    (10 ∷ this, rest, ap (λ l. 10 ∷ l) whole, ap (λ l. 10 ∷ l) line, more)

-- a list of texts has a line
pub texts_line : (k : Text) (texts : List Text) →
    expressions (member k (texts_data texts) no_members) ≡ pair k (texts_data texts) ∷ []
texts_line k [] = refl
texts_line k (t ∷ texts) = refl

pub nodes_lines : (named : Bool) (steps : List Step) (nodes : List (List Step)) →
    expressions (member (codes "node") (nodes_data named (steps ∷ nodes)) no_members)
    ≡ element_lines named (steps ∷ nodes)
nodes_lines named steps nodes = rw (nodes_are_tables named nodes) (append-nil _)

texts_then : (pretty started : Bool) (k a t : Text) (texts : List Text) (es : List Expression) →
    IsDocumentText pretty (member k (texts_data texts) no_members) a → IsLinesText pretty true es t →
    IsLinesText pretty started (pair k (texts_data texts) ∷ es) (a ++ t)
texts_then pretty started k a t texts es h more =
    line_then pretty started k a t (texts_data texts) es (rw (texts_line k texts) at h) more

strikes_then : (pretty named : Bool) (a t : Text) (strikes : List Strike) (es : List Expression) →
    IsDocumentText pretty (with_strikes named strikes no_members) a → IsLinesText pretty true es t →
    IsLinesText pretty true (strike_lines named strikes ++ es) (a ++ t)
strikes_then pretty named a t [] es h more = rw h more
strikes_then pretty named a t (s ∷ strikes) es h more =
    texts_then pretty true (strikes_key named) a t (map strike_text (s ∷ strikes)) es h more

nodes_then : (pretty named : Bool) (steps : List Step) (nodes : List (List Step)) (e : Text) →
    IsDocumentText pretty (member (codes "node") (nodes_data named (steps ∷ nodes)) no_members) e →
    IsLinesText pretty true (element_lines named (steps ∷ nodes)) (10 ∷ e)
nodes_then pretty named steps nodes e h =
    header_then pretty (codes "node") e _ (rw (nodes_lines named steps nodes) at h)

-- what is written one after another are all lines
pub all_lines : (pretty named : Bool) (version bits : ℕ) (turns : List Text) (strikes : List Strike) (steps : List Step)
    (nodes : List (List Step)) (a b c d e : Text) →
    IsDocumentText pretty (member (codes "version") (integer (pos version)) no_members) a →
    IsDocumentText pretty (member (codes "bits") (integer (pos bits)) no_members) b →
    IsDocumentText pretty (member (codes "turns") (texts_data turns) no_members) c →
    IsDocumentText pretty (with_strikes named strikes no_members) d →
    IsDocumentText pretty (member (codes "node") (nodes_data named (steps ∷ nodes)) no_members) e →
    IsLinesText pretty false (front_lines named version bits turns strikes (element_lines named (steps ∷ nodes)))
    (a ++ (b ++ (c ++ (d ++ 10 ∷ e))))
all_lines pretty named version bits turns strikes steps nodes a b c d e ha hb hc hd he =
    let node_part = element_lines named (steps ∷ nodes) in
    let behind_turns = strike_lines named strikes ++ node_part in
    let turn_part = pair (codes "turns") (texts_data turns) ∷ behind_turns in
    let bit_part = pair (codes "bits") (integer (pos bits)) ∷ turn_part in
    let from_nodes = nodes_then pretty named steps nodes e he in
    let from_strikes = strikes_then pretty named d (10 ∷ e) strikes node_part hd from_nodes in
    let from_turns =
    texts_then pretty true (codes "turns") c (d ++ 10 ∷ e) turns behind_turns hc from_strikes in
    let from_bits =
    line_then pretty true (codes "bits") b (c ++ (d ++ 10 ∷ e)) (integer (pos bits)) turn_part hb from_turns in
    line_then pretty false (codes "version") a (b ++ (c ++ (d ++ 10 ∷ e))) (integer (pos version)) bit_part ha from_bits

-- each of them can be read
nodes_printed : (named : Bool) (nodes : List (List Step)) → AllPrinted (element_lines named nodes)
nodes_printed named [] = tt
nodes_printed named ([] ∷ nodes) = (omega arith, ((refl, omega arith, refl), nodes_printed named nodes))
nodes_printed named ((s ∷ steps) ∷ nodes) =
    let texts = map (spelled_step named) (s ∷ steps) in (
      omega arith,
      ((refl, omega (arith, texts_flat texts), texts_dated texts), nodes_printed named nodes),
    )

strikes_printed : (named : Bool) (strikes : List Strike) (es : List Expression) → AllPrinted es →
    AllPrinted (strike_lines named strikes ++ es)
strikes_printed named [] es h = h
strikes_printed true (s ∷ strikes) es h =
    let texts = map strike_text (s ∷ strikes) in ((refl, omega (arith, texts_flat texts), texts_dated texts), h)
strikes_printed false (s ∷ strikes) es h =
    let texts = map strike_text (s ∷ strikes) in ((refl, omega (arith, texts_flat texts), texts_dated texts), h)

pub all_printed : (named : Bool) (version bits : ℕ) (turns : List Text) (strikes : List Strike)
    (nodes : List (List Step)) →
    AllPrinted (front_lines named version bits turns strikes (element_lines named nodes))
all_printed named version bits turns strikes nodes = (
  (refl, omega arith, refl),
  (
    (refl, omega arith, refl),
    (
      (refl, omega (arith, texts_flat turns), texts_dated turns),
      strikes_printed named strikes (element_lines named nodes) (nodes_printed named nodes),
    ),
  ),
)
