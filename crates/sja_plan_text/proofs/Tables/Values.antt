-- The values of a plan's table: they aren't deep, they are sorted, and they hold no dates.
use Rattle.std.proofs.Common.{◌≡◌, Bool, true, List, [], ◌∷◌, map}
use Rattle.std.proofs.Common.{refl}
use Rattle.toml.specs.Data.{Items, string, items_depth, items_have_valid_dates, items_are_sorted}
use Rattle.toml.specs.Text.{are_tables}
use Rattle.toml.specs.View.{items_of}
use Rattle.sja_plan_reading.specs.Words.{Text}
use Rattle.sja_steps.specs.declared.step.Step.{Step}
use Rattle.sja_plan_text.specs.Texts.{spelled_step}
use Rattle.sja_plan_text.specs.Inside.Table.{node_data}

-- the items that texts are, and that nodes are
abbrev pub text_items : List Text → Items
text_items texts = items_of (map (λ (t : Text). string t) texts)

abbrev pub node_items : Bool → List (List Step) → Items
node_items named nodes = items_of (map (node_data named) nodes)

pub texts_flat : (texts : List Text) → items_depth (text_items texts) ≡ 0
texts_flat [] = refl
texts_flat (t ∷ texts) = rw (texts_flat texts) refl

pub texts_dated : (texts : List Text) → items_have_valid_dates (text_items texts) ≡ true
texts_dated [] = refl
texts_dated (t ∷ texts) = texts_dated texts

pub texts_sorted : (texts : List Text) → items_are_sorted (text_items texts) ≡ true
texts_sorted [] = refl
texts_sorted (t ∷ texts) = texts_sorted texts

pub nodes_sorted : (named : Bool) (nodes : List (List Step)) → items_are_sorted (node_items named nodes) ≡ true
nodes_sorted named [] = refl
nodes_sorted named (steps ∷ nodes) = rw (texts_sorted (map (spelled_step named) steps)) (nodes_sorted named nodes)

pub nodes_are_tables : (named : Bool) (nodes : List (List Step)) → are_tables (node_items named nodes) ≡ true
nodes_are_tables named [] = refl
nodes_are_tables named (steps ∷ nodes) = nodes_are_tables named nodes
