-- What a definition makes of a node's table that no plan has there, and that the definitions behind keep it so.
use Rattle.std.proofs.Common.{◌≡◌, Bool, true, false, ◌||◌, List, [], ◌∷◌, Option, Some, None, option_map}
use Rattle.std.proofs.Common.{option_and_then, refl, sym, subst, ◌∙◌, inl, inr, ◌⊎◌, codes}
use Rattle.std.specs.Str.{bytes_eq}
use Rattle.std.proofs.lemmas.Bool.{cases_Bool, false≢true}
use Rattle.std.proofs.lemmas.Map.Text.{is_eq-slice_cmp}
use Rattle.std.proofs.lemmas.Option.{none-some, same_Some}
use Rattle.toml.specs.Data.{Data, table, Items, no_items, item, push_item, as_str, as_integer}
use Rattle.toml.specs.Tables.{Node, Nodes, no_nodes, value, open_table, open_array, implicit, dotted, header}
use Rattle.toml.specs.Tables.{Definition, key_value, std_table, array_table, close_node, close, get_node}
use Rattle.sja_plan_reading.specs.Words.{Text}
use Rattle.sja_plan_reading.specs.Document.{knows, all_of, texts_of, texts_in, node_of, nodes_of, nodes_in}
use Rattle.sja_plan_reading.specs.Inside.Items.{Item, first_of, apply, step}
use Rattle.sja_plan_reading.specs.Inside.Judging.{ends, comes, below}
use Rattle.sja_plan_reading.specs.Inside.Strange.{is_nodes, is_steps, is_odd, IsStrangeIn, IsStrangeBelow}
use Rattle.sja_plan_reading.proofs.ByKey.{cases_option, same_is}
use Rattle.sja_plan_reading.proofs.ClosedKeys.{close_get, each_known}
use Rattle.sja_plan_reading.proofs.Lists.{last_refused, front_refused}
use Rattle.sja_plan_reading.proofs.Kept.{At, Stays, apply_keeps, apply_makes}
use Rattle.sja_plan_reading.proofs.OddKeys.{Odd, IsTable, made, odd_stays, makes_odd, makes_table}

-- a table has a key that no node's has, or no texts at that which it has
abbrev pub OddIn : Nodes → Type 0
OddIn ns = ((k : Text) × At (λ x. Unit {0}) k ns × (is_steps k ≡ false)) ⊎ At Odd (codes "steps") ns

-- what the key of the nodes doesn't hold
abbrev pub OddNode : Node → Type 0
OddNode (value d) = nodes_in d ≡ None
OddNode (open_table origin ns) = Unit {0}
OddNode (open_array done ns) = (nodes_of done ≡ None) ⊎ OddIn ns

-- what a key doesn't hold: that of the nodes, or another
abbrev pub Wrong : Bool → Node → Type 0
Wrong true x = OddNode x
Wrong false x = Odd x

pub known_is : (known k : Text) → bytes_eq known k ≡ true → known ≡ k
known_is known k same = same_is known k (is_eq-slice_cmp known k ∙ same)

pub either : (a b : Bool) → a || b ≡ true → (a ≡ true) ⊎ (b ≡ true)
either true b e = inl refl
either false b e = inr e

steps_is : (k : Text) → is_steps k ≡ true → codes "steps" ≡ k
steps_is k known =
    elim (either (bytes_eq (codes "steps") k) false known) [
      | inl same ↦ known_is (codes "steps") k same
      | inr none ↦ absurd (false≢true none)
    ]

-- what these stand for is no text, no list of texts and no number
pub no_texts : (x : Node) → Odd x → texts_in (close_node x) ≡ None
no_texts (value d) odd = odd.0
no_texts (open_table origin ns) odd = refl
no_texts (open_array done ns) odd = last_refused as_str done (table (close ns)) refl

pub no_number : (x : Node) → Odd x → as_integer (close_node x) ≡ None
no_number (value d) odd = odd.1
no_number (open_table origin ns) odd = refl
no_number (open_array done ns) odd = refl

-- and no node's table
pub table_refused : (ns : Nodes) → OddIn ns → node_of (table (close ns)) ≡ None
table_refused ns odd =
    elim (cases_Bool (knows (codes "steps" ∷ []) (close ns))) [
      | inr not_known ↦ rw not_known
      | inl known ↦ elim odd [
        | inl (k, (x, is, _), unknown) ↦
            absurd (false≢true (sym unknown ∙ each_known (codes "steps" ∷ []) (close ns) k (close_node x)
            (close_get k ns x is) known))
        | inr (x, is, none) ↦ rw (known, close_get (codes "steps") ns x is) (no_texts x none)
      ]
    ]

pub no_nodes_in : (x : Node) → OddNode x → nodes_in (close_node x) ≡ None
no_nodes_in (value d) odd = odd
no_nodes_in (open_table origin ns) odd = refl
no_nodes_in (open_array done ns) (inl front) = front_refused node_of done (table (close ns)) front
no_nodes_in (open_array done ns) (inr inside) = last_refused node_of done (table (close ns)) (table_refused ns inside)

-- a node's table, which a definition goes on with
pub in_keeps : (i : Item) (ns end : Nodes) → apply i ns ≡ Some end → OddIn ns → OddIn end
in_keeps i ns end goes (inl (k, held, unknown)) =
    inl (k, apply_keeps (λ x. Unit {0}) (λ j x y e u. tt) i ns end k goes held, unknown)
in_keeps i ns end goes (inr odd) = inr (apply_keeps Odd odd_stays i ns end (codes "steps") goes odd)

pub in_holds : (k : Text) (ns : Nodes) → At Odd k ns → OddIn ns
in_holds k ns (x, is, odd) =
    elim (cases_Bool (is_steps k)) [
      | inl known ↦ inr (subst (λ l. At Odd l ns) (sym (steps_is k known)) (x, is, odd))
      | inr unknown ↦ inl (k, (x, is, tt), unknown)
    ]

pub in_makes : (i : Item) (ns end : Nodes) → apply i ns ≡ Some end → IsStrangeIn i → OddIn end
in_makes i ns end goes (inl unknown) =
    inl (first_of i, apply_makes (λ x. Unit {0}) i ns end goes (λ y e. tt), unknown)
in_makes i ns end goes (inr odd) =
    let k = first_of i in
    in_holds k end (apply_makes Odd i ns end goes (λ y e. makes_odd i (get_node k ns) y odd e))

array_keeps : (i : Item) (done : Items) (ns end : Nodes) (y : Node) → apply i ns ≡ Some end → open_array done end ≡ y →
    OddNode (open_array done ns) → OddNode y
array_keeps i done ns end y goes is (inl front) = rw (← is) (inl front)
array_keeps i done ns end y goes is (inr inside) = rw (← is) (inr (in_keeps i ns end goes inside))

stays_by : (path dots : List Text) (last : Text) (what : Definition) (x y : Node) →
    let i : Item = record { path = path; dots = dots; last = last; what = what } in
    step i (Some x) ≡ Some y → OddNode x → OddNode y
stays_by (k ∷ path) dots last what (value d) y goes odd = absurd (none-some y goes)
stays_by (k ∷ path) dots last what (open_table origin ns) y goes odd = rw (← (made (open_table origin) _ y goes).2) tt
stays_by (k ∷ path) dots last what (open_array done ns) y goes odd =
    let (end, inner, is) = made (open_array done) _ y goes in
    array_keeps (record { path = path; dots = dots; last = last; what = what }) done ns end y inner is odd
stays_by [] (k ∷ dots) last what (value d) y goes odd = absurd (none-some y goes)
stays_by [] (k ∷ dots) last what (open_table header ns) y goes odd = absurd (none-some y goes)
stays_by [] (k ∷ dots) last what (open_table implicit ns) y goes odd = rw (← (made (open_table dotted) _ y goes).2) tt
stays_by [] (k ∷ dots) last what (open_table dotted ns) y goes odd = rw (← (made (open_table dotted) _ y goes).2) tt
stays_by [] (k ∷ dots) last what (open_array done ns) y goes odd = absurd (none-some y goes)
stays_by [] [] last (key_value e) (value d) y goes odd = absurd (none-some y goes)
stays_by [] [] last (key_value e) (open_table header ns) y goes odd = absurd (none-some y goes)
stays_by [] [] last (key_value e) (open_table implicit ns) y goes odd = absurd (none-some y goes)
stays_by [] [] last (key_value e) (open_table dotted ns) y goes odd = absurd (none-some y goes)
stays_by [] [] last (key_value e) (open_array done ns) y goes odd = absurd (none-some y goes)
stays_by [] [] last std_table (value d) y goes odd = absurd (none-some y goes)
stays_by [] [] last std_table (open_table header ns) y goes odd = absurd (none-some y goes)
stays_by [] [] last std_table (open_table implicit ns) y goes odd = rw (← same_Some _ y goes) tt
stays_by [] [] last std_table (open_table dotted ns) y goes odd = absurd (none-some y goes)
stays_by [] [] last std_table (open_array done ns) y goes odd = absurd (none-some y goes)
stays_by [] [] last array_table (value d) y goes odd = absurd (none-some y goes)
stays_by [] [] last array_table (open_table header ns) y goes odd = absurd (none-some y goes)
stays_by [] [] last array_table (open_table implicit ns) y goes odd = absurd (none-some y goes)
stays_by [] [] last array_table (open_table dotted ns) y goes odd = absurd (none-some y goes)
stays_by [] [] last array_table (open_array done ns) y goes (inl front) =
    rw (← same_Some _ y goes) (inl (front_refused node_of done (table (close ns)) front))
stays_by [] [] last array_table (open_array done ns) y goes (inr inside) =
    rw (← same_Some _ y goes) (inl (last_refused node_of done (table (close ns)) (table_refused ns inside)))

pub wrong_stays : (node : Bool) → Stays (Wrong node)
wrong_stays true i x y goes odd = stays_by i.path i.dots i.last i.what x y goes odd
wrong_stays false i x y goes odd = odd_stays i x y goes odd

table_odd : (x : Node) → IsTable x → OddNode x
table_odd (value d) is = absurd is
table_odd (open_table origin ns) is = tt
table_odd (open_array done ns) is = absurd is

below_by : (path dots : List Text) (last : Text) (what : Definition) (o : Option Node) (y : Node) →
    let i : Item = record { path = path; dots = dots; last = last; what = what } in
    ends i ≡ false → IsStrangeIn (below i) → step i o ≡ Some y → OddNode y
below_by (k ∷ path) dots last what None y through strange goes =
    rw (← (made (open_table implicit) _ y goes).2) tt
below_by (k ∷ path) dots last what (Some (value d)) y through strange goes = absurd (none-some y goes)
below_by (k ∷ path) dots last what (Some (open_table origin ns)) y through strange goes =
    rw (← (made (open_table origin) _ y goes).2) tt
below_by (k ∷ path) dots last what (Some (open_array done ns)) y through strange goes =
    let (end, inner, is) = made (open_array done) _ y goes in
    rw (← is) (inr (in_makes (record { path = path; dots = dots; last = last; what = what }) ns end inner strange))
below_by [] (k ∷ dots) last what None y through strange goes = rw (← (made (open_table dotted) _ y goes).2) tt
below_by [] (k ∷ dots) last what (Some (value d)) y through strange goes = absurd (none-some y goes)
below_by [] (k ∷ dots) last what (Some (open_table header ns)) y through strange goes = absurd (none-some y goes)
below_by [] (k ∷ dots) last what (Some (open_table implicit ns)) y through strange goes =
    rw (← (made (open_table dotted) _ y goes).2) tt
below_by [] (k ∷ dots) last what (Some (open_table dotted ns)) y through strange goes =
    rw (← (made (open_table dotted) _ y goes).2) tt
below_by [] (k ∷ dots) last what (Some (open_array done ns)) y through strange goes = absurd (none-some y goes)
below_by [] [] last what o y through strange goes = absurd (false≢true (sym through))

odd_made : (node : Bool) (i : Item) (o : Option Node) (y : Node) → is_odd node (comes i) (ends i) ≡ true →
    step i o ≡ Some y → Wrong node y
odd_made true i o y odd goes = table_odd y (makes_table i o y odd goes)
odd_made false i o y odd goes = makes_odd i o y odd goes

-- what a definition makes of its key that no plan has there
pub wrong_made : (i : Item) (o : Option Node) →
    (is_odd (is_nodes (first_of i)) (comes i) (ends i) ≡ true) ⊎ IsStrangeBelow i → (y : Node) →
    step i o ≡ Some y → Wrong (is_nodes (first_of i)) y
wrong_made i o (inl odd) y goes = odd_made (is_nodes (first_of i)) i o y odd goes
wrong_made i o (inr (node, through, strange)) y goes =
    rw node (below_by i.path i.dots i.last i.what o y through strange goes)
