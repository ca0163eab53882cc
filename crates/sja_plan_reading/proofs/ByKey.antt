-- Definitions of one key don't touch what another holds: they go through where those of each key do.
use Rattle.std.proofs.Common.{◌≡◌, Ordering, Less, Equal, Greater, nat_cmp, true, false, List, [], ◌∷◌}
use Rattle.std.proofs.Common.{Option, Some, None, option_map, option_and_then, refl, sym, ap, ◌∙◌, inl, inr, ◌⊎◌}
use Rattle.std.proofs.lemmas.Bool.{cases_Bool}
use Rattle.std.proofs.lemmas.Option.{none-some}
use Rattle.std.proofs.lemmas.Map.Lookups.{exact_bytes}
use Rattle.std.specs.Cmp.Lexicographic.{slice_cmp}
use Rattle.std.specs.Cmp.{Equal-is}
use Rattle.toml.specs.Data.{same_key}
use Rattle.toml.specs.Tables.{Node, Nodes, no_nodes, node, open_table, implicit, dotted, Edit}
use Rattle.toml.specs.Tables.{Definition, along_header, along_dots, at_key, by_header, by_dot, at_found}
use Rattle.toml.specs.Tables.{header_node, dot_node, new_node, redefine, get_node, insert, replace}
use Rattle.toml.proofs.NodeLaws.{same_key-self, get_node-insert, get_node-replace}
use Rattle.sja_plan_reading.specs.Words.{Text}
use Rattle.sja_plan_reading.specs.Inside.Items.{Item, apply, run, first_of, step, steps, at_first, set_node}

pub cases_option : {A : Type 0} (o : Option A) → (o ≡ None) ⊎ ((x : A) × (o ≡ Some x))
cases_option None = inl refl
cases_option (Some x) = inr (x, refl)

pub cases_ordering : (o : Ordering) → (o ≡ Less) ⊎ ((o ≡ Equal) ⊎ (o ≡ Greater))
cases_ordering Less = inl refl
cases_ordering Equal = inr (inl refl)
cases_ordering Greater = inr (inr refl)

map_map : {A B C : Type 0} (f : B → C) (g : A → B) (o : Option A) → option_map (λ x. f (g x)) o ≡ option_map f
    (option_map g o)
map_map f g None = refl
map_map f g (Some x) = refl

by_header_step : (k : Text) (e : Edit) (ns : Nodes) (o : Option Node) (r : Option Node → Option Node) →
    r None ≡ option_map (open_table implicit) (e no_nodes) → ((x : Node) → r (Some x) ≡ header_node e x) →
    by_header k e ns o ≡ option_map (λ x. set_node k x ns o) (r o)
by_header_step k e ns None r none some =
    rw none (map_map (λ x. insert k x ns) (open_table implicit) (e no_nodes))
by_header_step k e ns (Some x) r none some = rw (some x)

by_dot_step : (k : Text) (e : Edit) (ns : Nodes) (o : Option Node) (r : Option Node → Option Node) →
    r None ≡ option_map (open_table dotted) (e no_nodes) → ((x : Node) → r (Some x) ≡ dot_node e x) →
    by_dot k e ns o ≡ option_map (λ x. set_node k x ns o) (r o)
by_dot_step k e ns None r none some = rw none (map_map (λ x. insert k x ns) (open_table dotted) (e no_nodes))
by_dot_step k e ns (Some x) r none some = rw (some x)

at_found_step : (k : Text) (what : Definition) (ns : Nodes) (o : Option Node) (r : Option Node → Option Node) →
    r None ≡ Some (new_node what) → ((x : Node) → r (Some x) ≡ redefine what x) →
    at_found k what ns o ≡ option_map (λ x. set_node k x ns o) (r o)
at_found_step k what ns None r none some = rw none
at_found_step k what ns (Some x) r none some = rw (some x)

-- a definition writes what it makes of what its first key holds
step_is : (path dots : List Text) (last : Text) (what : Definition) (ns : Nodes) →
    let i : Item = record { path = path; dots = dots; last = last; what = what } in
    apply i ns ≡ option_map (λ x. set_node (first_of i) x ns (get_node (first_of i) ns))
    (step i (get_node (first_of i) ns))
unfolding along_header along_dots at_key
step_is (k ∷ path) dots last what ns = by_header_step k _ ns (get_node k ns) (λ o. step (record {
  path =
      k ∷ path;
  dots = dots;
  last = last;
  what = what;
}) o) refl (λ x. refl)
step_is [] (k ∷ dots) last what ns = by_dot_step k _ ns (get_node k ns) (λ o. step (record {
  path = [];
  dots =
      k ∷ dots;
  last = last;
  what = what;
}) o) refl (λ x. refl)
step_is [] [] last what ns = at_found_step last what ns (get_node last ns) (λ o. step (record {
  path = [];
  dots =
      [];
  last = last;
  what = what;
}) o) refl (λ x. refl)

pub apply_is : (i : Item) (ns : Nodes) →
    apply i ns ≡ option_map (λ x. set_node (first_of i) x ns (get_node (first_of i) ns))
    (step i (get_node (first_of i) ns))
apply_is i ns = step_is i.path i.dots i.last i.what ns

-- the two keys are one
pub same_is : (k l : Text) → same_key k l ≡ true → k ≡ l
same_is k l same = exact_bytes k l ((Equal-is (slice_cmp nat_cmp k l)).0 same)

-- what a write at one key leaves at another
get_replace_other : (k l : Text) (x : Node) (ns : Nodes) → same_key k l ≡ false →
    get_node k (replace l x ns) ≡ get_node k ns
get_replace_other k l x no_nodes other = refl
get_replace_other k l x (node m y ns) other =
    elim (cases_Bool (same_key l m)) [
      | inl same ↦ rw (same, ← same_is l m same, other)
      | inr is ↦ rw (is, get_replace_other k l x ns other)
    ]

get_insert_other : (k l : Text) (x : Node) (ns : Nodes) → same_key k l ≡ false →
    get_node k (insert l x ns) ≡ get_node k ns
get_insert_other k l x no_nodes other = rw other
get_insert_other k l x (node m y ns) other =
    elim (cases_ordering (slice_cmp nat_cmp l m)) [
      | inl less ↦ rw (less, other)
      | inr more ↦ elim more [
        | inl tie ↦ rw (tie, ← exact_bytes l m tie, other)
        | inr greater ↦ rw (greater, get_insert_other k l x ns other)
      ]
    ]

pub get_set_other : (k l : Text) (x : Node) (ns : Nodes) (o : Option Node) → same_key k l ≡ false →
    get_node k (set_node l x ns o) ≡ get_node k ns
get_set_other k l x ns None other = get_insert_other k l x ns other
get_set_other k l x ns (Some y) other = get_replace_other k l x ns other

pub get_set : (k : Text) (x : Node) (ns : Nodes) (o : Option Node) → get_node k ns ≡ o →
    get_node k (set_node k x ns o) ≡ Some x
get_set k x ns None is = get_node-insert k x ns
get_set k x ns (Some y) is = get_node-replace k x ns y is

-- what a definition that goes through leaves at each key
pub apply_ok : (i : Item) (ns : Nodes) (x : Node) → step i (get_node (first_of i) ns) ≡ Some x →
    apply i ns ≡ Some (set_node (first_of i) x ns (get_node (first_of i) ns))
apply_ok i ns x goes = apply_is i ns ∙ rw goes

pub apply_bad : (i : Item) (ns : Nodes) → step i (get_node (first_of i) ns) ≡ None → apply i ns ≡ None
apply_bad i ns refused = apply_is i ns ∙ rw refused

-- those of a key go through: they leave something, or nothing
abbrev pub GoThrough : Text → List Item → Nodes → Type 0
GoThrough k is ns = (o : Option Node) × (steps (at_first k is) (get_node k ns) ≡ Some o)

-- where all go through, those of each key do
pub each_goes : (is : List Item) (ns end : Nodes) → run is ns ≡ Some end → (k : Text) → GoThrough k is ns
each_goes [] ns end goes k = (get_node k ns, refl)
each_goes (i ∷ is) ns end goes k =
    let f = first_of i in
    elim (cases_option (step i (get_node f ns))) [
      | inl refused ↦ absurd (none-some end (sym (ap (option_and_then (run is)) (apply_bad i ns refused)) ∙ goes))
      | inr found ↦
          let (x, is_some) = found in
          let next = set_node f x ns (get_node f ns) in
          let goes_on : run is next ≡ Some end = sym (ap (option_and_then (run is)) (apply_ok i ns x is_some)) ∙ goes in
          let later = each_goes is next end goes_on k in
          elim (cases_Bool (same_key k f)) [
            | inl same ↦
                let got : get_node k next ≡ Some x = rw (same_is k f same) (get_set f x ns (get_node f ns) refl) in
                let first_is : step i (get_node k ns) ≡ Some x = rw (same_is k f same) is_some in
                (later.0, rw (same, first_is) (rw got at later.1))
            | inr other ↦ (later.0, rw other (rw (get_set_other k f x ns (get_node f ns) other) at later.1))
          ]
    ]

-- where those of each key go through, all do
pub all_go : (is : List Item) (ns : Nodes) → ((k : Text) → GoThrough k is ns) → (end : Nodes) × (run is ns ≡ Some end)
all_go [] ns each = (ns, refl)
all_go (i ∷ is) ns each =
    let f = first_of i in
    let mine = each f in
    let whole : steps (i ∷ at_first f is) (get_node f ns) ≡ Some mine.0 = rw (same_key-self f) at mine.1 in
    elim (cases_option (step i (get_node f ns))) [
      | inl refused ↦ absurd (none-some mine.0 (rw refused at whole))
      | inr found ↦
          let (x, is_some) = found in
          let next = set_node f x ns (get_node f ns) in
          let rest = all_go is next (λ k. elim (cases_Bool (same_key k f)) [
            | inl same ↦
                let got : get_node k next ≡ Some x = rw (same_is k f same) (get_set f x ns (get_node f ns) refl) in
                let first_is : step i (get_node k ns) ≡ Some x = rw (same_is k f same) is_some in
                let here = each k in
                (here.0, rw got (rw (same, first_is) at here.1))
            | inr other ↦
                let here = each k in
                (here.0, rw (get_set_other k f x ns (get_node f ns) other) (rw other at here.1))
          ]) in
          (rest.0, ap (option_and_then (run is)) (apply_ok i ns x is_some) ∙ rest.1)
    ]
