-- Items read one after another.
use Rattle.std.proofs.Common.{◌≡◌, ◌⊎◌, ◌∙◌, ℕ, ◌+◌, ◌<◌, inl, inr, refl, ap, sym, map, length, drop, get_or}
use Rattle.std.proofs.Common.{option_map, option_and_then, Option, Some, None, List, [], ◌∷◌, ◌++◌, append_assoc}
use Rattle.std.proofs.lemmas.List.{map-append}
use Rattle.toml.specs.Data.{Data}
use Rattle.toml.specs.View.{view, items_view}
use Rattle.toml.specs.declared.value.Value.{Value}
use Rattle.toml.proofs.Views.{items_view-drop}
use Rattle.sja_plan_reading.specs.Document.{all_of}
use Rattle.sja_plan_reading.specs.declared.plan_fault.PlanFault.{PlanFault}
use Rattle.sja_plan_reading.specs.declared.plan_fault.PlanFault.TheVariants.{Memory, Key}

-- what is found already, and what the rest gives
abbrev pub joined : {X : Type 0} → List X → Option (List X) → Option (List X)
joined done rest = option_map (λ xs. done ++ xs) rest

abbrev pub one_more : {X : Type 0} → Option X → Option (List X) → Option (List X)
one_more first rest = option_and_then (λ x. option_map (λ xs. x ∷ xs) rest) first

pub joined-one_more : {X : Type 0} (done : List X) (x : X) (rest : Option (List X)) →
    joined done (one_more (Some x) rest) ≡ joined (done ++ x ∷ []) rest
joined-one_more done x None = refl
joined-one_more done x (Some xs) = ap Some (sym (append_assoc done (x ∷ []) xs))

pub all_of-drop : {X : Type 0} (f : Data → Option X) (vs : List Value) (i : ℕ) (d : Value) → i < length vs
    → all_of f (items_view (drop i vs)) ≡ one_more (f (view (get_or vs i d))) (all_of f (items_view (drop (i + 1) vs)))
all_of-drop f vs i d h = ap (all_of f) (items_view-drop vs i d h)

pub all_of-more : {X : Type 0} (f : Data → Option X) (vs : List Value) (i : ℕ) (d : Value) (done : List X) (x : X)
    (whole : Option (List X)) → i < length vs → f (view (get_or vs i d)) ≡ Some x
    → whole ≡ joined done (all_of f (items_view (drop i vs))) →
    whole ≡ joined (done ++ x ∷ []) (all_of f (items_view (drop (i + 1) vs)))
all_of-more f vs i d done x whole h e w =
    w ∙ ap (joined done) (all_of-drop f vs i d h ∙ ap (λ o. one_more o (all_of f (items_view (drop (i + 1) vs)))) e)
    ∙ joined-one_more done x _

pub all_of-none : {X : Type 0} (f : Data → Option X) (vs : List Value) (i : ℕ) (d : Value) (done : List X)
    (whole : Option (List X)) → i < length vs → f (view (get_or vs i d)) ≡ None
    → whole ≡ joined done (all_of f (items_view (drop i vs))) → whole ≡ None
all_of-none f vs i d done whole h e w =
    w ∙ ap (joined done) (all_of-drop f vs i d h ∙ ap (λ o. one_more o (all_of f (items_view (drop (i + 1) vs)))) e)

-- one item more was read
pub one_found : {X A : Type 0} (f : Data → Option X) (g : A → X) (vs : List Value) (i : ℕ) (d : Value)
    (found new : List A) (a : A) (whole : Option (List X)) → i < length vs → d ≡ get_or vs i d →
    f (view d) ≡ Some (g a) → new ≡ found ++ a ∷ [] →
    whole ≡ joined (map g found) (all_of f (items_view (drop i vs))) →
    whole ≡ joined (map g new) (all_of f (items_view (drop (i + 1) vs)))
one_found f g vs i d found new a whole h is e n w =
    rw (n, map-append g found (a ∷ []))
    (all_of-more f vs i d (map g found) (g a) whole h (ap (λ v. f (view v)) (sym is) ∙ e) w)

-- an item gives nothing
pub none_found : {X : Type 0} (f : Data → Option X) (vs : List Value) (i : ℕ) (d : Value) (done : List X)
    (whole : Option (List X)) → i < length vs → d ≡ get_or vs i d → f (view d) ≡ None
    → whole ≡ joined done (all_of f (items_view (drop i vs))) → whole ≡ None
none_found f vs i d done whole h is e w =
    all_of-none f vs i d done whole h (ap (λ v. f (view v)) (sym is) ∙ e) w

-- or memory was refused
pub none_or_memory : {X : Type 0} (f : Data → Option X) (vs : List Value) (i : ℕ) (d : Value) (done : List X)
    (whole : Option (List X)) (e : PlanFault) → i < length vs → d ≡ get_or vs i d →
    (e ≡ Memory) ⊎ ((e ≡ Key) × (f (view d) ≡ None)) →
    whole ≡ joined done (all_of f (items_view (drop i vs))) → (e ≡ Memory) ⊎ ((e ≡ Key) × (whole ≡ None))
none_or_memory f vs i d done whole e h is (inl m) w = inl m
none_or_memory f vs i d done whole e h is (inr (k, n)) w = inr (k, none_found f vs i d done whole h is n w)
