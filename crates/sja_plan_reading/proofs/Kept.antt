-- What a key holds is kept by the definitions behind, as far as each step keeps it.
use Rattle.std.proofs.Common.{◌≡◌, List, [], ◌∷◌, Some, refl, sym, ap, subst, ◌∙◌, inl, inr}
use Rattle.std.proofs.lemmas.Bool.{cases_Bool}
use Rattle.std.proofs.lemmas.Option.{none-some, same_Some}
use Rattle.toml.specs.Data.{same_key}
use Rattle.toml.specs.Tables.{Node, Nodes, get_node}
use Rattle.sja_plan_reading.specs.Words.{Text}
use Rattle.sja_plan_reading.specs.Inside.Items.{Item, first_of, apply, run, step, set_node}
use Rattle.sja_plan_reading.proofs.ByKey.{cases_option, same_is, apply_ok, apply_bad, get_set, get_set_other}

-- a key holds what this says
abbrev pub At : (Node → Type 0) → Text → Nodes → Type 0
At P k ns = (x : Node) × (get_node k ns ≡ Some x) × P x

-- each step keeps it
abbrev pub Stays : (Node → Type 0) → Type 0
Stays P = (i : Item) (x y : Node) → step i (Some x) ≡ Some y → P x → P y

-- what a definition leaves at its first key
pub apply_makes : (P : Node → Type 0) (i : Item) (ns end : Nodes) → apply i ns ≡ Some end →
    ((y : Node) → step i (get_node (first_of i) ns) ≡ Some y → P y) → At P (first_of i) end
apply_makes P i ns end goes makes =
    let f = first_of i in
    elim (cases_option (step i (get_node f ns))) [
      | inl refused ↦ absurd (none-some end (sym (apply_bad i ns refused) ∙ goes))
      | inr new ↦
          let (y, stepped) = new in
          let end_is : set_node f y ns (get_node f ns) ≡ end = same_Some _ _ (sym (apply_ok i ns y stepped) ∙ goes) in
          subst (At P f) end_is (y, get_set f y ns (get_node f ns) refl, makes y stepped)
    ]

-- and at each key that held something
pub apply_keeps : (P : Node → Type 0) → Stays P → (i : Item) (ns end : Nodes) (k : Text) → apply i ns ≡ Some end →
    At P k ns → At P k end
apply_keeps P stays i ns end k goes (x, is, holds) =
    let f = first_of i in
    elim (cases_option (step i (get_node f ns))) [
      | inl refused ↦ absurd (none-some end (sym (apply_bad i ns refused) ∙ goes))
      | inr new ↦
          let (y, stepped) = new in
          let end_is : set_node f y ns (get_node f ns) ≡ end = same_Some _ _ (sym (apply_ok i ns y stepped) ∙ goes) in
          subst (At P k) end_is (elim (cases_Bool (same_key k f)) [
            | inl same ↦
                let k_is = same_is k f same in (
                  y,
                  rw k_is (get_set f y ns (get_node f ns) refl),
                  stays i x y (sym (ap (step i) (rw k_is at is)) ∙ stepped) holds,
                )
            | inr other ↦ (x, get_set_other k f y ns (get_node f ns) other ∙ is, holds)
          ])
    ]

-- and so do all, one after another
pub run_keeps : (P : Node → Type 0) → Stays P → (is : List Item) (ns end : Nodes) (k : Text) → run is ns ≡ Some end →
    At P k ns → At P k end
run_keeps P stays [] ns end k goes held = subst (At P k) (same_Some ns end goes) held
run_keeps P stays (i ∷ is) ns end k goes held =
    elim (cases_option (apply i ns)) [
      | inl none ↦ absurd (none-some end (rw none at goes))
      | inr found ↦
          run_keeps P stays is found.0 end k (rw found.1 at goes) (apply_keeps P stays i ns found.0 k found.1 held)
    ]
