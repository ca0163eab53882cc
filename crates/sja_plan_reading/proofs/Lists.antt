-- Lists of which one item is refused.
use Rattle.std.proofs.Common.{◌≡◌, List, [], ◌∷◌, Option, Some, None, option_map, option_and_then, refl, sym, inl, inr}
use Rattle.std.proofs.lemmas.Option.{none-some}
use Rattle.toml.specs.Data.{Data, Items, no_items, item, push_item}
use Rattle.sja_plan_reading.specs.Document.{all_of}
use Rattle.sja_plan_reading.proofs.ByKey.{cases_option}

-- a list of which one item is refused
module _ {X : Type 0} (f : Data → Option X) where
  no_more : (o : Option X) (later : Option (List X)) → later ≡ None →
      option_and_then (λ x. option_map (λ xs. x ∷ xs) later) o ≡ None
  no_more None later none = refl
  no_more (Some x) later none = rw none

  pub last_refused : (done : Items) (d : Data) → f d ≡ None → all_of f (push_item done d) ≡ None
  last_refused no_items d none = rw none
  last_refused (item e ds) d none = no_more (f e) (all_of f (push_item ds d)) (last_refused ds d none)

  rest_refused : (x : X) (o : Option (List X)) → option_map (λ xs. x ∷ xs) o ≡ None → o ≡ None
  rest_refused x None e = refl
  rest_refused x (Some xs) e = absurd (none-some (x ∷ xs) (sym e))

  pub front_refused : (done : Items) (d : Data) → all_of f done ≡ None → all_of f (push_item done d) ≡ None
  front_refused no_items d none = absurd (none-some [] (sym none))
  front_refused (item e ds) d none =
      elim (cases_option (f e)) [
        | inl refused ↦ rw refused
        | inr (x, is) ↦
            no_more (f e) (all_of f (push_item ds d))
            (front_refused ds d (rest_refused x (all_of f ds) (rw is at none)))
      ]
