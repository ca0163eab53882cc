use Rattle.std.proofs.Common.{◌≡◌, ◌∙◌, ℕ, List, length, map, ap, arith}
use Rattle.std.proofs.lemmas.List.{take_all}
use Rattle.toml.specs.Data.{Data, Items, array, string, item}
use Rattle.toml.specs.View.{view, array_view, items_of}
use Rattle.sja_plan_text.proofs.text_form.text_list.Goals as goal

-- how long the first text of a list is
abbrev text_length : Data → ℕ
text_length (string text) = length text
text_length other = 0

abbrev first_in : Items → ℕ
first_in (item text texts) = text_length text
first_in none = 0

abbrev first_of : Data → ℕ
first_of (array texts) = first_in texts
first_of other = 0

-- `first` proves nothing here: by it a wrong body is refused with values
pub returns : goal.returns
returns g c =
    let first : first_of (view c.from-2.result) ≡ first_of (array (array_view c.loop-item.values)) =
    omega (arith, ap first_of c.from-2.ensures) in
    let written : view c.from-2.result ≡ array (array_view c.loop-item.values) = c.from-2.ensures in
    let whole = take_all c.loop-item.item-index c.args.items.now c.loop-item-test.false in
    let text = g.T.TextForm.text c.args.named in
    let texts = c.loop-item.invariant ∙ ap (λ l. map (λ (t : List ℕ). string t) (map text l)) whole in
    written ∙ ap (λ l. array (items_of l)) texts
