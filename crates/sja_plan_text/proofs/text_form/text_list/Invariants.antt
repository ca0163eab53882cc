use Rattle.std.proofs.Common.{◌≡◌, ℕ, List, map, take}
use Rattle.toml.specs.Data.{string}
use Rattle.toml.specs.View.{view}
use Rattle.sja_plan_text.proofs.text_form.text_list.Given as goal

-- the texts so far
abbrev pub invariant-loop-item : goal.invariant-loop-item
invariant-loop-item g l = map view l.values.items
    ≡ map (λ (t : List ℕ). string t) (map (g.T.TextForm.text l.named) (take l.item-index l.items))
