use Rattle.std.proofs.Common.{rules, refl, sym, ap, ◌∙◌, option_map, arith}
use Rattle.std.specs.Str.{str_eq_ignore_ascii_case}
use Rattle.sja_plan_reading.specs.Words.{Text}
use Rattle.sja_plan_reading.specs.PlaceNames.{place_of_word}
use Rattle.sja_plan.specs.declared.place.Place.{Place}
use Rattle.sja_plan_reading.proofs.Spelling.Searches.{find_here, find_behind}
use Rattle.sja_plan_reading.proofs.place_names.place_of_word.Goals as goal

pub loop-place-init : goal.loop-place-init
unfolding place_of_word
loop-place-init c = refl

pub returns-then-is_same_name : goal.returns-then-is_same_name
returns-then-is_same_name c =
    sym (c.loop-place.invariant ∙ ap (option_map (λ (r : Text × Place). r.1))
    (find_here (λ (r : Text × Place). str_eq_ignore_ascii_case r.0 c.args.name.now) (λ r. (r.0.now, r.1)) _
    c.loop-place.place-index _ (omega arith) (sym c.is_same_name.ensures ∙ c.if-is_same_name.true)))

pub loop-place-preserved : goal.loop-place-preserved
loop-place-preserved c =
    c.loop-place.invariant ∙ ap (option_map (λ (r : Text × Place). r.1))
    (find_behind (λ (r : Text × Place). str_eq_ignore_ascii_case r.0 c.args.name.now) (λ r. (r.0.now, r.1)) _
    c.loop-place.place-index _ (omega arith) (sym c.is_same_name.ensures ∙ c.if-is_same_name.false))
