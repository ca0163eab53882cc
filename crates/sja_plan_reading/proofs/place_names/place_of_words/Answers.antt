use Rattle.std.proofs.Common.{◌&&◌, rules, refl, sym, ap, ◌∙◌, option_map, arith}
use Rattle.std.specs.Str.{str_eq_ignore_ascii_case}
use Rattle.sja_plan_reading.specs.Words.{Text}
use Rattle.sja_plan_reading.specs.PlaceNames.{place_of_words}
use Rattle.sja_plan.specs.declared.place.Place.{Place}
use Rattle.sja_plan_reading.proofs.Spelling.Searches.{find_here, find_behind}
use Rattle.sja_plan_reading.proofs.place_names.place_of_words.Goals as goal

pub loop-place-init : goal.loop-place-init
unfolding place_of_words
loop-place-init c = refl

pub returns-then-are_same_names : goal.returns-then-are_same_names
returns-then-are_same_names c =
    sym (c.loop-place.invariant ∙ ap (option_map (λ (r : Text × Text × Place). r.2))
    (find_here (λ (r : Text × Text × Place). str_eq_ignore_ascii_case r.0 c.args.name.now
    && str_eq_ignore_ascii_case r.1 c.args.more.now) (λ r. (r.0.now, r.1.now, r.2)) _
    c.loop-place.place-index _ (omega arith) (sym c.are_same_names.ensures ∙ c.if-are_same_names.true)))

pub loop-place-preserved : goal.loop-place-preserved
loop-place-preserved c =
    c.loop-place.invariant ∙ ap (option_map (λ (r : Text × Text × Place). r.2))
    (find_behind (λ (r : Text × Text × Place). str_eq_ignore_ascii_case r.0 c.args.name.now
    && str_eq_ignore_ascii_case r.1 c.args.more.now) (λ r. (r.0.now, r.1.now, r.2)) _
    c.loop-place.place-index _ (omega arith) (sym c.are_same_names.ensures ∙ c.if-are_same_names.false))
