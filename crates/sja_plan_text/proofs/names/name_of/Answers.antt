use Rattle.std.proofs.Common.{◌≡◌, ◌∙◌, Some, None, option_map, map, refl, sym, ap}
use Rattle.sja_plan_text.specs.Names.{name_in}
use Rattle.sja_plan_text.proofs.names.name_of.Goals as goal

pub returns-in-Some : goal.returns-in-Some
returns-in-Some c =
    let here : name_in (map (λ r. (r.0.now, r.1)) c.args.rows.now) c.args.address ≡ Some c.in-Some.name.now =
    sym c.name_in.ensures ∙ ap (option_map (λ name. name.now)) c.in-Some.is in
    rw here refl

pub returns-in-None : goal.returns-in-None
returns-in-None c =
    let none : name_in (map (λ r. (r.0.now, r.1)) c.args.rows.now) c.args.address ≡ None =
    sym c.name_in.ensures ∙ ap (option_map (λ name. name.now)) c.in-None.is in
    rw none c.name_in-in-None.ensures
