use Rattle.std.proofs.Common.{rules, ◌≡◌, ◌∙◌, ◌<◌, ◌+◌, ◌/◌, ◌++◌, [], ◌∷◌, length, drop, sym, ap, subst}
use Rattle.std.proofs.lemmas.List.{map-append}
use Rattle.sja_plan_text.specs.Names.{set_names}
use Rattle.sja_plan_text.proofs.Spelling.Gathered.{texts, one_set, none_set}
use Rattle.sja_plan_text.proofs.names.set_names.Goals.{then-rest-eq1+in_ok-push, else-rest-eq1}
use Rattle.sja_plan_text.proofs.names.set_names.Goals as goal

pub loop-name-preserved : goal.loop-name-preserved
loop-name-preserved c =
    let names = c.args.names.now in
    let i = c.loop-name.name-index in
    let rest = c.loop-name.rest in
    let done = c.loop-name.set.items in
    let all = set_names (texts names) c.args.value in
    let within : i < length names = search rules in
    elim c.if-rest-eq1.branch [
      | then-rest-eq1+in_ok-push w ↦
          let items = ap (λ s. s.items) w.set-is ∙ w.in_ok-push.ensures.items in
          subst (λ l. all ≡ l ++ set_names (texts (drop (i + 1) names)) (rest / 2))
          (sym (ap texts items ∙ map-append (λ name. name.now) done (_ ∷ [])))
          (one_set names i rest (texts done) all _ within w.if-rest-eq1.true c.loop-name.invariant)
      | else-rest-eq1 w ↦
          subst (λ s. all ≡ texts s.items ++ set_names (texts (drop (i + 1) names)) (rest / 2)) (sym w.set-is)
          (none_set names i rest (texts done) all (record { ref_ptr = (0, 0); now = [] }) within
          w.if-rest-eq1.false c.loop-name.invariant)
    ]
