use Rattle.std.proofs.Common.{◌≡◌, ◌∙◌, true, map, sym}
use Rattle.sja_plan_text.specs.Names.{are_named}
use Rattle.sja_plan_text.proofs.Spelling.Gathered.{joined_by_bars}
use Rattle.sja_plan_text.proofs.names.names_or_digits.Goals as goal

pub returns-in_ok-join : goal.returns-in_ok-join
returns-in_ok-join c =
    let named : are_named (map (λ name. name.now) c.args.set.now) ≡ true =
    sym c.are_named.ensures ∙ c.if-are_named.true in
    rw named (c.in_ok-join.ensures.ok ∙ joined_by_bars c.args.set.now)
