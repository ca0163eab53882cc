use Rattle.std.proofs.Common.{rules, ◌≤◌, length, refl, IsTrue, arith}
use Rattle.std.proofs.lemmas.List.Elements.{All-more}
use Rattle.sja_plan_text.specs.HasTexts.{HasStrikeText}
use Rattle.sja_plan_text.proofs.Tables.Lists.{all_taken}
use Rattle.sja_plan_text.proofs.writable.strikes_have_texts.Goals as goal

pub loop-strike-preserved : goal.loop-strike-preserved
loop-strike-preserved c =
    let said : IsTrue c.has_strike_text.result = search rules in
    All-more HasStrikeText c.args.strikes.now c.loop-strike.strike-index _ (omega (arith, c.loop-strike-test.true))
    c.loop-strike.invariant (c.has_strike_text.ensures.0 said)

pub returns : goal.returns
returns c =
    let past : length c.args.strikes.now ≤ c.loop-strike.strike-index = omega (arith, c.loop-strike-test.false) in (
      λ _. all_taken HasStrikeText c.args.strikes.now c.loop-strike.strike-index past c.loop-strike.invariant,
      λ _. refl,
    )
