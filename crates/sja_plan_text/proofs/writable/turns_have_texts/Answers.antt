use Rattle.std.proofs.Common.{rules, ◌≤◌, length, refl, IsTrue, arith}
use Rattle.std.proofs.lemmas.List.Elements.{All-more}
use Rattle.sja_plan_text.specs.HasTexts.{HasTurnText}
use Rattle.sja_plan_text.proofs.Tables.Lists.{all_taken}
use Rattle.sja_plan_text.proofs.writable.turns_have_texts.Goals as goal

pub loop-turn-preserved : goal.loop-turn-preserved
loop-turn-preserved c =
    let said : IsTrue c.has_turn_text.result = search rules in
    All-more (HasTurnText c.args.version) c.args.turns.now c.loop-turn.turn-index _
    (omega (arith, c.loop-turn-test.true)) c.loop-turn.invariant (c.has_turn_text.ensures.0 said)

pub returns : goal.returns
returns c =
    let past : length c.args.turns.now ≤ c.loop-turn.turn-index = omega (arith, c.loop-turn-test.false) in (
      λ _. all_taken (HasTurnText c.args.version) c.args.turns.now c.loop-turn.turn-index past c.loop-turn.invariant,
      λ _. refl,
    )
