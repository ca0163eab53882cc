use Rattle.std.proofs.Common.{◌≡◌, ℕ, Bor, List, length, sym, ap, subst, arith}
use Rattle.std.proofs.lemmas.List.{length-map}
use Rattle.sja_plan.specs.Limits.{most_turns}
use Rattle.sja_plan_reading.specs.Inside.Views.{document_view}
use Rattle.sja_plan_reading.specs.TurnTexts.{SaysTurn}
use Rattle.sja_plan_reading.specs.Checks.{HasFewTurns}
use Rattle.sja_plan_reading.specs.Texts.{IsFirstBad}
use Rattle.sja_plan_reading.proofs.checks.turns.Goals as goal

pub returns-in-Ok-clause-ok : goal.returns-in-Ok-clause-ok
returns-in-Ok-clause-ok c = rw (c.as_slice.ensures.value, c.within_of.ensures) at c.in-Ok.ensures.ok

pub returns-in-Err-Bad-clause-err : goal.returns-in-Err-Bad-clause-err
returns-in-Err-Bad-clause-err c = λ before.
    let d = document_view c.args.document.now in
    let few : HasFewTurns d = omega (
      arith,
      c.if-len-most_turns.false,
      c.len.ensures,
      c.most_turns.ensures.value,
      ap most_turns c.requires.version,
      length-map c.args.document.now.turns.items (λ (s : Bor (List ℕ)). s.now),
    ) in
    let said = c.in-Err-Bad.ensures.err in
    let bad = rw (c.as_slice.ensures.value, c.within_of.ensures, c.in-Err-Bad.field-0-is) at said in (
      (before, few),
      subst (λ (v : ℕ). IsFirstBad (SaysTurn v (length d.nodes)) d.turns c.in-Err-Bad.number)
          (sym c.requires.version) bad,
    )
