use Rattle.std.proofs.Common.{rules, ◌≡◌, ◌==◌, ◌&&◌, ℕ, sym, subst}
use Rattle.std.specs.List.{AllZip}
use Rattle.sja_plan_reading.specs.Inside.Views.{document_view}
use Rattle.sja_plan_reading.specs.Checks.{HasFewStrikes}
use Rattle.sja_plan_reading.specs.PlacedTexts.{SaysItem}
use Rattle.sja_plan_reading.specs.Texts.{IsFirstBad}
use Rattle.sja_plan_reading.proofs.checks.items.Goals as goal

pub returns-in-Ok-clause-ok : goal.returns-in-Ok-clause-ok
returns-in-Ok-clause-ok c =
    rw (c.as_slice-2.ensures.value, c.within_of.ensures, c.has_places.ensures, sym c.requires.version)
    at c.in-Ok.ensures.ok

pub returns-in-Err-Bad-clause-err : goal.returns-in-Err-Bad-clause-err
returns-in-Err-Bad-clause-err c = λ before.
    let few : HasFewStrikes (document_view c.args.document.now) = search rules in
    let bad = c.in-Err-Bad.ensures.err in (
      (before, few),
      rw (
        c.as_slice-2.ensures.value,
        c.within_of.ensures,
        c.has_places.ensures,
        sym c.requires.version,
        c.in-Err-Bad.field-0-is,
      ) at bad,
    )
