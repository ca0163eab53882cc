use Rattle.std.proofs.Common.{◌≡◌, Result, Option, Some, option_map, sym, ap, subst, ◌∙◌, ℕ, List, Vec, Global}
use Rattle.sja_run.specs.Expected.{HasReport}
use Rattle.sja_run.specs.Inside.FileReads.{IsMetBy}
use Rattle.sja_run.specs.declared.file_outcome.FileOutcome.{FileOutcome}
use Rattle.sja_run.specs.declared.file_outcome.FileOutcome.TheVariants.{Told}
use Rattle.sja_run.proofs.expected.met_by.Goals as goal

-- the first difference is told
pub returns-in-Ok-Some : goal.returns-in-Ok-Some
returns-in-Ok-Some g c =
    let items = λ (v : Vec ℕ Global). v.items in
    let said = c.in-Ok-Some.said in
    subst (λ (r : Result (Vec ℕ Global) FileOutcome). IsMetBy items c.args.threads c.args.report.now r (Told said))
    (sym c.in-Ok.is)
    (subst (λ (bytes : List ℕ). HasReport c.args.threads bytes c.args.report.now (Some said.items))
    c.as_slice.ensures.value
    (subst (λ (o : Option (Vec ℕ Global)). HasReport c.args.threads c.as_slice.result.now c.args.report.now
    (option_map items o)) c.in-Ok-Some.field-0-is c.in-Ok-Some.ensures.ok))
