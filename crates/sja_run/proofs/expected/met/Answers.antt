use Rattle.std.proofs.Common.{inl, refl, subst, ℕ, Vec, Global}
use Rattle.sja_run.specs.Inside.FileReads.{IsMetBy}
use Rattle.sja_run.proofs.FilesDone.ReportsMet.{met_from}
use Rattle.sja_run.proofs.expected.met.Goals as goal

-- the report was read, and then the plan
pub returns-in-Ok : goal.returns-in-Ok
returns-in-Ok g c =
    let items = λ (v : Vec ℕ Global). v.items in
    let read = c.read_file-read.result in
    let outcome = c.met_by-outcome.result in
    inl (
      c.in-Ok.report.items,
      c.in-Ok.ensures.held,
      refl,
      met_from items (g.F.Sources.holds c.args.sources.now) c.args.words.threads c.in-Ok.report.items
          c.args.words.plan.now _ _ read outcome c.read_file-read.ensures
          (subst (λ expected. IsMetBy items c.args.words.threads expected read outcome) c.as_slice.ensures.value
          c.met_by-outcome.ensures),
    )
