use Rattle.std.proofs.Common.{◌≡◌, Bor, List, ℕ, map, sym, ap, ◌∙◌}
use Rattle.sja_run.specs.Difference.{lines_in}
use Rattle.sja_run.proofs.LinesCompared.{same_text}
use Rattle.sja_run.proofs.difference.difference.Goals as goal

-- the same lines are of the same text
pub returns : goal.returns
returns c =
    let texts = map (λ (line : Bor (List ℕ)). line.now) in
    same_text c.args.report.now c.args.expected.now
    (sym c.in_ok-printed.ensures ∙ sym (ap texts c.as_slice.ensures.value)
    ∙ c.first_other.ensures.same c.in-None.is ∙ ap texts c.as_slice-2.ensures.value ∙ c.in_ok-wanted.ensures)
