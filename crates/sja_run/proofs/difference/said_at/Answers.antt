use Rattle.std.proofs.Common.{rules, ◌≡◌, string_bytes, Bor, List, ℕ, Option, option_map, map, take, codes, ap, ap₂}
use Rattle.std.proofs.Common.{◌∙◌}
use Rattle.sja_run.specs.Difference.{line_said, step_behind}
use Rattle.sja_run.proofs.LinesCompared.{said_is, take_texts}
use Rattle.sja_run.proofs.difference.said_at.Goals as goal

pub returns : goal.returns
returns c =
    let texts = map (λ (line : Bor (List ℕ)). line.now) in
    let said = λ (line : Option (Bor (List ℕ))). option_map (λ (l : Bor (List ℕ)). l.now) line in
    let is = c.line_at-is.ensures in
    let wanted = c.line_at-wanted.ensures in
    let head : c.into_bytes-text.result.items ≡ string_bytes c.in_ok-format.field-0 = search rules in
    said_is _ _ _ _ _ _ _ _ _ _ _ (head ∙ c.in_ok-format.ensures.ok)
    c.in_ok-put_line.ensures (ap (line_said (codes "expected: ")) wanted)
    c.in_ok-put_line-2.ensures (ap (line_said (codes "printed:  ")) is)
    c.in_ok-extend_from_slice.ensures.items
    (c.as_bytes.ensures.value ∙ c.in_ok-step.ensures
    ∙ ap (λ l. step_behind c.args.plan.now l (said c.line_at-is.result) (said c.line_at-wanted.result))
    (take_texts c.args.place c.args.printed.now)
    ∙ ap₂ (λ (a b : Option (List ℕ)). step_behind c.args.plan.now (take c.args.place (texts c.args.printed.now)) a b)
    is wanted)
