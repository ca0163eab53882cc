use Rattle.sja_page.proofs.Saying.{left, shown, turned}
use Rattle.sja_page.proofs.page.answered.Goals as goal
use Rattle.std.proofs.Common.{◌∙◌, Some, ap, inl}

-- src/page.rt:29:1
pub returns : goal.returns
returns c =
    let none = ap (λ o. o.writer.items) c.new-out.ensures ∙ c.new.ensures.items in
    let blank = ap (λ o. o.writer.items) c.new-err.ensures ∙ c.new-2.ensures.items in
    let printed = c.as_slice.ensures.value in
    let told = c.as_slice-2.ensures.value in
    let said = c.in-Ok.ensures in
    inl (
      c.in-Ok.status,
      c.as_slice.result.now,
      c.as_slice-2.result.now,
      record {
        answered = λ r parses alone. (
          Some c.sja_alone.new.input.now,
          shown r c.in-Ok.status _ _ _ _ _ _ _ _ none blank printed told
              (said.answered r parses alone c.if-out.false c.if-err.false),
        );
        unparsed = λ no. (
          turned c.in-Ok.status _ _ _ blank told (said.unparsed no c.if-out.false c.if-err.false),
          printed ∙ ap (λ o. o.writer.items) (said.untouched no) ∙ none,
        );
        over = λ r parses over.
            let kept = said.threads r parses over in (
              left c.in-Ok.status _ _ _ _ c.if-err.false blank told kept.0,
              printed ∙ ap (λ o. o.writer.items) kept.2 ∙ none,
            );
      },
      c.put_texts.ensures,
    )
