use Rattle.std.proofs.Common.{arith, ◌∙◌}
use Rattle.text_codec.proofs.Reading.Symbols.{no_levels}
use Rattle.text_codec.proofs.line_text.levels_of.Goals as goal

-- this character is the digit of no level
pub returns-in_default-clause-err : goal.returns-in_default-clause-err
returns-in_default-clause-err c = λ l reads.
    let other = c.in_default.ensures.every in
    no_levels c.as_bytes-digit-items.result.now c.loop-digit.digit-index (omega arith)
    (λ level is. cc (other level is)) l (c.as_bytes-digit-items.ensures.value ∙ reads)
