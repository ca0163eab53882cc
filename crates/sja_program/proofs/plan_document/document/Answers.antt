use Rattle.std.proofs.Common.{sym, ◌∙◌, inl, inr, refl}
use Rattle.sja_program.proofs.plan_document.document.Goals as goal

-- the document is too long for its version
pub returns-in-Err-TooLong-clause-err : goal.returns-in-Err-TooLong-clause-err
returns-in-Err-TooLong-clause-err c = elim c.in-Err-TooLong.ensures.err [
  | inl none ↦ let e = sym c.in-Err-TooLong.field-0-is ∙ none in cc
  | inr long ↦ (refl, long.1)
]
