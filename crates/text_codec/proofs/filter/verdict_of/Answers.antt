use Rattle.std.proofs.Common.{◌≡◌, true, false, refl, sym, ◌∙◌, inr}
use Rattle.text_codec.proofs.filter.verdict_of.Goals as goal

pub returns-else-passes : goal.returns-else-passes
returns-else-passes c = inr (
  (λ passes.
      let bad : true ≡ false = sym (c.passes.ensures.1 passes) ∙ c.if-passes.false in
      cc),
  refl,
)
