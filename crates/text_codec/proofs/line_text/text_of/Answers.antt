use Rattle.std.proofs.Common.{◌≡◌, ℕ, List, length, arith, rules}
use Rattle.std.proofs.lemmas.List.{length-append}
use Rattle.text_codec.proofs.line_text.text_of.Goals as goal

as_long : (text whole : List ℕ) → length text ≡ length whole → text ≡ whole → text ≡ whole
as_long text whole long same = same

-- how long it is is asked first, so that a text that is shorter is refused by values
pub returns : goal.returns
returns c = as_long _ _ (grind (arith, length-append)) (search rules)
