use Rattle.std.proofs.Common.{◌∷◌, ◌++◌, ◌∙◌, ap₂, ap}
use Rattle.std.proofs.lemmas.List.{map-append}
use Rattle.can_notation.specs.Digits.{capital}
use Rattle.can_notation.specs.Text.{hash, identifier_digits, identifier_text, rest_text}
use Rattle.can_notation.proofs.DigitLemmas.{capitals-digits_of}
use Rattle.can_notation.proofs.RestLemmas.{capitals-rest_text}
use Rattle.can_notation.proofs.laws.every_frame_has_a_text.Goals as goal

pub returns : goal.returns
returns c = λ f valid.
    map-append capital (identifier_text f.ext f.id) (hash ∷ rest_text f.rtr f.dlc f.bytes)
    ∙ ap₂ (λ l r. l ++ r) (capitals-digits_of (identifier_digits f.ext) f.id)
    (ap (λ r. hash ∷ r) (capitals-rest_text f.rtr f.dlc f.bytes valid.dlc))
