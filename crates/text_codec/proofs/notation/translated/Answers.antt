use Rattle.std.proofs.Common.{rules, ℕ, List, subst}
use Rattle.can_notation.specs.declared.notation_fault.NotationFault.TheVariants.{Data}
use Rattle.text_codec.specs.declared.command_refusal.CommandRefusal.TheVariants.{Notation}
use Rattle.text_codec.specs.Given.{RefusesGiven}
use Rattle.text_codec.proofs.Reading.Translations.{from_notation, no_data}
use Rattle.text_codec.proofs.notation.translated.Goals as goal

pub returns-in_ok-text_of_bytes-in-Ok-clause-ok : goal.returns-in_ok-text_of_bytes-in-Ok-clause-ok
returns-in_ok-text_of_bytes-in-Ok-clause-ok c =
    from_notation _ _ c.in-Ok.frame (search rules) (search rules) (search rules)

pub returns-in-Err-Data-clause-err : goal.returns-in-Err-Data-clause-err
returns-in-Err-Data-clause-err c =
    let h = c.in-Err-Data.ensures.rest.0 (search rules) in
    subst (λ (g : List ℕ). RefusesGiven g (Notation Data)) c.as_bytes.ensures.value (no_data _ h.0 h.1 h.2)
