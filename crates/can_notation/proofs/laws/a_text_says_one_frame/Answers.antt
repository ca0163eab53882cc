use Rattle.std.proofs.Common.{sym, ◌∙◌}
use Rattle.can_frame.specs.Frame.{FrameValue, IsFrame}
use Rattle.can_frame.proofs.FrameLemmas.{same_frame}
use Rattle.can_notation.specs.Text.{rest_text}
use Rattle.can_notation.specs.Faults.{behind_hash}
use Rattle.can_notation.specs.Rest.{IsRest}
use Rattle.can_notation.proofs.IdentifierLemmas.{fits_digits, identifier_text-injective}
use Rattle.can_notation.proofs.RestLemmas.{rest-injective}
use Rattle.can_notation.proofs.HashLemmas.{parts}
use Rattle.can_notation.proofs.laws.a_text_says_one_frame.Goals as goal

-- kind, DLC and data bytes of a frame
is_rest : (f : FrameValue) → IsFrame f → IsRest f.rtr f.dlc f.bytes
is_rest f valid = record { dlc_small = valid.dlc; count = valid.count; fit = valid.bytes }

pub returns : goal.returns
returns c = λ said f g valid_f valid_g says_f says_g.
    let (_, front_f, back_f) = parts said f.ext f.id (rest_text f.rtr f.dlc f.bytes) says_f in
    let (_, front_g, back_g) = parts said g.ext g.id (rest_text g.rtr g.dlc g.bytes) says_g in
    let (ext, id) = identifier_text-injective f.ext g.ext f.id g.id (fits_digits f.ext f.id valid_f.id)
    (fits_digits g.ext g.id valid_g.id) (sym front_f ∙ front_g) in
    let (rtr, dlc, bytes) = rest-injective (behind_hash said) f.rtr g.rtr f.dlc g.dlc f.bytes g.bytes
    (is_rest f valid_f) (is_rest g valid_g) back_f back_g in
    same_frame f g ext id rtr dlc bytes
