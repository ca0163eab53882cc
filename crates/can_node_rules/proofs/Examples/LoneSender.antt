-- A record and its cut: a node starts, takes a request, waits for eleven recessive levels, and sends its frame alone on
-- the bus. Nobody acknowledges it.
use Rattle.std.proofs.Common.{◌≡◌, false, List, [], ◌++◌, replicate, refl, ap, sym, subst, ◌∙◌, arith}
use Rattle.can_levels.specs.declared.level.Level.{Level}
use Rattle.can_levels.specs.declared.level.Level.TheVariants.{Dominant}
use Rattle.can_levels.specs.Digits.{bits, value}
use Rattle.can_levels.specs.Stuffing.{Stuffed}
use Rattle.can_levels.specs.Body.{sent_body}
use Rattle.can_node_rules.specs.declared.request.Request.{Request}
use Rattle.can_node_rules.specs.Frames.{SentPart}
use Rattle.can_node_rules.specs.WorkedReception.{zero_frame, five}
use Rattle.can_levels.proofs.Computed.{stuffed_by}
use Rattle.can_node_rules.proofs.Transmission.SentLines.{sent_part_by}

-- a request to send the standard data frame with the identifier 0 and no bytes
abbrev pub asked : Request
asked = record {
  frame = zero_frame;
  single_shot = false;
  self_receive = false;
}

-- its CRC sequence
abbrev pub zeros : List Level
zeros = replicate 15 Dominant

-- its stuffed part: 34 dominant levels with six stuff bits
abbrev pub part : List Level
part = five ++ (five ++ (five ++ (five ++ (five ++ (five ++ replicate 4 Dominant)))))

-- the body is nothing but dominant
body_zeros : sent_body asked.frame ++ zeros ≡ replicate 34 Dominant
unfolding bits
body_zeros = refl

-- so it is no more than 0
value_zero : value (replicate 34 Dominant) ≡ 0
value_zero = refl

-- it is the part that a transmitter sends
pub part_sent : SentPart asked.frame zeros part
part_sent =
    sent_part_by asked.frame zeros part
    (record { id = omega arith; dlc = omega arith; count = refl; bytes = λ k d less. absurd (omega (arith, less)) })
    (record { count = refl; divides = ([], ap value body_zeros ∙ value_zero) })
    (subst (λ w. Stuffed w part) (sym body_zeros)
    (stuffed_by (replicate 34 Dominant) part 4 refl refl (omega arith) refl))
