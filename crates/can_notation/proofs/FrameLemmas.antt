-- Frames from what stands before a `#` and behind it.
use Rattle.std.proofs.Common.{◌≡◌, ◌≢◌, ◌<◌, ◌∙◌, ℕ, Bool, true, List, [], refl, sym, ap, arith}
use Rattle.std.proofs.lemmas.List.Elements.{All-nil}
use Rattle.can_frame.specs.Frame.{FrameValue, IsFrame, id_limit}
use Rattle.can_notation.specs.Digits.{capitals}
use Rattle.can_notation.specs.Text.{identifier_text, rest_text, Says}
use Rattle.can_notation.specs.Faults.{HasHash, HasIdentifier, HasRest, before_hash, behind_hash}
use Rattle.can_notation.specs.Rest.{IsRest}
use Rattle.can_notation.proofs.HashLemmas.{joined}

-- the frame of five values
abbrev pub frame_of : Bool → ℕ → Bool → ℕ → List ℕ → FrameValue
frame_of ext id rtr dlc bytes = record { ext = ext; id = id; rtr = rtr; dlc = dlc; bytes = bytes }

-- an identifier and a rest are those of a frame
is_frame : (ext : Bool) (id : ℕ) (rtr : Bool) (dlc : ℕ) (bytes : List ℕ) → id < id_limit ext → IsRest rtr dlc bytes →
    IsFrame (frame_of ext id rtr dlc bytes)
is_frame ext id rtr dlc bytes few is = record { id = few; dlc = is.dlc_small; count = is.count; bytes = is.fit }

-- what stands before the `#` is an identifier
pub has_identifier : (said before : List ℕ) (ext : Bool) (id : ℕ) → before ≡ before_hash said → id < id_limit ext →
    capitals before ≡ identifier_text ext id → HasIdentifier said
has_identifier said before ext id is few e =
    let none : IsRest true 0 [] =
    record { dlc_small = omega arith; count = refl; fit = All-nil (λ byte. byte < 256) } in
    (frame_of ext id true 0 [], is_frame ext id true 0 [] few none, ap capitals (sym is) ∙ e)

-- it is none
pub no_identifier : (said before : List ℕ) → before ≡ before_hash said →
    ((ext : Bool) (id : ℕ) → id < id_limit ext → capitals before ≢ identifier_text ext id) → ¬ HasIdentifier said
no_identifier said before is none (f, valid, e) = none f.ext f.id valid.id (ap capitals is ∙ e)

-- what stands behind the `#` is the rest of no frame
pub no_rest : (said behind : List ℕ) → behind ≡ behind_hash said →
    ((rtr : Bool) (dlc : ℕ) (bytes : List ℕ) → IsRest rtr dlc bytes → capitals behind ≢ rest_text rtr dlc bytes) →
    ¬ HasRest said
no_rest said behind is none (f, valid, e) =
    none f.rtr f.dlc f.bytes (record { dlc_small = valid.dlc; count = valid.count; fit = valid.bytes })
    (ap capitals is ∙ e)

-- both are there, and so the text says their frame
pub says_frame : (said before behind : List ℕ) (ext : Bool) (id : ℕ) (rtr : Bool) (dlc : ℕ) (bytes : List ℕ) →
    HasHash said → before ≡ before_hash said → behind ≡ behind_hash said → id < id_limit ext →
    capitals before ≡ identifier_text ext id → IsRest rtr dlc bytes → capitals behind ≡ rest_text rtr dlc bytes →
    IsFrame (frame_of ext id rtr dlc bytes) × Says said (frame_of ext id rtr dlc bytes)
says_frame said before behind ext id rtr dlc bytes has is_before is_behind few front is back = (
  is_frame ext id rtr dlc bytes few is,
  joined said (identifier_text ext id) (rest_text rtr dlc bytes) has (ap capitals (sym is_before) ∙ front)
      (ap capitals (sym is_behind) ∙ back),
)
