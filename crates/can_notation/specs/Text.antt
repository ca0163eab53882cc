-- The text of a frame (can-utils, the notation of cansend and candump), as byte values.
use Rattle.std.specs.Prelude.{◌≡◌, ◌==◌, ℕ, Bool, true, false, nat_lt, min, if◌then◌else◌}
use Rattle.std.specs.Prelude.{List, [], ◌∷◌, ◌++◌}
use Rattle.std.specs.List.{flat_map}
use Rattle.can_frame.specs.Frame.{FrameValue}
use Rattle.can_notation.specs.Digits.{digit_of, digits_of, capitals}

-- `#`, between the identifier and the rest
abbrev pub hash : ℕ
hash = 35

-- `R`, which says that the frame is a remote frame
abbrev pub remote_mark : ℕ
remote_mark = 82

-- `_`, in front of a DLC of 9 to 15
abbrev pub dlc_mark : ℕ
dlc_mark = 95

-- how many digits an identifier has, by the format
abbrev pub identifier_digits : Bool → ℕ
identifier_digits false = 3
identifier_digits true = 8

-- the identifier, by the format
abbrev pub identifier_text : Bool → ℕ → List ℕ
identifier_text ext id = digits_of (identifier_digits ext) id

-- data bytes, two digits each
abbrev pub data_text : List ℕ → List ℕ
data_text bytes = flat_map (λ byte. digits_of 2 byte) bytes

-- how many bytes a remote frame asks for, as one digit, and nothing where these are none
abbrev pub count_text : ℕ → List ℕ
count_text count = if count == 0 then [] else digit_of count ∷ []

-- the DLC where it is 9 to 15, which the number of bytes doesn't tell
abbrev pub long_dlc_text : ℕ → List ℕ
long_dlc_text dlc = if nat_lt 8 dlc then dlc_mark ∷ digit_of dlc ∷ [] else []

-- what stands for the data, by the kind: the data bytes, or `R` with the count that the DLC stands for
abbrev pub body_text : Bool → ℕ → List ℕ → List ℕ
body_text false dlc bytes = data_text bytes
body_text true dlc bytes = remote_mark ∷ count_text (min dlc 8)

-- what stands behind the `#`, from kind, DLC and data bytes
abbrev pub rest_text : Bool → ℕ → List ℕ → List ℕ
rest_text rtr dlc bytes = body_text rtr dlc bytes ++ long_dlc_text dlc

-- the text of a frame
abbrev pub text : FrameValue → List ℕ
text f = identifier_text f.ext f.id ++ hash ∷ rest_text f.rtr f.dlc f.bytes

-- a text says a frame: with its letters turned to capitals it is the frame's text (this project's own rule)
abbrev pub Says : List ℕ → FrameValue → Type 0
Says said f = capitals said ≡ text f
