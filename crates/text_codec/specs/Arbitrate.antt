-- What `arbitrate` prints and refuses (this project's own rule; the place codes are those of the SJA1000 data sheet,
-- 6.4.8).
use Rattle.std.specs.Prelude.{◌≡◌, ◌⊎◌, ℕ, List, [], ◌∷◌, ◌++◌, Option, Some, None, codes, decimal}
use Rattle.std.specs.List.{AllZip, flat_map}
use Rattle.can_frame.specs.Frame.{FrameValue}
use Rattle.can_node_rules.specs.Contending.{IsContention}
use Rattle.text_codec.specs.Given.{Gives, RefusesGiven}
use Rattle.text_codec.specs.declared.command_refusal.CommandRefusal.{CommandRefusal}
use Rattle.text_codec.specs.declared.command_refusal.CommandRefusal.TheVariants.{OutOfMemory}

-- the place code where a frame loses, in decimal, or `-` where it goes on, and a line feed
abbrev pub place_line : Option ℕ → List ℕ
place_line None = codes "-" ++ 10 ∷ []
place_line (Some place) = decimal place ++ 10 ∷ []

-- a line a frame
abbrev pub places_text : List (Option ℕ) → List ℕ
places_text places = flat_map place_line places

-- the text tells, in their order, what becomes of the frames that are given, if their transmitters start
-- together
abbrev pub IsArbitration : List (List ℕ) → List ℕ → Type 0
IsArbitration messages text =
    (fs : List FrameValue) × (places : List (Option ℕ)) × AllZip Gives messages fs × IsContention fs places
    × (text ≡ places_text places)

-- this one is refused, and those before it give frames
pub record RefusesFirst (messages : List (List ℕ)) (refusal : CommandRefusal) : Type 0 where
  pub before : List (List ℕ)
  pub text : List ℕ
  pub after : List (List ℕ)
  pub whole : messages ≡ before ++ text ∷ after
  pub frames : List FrameValue
  pub given : AllZip Gives before frames
  pub refused : RefusesGiven text refusal

-- memory may be refused at any time; else why the first of them is refused that is, from left to right
abbrev pub RefusesMessages : List (List ℕ) → CommandRefusal → Type 0
RefusesMessages messages refusal = (refusal ≡ OutOfMemory) ⊎ RefusesFirst messages refusal
