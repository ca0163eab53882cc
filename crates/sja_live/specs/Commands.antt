-- What a line of `sja live` asks for (this project's own rule). Words stand with one space between two; numbers,
-- addresses, values, messages and steps are spelled as in a plan of the session's version, but for the bit of a strike
-- of a session without an end.
use Rattle.std.specs.Prelude.{◌≡◌, ◌≤◌, ℕ, Bool, Option, Some, None, true, List, [], ◌∷◌, ◌++◌, codes, length}
use Rattle.std.specs.Prelude.{nat_lt, if◌then◌else◌}
use Rattle.std.specs.Str.{all_ascii_digits}
use Rattle.std.specs.Str.Parse.{digits_value}
use Rattle.sja_live.specs.declared.live_command.LiveCommand.{LiveCommand}
use Rattle.sja_live.specs.declared.live_command.LiveCommand.TheVariants.{Step, Read, Write, Run, Rest, Line, Strike}
use Rattle.sja_live.specs.declared.live_command.LiveCommand.TheVariants.{Answer, Bits, Plan, End, To, PlaceOf}
use Rattle.sja_plan_reading.specs.Accesses.{SpellsAddress, SpellsValue}
use Rattle.sja_plan.specs.Limits.{most_bits}
use Rattle.sja_plan.specs.Plan.{PlanValue}
use Rattle.sja_plan_reading.specs.PlaceNames.{place_of_word, place_of_words}
use Rattle.sja_plan.specs.declared.place.Place.{Place}
use Rattle.sja_plan_reading.specs.StepTexts.{AreStepWords}
use Rattle.sja_plan_reading.specs.Words.{Text, words, greatest, SpellsWithin, SpellsNode}
use Rattle.sja_session.specs.Sessions.{SessionValue}

-- ---- the forms of a line

-- `step`, the node, and the words of the step
abbrev pub IsStepLine : List Text → Text → List Text → Type 0
IsStepLine ws k rest = ws ≡ codes "step" ∷ k ∷ rest

-- `read`, the node and the address
abbrev pub IsReadLine : List Text → Text → Text → Type 0
IsReadLine ws k a = ws ≡ codes "read" ∷ k ∷ a ∷ []

-- `write`, the node, the address and the byte
abbrev pub IsWriteLine : List Text → Text → Text → Text → Type 0
IsWriteLine ws k a v = ws ≡ codes "write" ∷ k ∷ a ∷ v ∷ []

-- `run` and how many bits
abbrev pub IsRunLine : List Text → Text → Type 0
IsRunLine ws n = ws ≡ codes "run" ∷ n ∷ []

-- `strike`, the node and the bit
abbrev pub IsStrikeLine : List Text → Text → Text → Type 0
IsStrikeLine ws k b = ws ≡ codes "strike" ∷ k ∷ b ∷ []

-- `answer` and the node
abbrev pub IsAnswerLine : List Text → Text → Type 0
IsAnswerLine ws k = ws ≡ codes "answer" ∷ k ∷ []

-- `place` and the node
abbrev pub IsPlaceLine : List Text → Text → Type 0
IsPlaceLine ws k = ws ≡ codes "place" ∷ k ∷ []

-- the words of a place: one or two
pub data ArePlaceWords : List Text → Option Place → Type 0 where
  one : (p : Text) → ArePlaceWords (p ∷ []) (place_of_word p)
  two : (p q : Text) → ArePlaceWords (p ∷ q ∷ []) (place_of_words p q)

-- `to`, the node, the words of what may be a place, and how many bits at most
pub record IsToLine (ws : List Text) (k : Text) (place : Option Place) (n : Text) : Type 0 where
  pub names : List Text
  pub are : ArePlaceWords names place
  pub whole : ws ≡ codes "to" ∷ k ∷ (names ++ n ∷ [])

-- ---- what a line asks for

-- how many digits spell a bit at most, with an end or without one: as many as any number, or any bit there is
abbrev pub most_digits : Bool → ℕ
most_digits endless = if endless then 19 else 7

-- the word spells this bit with one to so many decimal digits; zeros may lead
pub record SpellsBit (endless : Bool) (word : Text) (bit : ℕ) : Type 0 where
  pub some : 1 ≤ length word
  pub few : length word ≤ most_digits endless
  pub digits : all_ascii_digits word ≡ true
  pub value : bit ≡ digits_value 10 word

-- by this version of the rules, of a session without an end or with one, of so many nodes, these words ask for this
abbrev pub AreCommandWords : ℕ → Bool → ℕ → List Text → LiveCommand → Type 0
AreCommandWords version endless nodes ws (Step node step) =
    (k : Text) × (rest : List Text) × IsStepLine ws k rest × SpellsNode nodes k node × AreStepWords version rest step
AreCommandWords version endless nodes ws (Read node address) =
    (k a : Text) × IsReadLine ws k a × SpellsNode nodes k node × SpellsAddress version a address
AreCommandWords version endless nodes ws (Write node address value) =
    (k a v : Text) × IsWriteLine ws k a v × SpellsNode nodes k node × SpellsAddress version a address
    × SpellsValue version address v value
AreCommandWords version endless nodes ws (Run count) = (n : Text) × IsRunLine ws n × SpellsWithin 0 greatest n count
AreCommandWords version endless nodes ws Rest = ws ≡ codes "rest" ∷ []
AreCommandWords version endless nodes ws Line = ws ≡ codes "line" ∷ []
AreCommandWords version endless nodes ws (Strike node bit) =
    (k b : Text) × IsStrikeLine ws k b × SpellsNode nodes k node × SpellsBit endless b bit
AreCommandWords version endless nodes ws (Answer node) = (k : Text) × IsAnswerLine ws k × SpellsNode nodes k node
AreCommandWords version endless nodes ws (To node place limit) =
    (k n : Text) × IsToLine ws k (Some place) n × SpellsNode nodes k node × SpellsWithin 0 greatest n limit
AreCommandWords version endless nodes ws (PlaceOf node) = (k : Text) × IsPlaceLine ws k × SpellsNode nodes k node
AreCommandWords version endless nodes ws Bits = ws ≡ codes "bits" ∷ []
AreCommandWords version endless nodes ws Plan = ws ≡ codes "plan" ∷ []
AreCommandWords version endless nodes ws End = ws ≡ codes "end" ∷ []

-- a session that goes by such a plan is without an end
abbrev pub lacks_end : PlanValue → Bool
lacks_end p = nat_lt (most_bits p.version) p.bits

-- the line asks for this, of this session
abbrev pub AsksFor : SessionValue → Text → LiveCommand → Type 0
AsksFor s line command =
    AreCommandWords s.plan.version (lacks_end s.plan) (length s.plan.nodes) (words line) command
