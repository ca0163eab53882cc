-- Why a line of `sja live` asks for nothing (this project's own rule): the first mistake in it.
use Rattle.std.specs.Prelude.{◌≡◌, ◌⊎◌, ℕ, Bool, Option, Some, None, List, [], ◌∷◌, codes, length}
use Rattle.sja_live.specs.Commands.{IsStepLine, IsReadLine, IsWriteLine, IsRunLine, IsStrikeLine, IsAnswerLine}
use Rattle.sja_live.specs.Commands.{IsPlaceLine, IsToLine, SpellsBit, lacks_end}
use Rattle.sja_live.specs.declared.line_fault.LineFault.{LineFault}
use Rattle.sja_live.specs.declared.line_fault.LineFault.TheVariants.{Text as NoText, Command, Node, Number}
use Rattle.sja_live.specs.declared.line_fault.LineFault.TheVariants.{Address, Byte, Step, Place as PlaceWord}
use Rattle.sja_plan_reading.specs.Accesses.{SpellsAddress, SpellsValue}
use Rattle.sja_plan_reading.specs.StepTexts.{AreStepWords}
use Rattle.sja_plan.specs.declared.place.Place.{Place}
use Rattle.sja_plan_reading.specs.Words.{Text, words, greatest, SpellsWithin, SpellsNode}
use Rattle.sja_steps.specs.declared.step.Step.{Step as StepOf}
use Rattle.sja_session.specs.Sessions.{SessionValue}

-- ---- the words of a line

-- they are those of a command of a node, and this word says which
abbrev pub NamesNode : List Text → Text → Type 0
NamesNode ws k =
    ((rest : List Text) × IsStepLine ws k rest) ⊎ ((a : Text) × IsReadLine ws k a)
    ⊎ ((a v : Text) × IsWriteLine ws k a v) ⊎ ((b : Text) × IsStrikeLine ws k b) ⊎ IsAnswerLine ws k
    ⊎ IsPlaceLine ws k ⊎ ((place : Option Place) × (n : Text) × IsToLine ws k place n)

-- they are one word that stands alone
abbrev pub StandsAlone : List Text → Type 0
StandsAlone ws =
    (ws ≡ codes "rest" ∷ []) ⊎ (ws ≡ codes "line" ∷ []) ⊎ (ws ≡ codes "bits" ∷ [])
    ⊎ (ws ≡ codes "plan" ∷ []) ⊎ (ws ≡ codes "end" ∷ [])

-- they are those of a command, whatever the words behind its name spell
abbrev pub HasForm : List Text → Type 0
HasForm ws = ((k : Text) × NamesNode ws k) ⊎ ((n : Text) × IsRunLine ws n) ⊎ StandsAlone ws

-- ---- words that spell nothing

-- a word spells no node of so many, no address, no value of the register at an address, no number, no bit
abbrev pub IsNoNode : ℕ → Text → Type 0
IsNoNode nodes k = (node : ℕ) → ¬ SpellsNode nodes k node

abbrev pub IsNoAddress : ℕ → Text → Type 0
IsNoAddress version a = (address : ℕ) → ¬ SpellsAddress version a address

abbrev pub IsNoByte : ℕ → ℕ → Text → Type 0
IsNoByte version address v = (byte : ℕ) → ¬ SpellsValue version address v byte

abbrev pub IsNoNumber : Text → Type 0
IsNoNumber n = (number : ℕ) → ¬ SpellsWithin 0 greatest n number

abbrev pub IsNoBit : Bool → Text → Type 0
IsNoBit endless b = (bit : ℕ) → ¬ SpellsBit endless b bit

-- words are those of no step of this version
abbrev pub IsNoStep : ℕ → List Text → Type 0
IsNoStep version rest = (step : StepOf) → ¬ AreStepWords version rest step

-- and one that spells some node
abbrev pub IsSomeNode : ℕ → Text → Type 0
IsSomeNode nodes k = (node : ℕ) × SpellsNode nodes k node

-- ---- the first mistake

-- the words are no command's; or they are (words are those of a text), and this is the first of the words behind its
-- name that spells nothing
abbrev pub AreMistaken : ℕ → Bool → ℕ → List Text → LineFault → Type 0
AreMistaken version endless nodes ws NoText = ⊥
AreMistaken version endless nodes ws Command = ¬ HasForm ws
AreMistaken version endless nodes ws Node = (k : Text) × NamesNode ws k × IsNoNode nodes k
AreMistaken version endless nodes ws Step =
    (k : Text) × (rest : List Text) × IsStepLine ws k rest × IsSomeNode nodes k × IsNoStep version rest
AreMistaken version endless nodes ws Address =
    (k a : Text) × (IsReadLine ws k a ⊎ ((v : Text) × IsWriteLine ws k a v)) × IsSomeNode nodes k
    × IsNoAddress version a
AreMistaken version endless nodes ws Byte =
    (k a v : Text) × (address : ℕ) × IsWriteLine ws k a v × IsSomeNode nodes k × SpellsAddress version a address
    × IsNoByte version address v
AreMistaken version endless nodes ws PlaceWord = (k n : Text) × IsToLine ws k None n × IsSomeNode nodes k
AreMistaken version endless nodes ws Number =
    ((n : Text) × IsRunLine ws n × IsNoNumber n)
    ⊎ ((k b : Text) × IsStrikeLine ws k b × IsSomeNode nodes k × IsNoBit endless b)
    ⊎ ((k n : Text) × (place : Place) × IsToLine ws k (Some place) n × IsSomeNode nodes k × IsNoNumber n)

-- the line asks for nothing, of this session, for this reason
abbrev pub IsMistaken : SessionValue → Text → LineFault → Type 0
IsMistaken s line fault =
    AreMistaken s.plan.version (lacks_end s.plan) (length s.plan.nodes) (words line) fault
