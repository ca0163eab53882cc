-- The text in which a plan is written, of which there is one at most (this project's own rule): lines of a TOML
-- document (TOML 1.0.0), each of them ended by a line feed.
use Rattle.std.specs.Prelude.{◌≡◌, ◌⊎◌, ◌<◌, ◌&&◌, ℕ, pos, Bool, true, false, nat_le}
use Rattle.std.specs.Prelude.{List, [], ◌∷◌, ◌++◌, length, codes, map}
use Rattle.toml.specs.Data.{Data, string, integer, array}
use Rattle.toml.specs.Tables.{Expression, key_value, array_table}
use Rattle.toml.specs.Text.{IsLinesText}
use Rattle.toml.specs.View.{items_of}
use Rattle.sja_plan_reading.specs.Faults.{IsPlanOf}
use Rattle.sja_plan_reading.specs.DocumentLimits.{most_bytes}
use Rattle.sja_plan.specs.Plan.{PlanValue}
use Rattle.sja_plan_reading.specs.Words.{Text}
use Rattle.sja_steps.specs.declared.step.Step.{Step}
use Rattle.sja_steps.specs.declared.strike.Strike.{Strike}
use Rattle.sja_plan_text.specs.Texts.{spelled_step, turn_text, strike_text}

-- ---- its lines

-- a list of texts
abbrev pub texts_data : List Text → Data
texts_data texts = array (items_of (map (λ (t : Text). string t) texts))

-- a key and its value
abbrev pub pair : Text → Data → Expression
pair key d = (([], key), key_value d)

-- the key of the strikes, where a plan is written with names, and where it isn't
abbrev pub strikes_key : Bool → Text
strikes_key true = codes "strikes"
strikes_key false = codes "faults"

-- the strikes, where there are some
abbrev pub strike_lines : Bool → List Strike → List Expression
strike_lines named [] = []
strike_lines named (s ∷ strikes) = pair (strikes_key named) (texts_data (map strike_text (s ∷ strikes))) ∷ []

-- of each node the header `[[node]]`, and below it its steps
abbrev pub node_lines : Bool → List (List Step) → List Expression
node_lines named [] = []
node_lines named (steps ∷ nodes) =
    (([], codes "node"), array_table) ∷ pair (codes "steps") (texts_data (map (spelled_step named) steps))
    ∷ node_lines named nodes

-- the version, the bits, the turns and the strikes, in front of other lines
abbrev pub front_lines : Bool → ℕ → ℕ → List Text → List Strike → List Expression → List Expression
front_lines named version bits turns strikes es =
    pair (codes "version") (integer (pos version)) ∷ pair (codes "bits") (integer (pos bits))
    ∷ pair (codes "turns") (texts_data turns) ∷ (strike_lines named strikes ++ es)

-- all lines of a plan, in their order
abbrev pub plan_lines : Bool → PlanValue → List Expression
plan_lines named p =
    front_lines named p.version p.bits (map turn_text p.turns) p.strikes (node_lines named p.nodes)

-- ---- its text

-- what is written pretty has names in version 3, and all else none
abbrev pub has_names : Bool → ℕ → Bool
has_names pretty version = pretty && nat_le 3 version

-- the text is these lines, as the kit's crate `toml` writes them: pretty, each item of a list of two or more has a line
-- of its own; else all have one. An empty line stands before each header
abbrev pub IsWritten : Bool → PlanValue → Text → Type 0
IsWritten pretty p text = IsLinesText pretty false (plan_lines (has_names pretty p.version) p) text

-- what is so written is longer than a document may be
abbrev pub IsLong : Bool → PlanValue → Type 0
IsLong pretty p = (text : Text) × IsWritten pretty p text × (most_bytes text < length text)

-- the text of a plan, which is read as this plan: the pretty one, or where that is too long the other
pub record IsPlanText (p : PlanValue) (text : Text) : Type 0 where
  pub read : IsPlanOf text p
  pub form : IsWritten true p text ⊎ (IsWritten false p text × IsLong true p)

-- it has none, since each is too long
pub record IsTooLong (p : PlanValue) : Type 0 where
  pub pretty : IsLong true p
  pub flat : IsLong false p

-- the last line of a text is ended
abbrev pub EndsInFeed : Text → Type 0
EndsInFeed text = (front : Text) × (text ≡ front ++ 10 ∷ [])
