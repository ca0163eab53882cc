-- The text of a wave: a value change dump (IEEE 1364-2005, section 18).
-- A bit lasts one microsecond, ten units of 100 ns.
use Rattle.std.specs.Prelude.{◌≡◌, ◌==◌, ◌*◌, ℕ, zero, suc, Bool, true, false, if◌then◌else◌}
use Rattle.std.specs.Prelude.{List, [], ◌∷◌, ◌++◌, codes, decimal}
use Rattle.lemmas.specs.Gathering.{gathered}
use Rattle.lemmas.specs.Related.{EachRelated}
use Rattle.sja_log.specs.Log.{RunValue}
use Rattle.text_report.specs.ReportLines.{line_text, numbered}
use Rattle.text_wave.specs.AllSignals.{Signal, node_signals, all_signals}
use Rattle.text_wave.specs.AllSignals.Signal.{wire, number}
use Rattle.text_wave.specs.Stories.{NodeStory, IsStory, nodes_of}
use Rattle.text_wave.specs.Wires.{Wire, bus_wire}

-- ---- lines

abbrev pub line : List ℕ → List ℕ
line text = text ++ 10 ∷ []

-- the beginning of a scope of this name
abbrev pub scope_line : List ℕ → List ℕ
scope_line name = line_text (codes "$scope" ∷ codes "module" ∷ name ∷ codes "$end" ∷ [])

-- a signal's declaration: a level is a wire of one bit, a number a real one
abbrev pub var_line : Signal → List ℕ
var_line (wire w) = line_text (codes "$var" ∷ codes "wire" ∷ codes "1" ∷ w.code ∷ w.name ∷ codes "$end" ∷ [])
var_line (number n) = line_text (codes "$var" ∷ codes "real" ∷ codes "64" ∷ n.code ∷ n.name ∷ codes "$end" ∷ [])

-- the beginning of bit k
abbrev pub time_line : ℕ → List ℕ
time_line k = line (codes "#" ++ decimal (10 * k))

-- the value of a level: its digit, and the identifier code behind it
abbrev pub digit_of : Bool → ℕ
digit_of false = 48
digit_of true = 49

abbrev pub value_line : List ℕ → Bool → List ℕ
value_line code value = line (digit_of value ∷ code)

-- the value of a number: r and the number, and behind a space the identifier code
abbrev pub number_line : List ℕ → ℕ → List ℕ
number_line code value = codes "r" ++ (decimal value ++ (32 ∷ (code ++ 10 ∷ [])))

-- ---- the declarations

-- those of node n, in a scope of its own
abbrev pub node_scope : Wire → ℕ → NodeStory → List ℕ
node_scope bus n s =
    scope_line (codes "node" ++ decimal n)
    ++ gathered var_line (node_signals bus n s)
    ++ line (codes "$upscope $end")

abbrev pub declarations : List NodeStory → List ℕ
declarations stories =
    line (codes "$timescale 100 ns $end")
    ++ scope_line (codes "can")
    ++ var_line (wire (bus_wire (nodes_of stories)))
    ++ numbered (node_scope (bus_wire (nodes_of stories))) 0 stories
    ++ line (codes "$upscope $end")
    ++ line (codes "$enddefinitions $end")

-- ---- the values

-- the value of a signal at bit 0
abbrev pub first_in : Signal → List ℕ
first_in (wire w) = value_line w.code (w.at 0)
first_in (number n) = number_line n.code (n.at 0)

-- the values of all signals at bit 0
abbrev pub first_values : List NodeStory → List ℕ
first_values stories =
    line (codes "#0") ++ line (codes "$dumpvars") ++ gathered first_in (all_signals stories) ++ line (codes "$end")

-- a value is written where it isn't the one before
abbrev pub change : List ℕ → Bool → Bool → List ℕ
change code false false = []
change code true true = []
change code false true = value_line code true
change code true false = value_line code false

abbrev pub number_change : List ℕ → ℕ → ℕ → List ℕ
number_change code before now = if before == now then [] else number_line code now

-- of a signal, and of all, from bit k to the next one
abbrev pub change_after : ℕ → Signal → List ℕ
change_after k (wire w) = change w.code (w.at k) (w.at (suc k))
change_after k (number n) = number_change n.code (n.at k) (n.at (suc k))

abbrev pub changes_after : ℕ → List NodeStory → List ℕ
changes_after k stories = gathered (change_after k) (all_signals stories)

-- lines with the time of bit k before them; nothing where there are none
abbrev pub timed : ℕ → List ℕ → List ℕ
timed k [] = []
timed k (c ∷ cs) = time_line k ++ c ∷ cs

-- the changes from bit 0 up to bit k
abbrev pub changes_to : ℕ → List NodeStory → List ℕ
changes_to zero stories = []
changes_to (suc k) stories = changes_to k stories ++ timed (suc k) (changes_after k stories)

-- those of all bits, and the end of the last one, with what changed after it
abbrev pub changes_of : ℕ → List NodeStory → List ℕ
changes_of zero stories = []
changes_of (suc k) stories = changes_to k stories ++ time_line (suc k) ++ changes_after k stories

-- ---- the whole

-- of this many bits
abbrev pub wave_text : ℕ → List NodeStory → List ℕ
wave_text bits stories = declarations stories ++ first_values stories ++ changes_of bits stories

-- the text is the waveform of a run: that of the stories of its nodes
pub record IsWave (log : RunValue) (text : List ℕ) : Type 0 where
  pub stories : List NodeStory
  pub are : EachRelated IsStory log.nodes stories
  pub whole : text ≡ wave_text log.bits stories
