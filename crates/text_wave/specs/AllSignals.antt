-- All signals of a run (this project's own rule).
use Rattle.std.specs.Prelude.{ℕ, List, [], ◌∷◌, ◌++◌, map, codes}
use Rattle.text_report.specs.ReportLines.{numbered}
use Rattle.text_wave.specs.Numbers.{Number, node_number}
use Rattle.text_wave.specs.Stories.{NodeStory, nodes_of}
use Rattle.text_wave.specs.Views.{tec_of, rec_of, phase_of}
use Rattle.text_wave.specs.Wires.{Wire, bus_wire, node_wires, struck_wire}

-- a signal shows a level or a number
pub data Signal : Type 0 where
  wire : Wire → Signal
  number : Number → Signal

-- ---- those of node n, on a bus with this level

-- what its bits brought, and whether it is struck
abbrev pub told_signals : Wire → ℕ → NodeStory → List Signal
told_signals bus n s =
    Signal.number (node_number (codes "tec") (codes "t") tec_of n s)
    ∷ Signal.number (node_number (codes "rec") (codes "r") rec_of n s)
    ∷ Signal.wire (struck_wire bus n s.node)
    ∷ Signal.number (node_number (codes "phase") (codes "p") phase_of n s)
    ∷ []

-- behind what its journal says
abbrev pub node_signals : Wire → ℕ → NodeStory → List Signal
node_signals bus n s = map Signal.wire (node_wires n s.node) ++ told_signals bus n s

-- ---- all signals

-- those of all nodes, counted from 0, and the bus
abbrev pub signals_on : Wire → List NodeStory → List Signal
signals_on bus stories = Signal.wire bus ∷ numbered (node_signals bus) 0 stories

abbrev pub all_signals : List NodeStory → List Signal
all_signals stories = signals_on (bus_wire (nodes_of stories)) stories
