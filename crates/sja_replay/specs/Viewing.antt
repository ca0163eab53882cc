-- What a node shows of its next bit, by a cut of its record (this project's own rule).
use Rattle.std.specs.Prelude.{◌≡◌, List}
use Rattle.can_node.specs.declared.node.Node.{Node}
use Rattle.can_node_rules.specs.Context.{is_transmitter}
use Rattle.can_node_rules.specs.NextBit.{now_in, phase_in}
use Rattle.can_node.specs.NextField.{SegmentIn}
use Rattle.can_node.specs.Stands.{StandsAt}
use Rattle.sja_journal.specs.NodeWords.{NodeEntry, FinishedPiece, IsCut}
use Rattle.sja_replay.specs.declared.view.View.{View}

-- phase and segment of the next bit, and role, error counters, request and flag as they stand in it
pub record IsView {entries : List NodeEntry} {found : List FinishedPiece} (cut : IsCut entries found) (v : View) :
    Type 0 where
  pub phase : v.phase ≡ phase_in cut
  pub segment : SegmentIn cut v.segment
  pub transmits : v.transmits ≡ is_transmitter (now_in cut).role
  pub tec : v.counters.tec ≡ (now_in cut).tec
  pub rec : v.counters.rec ≡ (now_in cut).rec
  pub off : v.counters.off ≡ (now_in cut).off
  pub held : v.held ≡ (now_in cut).held
  pub flag : v.flag ≡ (now_in cut).flag

-- a node shows it, at whatever record it stands
abbrev pub Shows : Node → View → Type 0
Shows node v =
    (entries : List NodeEntry) (found : List FinishedPiece) (h : StandsAt node entries found) → IsView h.cut v
