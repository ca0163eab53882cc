-- What a node shows of its next bit, by the cut of its record: there is such a view.
use Rattle.std.proofs.Common.{List, refl}
use Rattle.can_node_rules.specs.Context.{is_transmitter}
use Rattle.can_node_rules.specs.NextBit.{now_in, phase_in}
use Rattle.can_node_rules.proofs.OneCut.GoOn.{open_end}
use Rattle.can_node.proofs.CutRecords.NextSegments.{segment_there}
use Rattle.sja_journal.specs.NodeWords.{NodeEntry, FinishedPiece, IsCut}
use Rattle.sja_replay.specs.declared.view.View.{View}
use Rattle.sja_replay.specs.Viewing.{IsView}

pub view_there : {entries : List NodeEntry} {found : List FinishedPiece} (cut : IsCut entries found) →
    (v : View) × IsView cut v
view_there cut =
    let s = segment_there cut.context cut.place cut.rest (open_end cut.from) in (
      record {
        phase = phase_in cut;
        segment = s.0;
        transmits = is_transmitter (now_in cut).role;
        counters = record { tec = (now_in cut).tec; rec = (now_in cut).rec; off = (now_in cut).off };
        held = (now_in cut).held;
        flag = (now_in cut).flag;
      },
      record {
        phase = refl;
        segment = s.1;
        transmits = refl;
        tec = refl;
        rec = refl;
        off = refl;
        held = refl;
        flag = refl;
      },
    )
