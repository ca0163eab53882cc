use Rattle.std.proofs.Common.{Some, ap, ◌∙◌, sym, subst}
use Rattle.std.specs.Prelude.{is_some}
use Rattle.can_node_rules.specs.declared.node_place.NodePlace.{NodePlace}
use Rattle.can_node.specs.declared.stage.Stage.TheVariants.{BusIdle as StageBusIdle, InFrame as StageInFrame}
use Rattle.can_node.specs.declared.stage.Stage.TheVariants.{LastEofBit as StageLastEofBit}
use Rattle.can_node.specs.declared.stage.Stage.TheVariants.{InInterframeSpace as StageInInterframeSpace}
use Rattle.can_node_rules.specs.NextBit.{now_in, open_bits}
use Rattle.can_node_rules.specs.Context.{ContextValue}
use Rattle.can_node_rules.specs.Pieces.{sent_at}
use Rattle.can_node_rules.specs.Pieces.Place.{AtIdle}
use Rattle.can_node.specs.NextPlace.{PlaceAt, in_frame, sends_extended, start_if}
use Rattle.can_node.proofs.Machine.Ats.{at_is}
use Rattle.can_node.proofs.Machine.Places.{frame_place, idle_place, last_place, pause_place, no_place}
use Rattle.can_node.proofs.node.Node.place.Goals as goal

pub returns-in-BusIdle : goal.returns-in-BusIdle
returns-in-BusIdle c = λ entries found h.
    let node = c.args.self.now in
    let at = at_is StageBusIdle node.stage node.shift h.cut.context (now_in h.cut) h.cut.place (open_bits h.cut)
    c.in-BusIdle.is h.at in
    idle_place (now_in h.cut) h.cut.place (open_bits h.cut) c.start_place.result at.0 at.1
    (c.start_place.ensures ∙ ap (λ (k : ContextValue). start_if (is_some (sent_at k AtIdle))) h.shows)

pub returns-in-InFrame : goal.returns-in-InFrame
returns-in-InFrame c = λ entries found h.
    let node = c.args.self.now in
    let is = c.place_in_frame.ensures
    ∙ ap (λ (k : ContextValue). in_frame (sends_extended k) c.next_place.result) h.shows in
    subst (λ (p : NodePlace). PlaceAt (now_in h.cut) h.cut.place (open_bits h.cut) (Some p)) (sym is)
    (frame_place node.shift h.cut.context (now_in h.cut) h.cut.place (open_bits h.cut) c.next_place.result
    (at_is StageInFrame node.stage node.shift h.cut.context (now_in h.cut) h.cut.place (open_bits h.cut)
    c.in-InFrame.is h.at)
    c.next_place.ensures)

pub returns-in-LastEofBit : goal.returns-in-LastEofBit
returns-in-LastEofBit c = λ entries found h.
    let node = c.args.self.now in
    last_place (now_in h.cut) h.cut.place (open_bits h.cut)
    (at_is StageLastEofBit node.stage node.shift h.cut.context (now_in h.cut) h.cut.place (open_bits h.cut)
    c.in-LastEofBit.is h.at).0

pub returns-in-InInterframeSpace : goal.returns-in-InInterframeSpace
returns-in-InInterframeSpace c = λ entries found h.
    let node = c.args.self.now in let n = c.in-InInterframeSpace.bits in
    let at = at_is (StageInInterframeSpace n) node.stage node.shift h.cut.context (now_in h.cut) h.cut.place
    (open_bits h.cut) c.in-InInterframeSpace.is h.at in
    pause_place n h.cut.context (now_in h.cut) h.cut.place (open_bits h.cut) c.pause_place.result at.0 at.1
    c.pause_place.ensures

pub returns-in_default : goal.returns-in_default
returns-in_default c = λ entries found h.
    let node = c.args.self.now in
    no_place node.stage node.shift h.cut.context (now_in h.cut) h.cut.place (open_bits h.cut) h.at
    c.in_default.not-BusIdle c.in_default.not-InFrame c.in_default.not-LastEofBit c.in_default.not-InInterframeSpace
