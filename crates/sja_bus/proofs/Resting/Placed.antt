-- The place of a node's next bit, by every cut of its record.
use Rattle.std.proofs.Common.{◌≡◌, ℕ, ◌<◌, List, [], length, sym, subst}
use Rattle.std.specs.Prelude.{Option, slice_index_or}
use Rattle.can_node.specs.declared.node.Node.{Node}
use Rattle.can_node_rules.specs.declared.node_place.NodePlace.{NodePlace}
use Rattle.can_node_rules.specs.Context.{ContextValue}
use Rattle.can_node_rules.specs.Pieces.{Place}
use Rattle.can_node_rules.specs.Record.{RecordEntry as Event, bits_in}
use Rattle.can_node_rules.specs.FinishedPieces.{FinishedPiece}
use Rattle.can_node_rules.specs.Cut.{IsCut}
use Rattle.can_node_rules.specs.Effects.{along}
use Rattle.can_node.specs.NextPlace.{PlaceAt, PlaceIn, ShowsPlace}
use Rattle.can_node_rules.proofs.OneCut.CutOnce.{whole_once}
use Rattle.sja_journal.specs.declared.entry.Entry.{Entry}
use Rattle.sja_journal.specs.Records.{record_of}
use Rattle.sja_bus.specs.declared.bus_node.BusNode.{BusNode}
use Rattle.sja_bus_rules.specs.Wire.{journal_at}
use Rattle.sja_bus.specs.BusPlaces.{HasPlace}
use Rattle.sja_bus.specs.Inside.Following.{Follows}
use Rattle.sja_bus.specs.Inside.Rows.{AreReady, journals_of}
use Rattle.sja_bus.proofs.AllNodes.Running.{journal_is}

place_once : (entries : List Event) (found others : List FinishedPiece) (h : IsCut entries found)
    (k : IsCut entries others) (shown : Option NodePlace) → PlaceIn h shown → PlaceIn k shown
place_once entries found others h k shown is =
    let once = whole_once entries found others h k in
    let P : ContextValue → Place → List Event → Type 0 = λ c p r. PlaceAt (along c p [] r) p (bits_in r) shown in
    subst (λ (r : List Event). P k.context k.place r) once.3
    (subst (λ (p : Place). P k.context p h.rest) once.2 (subst (λ (c : ContextValue). P c h.place h.rest) once.1 is))

place_here : (node : Node) (j : List Entry) (shown : Option NodePlace) → Follows node j → ShowsPlace node shown →
    HasPlace (record_of j) shown
place_here node j shown h shows =
    let is = shows (record_of j) h.found h.stands in record {
      found = h.found;
      cut = h.stands.cut;
      is = is;
      every = λ others another. place_once (record_of j) h.found others h.stands.cut another shown is;
    }

-- of a node of several
pub place_among : (bus_nodes : List BusNode) (bus_node : BusNode) (shown : Option NodePlace) (k : ℕ) →
    AreReady bus_nodes →
    k < length bus_nodes → bus_node ≡ slice_index_or bus_nodes k bus_node → ShowsPlace bus_node.node shown →
    HasPlace (record_of (journal_at (journals_of bus_nodes) k)) shown
place_among bus_nodes bus_node shown k ready few is shows =
    let here = slice_index_or bus_nodes k bus_node in
    subst (λ (j : List Entry). HasPlace (record_of j) shown) (sym (journal_is bus_nodes k bus_node few))
    (place_here here.node here.journal.entries shown (ready k bus_node few).ready.sound.follows
    (subst (λ (s : BusNode). ShowsPlace s.node shown) is shows))
