-- A node at rest, or not, by every cut of its record.
use Rattle.std.proofs.Common.{◌≡◌, ◌≢◌, ℕ, ◌<◌, Bool, true, false, Option, Some, None, List, [], ◌∷◌, refl, sym}
use Rattle.std.proofs.Common.{ap, ◌∙◌, subst, arith, inl, inr, length}
use Rattle.std.specs.Prelude.{if◌then◌else◌, slice_index_or}
use Rattle.std.proofs.lemmas.List.{get_or_default as or_same}
use Rattle.can_levels.specs.declared.level.Level.{Level}
use Rattle.can_levels.specs.declared.level.Level.TheVariants.{Recessive}
use Rattle.can_node_rules.specs.declared.request.Request.{Request}
use Rattle.can_node_rules.specs.Bits.{Bit as Levels}
use Rattle.can_node.specs.declared.node.Node.{Node}
use Rattle.can_node_rules.specs.Context.{ContextValue, is_held}
use Rattle.can_node_rules.specs.Pieces.{Place}
use Rattle.can_node_rules.specs.Pieces.Place.{AtReset, AtIntegration, AtIdle, AfterSof, AtLastEofBit, AtFlag}
use Rattle.can_node_rules.specs.Pieces.Place.{AtDelimiter}
use Rattle.can_node_rules.specs.Pieces.Place.{AtInterframeSpace}
use Rattle.can_node_rules.specs.Record.{RecordEntry as Event, bits_in}
use Rattle.can_node_rules.specs.FinishedPieces.{FinishedPiece}
use Rattle.can_node_rules.specs.Cut.{IsCut}
use Rattle.can_node_rules.specs.Effects.{along}
use Rattle.can_node_rules.specs.Driving.{phase_at, IdleDrives, Drives}
use Rattle.can_node_rules.specs.NextBit.{now_in, open_bits, rests_in, is_at_rest}
use Rattle.can_node.specs.Stands.{DrivesNext, ShowsRest}
use Rattle.can_node_rules.proofs.OneCut.CutOnce.{whole_once}
use Rattle.sja_journal.specs.declared.entry.Entry.{Entry}
use Rattle.sja_journal.specs.Records.{record_of}
use Rattle.sja_bus.specs.declared.pending_event.PendingEvent.{PendingEvent}
use Rattle.sja_bus.specs.declared.pending_event.PendingEvent.TheVariants.{Nothing, Changed, Dropped}
use Rattle.sja_bus.specs.declared.bus_node.BusNode.{BusNode}
use Rattle.sja_bus_rules.specs.Wire.{journal_at}
use Rattle.sja_bus_rules.specs.Buses.{BusValue, untold_at}
use Rattle.sja_bus.specs.BusRest.{RestsAs}
use Rattle.sja_bus.specs.Stretches.{EndsStretch}
use Rattle.sja_bus.specs.Stretches.EndsStretch.{untold, busy}
use Rattle.sja_bus.specs.Inside.Following.{Follows}
use Rattle.sja_bus.specs.Inside.Idling.{IsOneAwake}
use Rattle.sja_bus.specs.Inside.Rows.{AreReady, journals_of, untold_of}
use Rattle.sja_bus.specs.Inside.Turning.{is_untold}
use Rattle.sja_bus.proofs.AllNodes.Running.{journal_is, untold_is, count_is}

rest_once : (entries : List Event) (found others : List FinishedPiece) (h : IsCut entries found)
    (k : IsCut entries others) → is_at_rest k ≡ is_at_rest h
rest_once entries found others h k =
    let once = whole_once entries found others h k in
    let f : ContextValue → Place → List Event → Bool = λ c p r. rests_in (phase_at p (bits_in r))
    (is_held (along c p [] r).held) in
    sym (ap (λ c. f c h.place h.rest) once.1 ∙ ap (λ p. f k.context p h.rest) once.2
    ∙ ap (λ r. f k.context k.place r) once.3)

pub rests_here : (node : Node) (j : List Entry) (b : Bool) → Follows node j → ShowsRest node b → RestsAs (record_of j) b
rests_here node j b h shows =
    let is : is_at_rest h.stands.cut ≡ b = sym (shows (record_of j) h.found h.stands) in record {
      found = h.found;
      cut = h.stands.cut;
      is = is;
      every = λ others another. rest_once (record_of j) h.found others h.stands.cut another ∙ is;
    }

-- of a node of several
pub rests_at : (bus_nodes : List BusNode) (b : Bool) (k : ℕ) → AreReady bus_nodes → k < length (journals_of bus_nodes) →
    ((s : BusNode) → ShowsRest (slice_index_or bus_nodes k s).node b) →
    RestsAs (record_of (journal_at (journals_of bus_nodes) k)) b
rests_at [] b k ready few shows = absurd (omega arith)
rests_at (s ∷ bus_nodes) b k ready few shows =
    let all = s ∷ bus_nodes in let c = count_is all in
    let near : k < length all = omega (arith, few, c) in
    let bus_node = slice_index_or all k s in
    let P : List Entry → Type 0 = λ j. RestsAs (record_of j) b in
    subst P (sym (journal_is all k s near)) (rests_here bus_node.node bus_node.journal.entries b
    (ready k s near).ready.sound.follows (shows s))

-- ---- a node at rest drives recessive

idle_drives : (listen : Bool) (held : Option Request) (x : Level) → (if is_held held then false else true) ≡ true →
    IdleDrives (if listen then None else held) x → x ≡ Recessive
idle_drives true held x e d = d
idle_drives false None x e d = d
idle_drives false (Some request) x e d = absurd cc

rest_drives : (c : ContextValue) (place : Place) (bits : List Levels) (x : Level) →
    rests_in (phase_at place bits) (is_held c.held) ≡ true →
    Drives c place bits x → x ≡ Recessive
rest_drives c AtReset bits x e d = d
rest_drives c AtIntegration bits x e d = d
rest_drives c AtIdle [] x e d = idle_drives c.listen c.held x e d
rest_drives c AtIdle (b ∷ bits) x e d = absurd cc
rest_drives c AfterSof bits x e d = absurd cc
rest_drives c AtLastEofBit bits x e d = d
rest_drives c AtFlag bits x e d = absurd cc
rest_drives c AtDelimiter bits x e d = d
rest_drives c AtInterframeSpace bits x e d = d

pub rest_recessive : (node : Node) (j : List Entry) (x : Level) → Follows node j → ShowsRest node true →
    DrivesNext node x → x ≡ Recessive
rest_recessive node j x h rests drives =
    let cut = h.stands.cut in
    rest_drives (now_in cut) cut.place (open_bits cut) x (sym (rests (record_of j) h.found h.stands))
    (drives (record_of j) h.found h.stands)

-- ---- one of several isn't, or something is untold of it

has_untold : (n : PendingEvent) → n ≢ Nothing → is_untold n ≡ true
has_untold Nothing some = absurd (some refl)
has_untold Changed some = refl
has_untold Dropped some = refl

pub ends_awake : (count n : ℕ) (now : BusValue) (bus_nodes : List BusNode) → now.journals ≡ journals_of bus_nodes →
    now.untold ≡ untold_of bus_nodes →
    AreReady bus_nodes → IsOneAwake bus_nodes → EndsStretch count n now
ends_awake count n now [] journals told ready one = let few = one.1 in absurd (omega (arith, few))
ends_awake count n now (s ∷ bus_nodes) journals told ready one =
    let all = s ∷ bus_nodes in let k = one.0 in let c = count_is all in let few : k < length all = one.1 in
    let size = ap (λ (l : List (List Entry)). length l) journals in
    let near : k < length (journals_of all) = omega (arith, few, c) in
    let here : k < length now.journals = omega (arith, near, size) in
    elim (one.2 s) [
      | inl some ↦ untold k here (ap (λ u. untold_at u k) told ∙ untold_is all k s few
          ∙ has_untold (slice_index_or all k s).untold some)
      | inr shows ↦ busy k here (subst (λ (j : List (List Entry)). RestsAs
          (record_of (journal_at j k)) false) (sym journals)
          (rests_at all false k ready near (λ e. subst (λ (x : BusNode). ShowsRest x.node false)
          (or_same all k s e few) shows)))
    ]
