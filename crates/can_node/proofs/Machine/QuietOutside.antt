-- A quiet bit outside a frame, and an idle one.
use Rattle.std.proofs.Common.{◌≡◌, ◌<◌, not, true, false, nat_le, Option, Some, None}
use Rattle.std.proofs.Common.{List, [], ◌∷◌, ◌++◌, refl, ap, sym, subst, ◌∙◌}
use Rattle.can_levels.specs.declared.level.Level.{Level}
use Rattle.can_levels.specs.declared.level.Level.TheVariants.{Dominant, Recessive}
use Rattle.can_bits.specs.declared.shift.Shift.{Shift}
use Rattle.can_levels.specs.Fields.{is_recessive}
use Rattle.can_node_rules.specs.declared.request.Request.{Request}
use Rattle.can_node_rules.specs.declared.role.Role.TheVariants.{Receiver}
use Rattle.can_node.specs.declared.stage.Stage.{Stage}
use Rattle.can_node.specs.declared.stage.Stage.TheVariants.{InReset as StageInReset, Integrating as StageIntegrating}
use Rattle.can_node.specs.declared.stage.Stage.TheVariants.{BusIdle as StageBusIdle, InFrame as StageInFrame}
use Rattle.can_node.specs.declared.stage.Stage.TheVariants.{LastEofBit as StageLastEofBit, InFlag as StageInFlag}
use Rattle.can_node.specs.declared.stage.Stage.TheVariants.{InDelimiter as StageInDelimiter}
use Rattle.can_node.specs.declared.stage.Stage.TheVariants.{InInterframeSpace as StageInInterframeSpace}
use Rattle.can_node.specs.declared.node.Node.{Node}
use Rattle.can_node_rules.specs.Bits.{Bit}
use Rattle.can_node_rules.specs.Context.{ContextValue, is_transmitter, is_held}
use Rattle.can_node_rules.specs.Pieces.{Place, sent_at}
use Rattle.can_node_rules.specs.Pieces.Place.{AtReset, AtIntegration, AtIdle}
use Rattle.can_node_rules.specs.Pieces.Place.{AtLastEofBit, AtFlag, AtDelimiter, AtInterframeSpace}
use Rattle.can_node_rules.specs.Pieces.Piece.{IdleBit}
use Rattle.can_node_rules.specs.Record.{bits_in}
use Rattle.can_node_rules.specs.Record.RecordEntry.{OneBit}
use Rattle.can_node_rules.specs.Counting.{at_bit, first_bit}
use Rattle.can_node_rules.specs.Table.{Row}
use Rattle.can_node_rules.specs.Cut.{none_yet, counted, tagged}
use Rattle.can_node_rules.specs.Events.{lost_in, lost_as, ended_in, events_of}
use Rattle.can_node_rules.specs.Events.Step.{Finishes}
use Rattle.can_node_rules.specs.Driving.{Drives, IdleDrives}
use Rattle.can_node_rules.specs.Effects.{along, closed}
use Rattle.can_node.specs.Standing.{context_of}
use Rattle.can_node.specs.Stages.{At}
use Rattle.can_node.specs.Inside.Quiet.{TurnsQuietly, is_outside}
use Rattle.can_node.specs.Stands.{StandsAt, Leads, Samples, is_receiving}
use Rattle.can_node_rules.specs.Outcomes.{nothing}
use Rattle.can_node_rules.proofs.OneCut.GoOn.{stays_end}
use Rattle.can_node.proofs.Machine.Ats.{at_is}
use Rattle.can_node.proofs.Machine.BitStands.{closes_stands}
use Rattle.can_node.proofs.Machine.IdleTurns.{idle_still}
use Rattle.can_node_rules.proofs.OneCut.DrivenLevels.{drives_once}
use Rattle.can_node.proofs.Machine.Quiet.{none_ends, nothing_told, leads_quietly, IsQuiet}

-- what is driven at a place, where more bits don't change it
same_at : (now : ContextValue) (s place : Place) (bits more : List Bit) (x : Level) → place ≡ s →
    (Drives now s bits x → Drives now s more x) → Drives now place bits x → Drives now place more x
same_at now s place bits more x e same h =
    let P : Place → Type 0 = λ z. Drives now z bits x in
    let Q : Place → Type 0 = λ z. Drives now z more x in
    subst Q (sym e) (same (subst P e h))

-- so it is wherever the node may stand
pub outside_drives : (stage : Stage) (shift : Shift) (c now : ContextValue) (place : Place) (bits more : List Bit)
    (x : Level) → is_outside stage ≡ true → At stage shift c now place bits → Drives now place bits x →
    Drives now place more x
outside_drives StageInReset shift c now place bits more x out at h =
    same_at now AtReset place bits more x at.0 (λ d. d) h
outside_drives (StageIntegrating left run) shift c now place bits more x out at h =
    same_at now AtIntegration place bits more x at.0 (λ d. d) h
outside_drives StageBusIdle shift c now place bits more x out at h = let wrong : false ≡ true = out in cc
outside_drives StageInFrame shift c now place bits more x out at h = let wrong : false ≡ true = out in cc
outside_drives StageLastEofBit shift c now place bits more x out at h =
    same_at now AtLastEofBit place bits more x at.0 (λ d. d) h
outside_drives (StageInFlag n last) shift c now place bits more x out at h =
    same_at now AtFlag place bits more x at.0 (λ d. d) h
outside_drives (StageInDelimiter dominant recessive) shift c now place bits more x out at h =
    same_at now AtDelimiter place bits more x at.0 (λ d. d) h
outside_drives (StageInInterframeSpace n) shift c now place bits more x out at h =
    same_at now AtInterframeSpace place bits more x at.0 (λ d. d) h

-- the node keeps the level that it drives
pub goes_outside : (old : Node) (stage : Stage) (seen : Level) → TurnsQuietly old seen stage →
    is_outside old.stage ≡ true → IsQuiet old (record old { stage = stage }) seen
goes_outside old stage seen turns outside c place bits at kept body drives = record {
  turn = turns c place bits at kept drives;
  next = outside_drives old.stage old.shift c (context_of old.context) place bits
      (bits ++ record { driven = old.next; seen = seen } ∷ []) old.next outside at drives;
}

-- ---- an idle bit

-- a node that drives recessive there has no frame to send
none_sent : (sent : Option Request) (x : Level) → x ≡ Recessive → IdleDrives sent x → sent ≡ None
none_sent None x e h = refl
none_sent (Some request) x e h = let wrong : Dominant ≡ Recessive = sym h ∙ e in cc

-- the end of an idle bit leaves a receiver's context
idle_same : (now : ContextValue) → now.role ≡ Receiver → record now { role = Receiver } ≡ now
idle_same now receiver = ap (λ r. record now { role = r }) (sym receiver)

-- its context, place and row
record IsIdleBit (c now : ContextValue) (place : Place) (bits : List Bit) (b : Bit) : Type 0 where
  same : closed IdleBit AtIdle (at_bit now place bits b) ≡ now
  row : Row c place (bits ++ b ∷ []) IdleBit AtIdle
  lost : None ≡ lost_in now place bits b

idle_bit_at : (now : ContextValue) (x seen : Level) → now.role ≡ Receiver → x ≡ Recessive → seen ≡ Recessive →
    IdleDrives (sent_at now AtIdle) x →
    IsIdleBit now now AtIdle [] (record { driven = x; seen = seen })
idle_bit_at now x seen receiver recessive sees drives =
    let none = none_sent (sent_at now AtIdle) x recessive drives in
    let P : Level → Type 0 = λ y. Row now AtIdle (record { driven = y; seen = seen } ∷ []) IdleBit AtIdle in
    record {
      same = ap (λ r. record (first_bit r now) { role = Receiver }) none ∙ idle_same now receiver;
      row = subst P (sym recessive) (idle_still now seen none (ap is_recessive sees));
      lost = ap (λ r. lost_as r now [] (record { driven = x; seen = seen })) (sym receiver);
    }

idle_bit_by : (shift : Shift) (c now : ContextValue) (place : Place) (bits : List Bit) (x seen : Level) →
    At StageBusIdle shift c now place bits →
    x ≡ Recessive → seen ≡ Recessive → Drives now place bits x →
    IsIdleBit c now place bits (record { driven = x; seen = seen })
idle_bit_by shift c now place bits x seen at recessive sees drives =
    let P : Place → Type 0 = λ s. IsIdleBit c now s bits (record { driven = x; seen = seen }) in
    let Q : List Bit → Type 0 = λ l. IsIdleBit c now AtIdle l (record { driven = x; seen = seen }) in
    let R : ContextValue → Type 0 = λ d. IsIdleBit d now AtIdle [] (record { driven = x; seen = seen }) in
    let S : Place → Type 0 = λ s. Drives now s bits x in
    let T : List Bit → Type 0 = λ l. Drives now AtIdle l x in
    subst P (sym at.0) (subst Q (sym at.1)
    (subst R (sym at.3) (idle_bit_at now x seen at.2 recessive sees (subst T at.1 (subst S at.0 drives)))))

-- a recessive bit where the bus is idle leaves the node as it is
pub idle_quietly : (node : Node) (seen : Level) → node.stage ≡ StageBusIdle → node.next ≡ Recessive → seen ≡ Recessive →
    Samples node node seen (nothing (is_receiving node))
unfolding closes_stands
idle_quietly node seen idle recessive sees entries found h x drives =
    let c = h.cut.context in
    let place = h.cut.place in
    let bits = bits_in h.cut.rest in
    let now = along c place [] h.cut.rest in
    let b : Bit = record { driven = node.next; seen = seen } in
    let k = counted none_yet (entries ++ OneBit b ∷ []) in
    let at = at_is StageBusIdle node.stage node.shift c now place bits idle h.at in
    let bit = idle_bit_by node.shift c now place bits node.next seen at recessive sees h.next in
    let n = closed IdleBit AtIdle (at_bit now place bits b) in
    let few : now.tec < 256 = stays_end h.cut.from in
    let receiver : n.role ≡ Receiver = refl in
    let site : At node.stage node.shift n n AtIdle [] =
    (let P : Stage → Type 0 = λ s. At s node.shift n n AtIdle [] in subst P (sym idle) (refl, refl, receiver, refl)) in
    let shows : context_of node.context ≡ n = h.shows ∙ sym bit.same in
    let follows = closes_stands node node entries found h b node.stage node.shift IdleBit AtIdle bit.row site
    (subst (λ (d : ContextValue). d.tec < 256) (sym bit.same) few) shows refl refl in
    let Driving : Place → Type 0 = λ s. Drives now s bits node.next in
    let Driving_bits : List Bit → Type 0 = λ l. Drives now AtIdle l node.next in
    let Driving_now : ContextValue → Type 0 = λ d. Drives d AtIdle [] node.next in
    let next = subst Driving_now (sym bit.same) (subst Driving_bits at.1 (subst Driving at.0 h.next)) in
    let there : StandsAt node (entries ++ OneBit b ∷ []) (found ++ tagged k (IdleBit ∷ [])) =
    record { cut = follows.cut; shows = follows.shows; at = follows.at; next = next; body = h.body } in
    let step = Finishes IdleBit AtIdle in
    let ends : None ≡ ended_in step now now = none_ends (nat_le 256 now.tec) (is_held now.held) in
    let told : nothing (is_receiving node) ≡ events_of step now place bits b =
    ap (λ (d : ContextValue). nothing (not (is_transmitter d.role))) h.shows
    ∙ nothing_told now place bits b step few bit.same refl ends bit.lost refl in
    let P : Level → Type 0 = λ y. Leads node node entries found h (record { driven = y; seen = seen })
    (nothing (is_receiving node)) in
    subst P (drives_once now place bits node.next x h.next drives)
    (leads_quietly node node entries found h b step told there refl)
