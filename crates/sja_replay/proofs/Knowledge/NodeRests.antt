-- A node at rest, which is in reset, or idle with no request: a recessive bit leaves it as it is.
use Rattle.std.proofs.Common.{◌≡◌, Bool, true, false, None, List, ◌∷◌, ◌++◌, [], inl, inr, refl, sym, ap, ◌∙◌, subst}
use Rattle.std.specs.Prelude.{◌⊎◌, if◌then◌else◌, nat_lt}
use Rattle.can_levels.specs.declared.level.Level.{Level}
use Rattle.can_levels.specs.declared.level.Level.TheVariants.{Recessive}
use Rattle.can_node.specs.declared.node.Node.{Node}
use Rattle.can_node_rules.specs.declared.phase.Phase.TheVariants.{Intermission, Suspension}
use Rattle.can_node.specs.declared.stage.Stage.{Stage}
use Rattle.can_node.specs.declared.stage.Stage.TheVariants.{InReset as StageInReset, Integrating as StageIntegrating}
use Rattle.can_node.specs.declared.stage.Stage.TheVariants.{BusIdle as StageBusIdle, InFrame as StageInFrame}
use Rattle.can_node.specs.declared.stage.Stage.TheVariants.{LastEofBit as StageLastEofBit, InFlag as StageInFlag}
use Rattle.can_node.specs.declared.stage.Stage.TheVariants.{InDelimiter as StageInDelimiter}
use Rattle.can_node.specs.declared.stage.Stage.TheVariants.{InInterframeSpace as StageInInterframeSpace}
use Rattle.can_node_rules.specs.Bits.{Bit as Levels}
use Rattle.can_node_rules.specs.Context.{is_held}
use Rattle.can_node_rules.specs.Pieces.{Place}
use Rattle.can_node_rules.specs.Counting.{at_bit}
use Rattle.can_node_rules.specs.Events.{lost_in}
use Rattle.can_node_rules.specs.Driving.{Drives}
use Rattle.can_node_rules.specs.NextBit.{now_in, open_bits, rests_in}
use Rattle.can_node.specs.Standing.{context_of}
use Rattle.can_node.specs.Stages.{At}
use Rattle.can_node.specs.Stands.{StandsAt, DrivesNext, Samples, ShowsRest, ShowsSame, is_receiving}
use Rattle.can_node_rules.specs.Outcomes.{nothing}
use Rattle.can_node.specs.Stands.{phase_of_stage}
use Rattle.can_node.proofs.Machine.Ats.{at_is}
use Rattle.can_node.proofs.Machine.Quiet.{IsQuiet, quietly}
use Rattle.can_node.proofs.Machine.QuietOutside.{idle_quietly}
use Rattle.can_node.proofs.Machine.Shown.{phase_shown}
use Rattle.can_node_rules.proofs.OneCut.DrivenLevels.{drives_once}
use Rattle.can_node_rules.specs.FinishedPieces.{FinishedPiece}
use Rattle.can_node_rules.specs.Record.{RecordEntry}

-- ---- where it stands

pausing : (b held : Bool) → rests_in (if b then Intermission else Suspension) held ≡ true → ⊥
pausing true held e = cc
pausing false held e = cc

rest_stage : (s : Stage) (held : Bool) → rests_in (phase_of_stage s) held ≡ true → (s ≡ StageInReset)
    ⊎ ((s ≡ StageBusIdle) × (held ≡ false))
rest_stage StageInReset held h = inl refl
rest_stage (StageIntegrating left run) held h = absurd cc
rest_stage StageBusIdle true h = absurd cc
rest_stage StageBusIdle false h = inr (refl, refl)
rest_stage StageInFrame held h = absurd cc
rest_stage StageLastEofBit held h = absurd cc
rest_stage (StageInFlag bits last) held h = absurd cc
rest_stage (StageInDelimiter dominant recessive) held h = absurd cc
rest_stage (StageInInterframeSpace bits) held h = absurd (pausing (nat_lt bits 3) held h)

-- in reset, or idle with no request
pub resting_stage : (node : Node) (entries : List RecordEntry) (found : List FinishedPiece) → ShowsRest node true →
    (h : StandsAt node entries found) →
    (node.stage ≡ StageInReset) ⊎ ((node.stage ≡ StageBusIdle) × (is_held (now_in h.cut).held ≡ false))
resting_stage node entries found rests h =
    let held = is_held (now_in h.cut).held in
    rest_stage node.stage held
    (ap (λ p. rests_in p held) (phase_shown node entries found h) ∙ sym (rests entries found h))

-- ---- its bit

reset_quiet : (node : Node) (seen : Level) → node.stage ≡ StageInReset → node.next ≡ Recessive → IsQuiet node node seen
reset_quiet node seen reset recessive c place bits at kept body drives =
    let now = context_of node.context in
    let b : Levels = record { driven = node.next; seen = seen } in
    let here = at_is StageInReset node.stage node.shift c now place bits reset at in
    let L : Place → Type 0 = λ s. None ≡ lost_in now s bits b in
    let S : Place → Type 0 = λ s. now ≡ at_bit now s bits b in
    let D : Place → Type 0 = λ s. Drives now s (bits ++ b ∷ []) node.next in
    let T : Stage → Type 0 = λ s. At s node.shift c now place (bits ++ b ∷ []) in record {
      turn = record {
        lost = subst L (sym here.0) refl;
        steps = subst S (sym here.0) refl;
        at = subst T (sym reset) (here.0, here.1);
      };
      next = subst D (sym here.0) recessive;
    }

-- a recessive bit leaves the node as it is
pub resting_bit : (node : Node) (entries : List RecordEntry) (found : List FinishedPiece) →
    StandsAt node entries found → ShowsRest node true → DrivesNext node Recessive →
    Samples node node Recessive (nothing (is_receiving node))
resting_bit node entries found h rests drives =
    let next : node.next ≡ Recessive =
    drives_once (now_in h.cut) h.cut.place (open_bits h.cut) node.next Recessive h.next (drives entries found h) in
    elim (resting_stage node entries found rests h) [
      | inl reset ↦ quietly node node Recessive refl refl (reset_quiet node Recessive reset next)
      | inr idle ↦ idle_quietly node Recessive idle.0 next refl
    ]

pub same_shown : (node : Node) → ShowsSame node node
same_shown node = record { counters = refl; phase = refl; receiving = refl; holds = refl }
