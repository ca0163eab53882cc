-- A bit in which nothing happens that a node shows.
use Rattle.std.proofs.Common.{◌≡◌, Bool, true, false, [], ◌∷◌, ◌++◌, refl, ap, ◌∙◌}
use Rattle.std.specs.Prelude.{if◌then◌else◌, nat_lt}
use Rattle.can_levels.specs.declared.level.Level.{Level}
use Rattle.can_node.specs.declared.node.Node.{Node}
use Rattle.can_node_rules.specs.declared.phase.Phase.TheVariants.{Reset, Intermission, Suspension}
use Rattle.can_node.specs.declared.stage.Stage.{Stage}
use Rattle.can_node.specs.declared.stage.Stage.TheVariants.{InReset as StageInReset, Integrating as StageIntegrating}
use Rattle.can_node.specs.declared.stage.Stage.TheVariants.{BusIdle as StageBusIdle, InFrame as StageInFrame}
use Rattle.can_node.specs.declared.stage.Stage.TheVariants.{LastEofBit as StageLastEofBit, InFlag as StageInFlag}
use Rattle.can_node.specs.declared.stage.Stage.TheVariants.{InDelimiter as StageInDelimiter}
use Rattle.can_node.specs.declared.stage.Stage.TheVariants.{InInterframeSpace as StageInInterframeSpace}
use Rattle.can_node.specs.Stands.{InReset, DrivesNext, Samples, ShowsSame, phase_of_stage}
use Rattle.can_node_rules.specs.Outcomes.{nothing}
use Rattle.sja_journal.specs.declared.entry.Entry.TheVariants.{Bit}
use Rattle.sja_link.specs.BusLedgers.{free_in}
use Rattle.sja_bus.specs.declared.bus_node.BusNode.{BusNode}
use Rattle.sja_bus.specs.Inside.BusNodes.{IsSound}
use Rattle.sja_bus.proofs.Journal.BitSteps.{follows_bit, follows_on}
use Rattle.sja_bus.proofs.Journal.Reading.{reads_quiet}
use Rattle.sja_bus.proofs.Links.BusNodeParts.{sound_by}

-- a node whose phase is that of reset is in reset
reset_of : (s : Stage) → phase_of_stage s ≡ Reset → s ≡ StageInReset
reset_of StageInReset h = refl
reset_of (StageIntegrating left run) h = absurd cc
reset_of StageBusIdle h = absurd cc
reset_of StageInFrame h = absurd cc
reset_of StageLastEofBit h = absurd cc
reset_of (StageInFlag bits last) h = absurd cc
reset_of (StageInDelimiter dominant recessive) h = absurd cc
reset_of (StageInInterframeSpace bits) h = absurd (neither (nat_lt bits 3) h)
  where
    neither : (b : Bool) → (if b then Intermission else Suspension) ≡ Reset → ⊥
    neither true e = cc
    neither false e = cc

pub still_reset : (old new : Node) → ShowsSame old new → InReset old → InReset new
still_reset old new same h = reset_of new.stage (same.phase ∙ ap phase_of_stage h)

-- a bus node with such a bit more
pub quiet_sound : (s new : BusNode) (node : Node) (x seen : Level) (receiving : Bool) → DrivesNext s.node x →
    Samples s.node node seen (nothing receiving) → ShowsSame s.node node →
    new.node ≡ node → new.journal.entries ≡ s.journal.entries ++ Bit x seen ∷ [] → new.ended ≡ s.ended →
    new.activity ≡ s.activity → free_in new.ledger ≡ free_in s.ledger → IsSound s → IsSound new
quiet_sound s new node x seen receiving drives samples same is entries ended activity free h =
    let j = s.journal.entries in
    sound_by new node (j ++ Bit x seen ∷ []) s.ended s.activity (free_in s.ledger) is entries ended activity free
    (follows_on node (j ++ Bit x seen ∷ []) (follows_bit s.node node j x seen (nothing receiving) drives
    samples refl h.follows))
    (reads_quiet s.node node j (Bit x seen) s.ended s.activity (free_in s.ledger) (λ p. refl, refl, refl, refl)
    (still_reset s.node node same) h.reads)
