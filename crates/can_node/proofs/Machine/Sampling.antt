-- A bit more of a record.
use Rattle.std.proofs.Common.{◌≡◌, ◌≢◌, ◌⊎◌, List, [], ◌∷◌, ◌++◌, map, refl, ap, sym, subst, ◌∙◌, inl, inr}
use Rattle.std.proofs.lemmas.List.{map-append}
use Rattle.can_levels.specs.declared.level.Level.{Level}
use Rattle.can_levels.specs.declared.level.Level.TheVariants.{Recessive}
use Rattle.can_bits.specs.declared.shift.Shift.{Shift}
use Rattle.can_node_rules.specs.declared.role.Role.{Role}
use Rattle.can_node_rules.specs.declared.role.Role.TheVariants.{Transmitter, Receiver}
use Rattle.can_node.specs.declared.stage.Stage.{Stage}
use Rattle.can_node.specs.declared.stage.Stage.TheVariants.{InReset as StageInReset, Integrating as StageIntegrating}
use Rattle.can_node.specs.declared.stage.Stage.TheVariants.{BusIdle as StageBusIdle, InFrame as StageInFrame}
use Rattle.can_node.specs.declared.stage.Stage.TheVariants.{LastEofBit as StageLastEofBit, InFlag as StageInFlag}
use Rattle.can_node.specs.declared.stage.Stage.TheVariants.{InDelimiter as StageInDelimiter}
use Rattle.can_node.specs.declared.stage.Stage.TheVariants.{InInterframeSpace as StageInInterframeSpace}
use Rattle.can_node_rules.specs.Bits.{Bit, recessive_bit, recessive_bits}
use Rattle.can_node_rules.specs.Context.{ContextValue}
use Rattle.can_node_rules.specs.Pieces.{Place}
use Rattle.can_node_rules.specs.Pieces.Place.{AtReset, AtIntegration, AtIdle, AtLastEofBit}
use Rattle.can_node_rules.specs.Pieces.Place.{AtFlag, AtDelimiter, AtInterframeSpace}
use Rattle.can_node_rules.specs.Record.{RecordEntry, bits_in}
use Rattle.can_node_rules.specs.Record.RecordEntry.{OneBit}
use Rattle.can_node_rules.specs.Record.Inner.{none_left, samples}
use Rattle.can_node_rules.specs.Effects.{along}
use Rattle.can_node_rules.specs.Cut.{IsUnfinished, IsOpenAt}
use Rattle.can_node_rules.specs.Cut.IsOpenAt.{rests, begun}
use Rattle.can_node_rules.specs.Driving.{Drives}
use Rattle.can_node.specs.Stages.{At}
use Rattle.can_node_rules.specs.UnfinishedPieces.{ByRole, IsInFrame}
use Rattle.can_node_rules.proofs.Machine.Along.{bits_both}
use Rattle.can_node_rules.proofs.OneCut.GoOn.{inner_both, inner_open, begins_open, rest_open}
use Rattle.can_node_rules.proofs.Waiting.Integrations.{open_integrating}
use Rattle.can_node.proofs.Waiting.Flags.{open_flagging}
use Rattle.can_node_rules.proofs.Waiting.Delimiters.{open_delimiting}
use Rattle.can_node_rules.proofs.Waiting.InterframeSpaces.{open_interframe}
use Rattle.can_node_rules.proofs.Reception.Unfinished.{open_receiving}
use Rattle.can_node_rules.proofs.Transmission.TransmitterFronts.{open_transmitting}
use Rattle.can_node_rules.proofs.Bits.FrameSites.{place_of}

-- ---- a piece under way isn't whole

-- in a frame
open_by : (role : Role) (c now : ContextValue) (place : Place) (bits : List Bit) → IsInFrame place bits →
    ByRole role c now place bits → IsUnfinished c place bits
open_by Transmitter c now place bits site h = open_transmitting c now place bits (place_of place bits site) h
open_by Receiver c now place bits site h = open_receiving c place bits h

-- at a place
moved : (c : ContextValue) (place s : Place) (bits : List Bit) → place ≡ s → IsUnfinished c s bits →
    IsUnfinished c place bits
moved c place s bits e h = let P : Place → Type 0 = λ z. IsUnfinished c z bits in subst P (sym e) h

pub open_at : (stage : Stage) (shift : Shift) (c now : ContextValue) (place : Place) (bits : List Bit) →
    place ≢ AtReset → bits ≢ [] → At stage shift c now place bits →
    IsUnfinished c place bits
open_at StageInReset shift c now place bits away some at = absurd (away at.0)
open_at (StageIntegrating left run) shift c now place bits away some at =
    moved c place AtIntegration bits at.0 (open_integrating left run c bits at.1)
open_at StageBusIdle shift c now place bits away some at = absurd (some at.1)
open_at StageInFrame shift c now place bits away some at = open_by now.role c now place bits at.site at.by_role
open_at StageLastEofBit shift c now place bits away some at = absurd (some at.1)
open_at (StageInFlag n like) shift c now place bits away some at =
    moved c place AtFlag bits at.0 (open_flagging n like c bits at.1)
open_at (StageInDelimiter d r) shift c now place bits away some at =
    moved c place AtDelimiter bits at.0 (open_delimiting d r c bits at.1)
open_at (StageInInterframeSpace n) shift c now place bits away some at =
    moved c place AtInterframeSpace bits at.0 (open_interframe n c bits at.1)

-- ---- the entries of the piece with a bit more

-- a bit more
pub bits_push : (slice : List RecordEntry) (b : Bit) → bits_in (slice ++ OneBit b ∷ []) ≡ bits_in slice ++ b ∷ []
bits_push slice b = bits_both slice (OneBit b ∷ [])

-- a list with a bit at its end has one
pub some_bit : (bits : List Bit) (b : Bit) → bits ++ b ∷ [] ≢ []
some_bit [] b e = cc
some_bit (x ∷ bits) b e = cc

-- in reset
rest_push : (c : ContextValue) (slice : List RecordEntry) (b : Bit) → b.driven ≡ Recessive → IsOpenAt c AtReset slice →
    IsOpenAt c AtReset (slice ++ OneBit b ∷ [])
rest_push c slice b quiet opened =
    let l = rest_open opened in
    let same : recessive_bit b.seen ≡ b = λ i. record { driven = sym quiet i; seen = b.seen } in
    let whole : map OneBit (recessive_bits (l.0 ++ b.seen ∷ [])) ≡ slice ++ OneBit b ∷ [] =
    ap (λ m. map OneBit m) (map-append recessive_bit l.0 (b.seen ∷ []))
    ∙ map-append OneBit (recessive_bits l.0) (recessive_bit b.seen ∷ [])
    ∙ ap (λ m. m ++ OneBit (recessive_bit b.seen) ∷ []) (sym l.1) ∙ ap (λ x. slice ++ OneBit x ∷ []) same in
    let P : List RecordEntry → Type 0 = λ m. IsOpenAt c AtReset m in
    subst P whole (rests (l.0 ++ b.seen ∷ []))

-- at any other place
piece_push : (c : ContextValue) (place : Place) (slice : List RecordEntry) (b : Bit) → place ≢ AtReset →
    IsOpenAt c place slice → IsUnfinished c place (bits_in slice ++ b ∷ []) →
    IsOpenAt c place (slice ++ OneBit b ∷ [])
piece_push c place slice b away opened unfinished =
    let P : List Bit → Type 0 = λ m. IsUnfinished c place m in
    begun (inner_both (inner_open away opened) (samples b none_left)) (begins_open b away opened)
    (subst P (sym (bits_push slice b)) unfinished)

-- whether a place is that of a rest
pub resting_or : (place : Place) → (place ≡ AtReset) ⊎ (place ≢ AtReset)
resting_or AtReset = inl refl
resting_or AtIntegration = inr (λ e. cc)
resting_or AtIdle = inr (λ e. cc)
resting_or Place.AfterSof = inr (λ e. cc)
resting_or AtLastEofBit = inr (λ e. cc)
resting_or AtFlag = inr (λ e. cc)
resting_or AtDelimiter = inr (λ e. cc)
resting_or AtInterframeSpace = inr (λ e. cc)

-- what is driven in a rest
pub rest_drives : (now : ContextValue) (place : Place) (bits : List Bit) (x : Level) → place ≡ AtReset →
    Drives now place bits x → x ≡ Recessive
rest_drives now place bits x e h = let P : Place → Type 0 = λ s. Drives now s bits x in subst P e h

-- the entries with a bit more are open
pub pushed_open : (stage : Stage) (shift : Shift) (c now : ContextValue) (place : Place) (slice : List RecordEntry)
    (b : Bit) →
    IsOpenAt c place slice → Drives (along c place [] slice) place (bits_in slice) b.driven →
    At stage shift c now place (bits_in slice ++ b ∷ []) →
    IsOpenAt c place (slice ++ OneBit b ∷ [])
pushed_open stage shift c now place slice b opened drives at =
    elim (resting_or place) [
      | inl rest ↦
          let P : Place → Type 0 = λ s. IsOpenAt c s slice in
          let Q : Place → Type 0 = λ s. IsOpenAt c s (slice ++ OneBit b ∷ []) in
          subst Q (sym rest) (rest_push c slice b
          (rest_drives (along c place [] slice) place (bits_in slice) b.driven rest drives) (subst P rest opened))
      | inr away ↦ piece_push c place slice b away opened
          (open_at stage shift c now place (bits_in slice ++ b ∷ []) away (some_bit (bits_in slice) b) at)
    ]
