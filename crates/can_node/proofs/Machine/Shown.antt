-- What a node that stands at a record shows of it.
use Rattle.std.proofs.Common.{◌≡◌, ◌≢◌, Bool, true, false, not, is_some, Option, Some, None}
use Rattle.std.proofs.Common.{List, [], nat_lt, refl, ap, sym, subst, ◌∙◌, if◌then◌else◌, ℕ}
use Rattle.can_levels.specs.declared.level.Level.{Level}
use Rattle.can_levels.specs.declared.level.Level.TheVariants.{Recessive}
use Rattle.can_bits.specs.declared.shift.Shift.{Shift}
use Rattle.can_node.specs.declared.stage.Stage.{Stage}
use Rattle.can_node.specs.declared.stage.Stage.TheVariants.{InReset as StageInReset, Integrating as StageIntegrating}
use Rattle.can_node.specs.declared.stage.Stage.TheVariants.{BusIdle as StageBusIdle, InFrame as StageInFrame}
use Rattle.can_node.specs.declared.stage.Stage.TheVariants.{LastEofBit as StageLastEofBit, InFlag as StageInFlag}
use Rattle.can_node.specs.declared.stage.Stage.TheVariants.{InDelimiter as StageInDelimiter}
use Rattle.can_node.specs.declared.stage.Stage.TheVariants.{InInterframeSpace as StageInInterframeSpace}
use Rattle.can_node_rules.specs.declared.phase.Phase.{Phase}
use Rattle.can_node_rules.specs.declared.phase.Phase.TheVariants.{Reset, Waiting, Idle, Frame, Flag}
use Rattle.can_node_rules.specs.declared.phase.Phase.TheVariants.{Delimiter, Intermission, Suspension}
use Rattle.can_node.specs.declared.node.Node.{Node}
use Rattle.can_node_rules.specs.declared.request.Request.{Request}
use Rattle.can_node_rules.specs.Bits.{Bit}
use Rattle.can_node_rules.specs.Context.{ContextValue, is_held}
use Rattle.can_node_rules.specs.Pieces.{Place}
use Rattle.can_node_rules.specs.Pieces.Place.{AtIdle, AtInterframeSpace}
use Rattle.can_node_rules.specs.Record.{RecordEntry, bits_in}
use Rattle.can_node_rules.specs.Cut.{FinishedPiece}
use Rattle.can_node_rules.specs.Driving.{Drives, phase_at}
use Rattle.can_node.specs.Standing.{context_of, HasBody}
use Rattle.can_node_rules.specs.KeptContexts.{IsKept}
use Rattle.can_node.specs.Stages.{At}
use Rattle.can_node_rules.specs.UnfinishedPieces.{IsInFrame, IsInInterframeSpace}
use Rattle.can_node_rules.specs.UnfinishedPieces.IsInFrame.{from_idle, from_sof}
use Rattle.can_node_rules.specs.NextBit.{now_in, rests_in}
use Rattle.can_node.specs.Stands.{FollowsAt, StandsAt, phase_of_stage}
use Rattle.can_node_rules.proofs.Machine.Along.{is_kept}
use Rattle.can_node.proofs.Machine.Ats.{at_is}
use Rattle.can_node_rules.proofs.Waiting.InterframeSpaces.{interframe_length}

-- where the node is, by its own fields
pub at_shown : (node : Node) (entries : List RecordEntry) (found : List FinishedPiece)
    (h : StandsAt node entries found) →
    At node.stage node.shift h.cut.context (context_of node.context) h.cut.place (bits_in h.cut.rest)
at_shown node entries found h =
    let P : ContextValue → Type 0 = λ d. At node.stage node.shift h.cut.context d h.cut.place (bits_in h.cut.rest) in
    subst P (sym h.shows) h.at

-- what its context keeps
pub kept_shown : (node : Node) (entries : List RecordEntry) (found : List FinishedPiece)
    (h : StandsAt node entries found) →
    IsKept h.cut.place h.cut.context (context_of node.context)
kept_shown node entries found h =
    let P : ContextValue → Type 0 = λ d. IsKept h.cut.place h.cut.context d in
    subst P (sym h.shows) (is_kept h.cut.context h.cut.place h.cut.rest)

-- ---- the level that is kept

-- what it drives next, by its own context
pub next_shown : (node : Node) (entries : List RecordEntry) (found : List FinishedPiece)
    (h : StandsAt node entries found) →
    Drives (context_of node.context) h.cut.place (bits_in h.cut.rest) node.next
next_shown node entries found h =
    subst (λ d. Drives d h.cut.place (bits_in h.cut.rest) node.next) (sym h.shows) h.next

-- the level is what a node drives next, by its own fields at each place where they may stand
abbrev pub DrivesBy : Node → Level → Type 0
DrivesBy node x = (c : ContextValue) (place : Place) (bits : List Bit) →
    At node.stage node.shift c (context_of node.context) place bits →
    IsKept place c (context_of node.context) → HasBody node.context node.body →
    Drives (context_of node.context) place bits x

-- a node that keeps it and follows a record stands at it
pub stands_up : (node : Node) (entries : List RecordEntry) (found : List FinishedPiece) → FollowsAt node entries found →
    HasBody node.context node.body → DrivesBy node node.next →
    StandsAt node entries found
stands_up node entries found h body level =
    let c = h.cut.context in
    let place = h.cut.place in
    let bits = bits_in h.cut.rest in
    let P : ContextValue → Type 0 = λ d. At node.stage node.shift c d place bits in
    let Q : ContextValue → Type 0 = λ d. IsKept place c d in
    let R : ContextValue → Type 0 = λ d. Drives d place bits node.next in
    record {
      cut = h.cut;
      shows = h.shows;
      at = h.at;
      next = subst R h.shows (level c place bits (subst P (sym h.shows) h.at)
          (subst Q (sym h.shows) (is_kept c place h.cut.rest)) body);
      body = body;
    }

-- in reset, and while the bus is waited for, a node drives recessive
pub reset_drives : (node : Node) (x : Level) → node.stage ≡ StageInReset → x ≡ Recessive → DrivesBy node x
reset_drives node x e recessive c place bits at kept body =
    let h = at_is StageInReset node.stage node.shift c (context_of node.context) place bits e at in
    let P : Place → Type 0 = λ s. Drives (context_of node.context) s bits x in
    subst P (sym h.0) recessive

pub integrating_drives : (node : Node) (x : Level) (left run : ℕ) → node.stage ≡ StageIntegrating left run →
    x ≡ Recessive → DrivesBy node x
integrating_drives node x left run e recessive c place bits at kept body =
    let h = at_is (StageIntegrating left run) node.stage node.shift c (context_of node.context) place bits e at in
    let P : Place → Type 0 = λ s. Drives (context_of node.context) s bits x in
    subst P (sym h.0) recessive

-- its phase in a frame
in_frame : (place : Place) (bits : List Bit) → IsInFrame place bits → Frame ≡ phase_at place bits
in_frame place bits (from_idle b more) = refl
in_frame place bits (from_sof more) = refl

idle_phase : (place : Place) (bits : List Bit) → place ≡ AtIdle → bits ≡ [] → Idle ≡ phase_at place bits
idle_phase place bits e none = sym (ap (λ s. phase_at s bits) e ∙ ap (λ l. phase_at AtIdle l) none)

interframe_phase : (n : ℕ) (c : ContextValue) (place : Place) (bits : List Bit) → place ≡ AtInterframeSpace →
    IsInInterframeSpace n c bits →
    (if nat_lt n 3 then Intermission else Suspension) ≡ phase_at place bits
interframe_phase n c place bits e h =
    ap (λ k. if nat_lt k 3 then Intermission else Suspension) (sym (interframe_length n c bits h))
    ∙ sym (ap (λ s. phase_at s bits) e)

-- the stage fixes the phase
phase_by : (stage : Stage) (shift : Shift) (c now : ContextValue) (place : Place) (bits : List Bit) →
    At stage shift c now place bits →
    phase_of_stage stage ≡ phase_at place bits
phase_by StageInReset shift c now place bits h = sym (ap (λ s. phase_at s bits) h.0)
phase_by (StageIntegrating left run) shift c now place bits h = sym (ap (λ s. phase_at s bits) h.0)
phase_by StageBusIdle shift c now place bits h = idle_phase place bits h.0 h.1
phase_by StageInFrame shift c now place bits h = in_frame place bits h.site
phase_by StageLastEofBit shift c now place bits h = sym (ap (λ s. phase_at s bits) h.0)
phase_by (StageInFlag n last) shift c now place bits h = sym (ap (λ s. phase_at s bits) h.0)
phase_by (StageInDelimiter d r) shift c now place bits h = sym (ap (λ s. phase_at s bits) h.0)
phase_by (StageInInterframeSpace n) shift c now place bits h = interframe_phase n c place bits h.0 h.1

pub phase_shown : (node : Node) (entries : List RecordEntry) (found : List FinishedPiece)
    (h : StandsAt node entries found) →
    phase_of_stage node.stage ≡ phase_at h.cut.place (bits_in h.cut.rest)
phase_shown node entries found h =
    phase_by node.stage node.shift h.cut.context (now_in h.cut) h.cut.place (bits_in h.cut.rest) h.at

-- it doesn't rest in any other phase
awake : (p : Phase) (held : Bool) → p ≢ Reset → p ≢ Idle → false ≡ rests_in p held
awake Reset held off idle = absurd (off refl)
awake Idle held off idle = absurd (idle refl)
awake Waiting held off idle = refl
awake Frame held off idle = refl
awake Flag held off idle = refl
awake Delimiter held off idle = refl
awake Intermission held off idle = refl
awake Suspension held off idle = refl

pub awake_shown : (p q : Phase) (held : Bool) → p ≡ q → p ≢ Reset → p ≢ Idle → false ≡ rests_in q held
awake_shown p q held e off idle = awake p held off idle ∙ ap (λ r. rests_in r held) e

-- in idle it rests where it holds no request
none_is : (held : Option Request) (none : Bool) → is_some held ≡ not none →
    none ≡ (if is_held held then false else true)
none_is None true e = refl
none_is None false e = absurd cc
none_is (Some request) true e = absurd cc
none_is (Some request) false e = refl

pub idle_shown : (node : Node) (entries : List RecordEntry) (found : List FinishedPiece)
    (h : StandsAt node entries found)
    (p : Phase) (none : Bool) → p ≡ Idle →
    p ≡ phase_at h.cut.place (bits_in h.cut.rest) → is_some node.context.held ≡ not none →
    none ≡ rests_in (phase_at h.cut.place (bits_in h.cut.rest)) (is_held (now_in h.cut).held)
idle_shown node entries found h p none e f g =
    let held = (now_in h.cut).held in
    none_is held none (sym (ap (λ (c : ContextValue). is_some c.held) h.shows) ∙ g)
    ∙ ap (λ q. rests_in q (is_held held)) (sym e ∙ f)
