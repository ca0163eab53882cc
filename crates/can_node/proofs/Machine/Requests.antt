-- What a request and an abort make of a record.
use Rattle.std.proofs.Common.{◌++◌, ◌∷◌, [], ◌≡◌, ◌≢◌, Bool, true, false, Option, Some}
use Rattle.std.proofs.Common.{None, is_some, List, refl, ap, sym, subst, ◌∙◌, if◌then◌else◌}
use Rattle.can_bits.specs.declared.shift.Shift.{Shift}
use Rattle.can_node_rules.specs.declared.role.Role.{Role}
use Rattle.can_node_rules.specs.declared.role.Role.TheVariants.{Transmitter}
use Rattle.can_node_rules.specs.declared.request.Request.{Request}
use Rattle.can_node.specs.declared.stage.Stage.{Stage}
use Rattle.can_node.specs.declared.stage.Stage.TheVariants.{InReset as StageInReset, Integrating as StageIntegrating}
use Rattle.can_node.specs.declared.stage.Stage.TheVariants.{BusIdle as StageBusIdle, InFrame as StageInFrame}
use Rattle.can_node.specs.declared.stage.Stage.TheVariants.{LastEofBit as StageLastEofBit, InFlag as StageInFlag}
use Rattle.can_node.specs.declared.stage.Stage.TheVariants.{InDelimiter as StageInDelimiter}
use Rattle.can_node.specs.declared.stage.Stage.TheVariants.{InInterframeSpace as StageInInterframeSpace}
use Rattle.can_node.specs.declared.node.Node.{Node}
use Rattle.can_node_rules.specs.Bits.{Bit}
use Rattle.can_node_rules.specs.Context.{ContextValue, is_transmitter, is_held}
use Rattle.can_node_rules.specs.Pieces.{Place}
use Rattle.can_node_rules.specs.Pieces.Place.{AtReset}
use Rattle.can_node_rules.specs.Record.{RecordEntry, bits_in}
use Rattle.can_node_rules.specs.Record.RecordEntry.{Send, Abort}
use Rattle.can_node_rules.specs.Effects.{with_send, with_abort, keep_first, is_in_progress}
use Rattle.can_node_rules.specs.Cut.{FinishedPiece}
use Rattle.can_node.specs.Standing.{context_of}
use Rattle.can_node.specs.Stages.{At, IsReading}
use Rattle.can_node_rules.specs.UnfinishedPieces.{ByRole, IsInFrame, IsTransmitting}
use Rattle.can_node_rules.specs.UnfinishedPieces.IsInFrame.{from_idle, from_sof}
use Rattle.can_node_rules.specs.NextBit.{now_in}
use Rattle.can_node.specs.Stands.{FollowsAt, StandsAt}
use Rattle.can_node_rules.specs.Outcomes.{abort_of}
use Rattle.can_node.proofs.Machine.Between.{changed, send_between, abort_between, between_stands}
use Rattle.can_node.proofs.Machine.Shown.{at_shown}

-- ---- a request

-- a node that isn't in reset is at no rest
awake : (stage : Stage) (shift : Shift) (c now : ContextValue) (place : Place) (bits : List Bit) →
    stage ≢ StageInReset → At stage shift c now place bits → place ≢ AtReset
awake StageInReset shift c now place bits off at e = off refl
awake (StageIntegrating left run) shift c now place bits off at e = let wrong = sym at.0 ∙ e in cc
awake StageBusIdle shift c now place bits off at e = let wrong = sym at.0 ∙ e in cc
awake StageInFrame shift c now place bits off at e = placed place bits at.site e
  where
    placed : (place : Place) (bits : List Bit) → IsInFrame place bits → place ≢ AtReset
    placed place bits (from_idle b more) e = cc
    placed place bits (from_sof more) e = cc
awake StageLastEofBit shift c now place bits off at e = let wrong = sym at.0 ∙ e in cc
awake (StageInFlag n like) shift c now place bits off at e = let wrong = sym at.0 ∙ e in cc
awake (StageInDelimiter d r) shift c now place bits off at e = let wrong = sym at.0 ∙ e in cc
awake (StageInInterframeSpace n) shift c now place bits off at e = let wrong = sym at.0 ∙ e in cc

pub awake_now : (node : Node) (entries : List RecordEntry) (found : List FinishedPiece)
    (h : StandsAt node entries found) →
    node.stage ≢ StageInReset → h.cut.place ≢ AtReset
awake_now node entries found h off =
    awake node.stage node.shift h.cut.context (now_in h.cut) h.cut.place (bits_in h.cut.rest) off h.at

-- none is held
pub none_held : (held : Option Request) → is_some held ≡ false → held ≡ None
none_held None e = refl
none_held (Some request) e = absurd cc

pub nothing_held : (held : Option Request) → is_held held ≡ false → held ≡ None
nothing_held None e = refl
nothing_held (Some request) e = absurd cc

-- it was held by the node's own fields
pub held_now : (node : Node) (entries : List RecordEntry) (found : List FinishedPiece) (h : StandsAt node entries found)
    (held : Option Request) → node.context.held ≡ held →
    (now_in h.cut).held ≡ held
held_now node entries found h held e = sym (ap (λ (c : ContextValue). c.held) h.shows) ∙ e

-- a transmitter in its frame holds a request
transmitting_holds : (stage : Stage) (shift : Shift) (c now : ContextValue) (place : Place) (bits : List Bit) →
    stage ≡ StageInFrame → now.role ≡ Transmitter → At stage shift c now place bits →
    now.held ≢ None
transmitting_holds stage shift c now place bits in_frame role at none =
    let P : Stage → Type 0 = λ s. At s shift c now place bits in
    let Q : Role → Type 0 = λ r. ByRole r c now place bits in
    let reading : IsReading shift c now place bits = subst P in_frame at in
    let transmitting : IsTransmitting c now place bits = subst Q role reading.by_role in
    let wrong = sym transmitting.held ∙ none in cc

pub sent_stands : (old new : Node) (request : Request) → old.stage ≢ StageInReset → old.context.held ≡ None →
    context_of new.context ≡ changed (context_of old.context) (Some request) old.context.aborted →
    new.stage ≡ old.stage → new.shift ≡ old.shift →
    (entries : List RecordEntry) (found : List FinishedPiece) → StandsAt old entries found →
    FollowsAt new (entries ++ Send request ∷ []) found
sent_stands old new request off none shows stage shift entries found h =
    let now = now_in h.cut in
    let away = awake_now old entries found h off in
    let free : now.held ≡ None = held_now old entries found h None none in
    let marks : old.context.aborted ≡ now.aborted = ap (λ (c : ContextValue). c.aborted) h.shows in
    let change : with_send request now ≡ changed now (Some request) old.context.aborted =
    ap (λ r. record now { held = keep_first r request }) free ∙ ap (λ m. changed now (Some request) m) (sym marks) in
    between_stands old new entries found h (Send request) (Some request) old.context.aborted
    (send_between request h.cut.place away) away change
    (λ in_frame role. absurd (transmitting_holds old.stage old.shift h.cut.context now h.cut.place (bits_in h.cut.rest)
    in_frame role h.at free)) shows stage shift

-- ---- an abort

-- what a node that holds a request and isn't in reset answers by its own fields
pub abort_is : (node : Node) (entries : List RecordEntry) (found : List FinishedPiece) (h : StandsAt node entries found)
    (request : Request) (going marks : Bool) →
    node.context.held ≡ Some request → going ≡ is_in_progress (context_of node.context) h.cut.place →
    marks ≡ node.context.aborted →
    abort_of going (Some request) marks
    ≡ (let c = now_in h.cut in abort_of (is_in_progress c h.cut.place) c.held c.aborted)
abort_is node entries found h request going marks held goes marked =
    let c = now_in h.cut in
    ap (λ g. abort_of g (Some request) marks) (goes ∙ ap (λ k. is_in_progress k h.cut.place) h.shows)
    ∙ ap (λ r. abort_of (is_in_progress c h.cut.place) r marks)
    (sym (held_now node entries found h (Some request) held))
    ∙ ap (λ m. abort_of (is_in_progress c h.cut.place) c.held m) (marked ∙ ap (λ (k : ContextValue). k.aborted) h.shows)

-- a node that holds a request isn't in reset
pub holding_awake : (node : Node) (entries : List RecordEntry) (found : List FinishedPiece)
    (h : StandsAt node entries found)
    (request : Request) → node.context.held ≡ Some request → h.cut.place ≢ AtReset
holding_awake node entries found h request held =
    holds node.stage node.shift h.cut.context (now_in h.cut) h.cut.place (bits_in h.cut.rest) h.at
    (λ none. let wrong = sym (held_now node entries found h (Some request) held) ∙ none in cc)
  where
    holds : (stage : Stage) (shift : Shift) (c now : ContextValue) (place : Place) (bits : List Bit) →
        At stage shift c now place bits → now.held ≢ None → place ≢ AtReset
    holds StageInReset shift c now place bits at some = absurd (some at.1)
    holds (StageIntegrating left run) shift c now place bits at some =
        awake (StageIntegrating left run) shift c now place bits (λ e. cc) at
    holds StageBusIdle shift c now place bits at some = awake StageBusIdle shift c now place bits (λ e. cc) at
    holds StageInFrame shift c now place bits at some = awake StageInFrame shift c now place bits (λ e. cc) at
    holds StageLastEofBit shift c now place bits at some = awake StageLastEofBit shift c now place bits (λ e. cc) at
    holds (StageInFlag n like) shift c now place bits at some =
        awake (StageInFlag n like) shift c now place bits (λ e. cc) at
    holds (StageInDelimiter d r) shift c now place bits at some =
        awake (StageInDelimiter d r) shift c now place bits (λ e. cc) at
    holds (StageInInterframeSpace n) shift c now place bits at some =
        awake (StageInInterframeSpace n) shift c now place bits (λ e. cc) at

-- an abort of a request in progress marks it
pub marked_stands : (old new : Node) (request : Request) → old.context.held ≡ Some request →
    ((entries : List RecordEntry) (found : List FinishedPiece) (h : StandsAt old entries found) →
    is_in_progress (context_of old.context) h.cut.place ≡ true) →
    context_of new.context ≡ changed (context_of old.context) old.context.held true → new.stage ≡ old.stage →
    new.shift ≡ old.shift →
    (entries : List RecordEntry) (found : List FinishedPiece) → StandsAt old entries found →
    FollowsAt new (entries ++ Abort ∷ []) found
marked_stands old new request held going shows stage shift entries found h =
    let now = now_in h.cut in
    let away = holding_awake old entries found h request held in
    let goes : is_in_progress now h.cut.place ≡ true =
    sym (ap (λ k. is_in_progress k h.cut.place) h.shows) ∙ going entries found h in
    let same : old.context.held ≡ now.held = ap (λ (c : ContextValue). c.held) h.shows in
    let change : with_abort h.cut.place now ≡ changed now old.context.held true =
    ap (λ g. if g then record now { aborted = true } else record now { held = None }) goes
    ∙ ap (λ r. changed now r true) (sym same) in
    between_stands old new entries found h Abort old.context.held true (abort_between h.cut.place away) away change
    (λ in_frame role. same) shows stage shift

-- and any other is dropped
pub dropped_stands : (old new : Node) (request : Request) → old.context.held ≡ Some request →
    ((entries : List RecordEntry) (found : List FinishedPiece) (h : StandsAt old entries found) →
    is_in_progress (context_of old.context) h.cut.place ≡ false) →
    context_of new.context ≡ changed (context_of old.context) None old.context.aborted → new.stage ≡ old.stage →
    new.shift ≡ old.shift →
    (entries : List RecordEntry) (found : List FinishedPiece) → StandsAt old entries found →
    FollowsAt new (entries ++ Abort ∷ []) found
dropped_stands old new request held going shows stage shift entries found h =
    let now = now_in h.cut in
    let away = holding_awake old entries found h request held in
    let goes : is_in_progress now h.cut.place ≡ false =
    sym (ap (λ k. is_in_progress k h.cut.place) h.shows) ∙ going entries found h in
    let marks : old.context.aborted ≡ now.aborted = ap (λ (c : ContextValue). c.aborted) h.shows in
    let change : with_abort h.cut.place now ≡ changed now None old.context.aborted =
    ap (λ g. if g then record now { aborted = true } else record now { held = None }) goes
    ∙ ap (λ m. changed now None m) (sym marks) in
    between_stands old new entries found h Abort None old.context.aborted (abort_between h.cut.place away) away change
    (λ in_frame role. absurd (not_going old.stage old.shift h.cut.context now h.cut.place (bits_in h.cut.rest) in_frame
    role h.at goes)) shows stage shift
  where
    placed : (now : ContextValue) (place : Place) (bits : List Bit) → IsInFrame place bits → now.role ≡ Transmitter →
        is_in_progress now place ≡ true
    placed now place bits (from_idle b more) role = ap is_transmitter role
    placed now place bits (from_sof more) role = ap is_transmitter role

    not_going : (stage : Stage) (shift : Shift) (c now : ContextValue) (place : Place) (bits : List Bit) →
        stage ≡ StageInFrame → now.role ≡ Transmitter → At stage shift c now place bits →
        is_in_progress now place ≢ false
    not_going stage shift c now place bits in_frame role at none =
        let P : Stage → Type 0 = λ s. At s shift c now place bits in
        let reading : IsReading shift c now place bits = subst P in_frame at in
        let yes = placed now place bits reading.site role in cc

-- whether a request is in progress, from what the node says of it
pub going_is : (node : Node) (going value : Bool) → going ≡ value →
    ((c : ContextValue) (place : Place) (bits : List Bit) →
    At node.stage node.shift c (context_of node.context) place bits →
    going ≡ is_in_progress (context_of node.context) place) →
    (entries : List RecordEntry) (found : List FinishedPiece) (h : StandsAt node entries found) →
    is_in_progress (context_of node.context) h.cut.place ≡ value
going_is node going value e f entries found h =
    sym (f h.cut.context h.cut.place (bits_in h.cut.rest) (at_shown node entries found h)) ∙ e
