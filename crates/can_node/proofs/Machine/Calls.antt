-- What a start, a stop, a request and an abort make of a record.
use Rattle.std.proofs.Common.{◌≡◌, ◌≤◌, Bool, true, false, List, [], ◌∷◌}
use Rattle.std.proofs.Common.{◌++◌, refl, ap, sym, subst, ◌∙◌, arith, if◌then◌else◌}
use Rattle.std.proofs.lemmas.List.{append-nil}
use Rattle.can_node_rules.specs.declared.config.Config.{Config}
use Rattle.can_node.specs.declared.stage.Stage.{Stage}
use Rattle.can_node.specs.declared.stage.Stage.TheVariants.{InReset as StageInReset, Integrating as StageIntegrating}
use Rattle.can_node.specs.declared.node.Node.{Node}
use Rattle.can_node_rules.specs.Bits.{recessive_bits}
use Rattle.can_node_rules.specs.Context.{ContextValue, fresh, integration_count}
use Rattle.can_node_rules.specs.Pieces.{Place}
use Rattle.can_node_rules.specs.Pieces.Place.{AtReset, AtIntegration}
use Rattle.can_node_rules.specs.Record.{RecordEntry, bits_in}
use Rattle.can_node_rules.specs.Record.RecordEntry.{Start, Stop}
use Rattle.can_node_rules.specs.Effects.{along, with_start, with_stop}
use Rattle.can_node_rules.specs.Cut.{IsOpenAt, IsOnBus, Move, From, FinishedPiece, none_yet}
use Rattle.can_node_rules.specs.Cut.IsOpenAt.{nothing}
use Rattle.can_node_rules.specs.Cut.Move.{started, stopped}
use Rattle.can_node.specs.Standing.{context_of, HasBody}
use Rattle.can_node.specs.Stages.{At}
use Rattle.can_node.specs.Stands.{StandsAt, FollowsAt}
use Rattle.can_node_rules.proofs.OneCut.GoOn.{open_end, stays_end, move_on, rest_open}
use Rattle.can_node_rules.proofs.Waiting.Integrations.{integrates_from}
use Rattle.can_node_rules.proofs.OneCut.Resets.{along_rest, start_stays}

-- the same of a slice that is open there
pub along_open : (c : ContextValue) (slice : List RecordEntry) → IsOpenAt c AtReset slice → along c AtReset [] slice ≡ c
along_open c slice opened =
    let bits = rest_open opened in
    ap (λ l. along c AtReset [] l) bits.1 ∙ along_rest c [] (recessive_bits bits.0)

-- ---- a new node

pub new_stands : (node : Node) → node.stage ≡ StageInReset → context_of node.context ≡ fresh → FollowsAt node [] []
new_stands node reset shows =
    let P : Stage → Type 0 = λ s. At s node.shift fresh fresh AtReset [] in
    record {
      cut = record { context = fresh; place = AtReset; rest = []; from = From.here nothing (omega arith) };
      shows = shows;
      at = subst P (sym reset) (refl, refl);
    }

-- it holds no request
pub new_holds : (node : Node) → context_of node.context ≡ fresh → HasBody node.context node.body
new_holds node shows request e = let none = sym (ap (λ (d : ContextValue). d.held) shows) ∙ e in absurd cc

-- ---- a start

-- at least once eleven recessive levels are waited for
join_some : (off : Bool) → 1 ≤ (if off then 128 else 1)
join_some true = omega arith
join_some false = omega arith

-- the cut from a rest on
started_on : (config : Config) {c : ContextValue} {place : Place} {entries slice : List RecordEntry}
    {found : List FinishedPiece} → place ≡ AtReset →
    From none_yet fresh AtReset entries found c place slice →
    From none_yet fresh AtReset (entries ++ Start config ∷ []) (found ++ []) (with_start config c) AtIntegration []
started_on config {c = c} {place = place} {entries = entries} {slice = slice} {found = found} rest cut =
    let P : Place → Type 0 = λ s. From none_yet fresh AtReset entries found c s slice in
    let here : From none_yet fresh AtReset entries found c AtReset slice = subst P rest cut in
    let opened = open_end here in
    let bits = rest_open opened in
    let stays : IsOnBus c = subst (λ d. IsOnBus d) (along_open c slice opened) (stays_end here) in
    let Q : List RecordEntry → Type 0 = λ l. Move c AtReset (l ++ Start config ∷ []) []
    (with_start config c) AtIntegration in
    move_on (Start config ∷ []) [] here (subst Q (sym bits.1) (started config bits.0)) (start_stays config c stays)

-- the context of a rest is the one of its beginning
rest_now : (c : ContextValue) (place : Place) (slice : List RecordEntry) → place ≡ AtReset → IsOpenAt c place slice →
    along c place [] slice ≡ c
rest_now c place slice rest opened =
    let P : Place → Type 0 = λ s. IsOpenAt c s slice in
    let Q : Place → Type 0 = λ s. along c s [] slice ≡ c in
    subst Q (sym rest) (along_open c slice (subst P rest opened))

pub started_stands : (old new : Node) (config : Config) (entries : List RecordEntry) (found : List FinishedPiece) →
    old.stage ≡ StageInReset →
    context_of new.context ≡ with_start config (context_of old.context) →
    new.stage ≡ StageIntegrating (integration_count (context_of new.context)) 0 →
    StandsAt old entries found → FollowsAt new (entries ++ Start config ∷ []) found
started_stands old new config entries found reset shows stage h =
    let R : Stage → Type 0 = λ s. At s old.shift h.cut.context (along h.cut.context h.cut.place [] h.cut.rest)
    h.cut.place (bits_in h.cut.rest) in
    let rest : h.cut.place ≡ AtReset = (subst R reset h.at).0 in
    let now = with_start config h.cut.context in
    let same : context_of new.context ≡ now =
    shows ∙ ap (λ c. with_start config c)
    (h.shows ∙ rest_now h.cut.context h.cut.place h.cut.rest rest (open_end h.cut.from)) in
    let P : List FinishedPiece → Type 0 =
    λ l. From none_yet fresh AtReset (entries ++ Start config ∷ []) l now AtIntegration [] in
    let Q : Stage → Type 0 = λ s. At s new.shift now now AtIntegration [] in
    let waits : new.stage ≡ StageIntegrating (integration_count now) 0 =
    stage ∙ ap (λ c. StageIntegrating (integration_count c) 0) same in
    record {
      cut = record {
        context = now;
        place = AtIntegration;
        rest = [];
        from = subst P (append-nil found) (started_on config rest h.cut.from);
      };
      shows = same;
      at = subst Q (sym waits) (refl, integrates_from now (join_some now.off));
    }

-- ---- a stop

pub stopped_stands : (old new : Node) (entries : List RecordEntry) (found : List FinishedPiece) →
    new.stage ≡ StageInReset →
    context_of new.context ≡ with_stop (context_of old.context) → StandsAt old entries found →
    FollowsAt new (entries ++ Stop ∷ []) found
stopped_stands old new entries found reset shows h =
    let now = along h.cut.context h.cut.place [] h.cut.rest in
    let stays = stays_end h.cut.from in
    let P : List FinishedPiece → Type 0 =
    λ l. From none_yet fresh AtReset (entries ++ Stop ∷ []) l (with_stop now) AtReset [] in
    let Q : Stage → Type 0 = λ s. At s new.shift (with_stop now) (with_stop now) AtReset [] in
    record {
      cut = record {
        context = with_stop now;
        place = AtReset;
        rest = [];
        from = subst P (append-nil found)
            (move_on (Stop ∷ []) [] h.cut.from (stopped h.cut.rest (open_end h.cut.from) stays) stays);
      };
      shows = shows ∙ ap (λ c. with_stop c) h.shows;
      at = subst Q (sym reset) (refl, refl);
    }
