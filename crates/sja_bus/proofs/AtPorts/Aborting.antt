-- What an abort leaves of a request.
use Rattle.std.proofs.Common.{◌≡◌, ◌≢◌, Bool, true, false, Option, Some, None, List, [], ◌∷◌, ◌++◌, refl, sym, ap, ◌∙◌}
use Rattle.std.proofs.Common.{subst, append-nil}
use Rattle.std.specs.Prelude.{◌||◌, not, if◌then◌else◌}
use Rattle.can_node_rules.specs.declared.request.Request.{Request}
use Rattle.can_node_rules.specs.declared.abort_outcome.AbortOutcome.TheVariants.{Unchanged, Marked, Dropped}
use Rattle.can_node.specs.declared.node.Node.{Node}
use Rattle.can_node_rules.specs.Bits.{Bit as Levels}
use Rattle.can_node_rules.specs.Context.{ContextValue, fresh, is_held}
use Rattle.can_node_rules.specs.Pieces.{Place}
use Rattle.can_node_rules.specs.Pieces.Place.{AtReset}
use Rattle.can_node_rules.specs.Record.{RecordEntry as Event, bits_in}
use Rattle.can_node_rules.specs.Record.RecordEntry.{Abort as AbortedNow}
use Rattle.can_node_rules.specs.Record.Inner.{none_left, aborts}
use Rattle.can_node_rules.specs.Effects.{along, with_abort, is_in_progress}
use Rattle.can_node_rules.specs.FinishedPieces.{FinishedPiece, none_yet}
use Rattle.can_node_rules.specs.Cut.{IsUnfinished, IsOpenAt, IsOnBus, From, IsCut}
use Rattle.can_node_rules.specs.Cut.IsOpenAt.{rests, nothing, begun}
use Rattle.can_node_rules.specs.Cut.Move.{aborted}
use Rattle.can_node_rules.specs.NextBit.{now_in}
use Rattle.can_node.specs.Stands.{Aborts}
use Rattle.can_node_rules.specs.Outcomes.{abort_of}
use Rattle.can_node_rules.proofs.Machine.Along.{along_both, bits_both}
use Rattle.can_node.proofs.Machine.Requests.{holding_awake}
use Rattle.can_node_rules.proofs.OneCut.GoOn.{open_end, stays_end, move_on, open_on, inner_both}
use Rattle.sja_journal.specs.declared.entry.Entry.{Entry}
use Rattle.sja_journal.specs.declared.entry.Entry.TheVariants.{Abort}
use Rattle.sja_journal.specs.Records.{record_of}
use Rattle.sja_journal.proofs.JournalEntries.Entering.{record_push}
use Rattle.sja_bus.specs.Inside.Following.{Follows}
use Rattle.sja_bus.specs.Inside.Turning.{Drops}
use Rattle.can_node_rules.proofs.OneCut.SameCuts.{same_now}

-- ---- the cut of a record with an abort more

-- it has the same pieces, and the context is the one after the abort
pub record AbortedCut (entries : List Event) (found : List FinishedPiece) (next : ContextValue) : Type 0 where
  pub cut : IsCut (entries ++ AbortedNow ∷ []) found
  pub now : now_in cut ≡ next

on_bus : (c : ContextValue) (b : Bool) → IsOnBus c → IsOnBus
    (if b then record c { aborted = true } else record c { held = None })
on_bus c true h = h
on_bus c false h = h

abort_by : (entries : List Event) (found : List FinishedPiece) (c : ContextValue) (place : Place) (slice : List Event) →
    From none_yet fresh AtReset entries found c place slice → IsOpenAt c place slice → place ≢ AtReset →
    AbortedCut entries found (with_abort place (along c place [] slice))
abort_by entries found c place slice cut (rests l) away = absurd (away refl)
abort_by entries found c place slice cut nothing away =
    let next = with_abort place c in
    let on : IsOnBus c = stays_end cut in
    let Q : List FinishedPiece → Type 0 = λ l. From none_yet fresh AtReset
    (entries ++ AbortedNow ∷ []) l next place [] in
    record {
      cut = record {
        context = next;
        place = place;
        rest = [];
        from = subst Q (append-nil found) (move_on (AbortedNow ∷ []) [] cut (aborted away)
            (on_bus c (is_in_progress c place) on));
      };
      now = refl;
    }
abort_by entries found c place slice cut (begun inner begins unfinished) away =
    let now = along c place [] slice in
    let more = slice ++ AbortedNow ∷ [] in
    let whole : along c place [] more ≡ with_abort place now = along_both c place [] slice (AbortedNow ∷ []) in
    let bits : bits_in more ≡ bits_in slice = bits_both slice (AbortedNow ∷ []) ∙ append-nil (bits_in slice) in
    let P : List Levels → Type 0 = λ l. IsUnfinished c place l in
    let opened : IsOpenAt c place more = begun (inner_both inner (aborts none_left))
    (record {
      bit = begins.bit;
      rest = begins.rest ++ AbortedNow ∷ [];
      whole =
          ap (λ l. l ++ AbortedNow ∷ []) begins.whole;
    })
    (subst P (sym bits) unfinished) in
    let on : IsOnBus now = stays_end cut in
    let next : IsOnBus (with_abort place now) = on_bus now (is_in_progress now place) on in
    record {
      cut = record {
        context = c;
        place = place;
        rest = more;
        from = open_on (AbortedNow ∷ []) cut opened (subst (λ d. IsOnBus d) (sym whole) next);
      };
      now = whole;
    }

-- ---- what an abort that changed the node found

-- a request in progress
marked_found : (going : Bool) (held : Option Request) (marked : Bool) → Marked ≡ abort_of going held marked →
    (request : Request) × (held ≡ Some request) × (going ≡ true)
marked_found going None marked e = absurd cc
marked_found true (Some request) marked e = (request, refl, refl)
marked_found false (Some request) marked e = absurd cc

-- one that isn't
dropped_found : (going : Bool) (held : Option Request) (marked : Bool) → Dropped ≡ abort_of going held marked →
    (request : Request) × (held ≡ Some request) × (going ≡ false)
dropped_found going None marked e = absurd cc
dropped_found true (Some request) marked e = absurd (neither (request.single_shot || marked) e)
  where
    neither : (b : Bool) → Dropped ≡ (if b then Unchanged else Marked) → ⊥
    neither true h = cc
    neither false h = cc
dropped_found false (Some request) marked e = (request, refl, refl)

-- ---- what it left, by every cut

-- it is told by the context after the abort
leaves : (node : Node) (j : List Entry) (h : Follows node j) (left : Bool) (request : Request) →
    (now_in h.stands.cut).held ≡ Some request →
    is_held (with_abort h.stands.cut.place (now_in h.stands.cut)).held ≡ left → Drops true (j ++ Abort ∷ []) (not left)
leaves node j h left request held is found cut =
    let c = h.stands.cut in
    let away = holding_awake node (record_of j) h.found h.stands request
    (ap (λ (d : ContextValue). d.held) h.stands.shows ∙ held) in
    let made = abort_by (record_of j) h.found c.context c.place c.rest c.from (open_end c.from) away in
    let one : record_of (j ++ Abort ∷ []) ≡ record_of j ++ AbortedNow ∷ [] = record_push j Abort in
    let P : List Event → Type 0 = λ r. IsCut r found in
    let Q : List Event → Type 0 = λ r. (k : IsCut r found) → is_held (now_in k).held ≡ left in
    let same : (k : IsCut (record_of j ++ AbortedNow ∷ []) found) → is_held (now_in k).held ≡ left =
    λ k. ap (λ (d : ContextValue). is_held d.held) (sym
    (same_now (record_of j ++ AbortedNow ∷ []) h.found found made.cut k) ∙ made.now) ∙ is in
    ap not (sym (subst Q (sym one) same cut))

pub marked_leaves : (old new : Node) (j : List Entry) → Aborts old new Marked → Follows old j →
    Drops true (j ++ Abort ∷ []) false
marked_leaves old new j does h =
    let c = now_in h.stands.cut in let place = h.stands.cut.place in
    let f = marked_found (is_in_progress c place) c.held c.aborted (does.1 (record_of j) h.found h.stands) in
    leaves old j h true f.0 f.1 (ap (λ g. is_held (if g then record c { aborted = true } else record c
    { held = None }).held) f.2 ∙ ap is_held f.1)

pub dropped_leaves : (old new : Node) (j : List Entry) → Aborts old new Dropped → Follows old j →
    Drops true (j ++ Abort ∷ []) true
dropped_leaves old new j does h =
    let c = now_in h.stands.cut in let place = h.stands.cut.place in
    let f = dropped_found (is_in_progress c place) c.held c.aborted (does.1 (record_of j) h.found h.stands) in
    leaves old j h false f.0 f.1 (ap (λ g. is_held (if g then record c { aborted = true } else record c
    { held = None }).held) f.2)
