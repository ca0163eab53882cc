-- The quick way of a bit: a bit in which nothing happens that the node shows.
use Rattle.std.proofs.Common.{◌≡◌, ◌<◌, ◌&&◌, not, Bool, true, false, nat_le, Some, None}
use Rattle.std.proofs.Common.{List, [], ◌∷◌, ◌++◌, refl, ap, sym, subst, ◌∙◌, if◌then◌else◌}
use Rattle.std.proofs.lemmas.List.{append-nil}
use Rattle.std.proofs.lemmas.Bool.{lt-leb}
use Rattle.std.proofs.Math.Bool.{and-not_self}
use Rattle.can_levels.specs.declared.level.Level.{Level}
use Rattle.can_node_rules.specs.declared.outcome.Outcome.TheVariants.{Failed}
use Rattle.can_node.specs.declared.context.Context.{Context}
use Rattle.can_node.specs.declared.node.Node.{Node}
use Rattle.can_node_rules.specs.Bits.{Bit}
use Rattle.can_node_rules.specs.Context.{ContextValue, is_transmitter, is_held}
use Rattle.can_node_rules.specs.Pieces.{Place}
use Rattle.can_node_rules.specs.Record.{RecordEntry}
use Rattle.can_node_rules.specs.Record.RecordEntry.{OneBit}
use Rattle.can_node_rules.specs.Counting.{at_bit}
use Rattle.can_node_rules.specs.Cut.{FinishedPiece, none_yet, counted}
use Rattle.can_node_rules.specs.Events.{Step, stepped, lost_in, received_in, fault_in, ended_in, events_of}
use Rattle.can_node_rules.specs.Events.Step.{Within}
use Rattle.can_node_rules.specs.Driving.{Drives}
use Rattle.can_node_rules.specs.NextBit.{now_in, open_bits}
use Rattle.can_node.specs.Standing.{context_of, HasBody}
use Rattle.can_node_rules.specs.KeptContexts.{IsKept}
use Rattle.can_node.specs.Stages.{At}
use Rattle.can_node.specs.Inside.Quiet.{IsQuietTurn}
use Rattle.can_node.specs.Stands.{StandsAt, Leads, Samples, is_receiving}
use Rattle.can_node_rules.specs.Outcomes.{closed_by, nothing}
use Rattle.can_node_rules.proofs.OneCut.GoOn.{stays_end}
use Rattle.can_node.proofs.Machine.BitStands.{goes_stands}
use Rattle.can_node.proofs.Machine.Sampling.{bits_push}
use Rattle.can_node.proofs.Machine.Shown.{at_shown, kept_shown, next_shown}
use Rattle.can_node.proofs.Machine.Told.{told_all}
use Rattle.can_node_rules.proofs.OneCut.DrivenLevels.{drives_once}

-- ---- what it tells

-- no request ended where as many are held before and after
pub none_ends : (off held : Bool) → None ≡ (if off then None else if held && not held then Some Failed else None)
none_ends true held = refl
none_ends false true = refl
none_ends false false = refl

-- a bit after which the context is what it was, and which tells no frame, fault or loss, tells nothing
pub nothing_told : (now : ContextValue) (place : Place) (bits : List Bit) (b : Bit) (step : Step) → now.tec < 256 →
    stepped step now place bits b ≡ now →
    None ≡ received_in step → None ≡ ended_in step now now → None ≡ lost_in now place bits b → None ≡ fault_in step →
    nothing (not (is_transmitter now.role)) ≡ events_of step now place bits b
nothing_told now place bits b step few same received ended lost fault =
    told_all now now place bits b step None None None None (not (is_transmitter now.role)) false false same received
    ended lost fault refl
    (sym (lt-leb 256 now.tec few)) (sym (and-not_self now.off))

-- the role that a node shows is that of the cut
role_shown : (node : Node) (entries : List RecordEntry) (found : List FinishedPiece) (h : StandsAt node entries found) →
    is_receiving node ≡ not (is_transmitter (now_in h.cut).role)
role_shown node entries found h = ap (λ (k : ContextValue). not (is_transmitter k.role)) h.shows

-- a step in which nothing is told
pub leads_quietly : (old new : Node) (entries : List RecordEntry) (found : List FinishedPiece)
    (h : StandsAt old entries found)
    (b : Bit) (step : Step) →
    nothing (is_receiving old) ≡ events_of step (now_in h.cut) h.cut.place (open_bits h.cut) b →
    StandsAt new (entries ++ OneBit b ∷ []) (found ++ closed_by (counted none_yet (entries ++ OneBit b ∷ [])) step) →
    is_receiving old ≡ is_receiving new →
    Leads old new entries found h b (nothing (is_receiving old))
leads_quietly old new entries found h b step told stands same = record {
  step = step;
  told = told;
  stands = stands;
  role = same ∙ role_shown new (entries ++ OneBit b ∷ [])
      (found ++ closed_by (counted none_yet (entries ++ OneBit b ∷ [])) step) stands;
}

-- ---- the piece goes on

-- the bit is quiet, and the level that the node then keeps is the next one
pub record GoesQuietly (new : Node) (c now : ContextValue) (place : Place) (bits : List Bit) (b : Bit) : Type 0 where
  pub turn : IsQuietTurn new.stage new.shift c now place bits b
  pub next : Drives now place (bits ++ b ∷ []) new.next

-- so it is wherever the node may stand
abbrev pub IsQuiet : Node → Node → Level → Type 0
IsQuiet old new seen =
    (c : ContextValue) (place : Place) (bits : List Bit) →
    At old.stage old.shift c (context_of old.context) place bits → IsKept place c (context_of old.context) →
    HasBody old.context old.body → Drives (context_of old.context) place bits old.next →
    GoesQuietly new c (context_of old.context) place bits (record { driven = old.next; seen = seen })

-- a quiet bit leads to the record with it, and tells nothing
pub quietly : (old new : Node) (seen : Level) → new.context ≡ old.context → new.body ≡ old.body → IsQuiet old new seen →
    Samples old new seen (nothing (is_receiving old))
unfolding goes_stands
quietly old new seen same_context same_body quiet entries found h x drives =
    let b : Bit = record { driven = old.next; seen = seen } in
    let c = h.cut.context in
    let now = now_in h.cut in
    let place = h.cut.place in
    let K = context_of old.context in
    let bits = open_bits h.cut in
    let goes = quiet c place bits (at_shown old entries found h) (kept_shown old entries found h) h.body
    (next_shown old entries found h) in
    let steps : now ≡ at_bit now place bits b = subst (λ k. k ≡ at_bit k place bits b) h.shows goes.turn.steps in
    let whole : K ≡ at_bit now place bits b = h.shows ∙ steps in
    let few : now.tec < 256 = stays_end h.cut.from in
    let shows : context_of new.context ≡ at_bit now place bits b = ap (λ s. context_of s) same_context ∙ whole in
    let At_then : ContextValue → Type 0 = λ k. At new.stage new.shift c k place (bits ++ b ∷ []) in
    let follows = goes_stands old new entries found h b new.stage new.shift h.next (subst At_then whole goes.turn.at)
    (subst (λ (k : ContextValue). k.tec < 256) steps few) shows refl refl in
    let Driving : ContextValue → Type 0 = λ k. Drives k place (bits ++ b ∷ []) new.next in
    let Driving_bits : List Bit → Type 0 = λ l. Drives (now_in follows.cut) place l new.next in
    let next = subst Driving_bits (sym (bits_push h.cut.rest b))
    (subst Driving (ap (λ s. context_of s) (sym same_context) ∙ follows.shows) goes.next) in
    let Bodied : Context → Type 0 = λ s. HasBody s new.body in
    let body : HasBody new.context new.body =
    subst Bodied (sym same_context) (subst (λ p. HasBody old.context p) (sym same_body) h.body) in
    let there : StandsAt new (entries ++ OneBit b ∷ []) found =
    record { cut = follows.cut; shows = follows.shows; at = follows.at; next = next; body = body } in
    let Stood : List FinishedPiece → Type 0 = λ f. StandsAt new (entries ++ OneBit b ∷ []) f in
    let stood = subst Stood (sym (append-nil found)) there in
    let told : nothing (is_receiving old) ≡ events_of Within now place bits b =
    ap (λ (k : ContextValue). nothing (not (is_transmitter k.role))) h.shows
    ∙ nothing_told now place bits b Within few (sym steps) refl (none_ends (nat_le 256 now.tec) (is_held now.held))
    (subst (λ k. None ≡ lost_in k place bits b) h.shows goes.turn.lost) refl in
    let P : Level → Type 0 = λ y. Leads old new entries found h (record { driven = y; seen = seen })
    (nothing (is_receiving old)) in
    subst P (drives_once now place bits old.next x h.next drives)
    (leads_quietly old new entries found h b Within told stood
    (ap (λ (s : Context). not (is_transmitter s.role)) (sym same_context)))

-- ---- outside a frame
