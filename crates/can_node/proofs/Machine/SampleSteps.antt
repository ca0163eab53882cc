-- One bit, put together from the node's own steps: the level driven, the turn, the counts, the place after it, bus-off.
use Rattle.std.proofs.Common.{◌≡◌, ◌<◌, ◌≤◌, ◌&&◌, not, ℕ, Bool, nat_le, Option}
use Rattle.std.proofs.Common.{is_some, List, [], ◌∷◌, ◌++◌, ap, ap₂, sym, subst, ◌∙◌}
use Rattle.can_frame.specs.Frame.{FrameValue}
use Rattle.can_levels.specs.declared.level.Level.{Level}
use Rattle.can_levels.specs.declared.segment.Segment.{Segment}
use Rattle.can_bits.specs.declared.shift.Shift.{Shift}
use Rattle.can_node_rules.specs.declared.cause.Cause.{Cause}
use Rattle.can_node_rules.specs.declared.outcome.Outcome.{Outcome}
use Rattle.can_node.specs.declared.stage.Stage.{Stage}
use Rattle.can_node.specs.declared.stage.Stage.TheVariants.{InReset as StageInReset}
use Rattle.can_node.specs.declared.context.Context.{Context}
use Rattle.can_node.specs.declared.after_bit.AfterBit.{AfterBit}
use Rattle.can_node.specs.declared.node.Node.{Node}
use Rattle.can_node_rules.specs.Bits.{Bit}
use Rattle.can_node_rules.specs.Context.{ContextValue, is_transmitter, is_held}
use Rattle.can_node_rules.specs.Pieces.{Place}
use Rattle.can_node_rules.specs.Record.{RecordEntry, bits_in}
use Rattle.can_node_rules.specs.Counting.{at_bit}
use Rattle.can_node_rules.specs.Effects.{along}
use Rattle.can_node_rules.specs.Cut.{FinishedPiece, IsOnBus}
use Rattle.can_node_rules.specs.Events.{Step, lost_in, received_in, fault_in, sends_in, ended_in}
use Rattle.can_node_rules.specs.Driving.{Drives}
use Rattle.can_bits.specs.declared.sent_body.SentBody.{SentBody}
use Rattle.can_node.specs.Standing.{context_of, HasBody}
use Rattle.can_node_rules.specs.KeptContexts.{IsKept}
use Rattle.can_node.specs.Stages.{At}
use Rattle.can_node.specs.Inside.Turns.{IsMade, IsTurn, AtAfter, step_of, resulted, off_if}
use Rattle.can_node_rules.specs.NextBit.{DrivesIn}
use Rattle.can_node.specs.Stands.{StandsAt, Leads}
use Rattle.can_node_rules.proofs.OneCut.GoOn.{stays_end}
use Rattle.can_node.proofs.Machine.Shown.{DrivesBy, at_shown, kept_shown, next_shown}
use Rattle.can_node.proofs.Machine.Held.{HoldsBack, bit_held, resulted_held, off_held}
use Rattle.can_node.proofs.Machine.Told.{made_of, told_all, stepped_is, held_is, bit_few}
use Rattle.can_node_rules.proofs.OneCut.DrivenLevels.{drives_once}
use Rattle.can_node.proofs.Machine.Sampled.{leads_by}

-- what a node's step says of each piece that it may stand in
abbrev pub EachPiece : Node → (ContextValue → Place → List Bit → Type 0) → Type 0
EachPiece node P = (c : ContextValue) (place : Place) (bits : List Bit) →
    At node.stage node.shift c (context_of node.context) place bits →
    IsKept place c (context_of node.context) → P c place bits

-- the counts of a bit
abbrev pub Counts : Context → Stage → ContextValue → Level → Level → Bool → Type 0
Counts context stage new driven seen lost = (shift : Shift) (c : ContextValue) (place : Place) (bits : List Bit) →
    At stage shift c (context_of context) place bits →
    context.counters.tec < 256 → lost
    ≡ is_some (lost_in (context_of context) place bits (record { driven = driven; seen = seen })) →
    new ≡ at_bit (context_of context) place bits (record { driven = driven; seen = seen })

-- one bit, in which the node drove the level that it keeps
pub sampled : (old stepped gone new : Node) (entries : List RecordEntry) (found : List FinishedPiece)
    (h : StandsAt old entries found) (x seen : Level) (turn : AfterBit)
    (received : Option FrameValue) (ended : Option Outcome) (lost : Option ℕ) (fault : Option (Cause × Segment))
    (transmits recovered held sent loses : Bool) →
    DrivesIn h.cut x →
    EachPiece old (λ c place bits. lost
    ≡ lost_in (context_of old.context) place bits (record { driven = old.next; seen = seen })) →
    held ≡ is_some old.context.held → loses ≡ is_some lost →
    EachPiece old (λ c place bits. HasBody old.context old.body → Drives (context_of old.context) place bits old.next →
    loses ≡ is_some (lost_in (context_of old.context) place bits (record { driven = old.next; seen = seen })) →
    IsTurn stepped.shift c (context_of old.context) place bits (record { driven = old.next; seen = seen }) turn) →
    stepped ≡ record old { shift = stepped.shift; context = stepped.context } →
    Counts old.context old.stage (context_of stepped.context) old.next seen loses →
    received ≡ received_in (step_of turn) → sent ≡ sends_in (step_of turn) → fault ≡ fault_in (step_of turn) →
    (stepped.context.counters.tec < 900 → context_of gone.context ≡ resulted turn (context_of stepped.context)) →
    ((c now : ContextValue) (place : Place) (bits : List Bit) (b : Bit) → stepped.context.counters.tec < 900 →
    HasBody stepped.context stepped.body →
    context_of stepped.context ≡ at_bit now place bits b →
    IsTurn stepped.shift c now place bits b turn →
    AtAfter turn gone.stage gone.shift c (context_of gone.context) place (bits ++ b ∷ [])) →
    gone.body ≡ stepped.body →
    transmits ≡ is_transmitter gone.context.role →
    recovered ≡ (old.context.counters.off && not gone.context.counters.off) →
    ((step : Step) (before : ContextValue) → sent ≡ sends_in step → held ≡ is_held before.held →
    ended ≡ ended_in step before (context_of gone.context)) →
    context_of new.context ≡ off_if (context_of gone.context) →
    (gone.context.counters.tec < 256 → (new.stage ≡ gone.stage) × (new.shift ≡ gone.shift)) →
    (256 ≤ gone.context.counters.tec → new.stage ≡ StageInReset) → new.body ≡ gone.body → DrivesBy new new.next →
    Leads old new entries found h (record { driven = x; seen = seen })
    (made_of received ended lost fault (not transmits) (nat_le 256 gone.context.counters.tec) recovered)
sampled old stepped gone new entries found h x seen turn received ended lost fault transmits recovered held sent loses
    drives loss holds some turns kept_by counts receives sends faults goes places gone_body role recovers ends shows on
    off new_body level =
    let c = h.cut.context in
    let place = h.cut.place in
    let bits = bits_in h.cut.rest in
    let K = context_of old.context in
    let now = along c place [] h.cut.rest in
    let b : Bit = record { driven = old.next; seen = seen } in
    let at = at_shown old entries found h in
    let kept = kept_shown old entries found h in
    let few : K.tec < 256 = subst (λ d. IsOnBus d) (sym h.shows) (stays_end h.cut.from) in
    let driving = next_shown old entries found h in
    let lose : lost ≡ lost_in K place bits b = loss c place bits at kept in
    let d = at_bit now place bits b in
    let bit : context_of stepped.context ≡ at_bit K place bits b =
    counts old.shift c place bits at few (some ∙ ap is_some lose) in
    let here : context_of stepped.context ≡ d = bit ∙ ap (λ k. at_bit k place bits b) h.shows in
    let less : stepped.context.counters.tec < 900 =
    subst (λ (k : ContextValue). k.tec < 900) (sym bit) (bit_few K place bits b few) in
    let n = resulted turn d in
    let after : context_of gone.context ≡ n = goes less ∙ ap (λ k. resulted turn k) here in
    let made : IsMade stepped.shift c (at_bit K place bits b) place (bits ++ b ∷ []) turn =
    turns c place bits at kept h.body driving (some ∙ ap is_some lose) in
    let Made : ContextValue → Type 0 =
    λ k. IsMade stepped.shift c (at_bit k place bits b) place (bits ++ b ∷ []) turn in
    let back : HoldsBack K (context_of stepped.context) =
    subst (λ k. HoldsBack K k) (sym bit) (bit_held K place bits b) in
    let Bodied : SentBody → Type 0 = λ p. HasBody stepped.context p in
    let body_then : HasBody stepped.context stepped.body =
    subst Bodied (sym (ap (λ (m : Node). m.body) kept_by)) (λ request e. h.body request (back request e)) in
    let site = places c K place bits b less body_then bit made in
    let Placed : ContextValue → Type 0 = λ k. AtAfter turn gone.stage gone.shift c k place (bits ++ b ∷ []) in
    let step = step_of turn in
    let went : nat_le 256 gone.context.counters.tec ≡ nat_le 256 n.tec =
    ap (λ (k : ContextValue). nat_le 256 k.tec) after in
    let was : is_held now.held ≡ is_some old.context.held =
    sym (held_is now.held) ∙ sym (ap (λ (k : ContextValue). is_some k.held) h.shows) in
    let told = told_all now n place bits b step received ended lost fault (not transmits)
    (nat_le 256 gone.context.counters.tec) recovered
    (stepped_is turn now place bits b)
    receives
    (ends step now sends (holds ∙ sym was) ∙ ap (λ k. ended_in step now k) after)
    (lose ∙ ap (λ k. lost_in k place bits b) h.shows)
    faults
    (ap not (role ∙ ap (λ (k : ContextValue). is_transmitter k.role) after))
    went
    (recovers ∙ ap₂ (λ (k m : ContextValue). k.off && not m.off) h.shows after) in
    let whole : context_of new.context ≡ off_if n = shows ∙ ap off_if after in
    let gone_back : HoldsBack (context_of stepped.context) (context_of gone.context) =
    subst (λ k. HoldsBack (context_of stepped.context) k) (sym (goes less))
    (resulted_held turn (context_of stepped.context)) in
    let new_back : HoldsBack (context_of gone.context) (context_of new.context) =
    subst (λ k. HoldsBack (context_of gone.context) k) (sym shows) (off_held (context_of gone.context)) in
    let Bodied_new : SentBody → Type 0 = λ p. HasBody new.context p in
    let body : HasBody new.context new.body =
    subst Bodied_new (sym (new_body ∙ gone_body))
    (λ request e. body_then request (gone_back request (new_back request e))) in
    let P : Level → Type 0 = λ y. Leads old new entries found h (record { driven = y; seen = seen })
    (made_of received ended lost fault (not transmits) (nat_le 256 gone.context.counters.tec) recovered) in
    subst P (drives_once now place bits old.next x h.next drives)
    (leads_by old new entries found h b turn gone.stage stepped.shift gone.shift
    (made_of received ended lost fault (not transmits) (nat_le 256 gone.context.counters.tec) recovered)
    (record {
      drives = h.next;
      made = subst Made h.shows made;
      at = subst Placed after site;
      shows = whole;
      on = λ less. on (subst (λ (k : ContextValue). k.tec < 256) (sym after) less);
      off = λ far. off (subst (λ (k : ContextValue). 256 ≤ k.tec) (sym after) far);
    })
    told went body level)
