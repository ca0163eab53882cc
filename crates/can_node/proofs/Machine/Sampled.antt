-- One bit leads from a record to the record with it.
use Rattle.std.proofs.Common.{◌≡◌, ◌<◌, ◌≤◌, Bool, true, false, nat_le, not, List, [], ◌∷◌}
use Rattle.std.proofs.Common.{◌++◌, refl, ap, sym, subst, ◌∙◌, inl, inr, if◌then◌else◌}
use Rattle.std.proofs.lemmas.List.{append-nil}
use Rattle.std.proofs.lemmas.Bool.{cases_lt, le-leb, lt-leb}
use Rattle.can_bits.specs.declared.shift.Shift.{Shift}
use Rattle.can_node.specs.declared.stage.Stage.{Stage}
use Rattle.can_node.specs.declared.stage.Stage.TheVariants.{InReset as StageInReset}
use Rattle.can_node.specs.declared.after_bit.AfterBit.{AfterBit}
use Rattle.can_node.specs.declared.after_bit.AfterBit.TheVariants.{InPiece, Ended}
use Rattle.can_node_rules.specs.declared.bit_events.BitEvents.{BitEvents}
use Rattle.can_node.specs.declared.node.Node.{Node}
use Rattle.can_node_rules.specs.Bits.{Bit}
use Rattle.can_node_rules.specs.Context.{ContextValue, is_transmitter}
use Rattle.can_node_rules.specs.Record.{RecordEntry, bits_in}
use Rattle.can_node_rules.specs.Record.RecordEntry.{OneBit, BusOff}
use Rattle.can_node_rules.specs.Pieces.{Place}
use Rattle.can_node_rules.specs.Counting.{at_bit}
use Rattle.can_node_rules.specs.Effects.{along, closed, with_off}
use Rattle.can_node_rules.specs.Cut.{IsCut, FinishedPiece, none_yet, counted, tagged}
use Rattle.can_node_rules.specs.Events.{events_of}
use Rattle.can_node_rules.specs.Driving.{Drives}
use Rattle.can_node.specs.Standing.{context_of, HasBody}
use Rattle.can_node_rules.specs.NextBit.{now_in, open_bits}
use Rattle.can_node.specs.Inside.Turns.{IsTurn, AtAfter, piece_of, next_of, step_of, resulted, off_if}
use Rattle.can_node.specs.Stands.{StandsAt, FollowsAt, Leads}
use Rattle.can_node_rules.specs.Outcomes.{closed_by, entries_of}
use Rattle.can_node.proofs.Machine.Shown.{DrivesBy, stands_up}
use Rattle.can_node.proofs.Machine.BitStands.{goes_stands, closes_stands, off_goes, off_closes}

-- bus-off or not
off_is : (n : ContextValue) → n.tec < 256 → off_if n ≡ n
off_is n few = ap (λ t. if t then with_off n else n) (lt-leb 256 n.tec few)

off_now : (n : ContextValue) → 256 ≤ n.tec → off_if n ≡ with_off n
off_now n far = ap (λ t. if t then with_off n else n) (le-leb 256 n.tec far)

-- the entries that the bit adds
abbrev pub entries_if : Bool → Bit → List RecordEntry
entries_if went b = if went then OneBit b ∷ BusOff ∷ [] else OneBit b ∷ []

-- the context after a bit of which this came
abbrev context_in : {entries : List RecordEntry} {found : List FinishedPiece} → IsCut entries found → AfterBit → Bit →
    ContextValue
context_in cut turn b = resulted turn (at_bit (now_in cut) cut.place (open_bits cut) b)

-- what the steps of a bit say together: the level driven, what came of the piece, where the node then stands, and
-- bus-off
pub record IsDone (old new : Node) (entries : List RecordEntry) (found : List FinishedPiece)
    (h : StandsAt old entries found)
    (b : Bit) (turn : AfterBit)
    (stage : Stage) (reader shift : Shift) : Type 0 where
  pub drives : Drives (now_in h.cut) h.cut.place (open_bits h.cut) b.driven
  pub made : IsTurn reader h.cut.context (now_in h.cut) h.cut.place (open_bits h.cut) b turn
  pub at : AtAfter turn stage shift h.cut.context (context_in h.cut turn b) h.cut.place (open_bits h.cut ++ b ∷ [])
  pub shows : context_of new.context ≡ off_if (context_in h.cut turn b)
  pub on : (context_in h.cut turn b).tec < 256 → (new.stage ≡ stage) × (new.shift ≡ shift)
  pub off : 256 ≤ (context_in h.cut turn b).tec → new.stage ≡ StageInReset

-- the node stands at the record with the bit
stands_by : (old new : Node) (entries : List RecordEntry) (found : List FinishedPiece) (h : StandsAt old entries found)
    (b : Bit) (turn : AfterBit) (stage : Stage) (reader shift : Shift) →
    IsDone old new entries found h b turn stage reader shift →
    FollowsAt new (entries ++ entries_if (nat_le 256 (context_in h.cut turn b).tec) b)
    (found ++ closed_by (counted none_yet (entries ++ OneBit b ∷ [])) (step_of turn))
stands_by old new entries found h b (InPiece going) stage reader shift r =
    let d = at_bit (along h.cut.context h.cut.place [] h.cut.rest) h.cut.place (bits_in h.cut.rest) b in
    let P : Bool → Type 0 = λ w. FollowsAt new (entries ++ entries_if w b) found in
    let Q : List FinishedPiece → Type 0 = λ f. FollowsAt new (entries ++ entries_if (nat_le 256 d.tec) b) f in
    subst Q (sym (append-nil found)) (elim (cases_lt d.tec 256) [
      | inl few ↦
          let same = r.on few in
          subst P (sym (lt-leb 256 d.tec few))
          (goes_stands old new entries found h b stage shift r.drives r.at few (r.shows ∙ off_is d few) same.0 same.1)
      | inr far ↦
          subst P (sym (le-leb 256 d.tec far))
          (off_goes old new entries found h b stage shift r.at far (r.shows ∙ off_now d far) (r.off far))
    ])
stands_by old new entries found h b (Ended done) stage reader shift r =
    let d = at_bit (along h.cut.context h.cut.place [] h.cut.rest) h.cut.place (bits_in h.cut.rest) b in
    let n = closed (piece_of done) (next_of done) d in
    let P : Bool → Type 0 = λ w. FollowsAt new (entries ++ entries_if w b)
    (found ++ tagged (counted none_yet (entries ++ OneBit b ∷ [])) (piece_of done ∷ [])) in
    elim (cases_lt n.tec 256) [
      | inl few ↦
          let same = r.on few in
          subst P (sym (lt-leb 256 n.tec few))
          (closes_stands old new entries found h b stage shift (piece_of done) (next_of done) r.made r.at few
          (r.shows ∙ off_is n few) same.0 same.1)
      | inr far ↦
          subst P (sym (le-leb 256 n.tec far))
          (off_closes old new entries found h b (piece_of done) (next_of done) r.made far (r.shows ∙ off_now n far)
          (r.off far))
    ]

-- the role that a bit tells is that of the context after it
turn_role : (turn : AfterBit) (now : ContextValue) (place : Place) (bits : List Bit) (b : Bit) → let d =
    at_bit now place bits b in
    (events_of (step_of turn) now place bits b).receiving ≡ not (is_transmitter (resulted turn d).role)
turn_role (InPiece stage) now place bits b = refl
turn_role (Ended done) now place bits b = refl

-- bus-off keeps the role
off_role : (test : Bool) (n : ContextValue) → (if test then with_off n else n).role ≡ n.role
off_role true n = refl
off_role false n = refl

role_told : (e f : BitEvents) (n new : ContextValue) → e ≡ f → f.receiving ≡ not (is_transmitter n.role) →
    new ≡ off_if n → e.receiving ≡ not (is_transmitter new.role)
role_told e f n new told tells is =
    ap (λ (x : BitEvents). x.receiving) told ∙ tells
    ∙ ap (λ r. not (is_transmitter r)) (sym (ap (λ (c : ContextValue). c.role) is ∙ off_role (nat_le 256 n.tec) n))

-- and the bit tells what the cut has there
pub leads_by : (old new : Node) (entries : List RecordEntry) (found : List FinishedPiece)
    (h : StandsAt old entries found)
    (b : Bit) (turn : AfterBit) (stage : Stage) (reader shift : Shift) (e : BitEvents) →
    IsDone old new entries found h b turn stage reader shift →
    e ≡ events_of (step_of turn) (now_in h.cut) h.cut.place (open_bits h.cut) b →
    e.went_off ≡ nat_le 256 (context_in h.cut turn b).tec →
    HasBody new.context new.body → DrivesBy new new.next →
    Leads old new entries found h b e
leads_by old new entries found h b turn stage reader shift e r told went body level =
    let d = at_bit (along h.cut.context h.cut.place [] h.cut.rest) h.cut.place (bits_in h.cut.rest) b in
    let P : Bool → Type 0 = λ w. FollowsAt new (entries ++ entries_if w b)
    (found ++ closed_by (counted none_yet (entries ++ OneBit b ∷ [])) (step_of turn)) in
    let follows = subst P (sym went)
    (stands_by old new entries found h b turn stage reader shift r) in
    let there = stands_up new (entries ++ entries_of b e)
    (found ++ closed_by (counted none_yet (entries ++ OneBit b ∷ [])) (step_of turn)) follows body level in
    record {
      step = step_of turn;
      told = told;
      stands = there;
      role = role_told e (events_of (step_of turn) (along h.cut.context h.cut.place [] h.cut.rest) h.cut.place
          (bits_in h.cut.rest) b) (resulted turn d)
          (along there.cut.context there.cut.place [] there.cut.rest) told
          (turn_role turn (along h.cut.context h.cut.place [] h.cut.rest) h.cut.place (bits_in h.cut.rest) b)
          (sym there.shows ∙ r.shows);
    }
