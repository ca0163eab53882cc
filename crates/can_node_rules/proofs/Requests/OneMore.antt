-- A node's record with a bit or an abort more: the context of the next bit is the one after it.
use Rattle.std.proofs.Common.{◌≡◌, ◌≢◌, List, [], ◌∷◌, ◌++◌, inl, inr, refl, sym, ap, ◌∙◌, subst, append_assoc}
use Rattle.std.proofs.lemmas.List.{append-nil, same_from_push}
use Rattle.lemmas.proofs.Lists.{last_of}
use Rattle.can_node_rules.specs.Bits.{Bit}
use Rattle.can_node_rules.specs.Context.{ContextValue, fresh}
use Rattle.can_node_rules.specs.Pieces.{Place, Piece}
use Rattle.can_node_rules.specs.Pieces.Place.{AtReset}
use Rattle.can_node_rules.specs.Record.{RecordEntry, bits_in}
use Rattle.can_node_rules.specs.Record.RecordEntry.{OneBit, Abort}
use Rattle.can_node_rules.specs.Effects.{along, closed, with_abort}
use Rattle.can_node_rules.specs.FinishedPieces.{FinishedPiece, Count, counted, none_yet, tagged}
use Rattle.can_node_rules.specs.Cut.{IsOpenAt, Move, From, IsCut}
use Rattle.can_node_rules.specs.Cut.From.{here, on}
use Rattle.can_node_rules.specs.NextBit.{now_in, open_bits}
use Rattle.can_node_rules.specs.Events.{Step, stepped}
use Rattle.can_node_rules.specs.Events.Step.{Within, Finishes}
use Rattle.can_node_rules.specs.Outcomes.{closed_by}
use Rattle.can_node_rules.proofs.Machine.Along.{along_both, along-bit}
use Rattle.can_node_rules.proofs.OneCut.CutOnce.{move_or_open}
use Rattle.can_node_rules.proofs.OneCut.Entries.{IsOuter, some_not_none}
use Rattle.can_node_rules.proofs.OneCut.Entries.IsOuter.{start, stop, off}
use Rattle.can_node_rules.proofs.OneCut.GoOn.{open_end}
use Rattle.can_node_rules.proofs.OneCut.Through.{goes_through}
use Rattle.can_node_rules.proofs.OneCut.Ways.{Between, Way, way_of}
use Rattle.can_node_rules.proofs.OneCut.Ways.Between.{send, abort}
use Rattle.can_node_rules.proofs.OneCut.Ways.Way.{finishes, comes, closes}
use Rattle.can_node_rules.proofs.OneCut.MoveOnce.{between_no_bit}

-- ---- an entry more

-- no move is of no entry
way_some : (c next : ContextValue) (place site : Place) (entries : List RecordEntry) (ps : List Piece) →
    Way c place entries ps next site → entries ≢ []
way_some c next place site entries ps (finishes slice is row stays) e =
    let begins = is.begins in let no : OneBit begins.bit ∷ begins.rest ≡ [] = sym begins.whole ∙ e in absurd cc
way_some c next place site entries ps (comes entry between) e = absurd cc
way_some c next place site entries ps (closes slice entry part out closing) e = some_not_none slice entry [] e

-- of no entries the context is what it was
pub none_more : (k : Count) (c end : ContextValue) (place last : Place) (entries rest : List RecordEntry)
    (found : List FinishedPiece) →
    From k c place entries found end last rest → entries ≡ [] → (found ≡ []) × (along end last [] rest ≡ c)
none_more k c end place last entries rest found (here opened stays) e = (refl, ap (λ l. along c place [] l) e)
none_more k c end place last entries rest found
    (on {next = next} {site = site} {entries = []} {more = more} {ps = ps} move from) e =
    absurd (way_some c next place site [] ps (way_of move) refl)
none_more k c end place last entries rest found (on {entries = x ∷ first} {more = more} move from) e = absurd cc

-- what is open with an entry more is open still, or one move ends with that entry
pub data Ends (k : Count) (c : ContextValue) (place : Place) (entries : List RecordEntry) : List FinishedPiece →
    ContextValue → Type 0 where
  stays : Ends k c place entries [] (along c place [] entries)
  moves : {next : ContextValue} {site : Place} {ps : List Piece} → Way c place entries ps next site →
      Ends k c place entries (tagged (counted k entries) ps) next

-- by its last move
ended_by : (k : Count) (c next : ContextValue) (place site : Place) (entries all : List RecordEntry) (ps : List Piece)
    (found later : List FinishedPiece) (now : ContextValue) →
    Move c place entries ps next site → entries ≡ all → found ≡ tagged (counted k entries) ps ++ later → later ≡ [] →
    now ≡ next → Ends k c place all found now
ended_by k c next place site entries all ps found later now move same whole none is =
    let P : List RecordEntry → Type 0 = λ l. Ends k c place l (tagged (counted k entries) ps) next in
    let made : Ends k c place entries (tagged (counted k entries) ps) next = moves (way_of move) in
    let pieces : found ≡ tagged (counted k entries) ps = whole ∙ ap (λ l. tagged (counted k entries) ps ++ l) none
    ∙ append-nil (tagged (counted k entries) ps) in
    let R : List FinishedPiece → Type 0 = λ l. Ends k c place all l next in
    let S : ContextValue → Type 0 = λ d. Ends k c place all found d in
    subst S (sym is) (subst R (sym pieces) (subst P same made))

pub ends_with : (k : Count) (c end : ContextValue) (place last : Place)
    (slice all rest : List RecordEntry) (e : RecordEntry)
    (found : List FinishedPiece) →
    From k c place all found end last rest → IsOpenAt c place slice → all ≡ slice ++ e ∷ [] → Ends k c place all found
    (along end last [] rest)
ends_with k c end place last slice all rest e found (here opened on_bus) was whole = stays
ends_with k c end place last slice all rest e found
    (on {next = next} {site = site} {entries = first} {more = more} {ps = ps} {qs = later} move from) was whole =
    elim (last_of more) [
      | inl none ↦
          let only = none_more (counted k first) next end site last more rest later from none in
          ended_by k c next place site first (first ++ more) ps found later (along end last [] rest) move
          (sym (ap (λ l. first ++ l) none ∙ append-nil first)) refl only.0 only.1
      | inr some ↦
          let same : slice ++ e ∷ [] ≡ (first ++ some.0) ++ some.1 ∷ [] = sym whole ∙ ap (λ l. first ++ l) some.2
          ∙ sym (append_assoc first some.0 (some.1 ∷ [])) in
          absurd (move_or_open c next place site first slice some.0 ps move was
          (same_from_push slice (first ++ some.0) e some.1 same).0)
    ]

-- ---- a bit more

-- after a bit the pieces and the context are those of a step
pub record BitMore (k : Count) (c : ContextValue) (place : Place) (slice : List RecordEntry) (b : Bit)
    (found : List FinishedPiece) (now : ContextValue) : Type 0 where
  pub step : Step
  pub is : now ≡ stepped step (along c place [] slice) place (bits_in slice) b
  pub pieces : found ≡ closed_by (counted k (slice ++ OneBit b ∷ [])) step

no_outer_bit : (entry : RecordEntry) (b : Bit) → IsOuter entry → entry ≡ OneBit b → ⊥
no_outer_bit entry b (start config) e = cc
no_outer_bit entry b stop e = cc
no_outer_bit entry b off e = cc

no_outer_abort : (entry : RecordEntry) → IsOuter entry → entry ≡ Abort → ⊥
no_outer_abort entry (start config) e = cc
no_outer_abort entry stop e = cc
no_outer_abort entry off e = cc

bit_way : (k : Count) (c next : ContextValue) (place site : Place) (slice all : List RecordEntry) (b : Bit)
    (ps : List Piece) →
    Way c place all ps next site → all ≡ slice ++ OneBit b ∷ [] → BitMore k c place slice b
    (tagged (counted k all) ps) next
bit_way k c next place site slice all b ps (finishes {next = n} {p = p} s h row on_bus) e = record {
  step = Finishes p n;
  is = ap (λ d. closed p n d) (ap (λ l. along c place [] l) e ∙ along-bit c place slice b);
  pieces = ap (λ l. tagged (counted k l) (p ∷ [])) e;
}
bit_way k c next place site slice all b ps (comes entry between) e =
    absurd (between_no_bit c next place entry b between (same_from_push [] slice entry (OneBit b) e).1)
bit_way k c next place site slice all b ps (closes s entry part out closing) e =
    absurd (no_outer_bit entry b out (same_from_push s slice entry (OneBit b) e).1)

bit_ends : (k : Count) (c : ContextValue) (place : Place) (slice all : List RecordEntry) (b : Bit)
    (found : List FinishedPiece) (now : ContextValue) →
    Ends k c place all found now → all ≡ slice ++ OneBit b ∷ [] → BitMore k c place slice b found now
bit_ends k c place slice all b found now stays e = record {
  step = Within;
  is = ap (λ l. along c place [] l) e ∙ along-bit c place slice b;
  pieces = refl;
}
bit_ends k c place slice all b found now (moves {next = n} {site = s} {ps = ps} way) e =
    bit_way k c n place s slice all b ps way e

-- the step of a bit, by two cuts: of the record before it, and of the record with it
pub record StepIs (entries : List RecordEntry) (found others : List FinishedPiece) (h : IsCut entries found) (b : Bit)
    (now : ContextValue) : Type 0 where
  pub step : Step
  pub is : now ≡ stepped step (now_in h) h.place (open_bits h) b
  pub count : Count
  pub pieces : others ≡ found ++ closed_by count step

pub bit_more : (entries all : List RecordEntry) (found others : List FinishedPiece) (b : Bit) (h : IsCut entries found)
    (k : IsCut all others) →
    all ≡ entries ++ OneBit b ∷ [] → StepIs entries found others h b (now_in k)
bit_more entries all found others b h k e =
    let t = goes_through none_yet fresh h.context k.context AtReset h.place k.place entries all h.rest
    (OneBit b ∷ []) k.rest found others h.from k.from e in
    let m = bit_ends t.count h.context h.place h.rest (h.rest ++ OneBit b ∷ []) b t.later (now_in k)
    (ends_with t.count h.context k.context h.place k.place h.rest (h.rest ++ OneBit b ∷ []) k.rest
    (OneBit b) t.later t.from (open_end h.from) refl) refl in
    record {
      step = m.step;
      is = m.is;
      count = counted t.count (h.rest ++ OneBit b ∷ []);
      pieces = t.whole ∙ ap (λ l. found ++ l) m.pieces;
    }

-- ---- an abort more

abort_between : (c next : ContextValue) (place : Place) (entry : RecordEntry) (slice : List RecordEntry) →
    Between c place entry next → entry ≡ Abort → slice ≡ [] →
    next ≡ with_abort place (along c place [] slice)
abort_between c next place entry slice (send request) e none = absurd cc
abort_between c next place entry slice abort e none = ap (λ l. with_abort place (along c place [] l)) (sym none)

abort_ends : (k : Count) (c : ContextValue) (place : Place) (slice all : List RecordEntry) (found : List FinishedPiece)
    (now : ContextValue) →
    Ends k c place all found now → all ≡ slice ++ Abort ∷ [] → now ≡ with_abort place (along c place [] slice)
abort_ends k c place slice all found now stays e = ap (λ l. along c place [] l) e ∙ along_both c place [] slice
    (Abort ∷ [])
abort_ends k c place slice all found now (moves (finishes s h row on_bus)) e =
    let ends = h.ends in let no = (same_from_push ends.before slice (OneBit ends.bit) Abort (sym ends.whole ∙ e)).1 in
    absurd cc
abort_ends k c place slice all found now (moves {next = n} (comes entry between)) e =
    let same = same_from_push [] slice entry Abort e in abort_between c n place entry slice between same.1 (sym same.0)
abort_ends k c place slice all found now (moves (closes s entry part out closing)) e =
    absurd (no_outer_abort entry out (same_from_push s slice entry Abort e).1)

-- after an abort the context is the one with it
pub abort_more : (entries all : List RecordEntry) (found others : List FinishedPiece) (h : IsCut entries found)
    (k : IsCut all others) →
    all ≡ entries ++ Abort ∷ [] → now_in k ≡ with_abort h.place (now_in h)
abort_more entries all found others h k e =
    let t = goes_through none_yet fresh h.context k.context AtReset h.place k.place entries all h.rest
    (Abort ∷ []) k.rest found others h.from k.from e in
    abort_ends t.count h.context h.place h.rest (h.rest ++ Abort ∷ []) t.later (now_in k)
    (ends_with t.count h.context k.context h.place k.place h.rest (h.rest ++ Abort ∷ []) k.rest Abort t.later t.from
    (open_end h.from) refl) refl
