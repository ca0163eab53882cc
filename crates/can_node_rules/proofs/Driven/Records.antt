-- A record that has a cut: in each bit the node drove what the cut of the entries before it says.
use Rattle.std.proofs.Common.{◌≡◌, inl, inr, List, [], ◌∷◌, ◌++◌}
use Rattle.std.proofs.Common.{map, refl, sym, ap, ◌∙◌, subst, append_assoc, append-nil}
use Rattle.std.proofs.lemmas.List.{same_from_push}
use Rattle.lemmas.proofs.Lists.{last_of, fronts, append-cancel}
use Rattle.can_levels.specs.declared.level.Level.{Level}
use Rattle.can_levels.specs.declared.level.Level.TheVariants.{Recessive}
use Rattle.can_node_rules.specs.Bits.{Bit, recessive_bit, recessive_bits}
use Rattle.can_node_rules.specs.Context.{ContextValue, fresh}
use Rattle.can_node_rules.specs.Cut.{IsUnfinished, IsOpenAt, Move, From, IsCut}
use Rattle.can_node_rules.specs.Cut.IsOpenAt.{rests, nothing, begun}
use Rattle.can_node_rules.specs.Cut.Move.{piece, sent, aborted, started, stopped, off_within, off_after}
use Rattle.can_node_rules.specs.Cut.From.{here, on}
use Rattle.can_node_rules.specs.Driving.{Drives}
use Rattle.can_node_rules.specs.Effects.{along}
use Rattle.can_node_rules.specs.FinishedPieces.{FinishedPiece, Count, none_yet}
use Rattle.can_node_rules.specs.NextBit.{DrivesIn}
use Rattle.can_node_rules.specs.Pieces.{Place, Piece}
use Rattle.can_node_rules.specs.Pieces.Place.{AtReset, AtIntegration, AtIdle, AfterSof}
use Rattle.can_node_rules.specs.Pieces.Place.{AtLastEofBit, AtFlag, AtDelimiter, AtInterframeSpace}
use Rattle.can_node_rules.specs.Record.{RecordEntry, bits_in, Inner}
use Rattle.can_node_rules.specs.Record.RecordEntry.{Start, Stop, OneBit, Send, Abort, BusOff}
use Rattle.can_node_rules.specs.Record.Inner.{samples}
use Rattle.can_node_rules.specs.Table.{Row}
use Rattle.can_node_rules.proofs.Machine.Along.{bits_both, all_kept}
use Rattle.can_node_rules.proofs.OneCut.KeptLevels.{level_kept}
use Rattle.can_node_rules.proofs.OneCut.CutOnce.{move_or_open}
use Rattle.can_node_rules.proofs.OneCut.Entries.{some_not_none}
use Rattle.can_node_rules.proofs.OneCut.GoOn.{open_end, no_rest_piece, inner_open}
use Rattle.can_node_rules.proofs.OneCut.Through.{goes_through}
use Rattle.can_node_rules.proofs.Driven.Contexts.{IsRight, end_right}
use Rattle.can_node_rules.proofs.Driven.Rows.{plain_drives, first_drives, later_drives, begun_drives}

-- ---- the bit after what is open

-- at this place a bit that comes in a piece
open_drives : (c : ContextValue) (place : Place) (rest : List RecordEntry) (bits more : List Bit) (b : Bit) (p : Piece)
    (next : Place) → IsRight c place → IsOpenAt c place rest → Row c place bits p next →
    bits ≡ bits_in rest ++ b ∷ more → Drives (along c place [] rest) place (bits_in rest) b.driven
open_drives c AtReset rest bits more b p next right opened row e = absurd (no_rest_piece row)
open_drives c AtIdle rest bits more b p next right nothing row e = first_drives c bits more b p next row e
open_drives c AtIdle rest bits more b p next right (begun inner begins unfinished) row e =
    let P : List RecordEntry → Type 0 = λ l. Inner l → bits ≡ bits_in l ++ b ∷ more →
    Drives (along c AtIdle [] l) AtIdle (bits_in l) b.driven in
    subst P (sym begins.whole) (λ i f. later_drives c begins.bit begins.rest bits more b p next right
    (after_first i) row f) inner e
  where
    after_first : {d : Bit} {l : List RecordEntry} → Inner (OneBit d ∷ l) → Inner l
    after_first (samples d i) = i
open_drives c AfterSof rest bits more b p next right opened row e =
    begun_drives c rest bits more b p next right (inner_open (λ no. cc) opened) row e
open_drives c AtIntegration rest bits more b p next right opened row e =
    let k = all_kept c AtIntegration [] rest in
    plain_drives c (along c AtIntegration [] rest) AtIntegration next bits (bits_in rest) more b p (λ no. cc) (λ no. cc)
    (level_kept c (along c AtIntegration [] rest) k.0 k.3) row e
open_drives c AtLastEofBit rest bits more b p next right opened row e =
    let k = all_kept c AtLastEofBit [] rest in
    plain_drives c (along c AtLastEofBit [] rest) AtLastEofBit next bits (bits_in rest) more b p (λ no. cc) (λ no. cc)
    (level_kept c (along c AtLastEofBit [] rest) k.0 k.3) row e
open_drives c AtFlag rest bits more b p next right opened row e =
    let k = all_kept c AtFlag [] rest in
    plain_drives c (along c AtFlag [] rest) AtFlag next bits (bits_in rest) more b p (λ no. cc) (λ no. cc)
    (level_kept c (along c AtFlag [] rest) k.0 k.3) row e
open_drives c AtDelimiter rest bits more b p next right opened row e =
    let k = all_kept c AtDelimiter [] rest in
    plain_drives c (along c AtDelimiter [] rest) AtDelimiter next bits (bits_in rest) more b p (λ no. cc) (λ no. cc)
    (level_kept c (along c AtDelimiter [] rest) k.0 k.3) row e
open_drives c AtInterframeSpace rest bits more b p next right opened row e =
    let k = all_kept c AtInterframeSpace [] rest in
    plain_drives c (along c AtInterframeSpace [] rest) AtInterframeSpace next bits (bits_in rest) more b p (λ no. cc)
    (λ no. cc) (level_kept c (along c AtInterframeSpace [] rest) k.0 k.3) row e

-- in reset
reset_there : (l : List Level) (rest more : List RecordEntry) (b : Bit) →
    map OneBit (recessive_bits l) ≡ rest ++ OneBit b ∷ more → b.driven ≡ Recessive
reset_there [] [] more b e = absurd cc
reset_there [] (r ∷ rest) more b e = absurd cc
reset_there (x ∷ l) [] more b e =
    let same : OneBit (recessive_bit x) ≡ OneBit b = cc in
    let is : b ≡ recessive_bit x = cc in ap (λ (v : Bit). v.driven) is
reset_there (x ∷ l) (r ∷ rest) more b e =
    let later : map OneBit (recessive_bits l) ≡ rest ++ OneBit b ∷ more = cc in reset_there l rest more b later

-- what ends with an entry that is no bit has the bit before that entry
before_end : (slice rest more : List RecordEntry) (x : RecordEntry) (b : Bit) →
    slice ++ x ∷ [] ≡ rest ++ OneBit b ∷ more → (x ≡ OneBit b → ⊥) →
    (y : List RecordEntry) × (slice ≡ rest ++ OneBit b ∷ y)
before_end slice rest more x b e other = elim (last_of more) [
  | inl none ↦ absurd (other (same_from_push slice rest x (OneBit b)
      (e ∙ ap (λ l. rest ++ OneBit b ∷ l) none)).1)
  | inr some ↦
      let whole : slice ++ x ∷ [] ≡ (rest ++ OneBit b ∷ some.0) ++ some.1 ∷ [] =
      e ∙ ap (λ l. rest ++ OneBit b ∷ l) some.2 ∙ sym (append_assoc rest (OneBit b ∷ some.0) (some.1 ∷ [])) in
      (some.0, (same_from_push slice (rest ++ OneBit b ∷ some.0) x some.1 whole).0)
]

-- one entry alone
only_one : (x : RecordEntry) (rest more : List RecordEntry) (b : Bit) → x ∷ [] ≡ rest ++ OneBit b ∷ more →
    x ≡ OneBit b
only_one x [] more b e = cc
only_one x (r ∷ rest) more b e =
    let no : rest ++ OneBit b ∷ more ≡ [] = cc in absurd (some_not_none rest (OneBit b) more no)

module _ (c : ContextValue) (place : Place) (rest : List RecordEntry) (b : Bit) (right : IsRight c place)
    (opened : IsOpenAt c place rest) where
  abbrev Goal : Type 0
  Goal = Drives (along c place [] rest) place (bits_in rest) b.driven

  -- in a piece that isn't finished
  unfinished_drives : (all x : List RecordEntry) → all ≡ rest ++ OneBit b ∷ x → IsUnfinished c place (bits_in all) →
      Goal
  unfinished_drives all x e u =
      open_drives c place rest (bits_in all ++ u.more ∷ u.rest) (bits_in x ++ u.more ∷ u.rest) b u.piece u.next right
      opened u.lawful
      (ap (λ l. bits_in l ++ u.more ∷ u.rest) e ∙ ap (λ l. l ++ u.more ∷ u.rest) (bits_both rest (OneBit b ∷ x))
      ∙ append_assoc (bits_in rest) (b ∷ bits_in x) (u.more ∷ u.rest))

  -- in one that is
  finished_drives : (all x : List RecordEntry) (p : Piece) (next : Place) → all ≡ rest ++ OneBit b ∷ x →
      Row c place (bits_in all) p next → Goal
  finished_drives all x p next e row =
      open_drives c place rest (bits_in all) (bits_in x) b p next right opened row
      (ap bits_in e ∙ bits_both rest (OneBit b ∷ x))

-- among what is open
within_open : {c : ContextValue} {place : Place} {all : List RecordEntry} (rest x : List RecordEntry) (b : Bit) →
    IsRight c place → IsOpenAt c place rest → IsOpenAt c place all → all ≡ rest ++ OneBit b ∷ x →
    Drives (along c place [] rest) place (bits_in rest) b.driven
within_open rest x b right opened (rests l) e = reset_there l rest x b e
within_open rest x b right opened nothing e = absurd (some_not_none rest (OneBit b) x (sym e))
within_open {c = c} {place = place} {all = all} rest x b right opened (begun inner begins unfinished) e =
    unfinished_drives c place rest b right opened all x e unfinished

-- in a move
within_move : {c next : ContextValue} {place site : Place} {first : List RecordEntry} {ps : List Piece}
    (rest x : List RecordEntry) (b : Bit) → IsRight c place → IsOpenAt c place rest →
    Move c place first ps next site → first ≡ rest ++ OneBit b ∷ x →
    Drives (along c place [] rest) place (bits_in rest) b.driven
within_move {c = c} {place = place} rest x b right opened (piece {next = n} {p = p} slice is row stays) e =
    finished_drives c place rest b right opened slice x p n e row
within_move rest x b right opened (sent request away) e = let no = only_one (Send request) rest x b e in absurd cc
within_move rest x b right opened (aborted away) e = let no = only_one Abort rest x b e in absurd cc
within_move rest x b right opened (started config l) e =
    let y = before_end (map OneBit (recessive_bits l)) rest x (Start config) b e (λ no. cc) in
    reset_there l rest y.0 b y.1
within_move rest x b right opened (stopped slice whole stays) e =
    let y = before_end slice rest x Stop b e (λ no. cc) in within_open rest y.0 b right opened whole y.1
within_move {c = c} {place = place} rest x b right opened (off_within slice before last ends stays is unfinished full)
    e =
    let y = before_end slice rest x BusOff b e (λ no. cc) in
    unfinished_drives c place rest b right opened slice y.0 y.1 unfinished
within_move {c = c} {place = place} rest x b right opened
    (off_after {next = n} {p = p} slice before last ends stays is row full) e =
    let y = before_end slice rest x BusOff b e (λ no. cc) in
    finished_drives c place rest b right opened slice y.0 p n y.1 row

-- in all that comes from there on
from_drives : {k : Count} {c end : ContextValue} {place last : Place} {all slice : List RecordEntry}
    {found : List FinishedPiece} (rest x : List RecordEntry) (b : Bit) → IsRight c place → IsOpenAt c place rest →
    From k c place all found end last slice → all ≡ rest ++ OneBit b ∷ x →
    Drives (along c place [] rest) place (bits_in rest) b.driven
from_drives rest x b right opened (here whole stays) e = within_open rest x b right opened whole e
from_drives {c = c} {place = place} rest x b right opened
    (on {next = next} {site = site} {entries = first} {more = more} {ps = ps} move from) e =
    elim (fronts first rest more (OneBit b ∷ x) e) [
      | inl longer ↦ absurd (move_or_open c next place site first rest longer.0 ps move opened longer.1)
      | inr shorter ↦ by shorter.0 shorter.1
          (append-cancel rest (shorter.0 ++ more) (OneBit b ∷ x)
          (sym (append_assoc rest shorter.0 more) ∙ ap (λ l. l ++ more) (sym shorter.1) ∙ e))
    ]
  where
    by : (y : List RecordEntry) → first ≡ rest ++ y → y ++ more ≡ OneBit b ∷ x →
        Drives (along c place [] rest) place (bits_in rest) b.driven
    by [] split same =
        absurd (move_or_open c next place site first rest [] ps move opened
        (sym (append-nil rest) ∙ sym split ∙ sym (append-nil first)))
    by (y ∷ ys) split same =
        let is : y ≡ OneBit b = cc in
        within_move rest ys b right opened move (split ∙ ap (λ v. rest ++ v ∷ ys) is)

-- of a record that has a cut: in each bit the node drove what the cut of the entries before it says
pub a_bit_is_driven : (entries more : List RecordEntry) (b : Bit) (found others : List FinishedPiece)
    (h : IsCut entries found) → IsCut (entries ++ OneBit b ∷ more) others → DrivesIn h b.driven
a_bit_is_driven entries more b found others h k =
    let t = goes_through none_yet fresh h.context k.context AtReset h.place k.place entries
    (entries ++ OneBit b ∷ more) h.rest (OneBit b ∷ more) k.rest found others h.from k.from refl in
    from_drives h.rest more b (end_right h.from tt) (open_end h.from) t.from refl
