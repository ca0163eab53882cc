-- A cut goes on from the place where it is open.
use Rattle.std.proofs.Common.{◌≡◌, ◌≢◌, List, [], ◌∷◌, ◌++◌, map, refl, ap, sym, subst, ◌∙◌, append_assoc}
use Rattle.std.proofs.lemmas.List.{append-nil}
use Rattle.can_levels.specs.declared.level.Level.{Level}
use Rattle.can_node_rules.specs.Bits.{Bit, recessive_bits}
use Rattle.can_node_rules.specs.Context.{ContextValue}
use Rattle.can_node_rules.specs.Pieces.{Place, Piece}
use Rattle.can_node_rules.specs.Pieces.Place.{AtReset}
use Rattle.can_node_rules.specs.Record.{RecordEntry, Inner, BeginsInBit, IsSlice}
use Rattle.can_node_rules.specs.Record.RecordEntry.{OneBit}
use Rattle.can_node_rules.specs.Record.Inner.{none_left, samples, sends, aborts}
use Rattle.can_node_rules.specs.Effects.{along}
use Rattle.can_node_rules.specs.Table.{Row}
use Rattle.can_node_rules.specs.FinishedPieces.{FinishedPiece, Count, counted, counted_one, tagged}
use Rattle.can_node_rules.specs.Cut.{IsOpenAt, IsOnBus, Move, From}
use Rattle.can_node_rules.specs.Cut.IsOpenAt.{rests, nothing, begun}
use Rattle.can_node_rules.specs.Cut.From.{here, on}

-- the count after one list of entries and another
pub counted_both : (k : Count) (a b : List RecordEntry) → counted k (a ++ b) ≡ counted (counted k a) b
counted_both k [] b = refl
counted_both k (entry ∷ a) b = counted_both (counted_one k entry) a b

-- what is open at the end of a cut
pub open_end : {k : Count} {c end : ContextValue} {place last : Place} {entries slice : List RecordEntry}
    {found : List FinishedPiece} →
    From k c place entries found end last slice → IsOpenAt end last slice
open_end (here opened stays) = opened
open_end (on move rest) = open_end rest

-- the node is on the bus there
pub stays_end : {k : Count} {c end : ContextValue} {place last : Place} {entries slice : List RecordEntry}
    {found : List FinishedPiece} →
    From k c place entries found end last slice → IsOnBus (along end last [] slice)
stays_end (here opened stays) = stays
stays_end (on move rest) = stays_end rest

-- what follows from the open entries on follows from the whole record
pub go_on : {k : Count} {c end next : ContextValue} {place last site : Place} {entries slice more : List RecordEntry}
    {found : List FinishedPiece} (x : List RecordEntry) (g : List FinishedPiece) →
    From k c place entries found end last slice →
    ((j : Count) → counted j slice ≡ counted k entries → From j end last (slice ++ x) g next site more) →
    From k c place (entries ++ x) (found ++ g) next site more
go_on {k = k} x g (here opened stays) step = step k refl
go_on {k = k} {c = c} {end = end} {next = next} {place = place} {last = last} {site = site} {slice = slice}
    {more = more} x g (on {entries = first} {more = others} {ps = ps} {qs = qs} move rest) step =
    let later = go_on x g rest (λ j e. step j (e ∙ sym (counted_both k first others))) in
    let P : List RecordEntry → Type 0 = λ l. From k c place l
    ((tagged (counted k first) ps ++ qs) ++ g) next site more in
    let Q : List FinishedPiece → Type 0 = λ l. From k c place (first ++ (others ++ x)) l next site more in
    subst P (sym (append_assoc first others x))
    (subst Q (sym (append_assoc (tagged (counted k first) ps) qs g)) (on move later))

-- a move from the open entries on
pub move_on : {k : Count} {c end next : ContextValue} {place last site : Place} {entries slice : List RecordEntry}
    {found : List FinishedPiece} (x : List RecordEntry) (ps : List Piece) →
    From k c place entries found end last slice → Move end last (slice ++ x) ps next site → IsOnBus next →
    From k c place (entries ++ x) (found ++ tagged (counted k (entries ++ x)) ps) next site []
move_on {k = k} {end = end} {next = next} {last = last} {site = site} {entries = entries} {slice = slice} x ps cut move
    stays =
    go_on x (tagged (counted k (entries ++ x)) ps) cut (λ j e.
    let count : counted j (slice ++ x) ≡ counted k (entries ++ x) =
    counted_both j slice x ∙ ap (λ i. counted i x) e ∙ sym (counted_both k entries x) in
    let P : List RecordEntry → Type 0 = λ l. From j end last l (tagged (counted k (entries ++ x)) ps) next site [] in
    let Q : List FinishedPiece → Type 0 = λ l. From j end last ((slice ++ x) ++ []) l next site [] in
    let R : Count → Type 0 = λ i. From j end last ((slice ++ x) ++ []) (tagged i ps ++ []) next site [] in
    subst P (append-nil (slice ++ x))
    (subst Q (append-nil (tagged (counted k (entries ++ x)) ps)) (subst R count (on move (here nothing stays)))))

-- more entries of the piece under way
pub open_on : {k : Count} {c end : ContextValue} {place last : Place} {entries slice : List RecordEntry}
    {found : List FinishedPiece} (x : List RecordEntry) →
    From k c place entries found end last slice → IsOpenAt end last (slice ++ x) →
    IsOnBus (along end last [] (slice ++ x)) →
    From k c place (entries ++ x) found end last (slice ++ x)
open_on {k = k} {c = c} {end = end} {place = place} {last = last} {entries = entries} {slice = slice} {found = found} x
    cut opened stays =
    let P : List FinishedPiece → Type 0 = λ l. From k c place (entries ++ x) l end last (slice ++ x) in
    subst P (append-nil found) (go_on x [] cut (λ j e. here opened stays))

-- ---- entries of a piece

-- one entry more
pub inner_both : {a b : List RecordEntry} → Inner a → Inner b → Inner (a ++ b)
inner_both none_left k = k
inner_both (samples b h) k = samples b (inner_both h k)
inner_both (sends request h) k = sends request (inner_both h k)
inner_both (aborts h) k = aborts (inner_both h k)

-- nothing is a piece in reset
pub no_rest_piece : {c : ContextValue} {bits : List Bit} {p : Piece} {next : Place} → Row c AtReset bits p next → ⊥
no_rest_piece row = elim row [ ]

-- the open entries are a piece's, but in reset
pub inner_open : {c : ContextValue} {place : Place} {slice : List RecordEntry} → place ≢ AtReset →
    IsOpenAt c place slice →
    Inner slice
inner_open away (rests l) = absurd (away refl)
inner_open away nothing = none_left
inner_open away (begun inner begins unfinished) = inner

-- with a bit at its end a slice begins with a bit
pub begins_open : {c : ContextValue} {place : Place} {slice : List RecordEntry} (b : Bit) → place ≢ AtReset →
    IsOpenAt c place slice → BeginsInBit (slice ++ OneBit b ∷ [])
begins_open b away (rests l) = absurd (away refl)
begins_open b away nothing = record { bit = b; rest = []; whole = refl }
begins_open b away (begun inner begins unfinished) = record {
  bit = begins.bit;
  rest = begins.rest ++ OneBit b ∷ [];
  whole = ap (λ l. l ++ OneBit b ∷ []) begins.whole;
}

-- the entries of a piece that a bit ends
pub slice_open : {c : ContextValue} {place : Place} {slice : List RecordEntry} (b : Bit) → place ≢ AtReset →
    IsOpenAt c place slice → IsSlice (slice ++ OneBit b ∷ [])
slice_open {slice = slice} b away opened = record {
  inner = inner_both (inner_open away opened) (samples b none_left);
  begins = begins_open b away opened;
  ends = record { before = slice; bit = b; whole = refl };
}

-- in reset only bits come
pub rest_open : {c : ContextValue} {slice : List RecordEntry} → IsOpenAt c AtReset slice →
    (l : List Level) × (slice ≡ map OneBit (recessive_bits l))
rest_open (rests l) = (l, refl)
rest_open nothing = ([], refl)
rest_open (begun inner begins unfinished) = absurd (no_rest_piece unfinished.lawful)
