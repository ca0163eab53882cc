-- A record has one cut.
use Rattle.std.proofs.Common.{◌≡◌, List, [], ◌∷◌, ◌++◌, refl, ap, sym, subst, ◌∙◌, append_assoc}
use Rattle.std.proofs.lemmas.List.{append_cancel_left}
use Rattle.can_node_rules.specs.Context.{ContextValue, fresh}
use Rattle.can_node_rules.specs.Pieces.{Place, Piece}
use Rattle.can_node_rules.specs.Pieces.Place.{AtReset}
use Rattle.can_node_rules.specs.Record.{RecordEntry}
use Rattle.can_node_rules.specs.FinishedPieces.{Count, counted, FinishedPiece, tagged, none_yet}
use Rattle.can_node_rules.specs.Cut.{IsOpenAt, Move, From, IsCut}
use Rattle.can_node_rules.specs.Cut.From.{here, on}
use Rattle.can_node_rules.proofs.OneCut.Entries.{open_part, outer_not_within}
use Rattle.can_node_rules.proofs.OneCut.Ways.{Way, way_of}
use Rattle.can_node_rules.proofs.OneCut.Ways.Way.{finishes, comes, closes}
use Rattle.can_node_rules.proofs.OneCut.MoveOnce.{move_once, open_no_piece, between_not_open}

-- where less than a piece has come no move goes on among its entries
way_or_open : (c next : ContextValue) (place site : Place) (a entries x : List RecordEntry) (ps : List Piece) →
    Way c place a ps next site →
    IsOpenAt c place entries → entries ≡ a ++ x → ⊥
way_or_open c next place site a entries x ps (finishes {next = n} {p = p} slice is_slice row stays) opened e =
    open_no_piece c place n p a entries x is_slice.begins row e opened
way_or_open c next place site a entries x ps (comes entry between) opened e =
    between_not_open c next place entry entries x between opened e
way_or_open c next place site a entries x ps (closes slice entry part out closing) opened e =
    outer_not_within slice entries x entry out (open_part opened).inner (e ∙ append_assoc slice (entry ∷ []) x)

-- so the end of a record is open at its place, or a move goes on there, and not both
pub move_or_open : (c next : ContextValue) (place site : Place) (a entries x : List RecordEntry) (ps : List Piece) →
    Move c place a ps next site →
    IsOpenAt c place entries → entries ≡ a ++ x → ⊥
move_or_open c next place site a entries x ps move opened e =
    way_or_open c next place site a entries x ps (way_of move) opened e

-- two cuts that have the same pieces, and end in the same context and at the same place, with the same entries open
abbrev pub EndSame : List FinishedPiece → ContextValue → Place → List RecordEntry → List FinishedPiece → ContextValue →
    Place → List RecordEntry → Type 0
EndSame found end last rest others other another more =
    (found ≡ others) × (end ≡ other) × (last ≡ another) × (rest ≡ more)

-- what goes on after one of two equal moves goes on after the other
after_same : (k j : Count) (c d end : ContextValue) (s t last : Place) (entries rest : List RecordEntry)
    (found : List FinishedPiece) → k ≡ j → c ≡ d → s ≡ t →
    From k c s entries found end last rest → From j d t entries found end last rest
after_same k j c d end s t last entries rest found count context place from =
    let P : Count → Type 0 = λ i. From i c s entries found end last rest in
    let Q : ContextValue → Type 0 = λ e. From j e s entries found end last rest in
    let R : Place → Type 0 = λ p. From j d p entries found end last rest in
    subst R place (subst Q context (subst P count from))

-- from one place on a record is cut in one way
pub from_once : (k : Count) (c end other : ContextValue) (place last another : Place)
    (entries again rest more : List RecordEntry) (found others : List FinishedPiece) →
    From k c place entries found end last rest → From k c place again others other another more → entries ≡ again →
    EndSame found end last rest others other another more
from_once k c end other place last another entries again rest more found others (here opened stays) (here too context)
    e = (refl, refl, refl, e)
from_once k c end other place last another entries again rest more found others (here opened stays)
    (on {next = next} {site = site} {entries = first} {more = later} {ps = ps} move from) e =
    absurd (move_or_open c next place site first entries later ps move opened e)
from_once k c end other place last another entries again rest more found others
    (on {next = next} {site = site} {entries = first} {more = later} {ps = ps} move from) (here opened stays) e =
    absurd (move_or_open c next place site first again later ps move opened (sym e))
from_once k c end other place last another entries again rest more found others
    (on {next = next} {site = site} {entries = a} {more = x} {ps = ps} {qs = found_later} move from)
    (on {next = after_it} {site = there} {entries = b} {more = y} {ps = qs} {qs = others_later} second on_from) e =
    let same = move_once c next after_it place site there a b x y ps qs move second e in
    let count = ap (counted k) same.0 in
    let rests = append_cancel_left b x y (ap (λ l. l ++ x) (sym same.0) ∙ e) in
    let moved = after_same (counted k b) (counted k a) after_it next other there site another y more others_later
    (sym count) (sym same.2) (sym same.3) on_from in
    let once = from_once (counted k a) next end other site last another x y rest more found_later others_later from
    moved rests in
    let tags = ap (λ i. tagged i ps ++ found_later) count ∙ ap (λ l. tagged (counted k b) l ++ found_later) same.1 in
    (tags ∙ ap (λ l. tagged (counted k b) qs ++ l) once.0, once.1, once.2, once.3)

-- two cuts of one record have the same finished pieces
pub cut_once : (entries : List RecordEntry) (found others : List FinishedPiece) →
    IsCut entries found → IsCut entries others →
    found ≡ others
cut_once entries found others h k =
    (from_once none_yet fresh h.context k.context AtReset h.place k.place entries entries h.rest k.rest found others
    h.from k.from refl).0

-- and they lead to the same context and place, with the same entries open
pub whole_once : (entries : List RecordEntry) (found others : List FinishedPiece) (h : IsCut entries found)
    (k : IsCut entries others) →
    (found ≡ others) × (h.context ≡ k.context) × (h.place ≡ k.place) × (h.rest ≡ k.rest)
whole_once entries found others h k =
    from_once none_yet fresh h.context k.context AtReset h.place k.place entries entries h.rest k.rest found others
    h.from k.from refl
