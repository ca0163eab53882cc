-- What may come next at a place is one move: two moves from one place in one record are the same.
use Rattle.std.proofs.Common.{◌≡◌, inl, inr, List, [], ◌∷◌, ◌++◌, refl, ap, sym, subst, ◌∙◌, append_assoc, arith}
use Rattle.std.proofs.lemmas.List.{append-nil, append_cancel_left}
use Rattle.can_node_rules.specs.Bits.{Bit}
use Rattle.can_node_rules.specs.Context.{ContextValue}
use Rattle.can_node_rules.specs.Pieces.{Place, Piece}
use Rattle.can_node_rules.specs.Record.{RecordEntry, bits_in, BeginsInBit, IsSlice}
use Rattle.can_node_rules.specs.Record.RecordEntry.{OneBit}
use Rattle.can_node_rules.specs.Table.{Row}
use Rattle.can_node_rules.specs.Effects.{with_off, after}
use Rattle.can_node_rules.specs.Cut.{IsUnfinished, IsOpenAt, IsOnBus, Move}
use Rattle.can_node_rules.specs.Cut.IsOpenAt.{rests, nothing, begun}
use Rattle.can_node_rules.proofs.Machine.Along.{bits_both}
use Rattle.can_node_rules.proofs.OneCut.GoOn.{no_rest_piece}
use Rattle.can_node_rules.proofs.OneCut.RowOnce.{row_once}
use Rattle.can_node_rules.proofs.OneCut.Entries.{IsOuter, IsPart, outer_once, inner_before}
use Rattle.can_node_rules.proofs.OneCut.Entries.{some_not_none, slices_once, open_part}
use Rattle.can_node_rules.proofs.OneCut.Entries.IsOuter.{start, stop, off}
use Rattle.can_node_rules.proofs.OneCut.Ways.{Between, Closing, Way, way_of}
use Rattle.can_node_rules.proofs.OneCut.Ways.Between.{send, abort}
use Rattle.can_node_rules.proofs.OneCut.Ways.Closing.{by_start, by_stop, by_off, by_off_after}
use Rattle.can_node_rules.proofs.OneCut.Ways.Way.{finishes, comes, closes}

-- ---- pieces

-- two pieces at one place in one record are the same
pub pieces_once : (c : ContextValue) (place next other : Place) (p q : Piece) (a b x y : List RecordEntry) → IsSlice a →
    IsSlice b →
    Row c place (bits_in a) p next → Row c place (bits_in b) q other → a ++ x ≡ b ++ y →
    (a ≡ b) × (p ≡ q) × (after c place a p next ≡ after c place b q other) × (next ≡ other)
pieces_once c place next other p q a b x y h k row another e =
    let bits = sym (bits_both a x) ∙ ap bits_in e ∙ bits_both b y in
    let once = row_once c place (bits_in a) (bits_in b) (bits_in x) (bits_in y) p q next other row another bits in
    let slice = slices_once a b x y h.ends k.ends once.0 e in
    let context = ap (λ l. after c place l p next) slice ∙ ap (λ r. after c place b r next) once.1
    ∙ ap (λ s. after c place b q s) once.2 in
    (slice, once.1, context, once.2)

-- two moves that have the same entries, pieces, context and place
abbrev pub AreSame : List RecordEntry → List Piece → ContextValue → Place → List RecordEntry →
    List Piece → ContextValue → Place →
    Type 0
AreSame a ps next site b qs other another = (a ≡ b) × (ps ≡ qs) × (next ≡ other) × (site ≡ another)

-- ---- what tells the groups apart

-- what goes on to a piece has no piece as a front of it
less_no_piece : (c : ContextValue) (place next : Place) (p : Piece) (bits more : List Bit) → Row c place bits p next →
    IsUnfinished c place (bits ++ more) → ⊥
less_no_piece c place next p bits more row unfinished =
    let x = unfinished.more in
    let rest = unfinished.rest in
    let whole : bits ++ (more ++ x ∷ rest) ≡ ((bits ++ more) ++ x ∷ rest) ++ [] =
    sym (append_assoc bits more (x ∷ rest)) ∙ sym (append-nil ((bits ++ more) ++ x ∷ rest)) in
    let once = row_once c place bits ((bits ++ more) ++ x ∷ rest) (more ++ x ∷ rest) [] p unfinished.piece next
    unfinished.next row unfinished.lawful whole in
    let same : bits ++ (more ++ x ∷ rest) ≡ bits ++ [] =
    sym (append_assoc bits more (x ∷ rest)) ∙ sym once.0 ∙ sym (append-nil bits) in
    some_not_none more x rest (append_cancel_left bits (more ++ x ∷ rest) [] same)

-- the same of the bits of a slice
less_no_slice : (c : ContextValue) (place next : Place) (p : Piece) (a b m : List RecordEntry) →
    Row c place (bits_in a) p next → b ≡ a ++ m →
    IsUnfinished c place (bits_in b) → ⊥
less_no_slice c place next p a b m row whole unfinished =
    less_no_piece c place next p (bits_in a) (bits_in m) row
    (subst (IsUnfinished c place) (ap bits_in whole ∙ bits_both a m) unfinished)

-- what is open at a place has no piece as a front of it
pub open_no_piece : (c : ContextValue) (place next : Place) (p : Piece) (a b m : List RecordEntry) → BeginsInBit a →
    Row c place (bits_in a) p next → b ≡ a ++ m →
    IsOpenAt c place b → ⊥
open_no_piece c place next p a b m begins row whole (rests l) = no_rest_piece row
open_no_piece c place next p a b m begins row whole nothing =
    let empty : [] ≡ OneBit begins.bit ∷ (begins.rest ++ m) = whole ∙ ap (λ l. l ++ m) begins.whole in cc
open_no_piece c place next p a b m begins row whole (begun inner first unfinished) =
    less_no_slice c place next p a b m row whole unfinished

-- a request or an abort isn't a bit
pub between_no_bit : (c next : ContextValue) (place : Place) (entry : RecordEntry) (b : Bit) →
    Between c place entry next → entry ≡ OneBit b → ⊥
between_no_bit c next place entry b (send request) e = cc
between_no_bit c next place entry b abort e = cc

-- nor a start, a stop or bus-off
between_not_outer : (c next : ContextValue) (place : Place) (entry other : RecordEntry) → Between c place entry next →
    IsOuter other → entry ≡ other → ⊥
between_not_outer c next place entry other (send request) (start config) e = cc
between_not_outer c next place entry other (send request) stop e = cc
between_not_outer c next place entry other (send request) off e = cc
between_not_outer c next place entry other abort (start config) e = cc
between_not_outer c next place entry other abort stop e = cc
between_not_outer c next place entry other abort off e = cc

-- a slice doesn't begin with a request or an abort
between_no_slice : (c next : ContextValue) (place : Place) (entry : RecordEntry) (slice x y : List RecordEntry) →
    Between c place entry next → BeginsInBit slice →
    entry ∷ x ≡ slice ++ y → ⊥
between_no_slice c next place entry slice x y between begins e =
    let whole : entry ∷ x ≡ OneBit begins.bit ∷ (begins.rest ++ y) = e ∙ ap (λ l. l ++ y) begins.whole in
    between_no_bit c next place entry begins.bit between cc

-- nor does what is open at a place
pub between_not_open : (c next : ContextValue) (place : Place) (entry : RecordEntry) (entries x : List RecordEntry) →
    Between c place entry next → IsOpenAt c place entries →
    entries ≡ (entry ∷ []) ++ x → ⊥
between_not_open c next place entry entries x between opened e =
    elim (open_part opened).begins [
      | inl empty ↦ let nothing_there : [] ≡ entry ∷ x = sym empty ∙ e in cc
      | inr begins ↦ between_no_slice c next place entry entries x [] between begins (sym e ∙ sym (append-nil entries))
    ]

-- nor does what is closed
between_no_closing : (c next : ContextValue) (place : Place) (entry other : RecordEntry)
    (slice x y : List RecordEntry) →
    Between c place entry next → IsPart slice → IsOuter other →
    entry ∷ x ≡ slice ++ other ∷ y → ⊥
between_no_closing c next place entry other slice x y between part out e =
    elim part.begins [
      | inl empty ↦
          let whole : entry ∷ x ≡ other ∷ y = e ∙ ap (λ l. l ++ other ∷ y) empty in
          between_not_outer c next place entry other between out cc
      | inr begins ↦ between_no_slice c next place entry slice x (other ∷ y) between begins e
    ]

-- where a slice is closed no shorter one is a piece, and it is one itself only with bus-off
piece_no_closing : (c after_it : ContextValue) (place next site : Place) (p : Piece)
    (ps : List Piece) (entry : RecordEntry)
    (a b m : List RecordEntry) → IsSlice a →
    Row c place (bits_in a) p next → IsOnBus (after c place a p next) → b ≡ a ++ m →
    Closing c b place entry ps after_it site → ⊥
piece_no_closing c after_it place next site p ps entry a b m is_slice row stays whole (by_start config) =
    no_rest_piece row
piece_no_closing c after_it place next site p ps entry a b m is_slice row stays whole (by_stop opened) =
    open_no_piece c place next p a b m is_slice.begins row whole opened
piece_no_closing c after_it place next site p ps entry a b m is_slice row stays whole (by_off unfinished) =
    less_no_slice c place next p a b m row whole unfinished
piece_no_closing c after_it place next site p ps entry a b m is_slice row stays whole
    (by_off_after {next = other} {p = q} other_slice other_row full) =
    let same = pieces_once c place next other p q a b m [] is_slice other_slice row other_row
    (sym whole ∙ sym (append-nil b)) in
    let tec = ap (λ (d : ContextValue). d.tec) same.2 in
    omega (arith, tec, stays, full)

-- nor in a record where a slice is closed after it
piece_before_closing : (c after_it : ContextValue) (place next site : Place) (p : Piece) (ps : List Piece)
    (entry : RecordEntry) (a b x y : List RecordEntry) → IsSlice a →
    Row c place (bits_in a) p next → IsOnBus (after c place a p next) → IsOuter entry →
    Closing c b place entry ps after_it site → a ++ x ≡ b ++ entry ∷ y → ⊥
piece_before_closing c after_it place next site p ps entry a b x y is_slice row stays out closing e =
    let front = inner_before a b x y entry is_slice.inner out e in
    piece_no_closing c after_it place next site p ps entry a b front.0 is_slice row stays front.1 closing

-- ---- within a group

-- one request or abort
between_once : (c next other : ContextValue) (place : Place) (entry : RecordEntry) → Between c place entry next →
    Between c place entry other → next ≡ other
between_once c next other place entry (send request) (send again) = refl
between_once c next other place entry abort abort = refl

-- one way in which a slice is closed by one entry
closing_once : (c next other : ContextValue) (place site another : Place) (ps qs : List Piece)
    (slice : List RecordEntry)
    (entry : RecordEntry) →
    Closing c slice place entry ps next site → Closing c slice place entry qs other another →
    (ps ≡ qs) × (next ≡ other) × (site ≡ another)
closing_once c next other place site another ps qs slice entry (by_start config) (by_start again) = (refl, refl, refl)
closing_once c next other place site another ps qs slice entry (by_stop opened) (by_stop again) = (refl, refl, refl)
closing_once c next other place site another ps qs slice entry (by_off unfinished) (by_off again) = (refl, refl, refl)
closing_once c next other place site another ps qs slice entry (by_off unfinished)
    (by_off_after {next = n} {p = p} is_slice row full) =
    absurd (less_no_slice c place n p slice slice [] row (sym (append-nil slice)) unfinished)
closing_once c next other place site another ps qs slice entry (by_off_after {next = n} {p = p} is_slice row full)
    (by_off unfinished) =
    absurd (less_no_slice c place n p slice slice [] row (sym (append-nil slice)) unfinished)
closing_once c next other place site another ps qs slice entry (by_off_after {next = n} {p = p} is_slice row full)
    (by_off_after {next = m} {p = q} again other_row more) =
    let same = pieces_once c place n m p q slice slice [] [] is_slice again row other_row refl in
    (ap (λ r. r ∷ []) same.1, ap with_off same.2, refl)

-- ---- two moves

-- two ways on from one place in one record are the same
way_once : (c next other : ContextValue) (place site another : Place)
    (a b x y : List RecordEntry) (ps qs : List Piece) →
    Way c place a ps next site → Way c place b qs other another → a ++ x ≡ b ++ y →
    AreSame a ps next site b qs other another
way_once c next other place site another a b x y ps qs (finishes {next = n} {p = p} s h row stays)
    (finishes {next = m} {p = q} t k other_row more) e =
    let same = pieces_once c place n m p q a b x y h k row other_row e in
    (same.0, ap (λ r. r ∷ []) same.1, same.2, same.3)
way_once c next other place site another a b x y ps qs (comes entry between) (comes again one) e =
    let same : entry ≡ again = cc in
    let P : RecordEntry → Type 0 = λ f. Between c place f next in
    (ap (λ f. f ∷ []) same, refl, between_once c next other place again (subst P same between) one, refl)
way_once c next other place site another a b x y ps qs (closes s entry part out closing)
    (closes t again other_part other_out one) e =
    let whole = sym (append_assoc s (entry ∷ []) x) ∙ e ∙ append_assoc t (again ∷ []) y in
    let same = outer_once s t x y entry again part.inner other_part.inner out other_out whole in
    let P : List RecordEntry → Type 0 = λ l. Closing c l place again ps next site in
    let Q : RecordEntry → Type 0 = λ f. Closing c s place f ps next site in
    let once = closing_once c next other place site another ps qs t again (subst P same.0 (subst Q same.1 closing))
    one in
    (ap (λ l. l ++ entry ∷ []) same.0 ∙ ap (λ f. t ++ f ∷ []) same.1, once.0, once.1, once.2)
way_once c next other place site another a b x y ps qs (finishes s h row stays) (comes entry between) e =
    absurd (between_no_slice c other place entry a y x between h.begins (sym e))
way_once c next other place site another a b x y ps qs (comes entry between) (finishes t k row stays) e =
    absurd (between_no_slice c next place entry b x y between k.begins e)
way_once c next other place site another a b x y ps qs (finishes {next = n} {p = p} s h row stays)
    (closes t entry part out closing) e =
    absurd (piece_before_closing c other place n another p qs entry a t x y h row stays out closing
    (e ∙ append_assoc t (entry ∷ []) y))
way_once c next other place site another a b x y ps qs (closes s entry part out closing)
    (finishes {next = n} {p = p} t k row stays) e =
    absurd (piece_before_closing c next place n site p ps entry b s y x k row stays out closing
    (sym e ∙ append_assoc s (entry ∷ []) x))
way_once c next other place site another a b x y ps qs (comes entry between) (closes t again part out closing) e =
    absurd (between_no_closing c next place entry again t x y between part out (e ∙ append_assoc t (again ∷ []) y))
way_once c next other place site another a b x y ps qs (closes s entry part out closing) (comes again between) e =
    absurd (between_no_closing c other place again entry s y x between part out (sym e ∙ append_assoc s (entry ∷ []) x))

-- so are two moves
pub move_once : (c next other : ContextValue) (place site another : Place)
    (a b x y : List RecordEntry) (ps qs : List Piece) →
    Move c place a ps next site → Move c place b qs other another → a ++ x ≡ b ++ y →
    AreSame a ps next site b qs other another
move_once c next other place site another a b x y ps qs h k e =
    way_once c next other place site another a b x y ps qs (way_of h) (way_of k) e
