-- Bus-off in a node's record: it drops the request, leaves the node in reset, and comes once in an activation at most.
use Rattle.std.proofs.Common.{◌≡◌, ◌≤◌, ◌+◌, ℕ, Bool, true, false, None, List, [], ◌∷◌, ◌++◌, inl, inr, refl, sym, ap}
use Rattle.std.proofs.Common.{◌∙◌, subst, append_assoc, arith}
use Rattle.std.specs.Prelude.{if◌then◌else◌}
use Rattle.std.proofs.lemmas.List.{append-nil, same_from_push}
use Rattle.lemmas.proofs.Lists.{last_of}
use Rattle.can_node_rules.specs.declared.phase.Phase.TheVariants.{Reset}
use Rattle.can_node_rules.specs.Bits.{Bit}
use Rattle.can_node_rules.specs.Context.{ContextValue, fresh}
use Rattle.can_node_rules.specs.Pieces.{Place, Piece}
use Rattle.can_node_rules.specs.Pieces.Place.{AtReset}
use Rattle.can_node_rules.specs.Record.{RecordEntry, Inner}
use Rattle.can_node_rules.specs.Record.RecordEntry.{Start, Stop, OneBit, Send, Abort, BusOff}
use Rattle.can_node_rules.specs.Record.Inner.{none_left, samples, sends, aborts}
use Rattle.can_node_rules.specs.Effects.{along}
use Rattle.can_node_rules.specs.FinishedPieces.{FinishedPiece, Count, counted, counted_one, none_yet}
use Rattle.can_node_rules.specs.Table.{Row}
use Rattle.can_node_rules.specs.Cut.{From, IsCut}
use Rattle.can_node_rules.specs.Cut.From.{here, on}
use Rattle.can_node_rules.specs.Driving.{phase_at}
use Rattle.can_node_rules.specs.NextBit.{now_in, open_bits, phase_in}
use Rattle.can_node_rules.proofs.OneCut.Entries.{open_part, outer_not_within}
use Rattle.can_node_rules.proofs.OneCut.Entries.IsOuter.{off}
use Rattle.can_node_rules.proofs.OneCut.GoOn.{counted_both, no_rest_piece}
use Rattle.can_node_rules.proofs.OneCut.Ways.{Between, Closing, Way, way_of}
use Rattle.can_node_rules.proofs.OneCut.Ways.Between.{send, abort}
use Rattle.can_node_rules.proofs.OneCut.Ways.Closing.{by_start, by_stop, by_off, by_off_after}
use Rattle.can_node_rules.proofs.OneCut.Ways.Way.{finishes, comes, closes}
use Rattle.can_node_rules.proofs.Requests.OneMore.{none_more}

-- ---- after bus-off no request is held

no_off_between : (c next : ContextValue) (place : Place) (entry : RecordEntry) →
    Between c place entry next → entry ≡ BusOff →
    ⊥
no_off_between c next place entry (send request) e = cc
no_off_between c next place entry abort e = cc

closed_off : (c next : ContextValue) (slice : List RecordEntry) (place site : Place)
    (entry : RecordEntry) (ps : List Piece) →
    Closing c slice place entry ps next site →
    entry ≡ BusOff → next.held ≡ None
closed_off c next slice place site entry ps (by_start config) e = absurd cc
closed_off c next slice place site entry ps (by_stop opened) e = refl
closed_off c next slice place site entry ps (by_off unfinished) e = refl
closed_off c next slice place site entry ps (by_off_after is row full) e = refl

way_off : (c next : ContextValue) (place site : Place) (before entries : List RecordEntry) (ps : List Piece) →
    Way c place entries ps next site → entries ≡ before ++ BusOff ∷ [] →
    next.held ≡ None
way_off c next place site before entries ps (finishes s h row on_bus) e =
    let ends = h.ends in let no = (same_from_push ends.before before (OneBit ends.bit) BusOff (sym ends.whole ∙ e)).1 in
    absurd cc
way_off c next place site before entries ps (comes entry between) e =
    absurd (no_off_between c next place entry between (same_from_push [] before entry BusOff e).1)
way_off c next place site before entries ps (closes s entry part out closing) e =
    closed_off c next s place site entry ps closing (same_from_push s before entry BusOff e).1

off_last : (k : Count) (c end : ContextValue) (place last : Place) (before entries rest : List RecordEntry)
    (found : List FinishedPiece) →
    From k c place entries found end last rest → entries ≡ before ++ BusOff ∷ [] → (along end last [] rest).held ≡ None
off_last k c end place last before entries rest found (here opened stays) e =
    absurd (outer_not_within before entries [] BusOff off (open_part opened).inner e)
off_last k c end place last before entries rest found
    (on {next = next} {site = site} {entries = first} {more = more} {ps = ps} {qs = later} move from) e =
    elim (last_of more) [
      | inl none ↦
          let only = none_more (counted k first) next end site last more rest later from none in
          let whole : first ≡ before ++ BusOff ∷ [] = sym (ap (λ l. first ++ l) none ∙ append-nil first) ∙ e in
          ap (λ (d : ContextValue). d.held) only.1 ∙ way_off c next place site before first ps (way_of move) whole
      | inr some ↦
          let same : (first ++ some.0) ++ some.1 ∷ [] ≡ before ++ BusOff ∷ [] = append_assoc first some.0 (some.1 ∷ [])
          ∙ sym (ap (λ l. first ++ l) some.2) ∙ e in
          let is : some.1 ≡ BusOff = (same_from_push (first ++ some.0) before some.1 BusOff same).1 in
          off_last (counted k first) next end site last some.0 more rest later from
          (some.2 ∙ ap (λ x. some.0 ++ x ∷ []) is)
    ]

-- right after bus-off the node holds no request
pub off_more : (before all : List RecordEntry) (others : List FinishedPiece) (k : IsCut all others) →
    all ≡ before ++ BusOff ∷ [] → (now_in k).held ≡ None
off_more before all others k e = off_last none_yet fresh k.context AtReset k.place before all k.rest others k.from e

-- ---- how often

-- whether bus-off came since the last start
abbrev off_after : Bool → RecordEntry → Bool
off_after b (Start config) = false
off_after b BusOff = true
off_after b (OneBit bit) = b
off_after b (Send request) = b
off_after b Abort = b
off_after b Stop = b

abbrev pub is_off : Bool → List RecordEntry → Bool
is_off b [] = b
is_off b (x ∷ xs) = is_off (off_after b x) xs

abbrev off_one : RecordEntry → ℕ
off_one BusOff = 1
off_one (Start config) = 0
off_one (OneBit bit) = 0
off_one (Send request) = 0
off_one Abort = 0
off_one Stop = 0

abbrev pub offs : List RecordEntry → ℕ
offs [] = 0
offs (x ∷ xs) = off_one x + offs xs

abbrev pub left : Bool → ℕ
left b = if b then 0 else 1

pub is_off_both : (b : Bool) (xs ys : List RecordEntry) → is_off b (xs ++ ys) ≡ is_off (is_off b xs) ys
is_off_both b [] ys = refl
is_off_both b (x ∷ xs) ys = is_off_both (off_after b x) xs ys

pub offs_both : (xs ys : List RecordEntry) → offs (xs ++ ys) ≡ offs xs + offs ys
offs_both [] ys = omega arith
offs_both (x ∷ xs) ys = let h = offs_both xs ys in omega (arith, h)

-- within a piece it doesn't come
record IsQuiet (k : Count) (b : Bool) (l : List RecordEntry) : Type 0 where
  pub same : is_off b l ≡ b
  pub none : offs l ≡ 0
  pub starts : (counted k l).starts ≡ k.starts

quiet_inner : (k : Count) (b : Bool) (l : List RecordEntry) → Inner l → IsQuiet k b l
quiet_inner k b l none_left = record { same = refl; none = refl; starts = refl }
quiet_inner k b l (samples {entries = xs} bit h) =
    let q = quiet_inner (counted_one k (OneBit bit)) b xs h in
    record { same = q.same; none = let n = q.none in omega (arith, n); starts = q.starts }
quiet_inner k b l (sends {entries = xs} request h) =
    let q = quiet_inner k b xs h in
    record { same = q.same; none = let n = q.none in omega (arith, n); starts = q.starts }
quiet_inner k b l (aborts {entries = xs} h) =
    let q = quiet_inner k b xs h in
    record { same = q.same; none = let n = q.none in omega (arith, n); starts = q.starts }

-- entries after which the count is right where it was before, and after bus-off the node is in reset
record GoesRight (k : Count) (b : Bool) (entries : List RecordEntry) (site : Place) : Type 0 where
  pub reset : is_off b entries ≡ true → site ≡ AtReset
  pub few : offs entries + left (is_off b entries) + k.starts ≤ (counted k entries).starts + left b

right_quiet : (k : Count) (b : Bool) (l : List RecordEntry) (site : Place) → IsQuiet k b l →
    (b ≡ true → site ≡ AtReset) →
    GoesRight k b l site
right_quiet k b l site q at =
    let same = ap left q.same in let n = q.none in let s = q.starts in
    record { reset = λ e. at (sym q.same ∙ e); few = omega (arith, same, n, s) }

is_on : (b : Bool) → (b ≡ true → ⊥) → left b ≡ 1
is_on true h = absurd (h refl)
is_on false h = refl

pub no_reset_row : (c : ContextValue) (place next : Place) (bits : List Bit) (p : Piece) → Row c place bits p next →
    place ≡ AtReset → ⊥
no_reset_row c place next bits p row e = let P : Place → Type 0 = λ s. Row c s bits p next in no_rest_piece
    (subst P e row)

-- a slice and then bus-off, a start or a stop
right_off : (k : Count) (b : Bool) (slice : List RecordEntry) → IsQuiet k b slice → left b ≡ 1 → GoesRight k b
    (slice ++ BusOff ∷ []) AtReset
right_off k b slice q was =
    let n = q.none in let s = q.starts in
    let a = offs_both slice (BusOff ∷ []) in
    let o : is_off b (slice ++ BusOff ∷ []) ≡ true = is_off_both b slice (BusOff ∷ []) in let l = ap left o in
    let w = ap (λ (j : Count). j.starts) (counted_both k slice (BusOff ∷ [])) in
    record { reset = λ e. refl; few = omega (arith, n, s, a, l, w, was) }

right_closed : (k : Count) (b : Bool) (slice : List RecordEntry) (entry : RecordEntry)
    (c next : ContextValue) (place site : Place)
    (ps : List Piece) →
    Inner slice → (b ≡ true → place ≡ AtReset) → Closing c slice place entry ps next site → GoesRight k b
    (slice ++ entry ∷ []) site
right_closed k b slice entry c next place site ps inner at (by_start config) =
    let q = quiet_inner k b slice inner in let n = q.none in let s = q.starts in
    let a = offs_both slice (Start config ∷ []) in
    let o : is_off b (slice ++ Start config ∷ []) ≡ false = is_off_both b slice (Start config ∷ []) in let l =
    ap left o in
    let w = ap (λ (j : Count). j.starts) (counted_both k slice (Start config ∷ [])) in
    record { reset = λ e. let no : false ≡ true = sym o ∙ e in absurd cc; few = omega (arith, n, s, a, l, w) }
right_closed k b slice entry c next place site ps inner at (by_stop opened) =
    let q = quiet_inner k b slice inner in let n = q.none in let s = q.starts in
    let a = offs_both slice (Stop ∷ []) in
    let o : is_off b (slice ++ Stop ∷ []) ≡ b = is_off_both b slice (Stop ∷ []) ∙ q.same in let l = ap left o in
    let w = ap (λ (j : Count). j.starts) (counted_both k slice (Stop ∷ [])) in
    record { reset = λ e. refl; few = omega (arith, n, s, a, l, w) }
right_closed k b slice entry c next place site ps inner at (by_off unfinished) =
    right_off k b slice (quiet_inner k b slice inner)
    (is_on b (λ e. no_reset_row c place _ _ _ unfinished.lawful (at e)))
right_closed k b slice entry c next place site ps inner at (by_off_after is row full) =
    right_off k b slice (quiet_inner k b slice inner) (is_on b (λ e. no_reset_row c place _ _ _ row (at e)))

right_way : (k : Count) (b : Bool) (entries : List RecordEntry) (c next : ContextValue) (place site : Place)
    (ps : List Piece) →
    (b ≡ true → place ≡ AtReset) → Way c place entries ps next site → GoesRight k b entries site
right_way k b entries c next place site ps at (finishes s h row on_bus) =
    right_quiet k b entries site (quiet_inner k b entries h.inner) (λ e. absurd (no_reset_row c place _ _ _ row (at e)))
right_way k b entries c next place site ps at (comes entry (send request)) = right_quiet k b entries site
    (quiet_inner k b entries (sends request none_left)) at
right_way k b entries c next place site ps at (comes entry abort) = right_quiet k b entries site
    (quiet_inner k b entries (aborts none_left)) at
right_way k b entries c next place site ps at (closes s entry part out closing) =
    right_closed k b s entry c next place site ps part.inner at closing

right_from : (k : Count) (b : Bool) (c end : ContextValue) (place last : Place) (entries rest : List RecordEntry)
    (found : List FinishedPiece) → (b ≡ true → place ≡ AtReset) →
    From k c place entries found end last rest → offs entries + left (is_off b entries) + k.starts ≤
    (counted k entries).starts + left b
right_from k b c end place last entries rest found at (here opened stays) =
    (right_quiet k b entries place (quiet_inner k b entries (open_part opened).inner) at).few
right_from k b c end place last entries rest found at
    (on {next = next} {site = site} {entries = first} {more = more} {ps = ps} {qs = later} move from) =
    let w = right_way k b first c next place site ps at (way_of move) in let x = w.few in
    let y = right_from (counted k first) (is_off b first) next end site last more rest later w.reset from in
    let a = offs_both first more in let l = ap left (is_off_both b first more) in
    let s = ap (λ (j : Count). j.starts) (counted_both k first more) in omega (arith, x, y, a, l, s)

-- of a record that has a cut: bus-off comes once in an activation at most
pub off_once : (entries : List RecordEntry) (found : List FinishedPiece) → IsCut entries found →
    offs entries + left (is_off false entries) ≤ (counted none_yet entries).starts + 1
off_once entries found h =
    let r = right_from none_yet false fresh h.context AtReset h.place entries h.rest found (λ no. cc) h.from in omega
    (arith, r)

-- ---- where it leaves the node

reset_from : (k : Count) (b : Bool) (c end : ContextValue) (place last : Place) (entries rest : List RecordEntry)
    (found : List FinishedPiece) → (b ≡ true → place ≡ AtReset) →
    From k c place entries found end last rest → is_off b entries ≡ true → last ≡ AtReset
reset_from k b c end place last entries rest found at (here opened stays) is =
    (right_quiet k b entries place (quiet_inner k b entries (open_part opened).inner) at).reset is
reset_from k b c end place last entries rest found at
    (on {next = next} {site = site} {entries = first} {more = more} {ps = ps} {qs = later} move from) is =
    let w = right_way k b first c next place site ps at (way_of move) in
    reset_from (counted k first) (is_off b first) next end site last more rest later w.reset from
    (sym (is_off_both b first more) ∙ is)

-- right after bus-off the node is in reset
pub off_resets : (before all : List RecordEntry) (found : List FinishedPiece) (cut : IsCut all found) →
    all ≡ before ++ BusOff ∷ [] → phase_in cut ≡ Reset
off_resets before all found cut e =
    let off : is_off false all ≡ true = ap (λ (l : List RecordEntry). is_off false l) e
    ∙ is_off_both false before (BusOff ∷ []) in
    ap (λ (s : Place). phase_at s (open_bits cut))
    (reset_from none_yet false fresh cut.context AtReset cut.place all cut.rest found (λ no. refl) cut.from off)
