-- A verdict is on the frame that the bit before it tells.
use Rattle.std.proofs.Common.{◌≡◌, ◌≢◌, ◌⊎◌, ◌<◌, ◌≤◌, inl, inr, ℕ, Option, Some, None, List, [], ◌∷◌, ◌++◌, refl}
use Rattle.std.proofs.Common.{All, sym, ap, ◌∙◌, subst, arith, append_assoc, append-nil}
use Rattle.std.proofs.lemmas.List.{same_from_push}
use Rattle.std.proofs.lemmas.List.Elements.{All-head, All-tail}
use Rattle.lemmas.specs.Picking.{Picks}
use Rattle.lemmas.specs.Picking.Picks.{nothing, picked, left}
use Rattle.lemmas.proofs.Lists.{last_of, fronts}
use Rattle.can_frame.specs.Frame.{FrameValue}
use Rattle.can_node_rules.specs.Bits.{Bit}
use Rattle.can_node_rules.specs.Context.{ContextValue, fresh}
use Rattle.can_node_rules.specs.Cut.{IsOpenAt, Move, From, IsCut}
use Rattle.can_node_rules.specs.Cut.IsOpenAt.{nothing as none_open}
use Rattle.can_node_rules.specs.Cut.Move.{piece, sent, aborted, started, stopped, off_within, off_after}
use Rattle.can_node_rules.specs.Cut.From.{here, on}
use Rattle.can_node_rules.specs.Events.{Step, received_in}
use Rattle.can_node_rules.specs.FinishedPieces.{FinishedPiece, ReceivedFrame, received_if, received}
use Rattle.can_node_rules.specs.FinishedPieces.{Count, counted, none_yet, tagged}
use Rattle.can_node_rules.specs.Pieces.{Place, Piece, received_by}
use Rattle.can_node_rules.specs.Pieces.Place.{AtReset}
use Rattle.can_node_rules.specs.Record.{RecordEntry}
use Rattle.can_node_rules.specs.Record.RecordEntry.{OneBit, BusOff}
use Rattle.can_node_rules.specs.Outcomes.{closed_by}
use Rattle.can_node_rules.proofs.OneCut.CutOnce.{move_or_open}
use Rattle.can_node_rules.proofs.OneCut.GoOn.{counted_both, open_end}
use Rattle.can_node_rules.proofs.OneCut.Longer.{received_now, received_both, received_more, bits_within, EndsBy}
use Rattle.can_node_rules.proofs.OneCut.Longer.{ends_within}
use Rattle.can_node_rules.proofs.OneCut.MoveOnce.{open_no_piece}
use Rattle.can_node_rules.proofs.OneCut.Through.{goes_through}

-- ---- among received frames

abbrev pub Among : ReceivedFrame → List ReceivedFrame → Type 0
Among h [] = ⊥
Among h (x ∷ xs) = (x ≡ h) ⊎ Among h xs

among_both : (h : ReceivedFrame) (xs ys : List ReceivedFrame) → Among h (xs ++ ys) → Among h xs ⊎ Among h ys
among_both h [] ys a = inr a
among_both h (x ∷ xs) ys (inl is) = inl (inl is)
among_both h (x ∷ xs) ys (inr a) = elim (among_both h xs ys a) [
  | inl b ↦ inl (inr b)
  | inr b ↦ inr b
]

-- the partner of an element
pub partner_of : {B : Type 0} (P : ReceivedFrame → Type 0) (R : ReceivedFrame → B → Type 0) (xs : List ReceivedFrame)
    (zs ys more : List B) (y : B) → Picks P R xs zs → zs ≡ ys ++ y ∷ more → (h : ReceivedFrame) × Among h xs × R h y
partner_of P R xs zs [] more y nothing e = absurd cc
partner_of P R xs zs (u ∷ ys) more y nothing e = absurd cc
partner_of P R xs zs [] more y (picked x z p r rest) e =
    let same : z ≡ y = cc in (x, inl refl, subst (λ v. R x v) same r)
partner_of P R xs zs (u ∷ ys) more y (picked {xs = l} {ys = m} x z p r rest) e =
    let later : m ≡ ys ++ y ∷ more = cc in
    let found = partner_of P R l m ys more y rest later in (found.0, inr found.1, found.2)
partner_of P R xs zs ys more y (left {xs = l} x other rest) e =
    let found = partner_of P R l zs ys more y rest e in (found.0, inr found.1, found.2)

-- ---- by the number of bits up to their ends

abbrev Tagged : (ℕ → Type 0) → List FinishedPiece → Type 0
Tagged P [] = Unit {0}
Tagged P (x ∷ xs) = P x.bits × Tagged P xs

tagged_both : (P : ℕ → Type 0) (xs ys : List FinishedPiece) → Tagged P xs → Tagged P ys → Tagged P (xs ++ ys)
tagged_both P [] ys h k = k
tagged_both P (x ∷ xs) ys h k = (h.0, tagged_both P xs ys h.1 k)

tagged_weak : (P Q : ℕ → Type 0) (xs : List FinishedPiece) → ((n : ℕ) → P n → Q n) → Tagged P xs → Tagged Q xs
tagged_weak P Q [] f h = tt
tagged_weak P Q (x ∷ xs) f h = (f x.bits h.0, tagged_weak P Q xs f h.1)

tagged_all : (n : ℕ) (xs : List FinishedPiece) → All (EndsBy n) xs → Tagged (λ m. m ≤ n) xs
tagged_all n [] h = tt
tagged_all n (x ∷ xs) h = (All-head (EndsBy n) x xs h, tagged_all n xs (All-tail (EndsBy n) x xs h))

-- a frame received in them has such a number
among_tagged : (P : ℕ → Type 0) (h : ReceivedFrame) (xs : List FinishedPiece) → Tagged P xs → Among h (received xs) →
    P h.bits
among_tagged P h [] t a = absurd a
among_tagged P h (x ∷ xs) t a = by (received_by x.piece) a (λ b. among_tagged P h xs t.1 b)
  where
    by : (f : Option FrameValue) → Among h (received_if f x (received xs)) → (Among h (received xs) → P h.bits) →
        P h.bits
    by None b later = later b
    by (Some f) (inl is) later = subst P (ap (λ (r : ReceivedFrame). r.bits) is) t.0
    by (Some f) (inr b) later = later b

-- ---- pieces that end later

-- a bit more is counted after what ends with it
bit_counted : (k : Count) (rest c before : List RecordEntry) (b : Bit) → rest ++ c ≡ before ++ OneBit b ∷ [] →
    c ≢ [] → (counted k rest).bits < (counted k (rest ++ c)).bits
bit_counted k rest c before b e some = elim (last_of c) [
  | inl none ↦ absurd (some none)
  | inr last ↦
      let whole : (rest ++ last.0) ++ last.1 ∷ [] ≡ before ++ OneBit b ∷ [] =
      append_assoc rest last.0 (last.1 ∷ []) ∙ ap (λ l. rest ++ l) (sym last.2) ∙ e in
      let is : last.1 ≡ OneBit b = (same_from_push (rest ++ last.0) before last.1 (OneBit b) whole).1 in
      let all : rest ++ c ≡ (rest ++ last.0) ++ OneBit b ∷ [] =
      ap (λ l. rest ++ l) last.2 ∙ sym (append_assoc rest last.0 (last.1 ∷ []))
      ∙ ap (λ x. (rest ++ last.0) ++ x ∷ []) is in
      let n = ap (λ (l : List RecordEntry). (counted k l).bits) all
      ∙ ap (λ (i : Count). i.bits) (counted_both k (rest ++ last.0) (OneBit b ∷ [])) in
      let m = ap (λ (i : Count). i.bits) (counted_both k rest last.0) in
      let more = bits_within (counted k rest) last.0 in
      omega (arith, n, m, more)
]

-- what a move finishes after what is open
move_later : {c next : ContextValue} {place site : Place} {first : List RecordEntry} {ps : List Piece} (k : Count)
    (rest x : List RecordEntry) → IsOpenAt c place rest → Move c place first ps next site → first ≡ rest ++ x →
    x ≢ [] → Tagged (λ n. (counted k rest).bits < n) (tagged (counted k first) ps)
move_later k rest x opened (piece slice is row stays) e some =
    let few = bit_counted k rest x is.ends.before is.ends.bit (sym e ∙ is.ends.whole) some in
    let same = ap (λ (l : List RecordEntry). (counted k l).bits) e in (omega (arith, few, same), tt)
move_later k rest x opened (sent request away) e some = tt
move_later k rest x opened (aborted away) e some = tt
move_later k rest x opened (started config l) e some = tt
move_later k rest x opened (stopped slice whole stays) e some = tt
move_later k rest x opened (off_within slice before b whole stays is unfinished full) e some = tt
move_later {c = c} {place = place} k rest x opened
    (off_after {next = n} {p = p} slice before b whole stays is row full) e some =
    elim (last_of x) [
      | inl none ↦ absurd (some none)
      | inr last ↦
          let ends : slice ++ BusOff ∷ [] ≡ (rest ++ last.0) ++ last.1 ∷ [] =
          e ∙ ap (λ l. rest ++ l) last.2 ∙ sym (append_assoc rest last.0 (last.1 ∷ [])) in
          let split : slice ≡ rest ++ last.0 = (same_from_push slice (rest ++ last.0) BusOff last.1 ends).0 in
          let longer : last.0 ≢ [] = λ none.
          open_no_piece c place n p slice rest [] is.begins row
          (sym (append-nil rest) ∙ ap (λ l. rest ++ l) (sym none) ∙ sym split ∙ sym (append-nil slice)) opened in
          let few = bit_counted k rest last.0 is.ends.before is.ends.bit (sym split ∙ is.ends.whole) longer in
          let n = ap (λ (l : List RecordEntry). (counted k l).bits) split in
          let m = ap (λ (i : Count). i.bits) (counted_both k slice (BusOff ∷ [])) in
          (omega (arith, few, n, m), tt)
    ]

later_from : {k : Count} {c end : ContextValue} {place last : Place} {all slice : List RecordEntry}
    {found : List FinishedPiece} (rest x : List RecordEntry) → IsOpenAt c place rest →
    From k c place all found end last slice → all ≡ rest ++ x → Tagged (λ n. (counted k rest).bits < n) found
later_from rest x opened (here whole stays) e = tt
later_from {k = k} {c = c} {place = place} rest x opened
    (on {next = next} {site = site} {entries = first} {more = more} {ps = ps} {qs = qs} move from) e =
    elim (fronts first rest more x e) [
      | inl longer ↦ absurd (move_or_open c next place site first rest longer.0 ps move opened longer.1)
      | inr shorter ↦
          let some : shorter.0 ≢ [] = λ none.
          move_or_open c next place site first rest [] ps move opened
          (sym (append-nil rest) ∙ ap (λ l. rest ++ l) (sym none) ∙ sym shorter.1 ∙ sym (append-nil first)) in
          let n = ap (λ (l : List RecordEntry). (counted k l).bits) shorter.1
          ∙ ap (λ (i : Count). i.bits) (counted_both k rest shorter.0) in
          let most = bits_within (counted k rest) shorter.0 in
          tagged_both (λ m. (counted k rest).bits < m) (tagged (counted k first) ps) qs
          (move_later k rest shorter.0 opened move shorter.1 some)
          (tagged_weak (λ m. (counted k first).bits < m) (λ m. (counted k rest).bits < m) qs
          (λ m h. omega (arith, h, n, most)) (later_from [] more none_open from refl))
    ]

-- ---- in a record with a bit more, and with more behind that

-- a frame whose number is that of the bit is the one that the bit tells
pub received_there : (entries with_bit more : List RecordEntry) (found others : List FinishedPiece) (k : Count)
    (step : Step) (h : ReceivedFrame) → IsCut entries found → IsCut with_bit (found ++ closed_by k step) →
    IsCut (with_bit ++ more) others → (counted none_yet entries).bits < (counted none_yet with_bit).bits →
    h.bits ≡ (counted none_yet with_bit).bits → Among h (received others) → received_in step ≡ Some h.frame
received_there entries with_bit more found others k step h before after whole less is among =
    let t = goes_through none_yet fresh after.context whole.context AtReset after.place whole.place with_bit
    (with_bit ++ more) after.rest more whole.rest (found ++ closed_by k step) others after.from whole.from refl in
    let count = ap (λ (i : Count). i.bits) t.counts in
    let later : Tagged (λ n. (counted t.count after.rest).bits < n) t.later =
    later_from after.rest more (open_end after.from) t.from refl in
    let split : received others
    ≡ (received found ++ received_now (received_in step) k) ++ received t.later =
    ap received t.whole ∙ received_both (found ++ closed_by k step) t.later
    ∙ ap (λ l. l ++ received t.later) (received_more found k step) in
    elim (among_both h (received found ++ received_now (received_in step) k) (received t.later)
    (subst (λ l. Among h l) split among)) [
      | inl now ↦ elim (among_both h (received found) (received_now (received_in step) k) now) [
        | inl old ↦
            let few = among_tagged (λ n. n ≤ (counted none_yet entries).bits) h found
            (tagged_all (counted none_yet entries).bits found (ends_within entries found before)) old in
            absurd (omega (arith, few, less, is))
        | inr new ↦ by (received_in step) new
      ]
      | inr late ↦
          let many = among_tagged (λ n. (counted t.count after.rest).bits < n) h t.later later late in
          absurd (omega (arith, many, count, is))
    ]
  where
    by : (f : Option FrameValue) → Among h (received_now f k) → f ≡ Some h.frame
    by None a = absurd a
    by (Some f) (inl e) = ap (λ (r : ReceivedFrame). Some r.frame) e
    by (Some f) (inr a) = absurd a
