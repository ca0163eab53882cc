-- Of two receiver's pieces that begin alike neither is a proper front of the other, and equal lists are the same piece.
use Rattle.std.proofs.Common.{◌≡◌, Bool, inl, inr, List, [], ◌∷◌, ◌++◌, refl}
use Rattle.std.proofs.Common.{ap, ap₂, sym, subst, ◌∙◌, arith, append_assoc}
use Rattle.std.proofs.lemmas.List.{append-nil, length-append, length-map, nil_from_length, same_from_push}
use Rattle.can_frame.specs.Frame.{FrameValue}
use Rattle.can_levels.specs.declared.level.Level.{Level}
use Rattle.can_levels.specs.declared.level.Level.TheVariants.{Recessive}
use Rattle.can_levels.specs.declared.segment.Segment.{Segment}
use Rattle.can_levels.specs.Line.{Line}
use Rattle.can_levels.specs.Segments.{IsNext}
use Rattle.lemmas.proofs.Lists.{fronts, last_of}
use Rattle.can_levels.proofs.LineLaws.{lines_agree}
use Rattle.can_node_rules.specs.declared.cause.Cause.{Cause}
use Rattle.can_node_rules.specs.Bits.{Bit, seen_of}
use Rattle.can_node_rules.specs.Pieces.{Place, Piece}
use Rattle.can_node_rules.specs.declared.fault_site.FaultSite.TheVariants.{InReception}
use Rattle.can_node_rules.specs.Pieces.Piece.{Reception, Fault}
use Rattle.can_node_rules.specs.Frames.{BreaksOff, IsReception, Receives}
use Rattle.can_node_rules.specs.Frames.Receives.{reception, broken}
use Rattle.can_levels.proofs.NextOnce.{IsNext-unique}
use Rattle.can_node_rules.proofs.Bits.Seen.{seen_split}
use Rattle.can_node_rules.proofs.Reception.ReceiverFaults.{breaks_at, wrong_once, line_not_wrong}

-- of two receptions that begin alike neither is longer, and they are of one frame
receptions_once : (listen : Bool) (l : List Level) (a b more : List Bit) (f g : FrameValue) →
    IsReception listen l a f → IsReception listen l b g → b ≡ a ++ more → (a ≡ b) × (f ≡ g)
receptions_once listen l a b more f g h k e =
    let P : List Level → Type 0 = λ m. Line g k.body k.crc k.ack m in
    let split : (l ++ seen_of b) ++ Recessive ∷ [] ≡ (l ++ seen_of a) ++ (seen_of more ++ Recessive ∷ []) =
    ap (λ m. m ++ Recessive ∷ []) (seen_split l b a more e)
    ∙ append_assoc (l ++ seen_of a) (seen_of more) (Recessive ∷ []) in
    let agree = lines_agree f g h.body h.crc k.body k.crc h.ack k.ack Recessive (l ++ seen_of a)
    (seen_of more ++ Recessive ∷ []) h.line (subst P split k.line) in
    let count = agree.3 in
    let none : more ≡ [] = nil_from_length more
    (omega (arith, count, length-append (seen_of more) (Recessive ∷ []), length-map more (λ (x : Bit). x.seen))) in
    (sym (e ∙ ap (λ m. a ++ m) none ∙ append-nil a), agree.0)

-- no front of a reception ends with a fault
no_fault_in : (listen : Bool) (l : List Level) (a b more : List Bit) (f : FrameValue) (cause : Cause)
    (segment : Segment) →
    IsReception listen l a f → BreaksOff listen l b cause segment → a ≡ b ++ more → ⊥
no_fault_in listen l a b more f cause segment h k e =
    let P : List Level → Type 0 = λ m. Line f h.body h.crc h.ack m in
    let seen : List Level = l ++ seen_of k.before in
    let here : l ++ seen_of b ≡ seen ++ k.last.seen ∷ [] = seen_split l b k.before (k.last ∷ []) k.whole in
    let split : (l ++ seen_of a) ++ Recessive ∷ [] ≡ (seen ++ k.last.seen ∷ []) ++ (seen_of more ++ Recessive ∷ []) =
    ap (λ m. m ++ Recessive ∷ []) (seen_split l a b more e ∙ ap (λ m. m ++ seen_of more) here)
    ∙ append_assoc (seen ++ k.last.seen ∷ []) (seen_of more) (Recessive ∷ []) in
    line_not_wrong listen seen k.last cause f h.body h.crc h.ack (seen_of more ++ Recessive ∷ []) (subst P split h.line)
    h.right h.fits
    (breaks_at listen l k.before k.last b cause k.answers k.whole k.breaks)

-- no fault comes after a reception
no_fault_after : (listen : Bool) (l : List Level) (a b more : List Bit) (z : Bit) (f : FrameValue) (cause : Cause)
    (segment : Segment) →
    IsReception listen l a f → BreaksOff listen l b cause segment → b ≡ a ++ (more ++ z ∷ []) → ⊥
no_fault_after listen l a b more z f cause segment h k e =
    let begun = k.early.begun in
    let long = k.early.long in
    let P : List Level → Type 0 = λ m. Line begun.frame begun.body begun.check begun.ack m in
    let same = same_from_push (a ++ more) k.before z k.last (append_assoc a more (z ∷ []) ∙ sym e ∙ k.whole) in
    let split : (l ++ seen_of k.before) ++ begun.rest ≡ (l ++ seen_of a) ++ (seen_of more ++ begun.rest) =
    ap (λ m. m ++ begun.rest) (seen_split l k.before a more (sym same.0))
    ∙ append_assoc (l ++ seen_of a) (seen_of more) begun.rest in
    let agree = lines_agree f begun.frame h.body h.crc begun.body begun.check h.ack begun.ack Recessive (l ++ seen_of a)
    (seen_of more ++ begun.rest) h.line (subst P split begun.line) in
    let count = agree.3 in
    omega (arith, count, long, length-append (seen_of more) begun.rest)

-- a reception and a fault don't begin alike
received_or_broken : (listen : Bool) (l : List Level) (a b x y : List Bit) (f : FrameValue) (cause : Cause)
    (segment : Segment) →
    IsReception listen l a f → BreaksOff listen l b cause segment → a ++ x ≡ b ++ y → ⊥
received_or_broken listen l a b x y f cause segment h k e =
    elim (fronts a b x y e) [
      | inl longer ↦ elim (last_of longer.0) [
        | inl none ↦
            let same : a ≡ b ++ [] = sym (append-nil b ∙ longer.1 ∙ ap (λ m. a ++ m) none ∙ append-nil a) in
            no_fault_in listen l a b [] f cause segment h k same
        | inr some ↦
            no_fault_after listen l a b some.0 some.1 f cause segment h k (longer.1 ∙ ap (λ m. a ++ m) some.2)
      ]
      | inr shorter ↦ no_fault_in listen l a b shorter.0 f cause segment h k shorter.1
    ]

-- of two faults that begin alike neither is longer
faults_end : (listen : Bool) (l : List Level) (a b x y : List Bit) (c d : Cause) (s t : Segment) →
    BreaksOff listen l a c s → BreaksOff listen l b d t → a ++ x ≡ b ++ y → a ≡ b
faults_end listen l a b x y c d s t h k e =
    elim (fronts a b x y e) [
      | inl longer ↦ sym (longer.1 ∙ ap (λ m. a ++ m) (k.first a longer.0 c longer.1 h.breaks) ∙ append-nil a)
      | inr shorter ↦ shorter.1 ∙ ap (λ m. b ++ m) (h.first b shorter.0 d shorter.1 k.breaks) ∙ append-nil b
    ]

-- one list of bits has one fault
faults_once : (listen : Bool) (l : List Level) (a : List Bit) (c d : Cause) (s t : Segment) →
    BreaksOff listen l a c s → BreaksOff listen l a d t → (c ≡ d) × (s ≡ t)
faults_once listen l a c d s t h k =
    let same = same_from_push h.before k.before h.last k.last (sym h.whole ∙ k.whole) in
    let seen : List Level = l ++ seen_of h.before in
    let P : List Bit → Type 0 = λ m. IsNext (l ++ seen_of m) t k.stuff_bit in
    let site = IsNext-unique seen s t h.stuff_bit k.stuff_bit h.site (subst P (sym same.0) k.site) in
    let cause = wrong_once listen seen h.last c d (breaks_at listen l h.before h.last a c h.answers h.whole h.breaks)
    (breaks_at listen l h.before h.last a d h.answers h.whole k.breaks) in
    (cause, site.0)

-- pieces of a receiver that begin alike are one piece
pub receives_once : (listen : Bool) (l : List Level) (a b x y : List Bit) (p q : Piece) (n m : Place) →
    Receives listen l a p n → Receives listen l b q m → a ++ x ≡ b ++ y → (a ≡ b) × (p ≡ q) × (n ≡ m)
receives_once listen l a b x y p q n m (reception {f = f} h) (reception {f = g} k) e =
    elim (fronts a b x y e) [
      | inl longer ↦
          let once = receptions_once listen l a b longer.0 f g h k longer.1 in
          (once.0, ap Reception once.1, refl)
      | inr shorter ↦
          let once = receptions_once listen l b a shorter.0 g f k h shorter.1 in
          (sym once.0, ap Reception (sym once.1), refl)
    ]
receives_once listen l a b x y p q n m (reception {f = f} h) (broken {cause = cause} {segment = segment} k) e =
    absurd (received_or_broken listen l a b x y f cause segment h k e)
receives_once listen l a b x y p q n m (broken {cause = cause} {segment = segment} h) (reception {f = f} k) e =
    absurd (received_or_broken listen l b a y x f cause segment k h (sym e))
receives_once listen l a b x y p q n m (broken {cause = c} {segment = s} h) (broken {cause = d} {segment = t} k) e =
    let same = faults_end listen l a b x y c d s t h k e in
    let P : List Bit → Type 0 = λ bits. BreaksOff listen l bits d t in
    let once = faults_once listen l a c d s t h (subst P (sym same) k) in
    (same, ap₂ (λ cause segment. Fault InReception cause segment) once.0 once.1, refl)
