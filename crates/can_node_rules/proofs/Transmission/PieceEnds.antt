-- What a transmitter's piece is from the first bit on that doesn't go well: a fault, or the piece of a node that lost
-- arbitration.
use Rattle.std.proofs.Common.{◌≡◌, ℕ, Bool, true, false, Some, List, [], ◌∷◌, ◌++◌, refl, ap, sym, ◌∙◌}
use Rattle.can_levels.specs.declared.level.Level.{Level}
use Rattle.can_levels.specs.declared.level.Level.TheVariants.{Dominant, Recessive}
use Rattle.can_levels.specs.declared.segment.Segment.{Segment}
use Rattle.can_levels.specs.Places.{place_code, is_early_stuff}
use Rattle.can_levels.specs.Segments.{IsNext}
use Rattle.can_levels.proofs.PlaceLemmas.{code_early, stuff_early}
use Rattle.can_node_rules.specs.declared.cause.Cause.{Cause}
use Rattle.can_node_rules.specs.declared.cause.Cause.TheVariants.{Bit as BitError, Stuff as StuffError, Ack as AckError}
use Rattle.can_node_rules.specs.declared.request.Request.{Request}
use Rattle.can_node_rules.specs.Bits.{Bit, recessive_bit, seen_of}
use Rattle.can_node_rules.specs.Pieces.{Place, Piece}
use Rattle.can_node_rules.specs.Pieces.Place.{AtFlag}
use Rattle.can_node_rules.specs.declared.fault_site.FaultSite.TheVariants.{InTransmission}
use Rattle.can_node_rules.specs.Pieces.Piece.{Fault}
use Rattle.can_node_rules.specs.Frames.{Receives, Fails}
use Rattle.can_node_rules.specs.Frames.Fails.{no_ack, stuff_bit, unseen, overdriven}

-- of two receiver's pieces that begin alike neither is a proper front of the other, and equal lists are the same piece
abbrev pub ReceivesOnce : Type 0
ReceivesOnce = (listen : Bool) (l : List Level) (a b x y : List Bit) (p q : Piece) (n m : Place) →
    Receives listen l a p n → Receives listen l b q m → a ++ x ≡ b ++ y → (a ≡ b) × (p ≡ q) × (n ≡ m)

-- the next level of a line belongs to one segment
abbrev pub NextOnce : Type 0
NextOnce = (l : List Level) (s t : Segment) (u v : Bool) → IsNext l s u → IsNext l t v → (s ≡ t) × (u ≡ v)

-- the piece that has this bit and these after it: a fault, or the piece of a node that lost arbitration
pub data Ends (self_test : Bool) (request : Request) (part : List Level) (before : List Bit) (bad : Bit) : List Bit →
    Piece → Place → Type 0 where
  fault : {cause : Cause} {segment : Segment} (stuffed : Bool) →
      Fails self_test request.frame.ext part before bad cause →
      IsNext (seen_of before) segment stuffed →
      Ends self_test request part before bad [] (Fault InTransmission cause segment) AtFlag
  loss : {more : List Bit} {piece : Piece} {next : Place} (code : ℕ) → bad ≡ recessive_bit Dominant →
      place_code request.frame.ext (seen_of before) ≡ Some code →
      Receives false (seen_of before ++ Dominant ∷ []) more piece next →
      Ends self_test request part before bad more piece next

-- the cause of a fault, by what is driven and what is seen
abbrev cause_of : Bool → Level → Level → Cause
cause_of early Dominant seen = BitError
cause_of early Recessive Recessive = AckError
cause_of true Recessive Dominant = StuffError
cause_of false Recessive Dominant = BitError

-- a fault has that cause
fails-cause : {self_test ext : Bool} {part : List Level} {before : List Bit} {bad : Bit} {cause : Cause} →
    Fails self_test ext part before bad cause →
    cause ≡ cause_of (is_early_stuff ext (seen_of before)) bad.driven bad.seen
fails-cause (no_ack strict site) = refl
fails-cause (stuff_bit early) = rw early refl
fails-cause unseen = refl
fails-cause (overdriven other late none) = rw late refl

-- a fault is no loss of arbitration
fault_no_loss : {self_test ext : Bool} {part : List Level} {before : List Bit} {bad : Bit} {cause : Cause} (code : ℕ) →
    Fails self_test ext part before bad cause → bad ≡ recessive_bit Dominant →
    place_code ext (seen_of before) ≡ Some code → ⊥
fault_no_loss code (no_ack strict site) e some = let wrong : Recessive ≡ Dominant = ap (λ (b : Bit). b.seen) e in cc
fault_no_loss {ext = ext} {before = before} code (stuff_bit early) e some =
    let one = stuff_early ext (seen_of before) early in
    let other = code_early ext (seen_of before) code some in
    let wrong : true ≡ false = sym one.0 ∙ other.0 in
    cc
fault_no_loss code unseen e some = let wrong : Recessive ≡ Dominant = ap (λ (b : Bit). b.seen) e in cc
fault_no_loss code (overdriven other late none) e some = let wrong = sym none ∙ some in cc

-- of two pieces with the same first bit that doesn't go well neither is a proper front of the other
pub ends_once : ReceivesOnce → NextOnce →
    (self_test : Bool) (request : Request) (part : List Level) (before : List Bit) (bad : Bit)
    (a b x y : List Bit) (p q : Piece) (n m : Place) →
    Ends self_test request part before bad a p n → Ends self_test request part before bad b q m → a ++ x ≡ b ++ y →
    (a ≡ b) × (p ≡ q) × (n ≡ m)
ends_once receives next self_test request part before bad a b x y p q n m (fault {segment = s} u h k)
    (fault {segment = t} v i j) e =
    let causes = fails-cause h ∙ sym (fails-cause i) in
    let segments = next (seen_of before) s t u v k j in
    let same = segments.0 in
    (refl, cc, refl)
ends_once receives next self_test request part before bad a b x y p q n m (fault u h k) (loss code e some i) w =
    absurd (fault_no_loss code h e some)
ends_once receives next self_test request part before bad a b x y p q n m (loss code e some i) (fault u h k) w =
    absurd (fault_no_loss code h e some)
ends_once receives next self_test request part before bad a b x y p q n m (loss code e some h) (loss other f more k) w =
    receives false (seen_of before ++ Dominant ∷ []) a b x y p q n m h k w
