-- Of two transmitter's pieces that begin alike neither is a proper front of the other, and equal lists are the same
-- piece.
use Rattle.std.proofs.Common.{◌≡◌, ◌+◌, ◌<◌, Bool, List, [], ◌∷◌, ◌++◌, length}
use Rattle.std.proofs.Common.{refl, ap, sym, subst, ◌∙◌, arith, append_assoc}
use Rattle.std.proofs.lemmas.List.{append-nil, length-append, length-map, map-append}
use Rattle.can_levels.specs.declared.level.Level.{Level}
use Rattle.can_levels.specs.declared.level.Level.TheVariants.{Dominant, Recessive}
use Rattle.can_levels.specs.Line.{tail}
use Rattle.lemmas.proofs.Lists.{append-split}
use Rattle.can_levels.proofs.PlaceLemmas.{code_early}
use Rattle.can_node_rules.specs.declared.request.Request.{Request}
use Rattle.can_node_rules.specs.Bits.{Bit, recessive_bit, seen_of, driven_of}
use Rattle.can_node_rules.specs.Pieces.{Place, Piece}
use Rattle.can_node_rules.specs.Pieces.Place.{AtInterframeSpace}
use Rattle.can_node_rules.specs.Pieces.Piece.{Transmission}
use Rattle.can_node_rules.specs.Frames.{SentPart, GoesWell, Fails, Transmits}
use Rattle.can_node_rules.specs.Frames.Transmits.{sending, failed, lost}
use Rattle.can_node_rules.proofs.Transmission.SentLines.{sent_part_once}
use Rattle.can_node_rules.proofs.Transmission.SentBits.{lost_not_well, fails_not_well}
use Rattle.can_node_rules.proofs.Transmission.BadBits.{IsBad, bad_once, none_in_whole}
use Rattle.can_node_rules.proofs.Transmission.PieceEnds.{ReceivesOnce, NextOnce, Ends, ends_once}
use Rattle.can_node_rules.proofs.Transmission.PieceEnds.Ends.{fault, loss}

-- a transmitter's piece, by the first bit that doesn't go well
data Way (self_test : Bool) (request : Request) (part : List Level) : List Bit → Piece → Place → Type 0 where
  whole : {bits : List Bit} → GoesWell self_test part bits → length bits ≡ length part + 10 →
      Way self_test request part bits (Transmission request) AtInterframeSpace
  broken : {bits : List Bit} {piece : Piece} {next : Place} (before more : List Bit) (bad : Bit) →
      IsBad self_test part before bad →
      bits ≡ before ++ bad ∷ more → Ends self_test request part before bad more piece next →
      Way self_test request part bits piece next

-- the same of two ways along one part
ways_once : ReceivesOnce → NextOnce → (self_test : Bool) (request : Request) (part : List Level) (a b x y : List Bit)
    (p q : Piece) (n m : Place) →
    Way self_test request part a p n → Way self_test request part b q m → a ++ x ≡ b ++ y → (a ≡ b) × (p ≡ q) × (n ≡ m)
ways_once receives next self_test request part a b x y p q n m (whole g count) (whole h other) e =
    let parts = append-split a x b y (count ∙ sym other) e in
    (parts.0, refl, refl)
ways_once receives next self_test request part a b x y p q n m (whole g count) (broken before more bad h at ends) e =
    let split : before ++ bad ∷ (more ++ y) ≡ a ++ x =
    sym (append_assoc before (bad ∷ more) y) ∙ ap (λ l. l ++ y) (sym at) ∙ sym e in
    absurd (none_in_whole self_test part a before (more ++ y) x bad g count h split)
ways_once receives next self_test request part a b x y p q n m (broken before more bad h at ends) (whole g count) e =
    let split : before ++ bad ∷ (more ++ x) ≡ b ++ y =
    sym (append_assoc before (bad ∷ more) x) ∙ ap (λ l. l ++ x) (sym at) ∙ e in
    absurd (none_in_whole self_test part b before (more ++ x) y bad g count h split)
ways_once receives next self_test request part a b x y p q n m (broken before more bad h at ends)
    (broken other rest worse k there last) e =
    let split : before ++ bad ∷ (more ++ x) ≡ other ++ worse ∷ (rest ++ y) =
    sym (append_assoc before (bad ∷ more) x) ∙ ap (λ l. l ++ x) (sym at) ∙ e ∙ ap (λ l. l ++ y) there
    ∙ append_assoc other (worse ∷ rest) y in
    let same = bad_once self_test part before other (more ++ x) (rest ++ y) bad worse h k split in
    let P : List Bit → Type 0 = λ l. Ends self_test request part l worse rest q m in
    let Q : Bit → Type 0 = λ v. Ends self_test request part before v rest q m in
    let moved = subst Q (sym same.1) (subst P (sym same.0) last) in
    let once = ends_once receives next self_test request part before bad more rest x y p q n m ends moved same.2 in
    let fronts_same = same.0 in
    let bads_same = same.1 in
    let mores_same = once.0 in
    (cc, once.1, once.2)

-- how many bits are driven before a bit of the line
count_before : (part rest : List Level) (before : List Bit) (x : Level) →
    part ++ tail Recessive ≡ (driven_of before ++ x ∷ []) ++ rest → length before < length part + 10
count_before part rest before x e =
    omega (
      arith,
      ap length e,
      length-append part (tail Recessive),
      length-append (driven_of before ++ x ∷ []) rest,
      length-append (driven_of before) (x ∷ []),
      length-map before (λ (b : Bit). b.driven),
    )

-- each piece is such a way, along the part of any sent line of its frame
way : (self_test : Bool) (request : Request) (d line : List Level) (bits : List Bit) (p : Piece) (n : Place) →
    SentPart request.frame d line →
    Transmits self_test request bits p n → Way self_test request line bits p n
way self_test request d line bits p n h (sending k) =
    let one = sent_part_once request.frame d k.crc line k.part h k.is_part in
    let driven = k.driven in
    whole
    (record {
      ack = k.ack;
      fits = k.fits;
      rest = [];
      others = [];
      driven = ap (λ l. l ++ tail Recessive) one.1 ∙ sym k.driven ∙ sym (append-nil (driven_of bits));
      seen = ap (λ l. l ++ tail k.ack) one.1 ∙ sym k.seen ∙ sym (append-nil (seen_of bits));
    })
    (omega (
      arith,
      ap length driven,
      ap length one.1,
      length-append k.part (tail Recessive),
      length-map bits (λ (b : Bit). b.driven),
    ))
way self_test request d line bits p n h (failed {cause = cause} k) =
    let one = sent_part_once request.frame d k.crc line k.part h k.is_part in
    let P : List Level → Type 0 = λ l. GoesWell self_test l k.before in
    let Q : List Level → Type 0 = λ l. Fails self_test request.frame.ext l k.before k.last cause in
    let fails_here = subst Q (sym one.1) k.fails in
    let all : line ++ tail Recessive ≡ (driven_of k.before ++ k.last.driven ∷ []) ++ k.rest =
    ap (λ l. l ++ tail Recessive) one.1 ∙ k.driven ∙ ap (λ l. driven_of l ++ k.rest) k.whole
    ∙ ap (λ l. l ++ k.rest) (map-append (λ (b : Bit). b.driven) k.before (k.last ∷ [])) in
    broken k.before [] k.last
    (record {
      well = subst P (sym one.1) k.well;
      wrong = fails_not_well self_test request d line k.before k.last cause h fails_here;
      within = count_before line k.rest k.before k.last.driven all;
    })
    k.whole
    (fault k.stuff_bit fails_here k.site)
way self_test request d line bits p n h (lost k) =
    let one = sent_part_once request.frame d k.crc line k.part h k.is_part in
    let P : List Level → Type 0 = λ l. GoesWell self_test l k.before in
    let site = code_early request.frame.ext (seen_of k.before) k.code k.loses in
    let most = site.1 in
    broken k.before k.more (recessive_bit Dominant)
    (record {
      well = subst P (sym one.1) k.well;
      wrong = lost_not_well self_test request d line k.before h (λ late. omega (arith, most, late));
      within = count_before line k.rest k.before Recessive (ap (λ l. l ++ tail Recessive) one.1 ∙ k.driven);
    })
    k.whole
    (loss k.code refl k.loses k.goes_on)

-- some sent line of its frame
record HasPart (request : Request) : Type 0 where
  check : List Level
  part : List Level
  is_sent : SentPart request.frame check part

-- a piece is along one
part_of : (self_test : Bool) (request : Request) (bits : List Bit) (p : Piece) (n : Place) →
    Transmits self_test request bits p n → HasPart request
part_of self_test request bits p n (sending k) = record { check = k.crc; part = k.part; is_sent = k.is_part }
part_of self_test request bits p n (failed k) = record { check = k.crc; part = k.part; is_sent = k.is_part }
part_of self_test request bits p n (lost k) = record { check = k.crc; part = k.part; is_sent = k.is_part }

-- of two transmitter's pieces that begin alike neither is a proper front of the other, and equal lists are the same
-- piece
pub sends_once : ReceivesOnce → NextOnce →
    (self_test : Bool) (request : Request) (a b x y : List Bit) (p q : Piece) (n m : Place) →
    Transmits self_test request a p n → Transmits self_test request b q m → a ++ x ≡ b ++ y →
    (a ≡ b) × (p ≡ q) × (n ≡ m)
sends_once receives next self_test request a b x y p q n m h k e =
    let line = part_of self_test request a p n h in
    ways_once receives next self_test request line.part a b x y p q n m
    (way self_test request line.check line.part a p n line.is_sent h)
    (way self_test request line.check line.part b q m line.is_sent k) e
