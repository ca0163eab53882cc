-- A bit of a transmitter's piece is the next one of its line, or the answer of a receiver after arbitration was lost.
use Rattle.std.proofs.Common.{◌≡◌, ◌⊎◌, inl, inr, Bool, false, List, [], ◌∷◌, ◌++◌, sym, ap, ◌∙◌, subst}
use Rattle.std.proofs.Common.{append_assoc, append-nil, arith}
use Rattle.std.proofs.lemmas.List.{same_from_push, map-append}
use Rattle.lemmas.proofs.Lists.{last_of, fronts, append-cancel}
use Rattle.can_levels.specs.declared.level.Level.{Level}
use Rattle.can_levels.specs.declared.level.Level.TheVariants.{Dominant, Recessive}
use Rattle.can_levels.specs.Line.{tail}
use Rattle.can_levels.proofs.Ending.{part_begins}
use Rattle.can_levels.proofs.PlaceLemmas.{code_early}
use Rattle.can_node_rules.specs.declared.request.Request.{Request}
use Rattle.can_node_rules.specs.Bits.{Bit, recessive_bit, seen_of, driven_of}
use Rattle.can_node_rules.specs.Driving.{TransmitsNext}
use Rattle.can_node_rules.specs.Frames.{Acknowledges, AllAcknowledge, Receives, SentPart, GoesWell, IsLoss, Transmits}
use Rattle.can_node_rules.specs.Frames.Receives.{reception, broken}
use Rattle.can_node_rules.specs.Frames.Transmits.{sending, failed, lost}
use Rattle.can_node_rules.specs.Pieces.{Place, Piece}
use Rattle.can_node_rules.proofs.Bits.Seen.{seen-append}
use Rattle.can_node_rules.proofs.Transmission.SentBits.{well_front, lost_not_well}
use Rattle.can_node_rules.proofs.Driven.Lost.{LostIn}

-- a receiver answers in each bit of its piece
pub answers_of : (listen : Bool) (l : List Level) (bits : List Bit) (p : Piece) (n : Place) →
    Receives listen l bits p n → AllAcknowledge listen l bits
answers_of listen l bits p n (reception h) = h.answers
answers_of listen l bits p n (broken h) = h.answers

-- it drives the next level of its line, and hasn't lost arbitration
pub record OnLine (r : Request) (done : List Bit) (x : Level) : Type 0 where
  pub sends : TransmitsNext r done x
  pub wins : LostIn r.frame.ext done → ⊥

-- it has lost arbitration, and answers as a receiver
pub record Answers (r : Request) (done : List Bit) (x : Level) : Type 0 where
  pub lost : LostIn r.frame.ext done
  pub answers : Acknowledges false (seen_of done) x

abbrev pub Drove : Request → List Bit → Level → Type 0
Drove r done x = OnLine r done x ⊎ Answers r done x

-- where all goes well arbitration isn't lost
wins_well : (st : Bool) (r : Request) (check part : List Level) (done : List Bit) → SentPart r.frame check part →
    GoesWell st part done → LostIn r.frame.ext done → ⊥
wins_well st r check part done is well h =
    let site = code_early r.frame.ext (seen_of h.before) h.code h.loses in
    let most = site.1 in
    let split : done ≡ (h.before ++ recessive_bit Dominant ∷ []) ++ h.more =
    h.whole ∙ sym (append_assoc h.before (recessive_bit Dominant ∷ []) h.more) in
    let P : List Bit → Type 0 = λ l. GoesWell st part l in
    lost_not_well st r check part h.before is (λ late. omega (arith, most, late))
    (well_front st part (h.before ++ recessive_bit Dominant ∷ []) h.more (subst P split well))

abbrev driven_level : Bit → Level
driven_level x = x.driven

-- the levels driven before a bit, in it and after it
driven_split : (done more : List Bit) (b : Bit) (rest : List Level) →
    driven_of (done ++ b ∷ more) ++ rest ≡ driven_of done ++ b.driven ∷ (driven_of more ++ rest)
driven_split done more b rest =
    ap (λ l. l ++ rest) (map-append driven_level done (b ∷ more))
    ∙ append_assoc (driven_of done) (b.driven ∷ driven_of more) rest

-- a front of the line that goes well so far
on_line : (st : Bool) (r : Request) (check part rest : List Level) (done more before y : List Bit) (b : Bit) →
    SentPart r.frame check part → part ++ tail Recessive ≡ driven_of (done ++ b ∷ more) ++ rest →
    GoesWell st part before → before ≡ done ++ y → OnLine r done b.driven
on_line st r check part rest done more before y b is driven well split =
    let P : List Bit → Type 0 = λ l. GoesWell st part l in record {
      sends = record {
        check = check;
        part = part;
        rest = driven_of more ++ rest;
        is_part = is;
        whole = driven ∙ driven_split done more b rest;
      };
      wins = wins_well st r check part done is (well_front st part done y (subst P split well));
    }

-- ---- a frame that fails

-- what comes before its last bit begins with what comes before another
pub before_last : (done more before : List Bit) (b last : Bit) → done ++ b ∷ more ≡ before ++ last ∷ [] →
    (y : List Bit) × (before ≡ done ++ y)
before_last done more before b last e = elim (last_of more) [
  | inl none ↦
      let same = same_from_push done before b last (ap (λ l. done ++ b ∷ l) (sym none) ∙ e) in
      ([], sym same.0 ∙ sym (append-nil done))
  | inr some ↦
      let whole : (done ++ b ∷ some.0) ++ some.1 ∷ [] ≡ before ++ last ∷ [] =
      append_assoc done (b ∷ some.0) (some.1 ∷ []) ∙ ap (λ l. done ++ b ∷ l) (sym some.2) ∙ e in
      (b ∷ some.0, sym (same_from_push (done ++ b ∷ some.0) before some.1 last whole).0)
]

-- ---- a frame in which arbitration is lost

-- the bits up to the one where it is lost, from another bit on
up_to : (y more m : List Bit) (b : Bit) → b ∷ more ≡ y ++ recessive_bit Dominant ∷ m →
    (zs : List Bit) × (y ++ recessive_bit Dominant ∷ [] ≡ b ∷ zs)
up_to [] more m b e =
    let same : b ≡ recessive_bit Dominant = cc in ([], ap (λ v. v ∷ []) (sym same))
up_to (u ∷ ys) more m b e =
    let same : b ≡ u = cc in
    (ys ++ recessive_bit Dominant ∷ [], ap (λ v. v ∷ (ys ++ recessive_bit Dominant ∷ [])) (sym same))

module _ (st : Bool) (r : Request) (bits : List Bit) (p : Piece) (n : Place) (k : IsLoss st r bits p n)
    (done more : List Bit) (b : Bit) (e : bits ≡ done ++ b ∷ more) where
  whole : done ++ b ∷ more ≡ k.before ++ recessive_bit Dominant ∷ k.more
  whole = sym e ∙ k.whole

  -- before it is lost, or there
  early : (y : List Bit) → k.before ≡ done ++ y → b ∷ more ≡ y ++ recessive_bit Dominant ∷ k.more →
      OnLine r done b.driven
  early y split after =
      let z = up_to y more k.more b after in
      let front : k.before ++ recessive_bit Dominant ∷ [] ≡ done ++ b ∷ z.0 =
      ap (λ l. l ++ recessive_bit Dominant ∷ []) split ∙ append_assoc done y (recessive_bit Dominant ∷ [])
      ∙ ap (λ l. done ++ l) z.1 in
      let driven : k.part ++ tail Recessive ≡ driven_of (done ++ b ∷ z.0) ++ k.rest =
      k.driven ∙ ap (λ l. l ++ k.rest) (sym (map-append driven_level k.before (recessive_bit Dominant ∷ [])))
      ∙ ap (λ l. driven_of l ++ k.rest) front in
      on_line st r k.crc k.part k.rest done z.0 k.before y b k.is_part driven k.well split

  -- after that
  late : (y : List Bit) → done ≡ k.before ++ y → y ++ b ∷ more ≡ recessive_bit Dominant ∷ k.more → Drove r done b.driven
  late [] split after =
      let same : k.before ≡ done ++ [] = sym (split ∙ append-nil k.before) ∙ sym (append-nil done) in
      inl (early [] same after)
  late (u ∷ ys) split after =
      let is : u ≡ recessive_bit Dominant = cc in
      let rest : ys ++ b ∷ more ≡ k.more = cc in
      let here : done ≡ k.before ++ recessive_bit Dominant ∷ ys = split ∙ ap (λ v. k.before ++ v ∷ ys) is in
      let seen : (seen_of k.before ++ Dominant ∷ []) ++ seen_of ys ≡ seen_of done =
      append_assoc (seen_of k.before) (Dominant ∷ []) (seen_of ys)
      ∙ sym (seen-append k.before (recessive_bit Dominant ∷ ys)) ∙ ap (λ (l : List Bit). seen_of l) (sym here) in
      let P : List Level → Type 0 = λ l. Acknowledges false l b.driven in
      inr (record {
        lost = record { before = k.before; more = ys; code = k.code; whole = here; loses = k.loses };
        answers = subst P seen (answers_of false (seen_of k.before ++ Dominant ∷ []) k.more p n k.goes_on ys more b
            (sym rest));
      })

  loses : Drove r done b.driven
  loses = elim (fronts done k.before (b ∷ more) (recessive_bit Dominant ∷ k.more) whole) [
    | inl longer ↦ inl (early longer.0 longer.1
        (append-cancel done (b ∷ more) (longer.0 ++ recessive_bit Dominant ∷ k.more)
        (whole ∙ ap (λ l. l ++ recessive_bit Dominant ∷ k.more) longer.1
        ∙ append_assoc done longer.0 (recessive_bit Dominant ∷ k.more))))
    | inr shorter ↦ late shorter.0 shorter.1
        (append-cancel k.before (shorter.0 ++ b ∷ more) (recessive_bit Dominant ∷ k.more)
        (sym (append_assoc k.before shorter.0 (b ∷ more)) ∙ ap (λ l. l ++ b ∷ more) (sym shorter.1) ∙ whole))
  ]

-- ---- any of its pieces

pub drove : (st : Bool) (r : Request) (bits : List Bit) (p : Piece) (n : Place) → Transmits st r bits p n →
    (done more : List Bit) (b : Bit) → bits ≡ done ++ b ∷ more → Drove r done b.driven
drove st r bits p n (sending k) done more b e =
    let well : GoesWell st k.part bits = record {
      ack = k.ack;
      fits = k.fits;
      rest = [];
      others = [];
      driven = sym k.driven ∙ sym (append-nil (driven_of bits));
      seen = sym k.seen ∙ sym (append-nil (seen_of bits));
    } in
    inl (on_line st r k.crc k.part [] done more bits (b ∷ more) b k.is_part
    (sym k.driven ∙ ap (λ (l : List Bit). driven_of l) e ∙ sym (append-nil (driven_of (done ++ b ∷ more)))) well e)
drove st r bits p n (failed k) done more b e =
    let y = before_last done more k.before b k.last (sym e ∙ k.whole) in
    inl (on_line st r k.crc k.part k.rest done more k.before y.0 b k.is_part
    (k.driven ∙ ap (λ (l : List Bit). driven_of l ++ k.rest) e) k.well y.1)
drove st r bits p n (lost k) done more b e = loses st r bits p n k done more b e

-- its first bit is dominant
pub begins_dominant : (r : Request) (x : Level) → TransmitsNext r [] x → x ≡ Dominant
begins_dominant r x t =
    let begins = part_begins t.part t.is_part.is_part in
    let all : Dominant ∷ (begins.0 ++ tail Recessive) ≡ x ∷ t.rest =
    ap (λ l. l ++ tail Recessive) (sym begins.1) ∙ t.whole in
    cc
