-- At each place outside a frame, but for interframe space, the pieces are told apart: of two that begin one list
-- neither is a proper front of the other, and they are one piece that leads to one place.
use Rattle.std.proofs.Common.{◌≡◌, ℕ, List, [], ◌∷◌, ◌++◌, replicate, refl, ap, sym, ◌∙◌, arith, if◌then◌else◌, nat_le}
use Rattle.std.proofs.lemmas.Bool.{lt-leb}
use Rattle.std.proofs.lemmas.List.{append_assoc}
use Rattle.can_levels.specs.declared.level.Level.{Level}
use Rattle.can_levels.specs.declared.level.Level.TheVariants.{Dominant, Recessive}
use Rattle.can_levels.specs.declared.segment.Segment.TheVariants.{Delimiter}
use Rattle.can_levels.specs.Stuffing.{EndsInEqual}
use Rattle.can_node_rules.specs.declared.cause.Cause.TheVariants.{Bit as BitError, Form as FormError}
use Rattle.can_node_rules.specs.Bits.{Bit, recessive_bits, dominant_bits, seen_of, IsFirst}
use Rattle.can_node_rules.specs.Context.{ContextValue, flag_level, integration_count}
use Rattle.can_node_rules.specs.Pieces.{Place, Piece}
use Rattle.can_node_rules.specs.Pieces.Place.{AtIntegration, AtLastEofBit, AtFlag, AtDelimiter, AtInterframeSpace}
use Rattle.can_node_rules.specs.declared.fault_site.FaultSite.TheVariants.{InFlag, InDelimiter}
use Rattle.can_node_rules.specs.Pieces.Piece.{Fault, Flag, Delimiter}
use Rattle.can_node_rules.specs.Table.{Row, flag_segment}
use Rattle.can_node_rules.specs.Table.Row.{integration, last_eof_bit, last_eof_bit_overload, flag, flag_fault}
use Rattle.can_node_rules.specs.Table.Row.{flag_passive, delimiter, delimiter_overload, delimiter_fault}
use Rattle.can_node_rules.proofs.Bits.DrivenAlike.{same_receives, same_forces, recessive-other, dominant-other}
use Rattle.can_node_rules.proofs.Waiting.Waits.{first_once, elevens_once, IsWait, leading, wait_once}
use Rattle.can_node_rules.proofs.Waiting.Waits.IsWait.{whole, cut_off}

-- one piece, with its bits and the place to which it leads
abbrev pub AreOne : List Bit → Piece → Place → List Bit → Piece → Place → Type 0
AreOne a p n b q m = (a ≡ b) × (p ≡ q) × (n ≡ m)

-- ---- bus integration

pub integrating_once : (c : ContextValue) (a b x y : List Bit) (p q : Piece) (n m : Place) →
    Row c AtIntegration a p n → Row c AtIntegration b q m → a ++ x ≡ b ++ y → AreOne a p n b q m
integrating_once c a b x y p q n m (integration {l = l} h) (integration {l = k} g) e =
    let same : l ≡ k = elevens_once (integration_count c) l k (seen_of x) (seen_of y) h g (same_receives l k x y e) in
    (ap (λ t. recessive_bits t) same, refl, refl)

-- ---- the bit after a reception

pub after_reception_once : (c : ContextValue) (a b x y : List Bit) (p q : Piece) (n m : Place) →
    Row c AtLastEofBit a p n → Row c AtLastEofBit b q m → a ++ x ≡ b ++ y → AreOne a p n b q m
after_reception_once c a b x y p q n m last_eof_bit last_eof_bit e = (refl, refl, refl)
after_reception_once c a b x y p q n m last_eof_bit_overload last_eof_bit_overload e = (refl, refl, refl)
after_reception_once c a b x y p q n m last_eof_bit last_eof_bit_overload e =
    absurd (let lines = same_receives (Recessive ∷ []) (Dominant ∷ []) x y e in recessive-other cc)
after_reception_once c a b x y p q n m last_eof_bit_overload last_eof_bit e =
    absurd (let lines = same_receives (Dominant ∷ []) (Recessive ∷ []) x y e in dominant-other cc)

-- ---- a flag

-- six dominant levels are a flag, fewer and a recessive one are a fault
abbrev pub flag_piece : ContextValue → ℕ → Piece
flag_piece c i = if nat_le 6 i then Flag else Fault InFlag BitError (flag_segment c.flag)

abbrev pub flag_place : ℕ → Place
flag_place i = if nat_le 6 i then AtDelimiter else AtFlag

-- a piece of a flag: by what the node drives in it
data InFlagging (c : ContextValue) (bits : List Bit) (p : Piece) (n : Place) : Type 0 where
  active : (i : ℕ) (l : List Level) → flag_level c ≡ Dominant → IsWait Dominant Recessive 6 i l →
      bits ≡ dominant_bits l →
      p ≡ flag_piece c i → n ≡ flag_place i → InFlagging c bits p n
  passive : (l : List Level) → flag_level c ≡ Recessive → IsFirst (EndsInEqual 6) l → bits ≡ recessive_bits l →
      p ≡ Flag → n ≡ AtDelimiter → InFlagging c bits p n

in_flagging : (c : ContextValue) (a : List Bit) (p : Piece) (n : Place) → Row c AtFlag a p n → InFlagging c a p n
in_flagging c a p n (flag level) = active 6 (replicate 6 Dominant) level whole refl refl refl
in_flagging c a p n (flag_fault i level less) =
    let few = lt-leb 6 i less in
    active i (replicate i Dominant ++ Recessive ∷ []) level (cut_off i less) refl (rw few refl) (rw few refl)
in_flagging c a p n (flag_passive {l = l} level h) = passive l level h refl refl refl

flagging_as : (c : ContextValue) (a b x y : List Bit) (p q : Piece) (n m : Place) →
    InFlagging c a p n → InFlagging c b q m → a ++ x ≡ b ++ y → AreOne a p n b q m
flagging_as c a b x y p q n m (active i l level h ea ep en) (active j k others g eb eq em) e =
    let lines = same_forces l k x y (ap (λ t. t ++ x) (sym ea) ∙ e ∙ ap (λ t. t ++ y) eb) in
    let same = wait_once Dominant Recessive dominant-other 6 i j l k (seen_of x) (seen_of y) h g lines in (
      ea ∙ ap (λ t. dominant_bits t) same.1 ∙ sym eb,
      ep ∙ ap (λ t. flag_piece c t) same.0 ∙ sym eq,
      en ∙ ap (λ t. flag_place t) same.0 ∙ sym em,
    )
flagging_as c a b x y p q n m (passive l level h ea ep en) (passive k others g eb eq em) e =
    let lines = same_receives l k x y (ap (λ t. t ++ x) (sym ea) ∙ e ∙ ap (λ t. t ++ y) eb) in
    let same = first_once (EndsInEqual 6) l k (seen_of x) (seen_of y) h g lines in
    (ea ∙ ap (λ t. recessive_bits t) same ∙ sym eb, ep ∙ sym eq, en ∙ sym em)
flagging_as c a b x y p q n m (active i l level h ea ep en) (passive k others g eb eq em) e =
    absurd (dominant-other (sym level ∙ others))
flagging_as c a b x y p q n m (passive l level h ea ep en) (active j k others g eb eq em) e =
    absurd (recessive-other (sym level ∙ others))

pub flagging_once : (c : ContextValue) (a b x y : List Bit) (p q : Piece) (n m : Place) →
    Row c AtFlag a p n → Row c AtFlag b q m → a ++ x ≡ b ++ y → AreOne a p n b q m
flagging_once c a b x y p q n m h k e = flagging_as c a b x y p q n m (in_flagging c a p n h) (in_flagging c b q m k) e

-- ---- after a flag

-- eight recessive levels end it, seven and a dominant one are an overload, fewer and a dominant one are a fault
abbrev pub tail_piece : ℕ → Piece
tail_piece i = if nat_le 6 i then Delimiter else Fault InDelimiter FormError Delimiter

abbrev pub tail_place : ℕ → Place
tail_place i = if nat_le 7 i then AtInterframeSpace else AtFlag

-- after the dominant levels and one recessive level: seven more, or fewer and a dominant one
record InAfterFlag (bits : List Bit) (p : Piece) (n : Place) : Type 0 where
  k : ℕ
  i : ℕ
  l : List Level
  waits : IsWait Recessive Dominant 7 i l
  bits_are : bits ≡ recessive_bits (replicate k Dominant ++ Recessive ∷ l)
  piece_is : p ≡ tail_piece i
  place_is : n ≡ tail_place i

in_after_flag : (c : ContextValue) (a : List Bit) (p : Piece) (n : Place) → Row c AtDelimiter a p n → InAfterFlag a p n
in_after_flag c a p n (delimiter k) =
    record { k = k; i = 7; l = replicate 7 Recessive; waits = whole; bits_are = refl; piece_is = refl; place_is = refl }
in_after_flag c a p n (delimiter_overload k) =
    record {
      k = k;
      i = 6;
      l = replicate 6 Recessive ++ Dominant ∷ [];
      waits = cut_off 6 (omega arith);
      bits_are = refl;
      piece_is = refl;
      place_is = refl;
    }
in_after_flag c a p n (delimiter_fault k i less) =
    record {
      k = k;
      i = i;
      l = replicate i Recessive ++ Dominant ∷ [];
      waits = cut_off i (omega arith);
      bits_are = refl;
      piece_is = rw (lt-leb 6 i less) refl;
      place_is = rw (lt-leb 7 i (omega arith)) refl;
    }

after_flag_as : (a b x y : List Bit) (p q : Piece) (n m : Place) → InAfterFlag a p n → InAfterFlag b q m →
    a ++ x ≡ b ++ y → AreOne a p n b q m
after_flag_as a b x y p q n m h g e =
    let front : List Level = replicate h.k Dominant in
    let other : List Level = replicate g.k Dominant in
    let joined = ap (λ t. t ++ x) (sym h.bits_are) ∙ e ∙ ap (λ t. t ++ y) g.bits_are in
    let lines = same_receives (front ++ Recessive ∷ h.l) (other ++ Recessive ∷ g.l) x y joined in
    let begin = leading Dominant Recessive dominant-other (h.k) (g.k) (h.l ++ seen_of x) (g.l ++ seen_of y)
    (sym (append_assoc front (Recessive ∷ h.l) (seen_of x)) ∙ lines
    ∙ append_assoc other (Recessive ∷ g.l) (seen_of y)) in
    let rest = wait_once Recessive Dominant recessive-other 7 (h.i) (g.i) (h.l) (g.l) (seen_of x)
    (seen_of y) h.waits g.waits begin.1 in (
      h.bits_are ∙ ap (λ t. recessive_bits (replicate t Dominant ++ Recessive ∷ h.l)) begin.0
          ∙ ap (λ t. recessive_bits (other ++ Recessive ∷ t)) rest.1 ∙ sym g.bits_are,
      h.piece_is ∙ ap (λ t. tail_piece t) rest.0 ∙ sym g.piece_is,
      h.place_is ∙ ap (λ t. tail_place t) rest.0 ∙ sym g.place_is,
    )

pub after_flag_once : (c : ContextValue) (a b x y : List Bit) (p q : Piece) (n m : Place) →
    Row c AtDelimiter a p n → Row c AtDelimiter b q m → a ++ x ≡ b ++ y → AreOne a p n b q m
after_flag_once c a b x y p q n m h k e =
    after_flag_as a b x y p q n m (in_after_flag c a p n h) (in_after_flag c b q m k) e
