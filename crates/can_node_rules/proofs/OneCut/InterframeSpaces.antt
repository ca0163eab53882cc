-- In interframe space the pieces are told apart: of two that begin one list neither is a proper front of the other, and
-- they are one piece that leads to one place.
use Rattle.std.proofs.Common.{◌≡◌, ◌+◌, ◌<◌, ◌≤◌, ℕ, IsTrue, IsFalse, List, [], ◌∷◌, ◌++◌}
use Rattle.std.proofs.Common.{replicate, refl, ap, sym, ◌∙◌, arith, inl, inr, if◌then◌else◌, nat_le}
use Rattle.std.proofs.lemmas.Bool.{cases_Bool, le-leb, lt-leb}
use Rattle.can_levels.specs.declared.level.Level.{Level}
use Rattle.can_levels.specs.declared.level.Level.TheVariants.{Dominant, Recessive}
use Rattle.can_node_rules.specs.Bits.{Bit, recessive_bits, seen_of}
use Rattle.can_node_rules.specs.Context.{ContextValue, owes_suspension, interframe_count}
use Rattle.can_node_rules.specs.Pieces.{Place, Piece}
use Rattle.can_node_rules.specs.Pieces.Place.{AtIdle, AfterSof, AtFlag, AtInterframeSpace}
use Rattle.can_node_rules.specs.Pieces.Piece.{InterframeSpace, InterframeSpaceWithSof, InterframeSpaceBroken}
use Rattle.can_node_rules.specs.Table.{Row}
use Rattle.can_node_rules.specs.Table.Row.{interframe_space, interframe_space_sof, suspend_transmission_sof}
use Rattle.can_node_rules.specs.Table.Row.{intermission_overload, intermission_overload_second}
use Rattle.can_node_rules.proofs.Bits.DrivenAlike.{same_receives, recessive-other}
use Rattle.can_node_rules.proofs.Waiting.Waits.{IsWait, wait_once}
use Rattle.can_node_rules.proofs.Waiting.Waits.IsWait.{whole, cut_off}
use Rattle.can_node_rules.proofs.OneCut.Apart.{AreOne}

-- all of the recessive levels are interframe space; the first or second level dominant is an overload, a later one is a
-- start of frame
abbrev pub interframe_piece : ℕ → ℕ → Piece
interframe_piece count i = if nat_le count i then InterframeSpace else if nat_le 2 i then InterframeSpaceWithSof else
    InterframeSpaceBroken

abbrev pub interframe_place : ℕ → ℕ → Place
interframe_place count i = if nat_le count i then AtIdle else if nat_le 2 i then AfterSof else AtFlag

-- a piece of interframe space with so many levels
record InPausing (count : ℕ) (bits : List Bit) (p : Piece) (n : Place) : Type 0 where
  i : ℕ
  l : List Level
  waits : IsWait Recessive Dominant count i l
  bits_are : bits ≡ recessive_bits l
  piece_is : p ≡ interframe_piece count i
  place_is : n ≡ interframe_place count i

-- a dominant level after i recessive ones, fewer than interframe space has
broken_at : (count i : ℕ) (bits : List Bit) (p : Piece) (n : Place) → i < count →
    bits ≡ recessive_bits (replicate i Recessive ++ Dominant ∷ []) →
    p ≡ (if nat_le 2 i then InterframeSpaceWithSof else InterframeSpaceBroken) →
    n ≡ (if nat_le 2 i then AfterSof else AtFlag) →
    InPausing count bits p n
broken_at count i bits p n less eb ep en =
    let few = lt-leb count i less in
    record {
      i = i;
      l = replicate i Recessive ++ Dominant ∷ [];
      waits = cut_off i less;
      bits_are = eb;
      piece_is = rw few ep;
      place_is = rw few en;
    }

-- all of the recessive levels
all_at : (count : ℕ) → InPausing count (recessive_bits (replicate count Recessive)) InterframeSpace AtIdle
all_at count =
    let all = le-leb count count (omega arith) in
    record {
      i = count;
      l = replicate count Recessive;
      waits = whole;
      bits_are = refl;
      piece_is = rw all refl;
      place_is = rw all refl;
    }

-- interframe space has three levels at least, and eleven where suspend transmission is owed
pub interframe_long : (c : ContextValue) → 3 ≤ interframe_count c
interframe_long c =
    elim (cases_Bool (owes_suspension c)) [
      | inl t ↦ rw t (omega arith)
      | inr t ↦ rw t (omega arith)
    ]

pub interframe_owed : (c : ContextValue) → IsTrue (owes_suspension c) → interframe_count c ≡ 11
interframe_owed c t = rw t refl

pub interframe_short : (c : ContextValue) → IsFalse (owes_suspension c) → interframe_count c ≡ 3
interframe_short c t = rw t refl

in_interframe : (c : ContextValue) (a : List Bit) (p : Piece) (n : Place) → Row c AtInterframeSpace a p n →
    InPausing (interframe_count c) a p n
in_interframe c a p n interframe_space = all_at (interframe_count c)
in_interframe c a p n interframe_space_sof =
    broken_at (interframe_count c) 2 a p n (let long = interframe_long c in omega arith) refl refl refl
in_interframe c a p n (suspend_transmission_sof i owed less) =
    broken_at (interframe_count c) (3 + i) a p n (let long = interframe_owed c owed in omega arith) refl
    (rw (le-leb 2 (3 + i) (omega arith)) refl) (rw (le-leb 2 (3 + i) (omega arith)) refl)
in_interframe c a p n intermission_overload =
    let long = interframe_long c in broken_at (interframe_count c) 0 a p n (omega arith) refl refl refl
in_interframe c a p n intermission_overload_second =
    let long = interframe_long c in broken_at (interframe_count c) 1 a p n (omega arith) refl refl refl

interframe_as : (count : ℕ) (a b x y : List Bit) (p q : Piece) (n m : Place) → InPausing count a p n →
    InPausing count b q m → a ++ x ≡ b ++ y → AreOne a p n b q m
interframe_as count a b x y p q n m h g e =
    let lines = same_receives (h.l) (g.l) x y (ap (λ t. t ++ x) (sym h.bits_are) ∙ e ∙ ap (λ t. t ++ y) g.bits_are) in
    let same = wait_once Recessive Dominant recessive-other count (h.i) (g.i) (h.l) (g.l) (seen_of x)
    (seen_of y) h.waits g.waits lines in (
      h.bits_are ∙ ap (λ t. recessive_bits t) same.1 ∙ sym g.bits_are,
      h.piece_is ∙ ap (λ t. interframe_piece count t) same.0 ∙ sym g.piece_is,
      h.place_is ∙ ap (λ t. interframe_place count t) same.0 ∙ sym g.place_is,
    )

pub interframe_once : (c : ContextValue) (a b x y : List Bit) (p q : Piece) (n m : Place) →
    Row c AtInterframeSpace a p n → Row c AtInterframeSpace b q m → a ++ x ≡ b ++ y → AreOne a p n b q m
interframe_once c a b x y p q n m h k e =
    interframe_as (interframe_count c) a b x y p q n m (in_interframe c a p n h) (in_interframe c b q m k) e
