-- At every place the pieces are told apart: of two that begin one list neither is a proper front of the other, and they
-- are one piece that leads to one place.
use Rattle.std.proofs.Common.{◌≡◌, List, [], ◌∷◌, ◌++◌, refl, ap, sym, ◌∙◌, subst, Option, Some, None}
use Rattle.can_levels.specs.declared.level.Level.TheVariants.{Dominant, Recessive}
use Rattle.can_node_rules.specs.declared.request.Request.{Request}
use Rattle.can_node_rules.specs.Bits.{Bit, recessive_bit, dominant_bit}
use Rattle.can_node_rules.specs.Context.{ContextValue}
use Rattle.can_node_rules.specs.Pieces.{Place, Piece, sent_at}
use Rattle.can_node_rules.specs.Pieces.Place.{AtReset, AtIntegration, AtIdle, AfterSof}
use Rattle.can_node_rules.specs.Pieces.Place.{AtLastEofBit, AtFlag, AtDelimiter, AtInterframeSpace}
use Rattle.can_node_rules.specs.Frames.{Transmits}
use Rattle.can_node_rules.specs.Table.{Row}
use Rattle.can_node_rules.specs.Table.Row.{idle, other, own, other_begun, own_begun}
use Rattle.can_node_rules.proofs.Bits.DrivenAlike.{recessive-other}
use Rattle.can_node_rules.proofs.OneCut.Apart.{AreOne, integrating_once, after_reception_once, flagging_once}
use Rattle.can_node_rules.proofs.OneCut.Apart.{after_flag_once}
use Rattle.can_node_rules.proofs.OneCut.InterframeSpaces.{interframe_once}
use Rattle.can_levels.proofs.NextOnce.{IsNext-unique}
use Rattle.can_node_rules.proofs.Reception.ReceptionOnce.{receives_once}
use Rattle.can_node_rules.proofs.Transmission.TransmissionOnce.{sends_once}

-- an idle bit isn't the first one of another node's frame
idle_no_frame : (x y : List Bit) → recessive_bit Recessive ∷ x ≡ recessive_bit Dominant ∷ y → ⊥
idle_no_frame x y e =
    let same : recessive_bit Recessive ≡ recessive_bit Dominant = cc in
    recessive-other (ap (λ (b : Bit). b.seen) same)

-- no request is sent where one is
none_or_some : (sent : Option Request) (request : Request) → sent ≡ None → sent ≡ Some request → ⊥
none_or_some sent request h k = let no : None ≡ Some request = sym h ∙ k in cc

-- one request is sent at a place
one_request : (sent : Option Request) (request another : Request) → sent ≡ Some request → sent ≡ Some another →
    another ≡ request
one_request sent request another h k = let same : Some another ≡ Some request = sym k ∙ h in cc

-- two pieces of one transmitter, with its request told twice
sends_alike : (c : ContextValue) (place : Place) (request another : Request) (a b x y : List Bit) (p q : Piece)
    (n m : Place) →
    sent_at c place ≡ Some request → sent_at c place ≡ Some another → Transmits c.self_test request a p n →
    Transmits c.self_test another b q m →
    a ++ x ≡ b ++ y → AreOne a p n b q m
sends_alike c place request another a b x y p q n m h k s t e =
    let same = one_request (sent_at c place) request another h k in
    let P : Request → Type 0 = λ r. Transmits c.self_test r b q m in
    sends_once receives_once IsNext-unique c.self_test request a b x y p q n m s (subst P same t) e

-- at an idle place: the bus stays idle, or another node's frame or an own one begins
at_idle_once : (c : ContextValue) (a b x y : List Bit) (p q : Piece) (n m : Place) →
    Row c AtIdle a p n → Row c AtIdle b q m → a ++ x ≡ b ++ y → AreOne a p n b q m
at_idle_once c a b x y p q n m (idle none) (idle nothing) e = (refl, refl, refl)
at_idle_once c a b x y p q n m (idle none) (other {bits = k} nothing h) e = absurd (idle_no_frame x (k ++ y) e)
at_idle_once c a b x y p q n m (other {bits = l} none h) (idle nothing) e = absurd (idle_no_frame y (l ++ x) (sym e))
at_idle_once c a b x y p q n m (idle none) (own {request = r} some s) e =
    absurd (none_or_some (sent_at c AtIdle) r none some)
at_idle_once c a b x y p q n m (own {request = r} some s) (idle none) e =
    absurd (none_or_some (sent_at c AtIdle) r none some)
at_idle_once c a b x y p q n m (other none h) (own {request = r} some s) e =
    absurd (none_or_some (sent_at c AtIdle) r none some)
at_idle_once c a b x y p q n m (own {request = r} some s) (other none h) e =
    absurd (none_or_some (sent_at c AtIdle) r none some)
at_idle_once c a b x y p q n m (other {bits = l} none h) (other {bits = k} nothing g) e =
    let rest : l ++ x ≡ k ++ y = cc in
    let same = receives_once c.listen (Dominant ∷ []) l k x y p q n m h g rest in
    (ap (λ t. recessive_bit Dominant ∷ t) same.0, same.1, same.2)
at_idle_once c a b x y p q n m (own {request = r} some s) (own {request = u} one t) e =
    sends_alike c AtIdle r u a b x y p q n m some one s t e

-- where a frame began with the last bit of interframe space
sof_seen_once : (c : ContextValue) (a b x y : List Bit) (p q : Piece) (n m : Place) →
    Row c AfterSof a p n → Row c AfterSof b q m → a ++ x ≡ b ++ y → AreOne a p n b q m
sof_seen_once c a b x y p q n m (other_begun none h) (own_begun {request = r} some s) e =
    absurd (none_or_some (sent_at c AfterSof) r none some)
sof_seen_once c a b x y p q n m (own_begun {request = r} some s) (other_begun none h) e =
    absurd (none_or_some (sent_at c AfterSof) r none some)
sof_seen_once c a b x y p q n m (other_begun none h) (other_begun nothing g) e =
    receives_once c.listen (Dominant ∷ []) a b x y p q n m h g e
sof_seen_once c a b x y p q n m (own_begun {request = r} some s) (own_begun {request = u} one t) e =
    let whole = ap (λ l. dominant_bit Dominant ∷ l) e in
    let same = sends_alike c AfterSof r u (dominant_bit Dominant ∷ a) (dominant_bit Dominant ∷ b) x y p q n m some one s
    t whole in
    let begun = same.0 in
    let rest : a ≡ b = cc in
    (rest, same.1, same.2)

-- of two pieces that are lawful at one place in one context neither is a proper front of the other, and equal lists are
-- one piece and lead to one place
pub row_once : (c : ContextValue) (place : Place) (a b x y : List Bit) (p q : Piece) (n m : Place) →
    Row c place a p n → Row c place b q m → a ++ x ≡ b ++ y → (a ≡ b) × (p ≡ q) × (n ≡ m)
row_once c AtReset a b x y p q n m h k e = absurd (elim h [ ])
row_once c AtIntegration a b x y p q n m h k e = integrating_once c a b x y p q n m h k e
row_once c AtIdle a b x y p q n m h k e = at_idle_once c a b x y p q n m h k e
row_once c AfterSof a b x y p q n m h k e = sof_seen_once c a b x y p q n m h k e
row_once c AtLastEofBit a b x y p q n m h k e = after_reception_once c a b x y p q n m h k e
row_once c AtFlag a b x y p q n m h k e = flagging_once c a b x y p q n m h k e
row_once c AtDelimiter a b x y p q n m h k e = after_flag_once c a b x y p q n m h k e
row_once c AtInterframeSpace a b x y p q n m h k e = interframe_once c a b x y p q n m h k e
