-- Nodes that send the same for some bits: what one reader takes is a bit of each of them.
use Rattle.std.proofs.Common.{◌≡◌, ◌+◌, ◌<◌, ◌≤◌, ℕ, List, [], ◌∷◌, ◌++◌, length, true, refl, sym, subst, arith}
use Rattle.std.proofs.Common.{append_assoc}
use Rattle.std.proofs.lemmas.List.{append-nil}
use Rattle.can_levels.specs.declared.level.Level.{Level}
use Rattle.can_bits.specs.declared.shift.Shift.{Shift}
use Rattle.can_bits.specs.Sending.{SendsAlong, TakesInside, next_level, place_of}
use Rattle.can_bits.specs.Sending.SendsAlong.{nothing, one_more as one_level}
use Rattle.can_bits.proofs.PackedLevels.{alike_along, near_along, next_alike, next_level_is}
use Rattle.can_node.specs.declared.node.Node.{Node}
use Rattle.can_node.specs.Together.{SendsAlike, SendsBit, SendsBits, body_of, is_sending, kept_level, reader_of}
use Rattle.can_node.specs.Together.{sending_as}
use Rattle.can_node.specs.Together.SendsBits.{no_bit, one_more}
use Rattle.can_node.proofs.Machine.Together.{sends_as, sends_in_frame, sends_one}

-- the bits of a node that goes along its body
goes_along : (node : Node) (old new : Shift) (sent xs : List Level) → is_sending node ≡ true →
    SendsBits node sent (sending_as node old) → SendsAlong (body_of node) old xs new →
    SendsBits node (sent ++ xs) (sending_as node new)
goes_along node old new sent xs sending bits nothing =
    let Bits : List Level → Type 0 = λ l. SendsBits node l (sending_as node old) in
    subst Bits (sym (append-nil sent)) bits
goes_along node old new sent xs sending bits (one_level mid _ ys along takes) =
    let x = next_level mid (body_of node) in
    let before = goes_along node old mid sent ys sending bits along in
    let bit : SendsBit (sending_as node mid) x (sending_as node new) =
    sends_one (sending_as node mid) new (next_level new (body_of node)) (sends_in_frame node sending)
    (sends_as node sending) takes (next_level_is new (body_of node)) in
    let Bits : List Level → Type 0 = λ l. SendsBits node l (sending_as node new) in
    subst Bits (append_assoc sent ys (x ∷ []))
    (one_more (sending_as node mid) (sending_as node new) (sent ++ ys) x before bit)

-- a node that goes on for n bits with a sender has sent these levels too, `count` of them. It drives what the sender
-- does next, unless it has gone on for n bits, and once it has sent any it drives what comes next of its own frame
pub record HasSentAlike (shift : Shift) (next : Level) (count : ℕ) (sent : List Level) (n : ℕ) (other : Node) :
    Type 0 where
  pub driven : Level
  pub bits : SendsBits other sent (record other { shift = shift; next = driven })
  pub drives : count < n → driven ≡ next
  pub anew : 0 < count → driven ≡ next_level shift (body_of other)

pub none_sent : (sender : Node) (n : ℕ) (other : Node) → SendsAlike sender n other →
    HasSentAlike (reader_of sender) (kept_level sender) 0 [] n other
none_sent sender n other h =
    let Bits : Shift → Type 0 = λ s. SendsBits other [] (record other { shift = s; next = other.next }) in
    record {
      driven = other.next;
      bits = subst Bits h.same no_bit;
      drives = λ before. h.drives;
      anew = λ some. absurd (omega (arith, some));
    }

-- a sender goes on with itself
pub alike_itself : (sender : Node) (n : ℕ) → is_sending sender ≡ true → SendsAlike sender n sender
alike_itself sender n sends = record { sends = sends; same = refl; drives = refl; agree = λ place before. refl }

-- it sends what the sender does: the level that that drives, and then those along its body
pub more_sent : (sender other : Node) (n count : ℕ) (shift mid new : Shift) (next : Level) (sent xs : List Level) →
    SendsAlike sender n other → HasSentAlike shift next count sent n other →
    place_of shift ≤ place_of (reader_of sender) + count → TakesInside shift next mid →
    SendsAlong (body_of sender) mid xs new → count + 1 + length xs ≤ n →
    HasSentAlike new (next_level new (body_of sender)) (count + 1 + length xs) ((sent ++ next ∷ []) ++ xs) n other
more_sent sender other n count shift mid new next sent xs h so_far place takes along few =
    let here : Node = record other { shift = shift; next = so_far.driven } in
    let same : so_far.driven ≡ next = so_far.drives (omega (arith, few)) in
    let near = takes.near in
    let near_new = near_along (body_of sender) mid new xs along in
    let Takes : Level → Type 0 = λ x. TakesInside shift x mid in
    let bit : SendsBit here so_far.driven (sending_as other mid) =
    sends_one here mid (next_level mid (body_of other)) (sends_in_frame other h.sends) (sends_as other h.sends)
    (subst Takes (sym same) takes) (next_level_is mid (body_of other)) in
    let Bits : Level → Type 0 = λ x. SendsBits other (sent ++ x ∷ []) (sending_as other mid) in
    let first = subst Bits same (one_more here (sending_as other mid) sent so_far.driven so_far.bits bit) in
    let whole = place_of (reader_of sender) + n in
    let alike = alike_along (body_of sender) (body_of other) mid new xs whole h.agree (omega (arith, place, near, few))
    along in
    record {
      driven = next_level new (body_of other);
      bits = goes_along other mid new (sent ++ next ∷ []) xs h.sends first alike;
      drives = λ before.
          sym (next_alike new (body_of sender) (body_of other) whole h.agree
          (omega (arith, place, near, near_new, before)));
      anew = λ some. refl;
    }
