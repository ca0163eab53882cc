-- What a transmitter sends next, where its body is packed and its reader has taken what it sent so far: told of any
-- packed body and any reader, by their own fields (this project's own rule). Where the body is that of a frame, it is
-- the next level of the line of that frame (Bosch CAN 2.0 part A sections 3.1.1 and 5); `Shift::next_of` promises both.
use Rattle.std.specs.Prelude.{◌≡◌, ◌≢◌, ◌<◌, ◌≤◌, ◌+◌, ◌-◌, ◌/◌, ◌%◌, ◌^◌, ◌==◌, ℕ, suc, min, nat_lt, nat_le}
use Rattle.std.specs.Prelude.{if◌then◌else◌}
use Rattle.std.specs.Prelude.{Option, Some, None, List, [], ◌∷◌, ◌++◌}
use Rattle.can_levels.specs.declared.level.Level.{Level}
use Rattle.can_levels.specs.declared.level.Level.TheVariants.{Recessive}
use Rattle.can_bits.specs.declared.frame_part.FramePart.{FramePart}
use Rattle.can_bits.specs.declared.frame_part.FramePart.TheVariants.{Stuffed, FixedForm}
use Rattle.can_bits.specs.declared.body_word.BodyWord.{BodyWord}
use Rattle.can_bits.specs.declared.sent_body.SentBody.{SentBody}
use Rattle.can_bits.specs.declared.shift.Shift.{Shift}
use Rattle.can_levels.specs.Acknowledging.{IsAckDue}
use Rattle.can_levels.specs.Digits.{level_of, opposite}
use Rattle.can_bits.specs.Shifts.{StandsFor}
use Rattle.can_levels.specs.Streaming.{IsReadable, IsOver, IsRightInside, ShowsFrame}

-- ---- the next level

-- how many levels a reader has gathered: those of the stuffed part, without stuff bits
abbrev pub place_of : Shift → ℕ
place_of s = s.gathered.place

-- the level at a place of a packed body, the last one the lowest digit; none past it
abbrev pub packed_level : SentBody → ℕ → Option Level
packed_level b place =
    if nat_lt place b.length then Some (level_of (b.word / 2 ^ ((b.length - 1 - place) % 128) % 2 == 1)) else None

-- the level, and past the body the highest digit of the CRC register: while the CRC sequence goes out the register is
-- only shifted, so that is its next level (Bosch CAN 2.0 part A section 3.1.1, CRC_RG(14))
abbrev pub or_crc : Option Level → BodyWord → Level
or_crc (Some x) g = x
or_crc None g = level_of (g.register / 2 ^ 14 == 1)

-- in the stuffed part a stuff bit follows five equal levels, and else comes the next level of the body or of the CRC
-- sequence; past the stuffed part the transmitter sends recessive
abbrev pub next_at : FramePart → Shift → SentBody → Level
next_at Stuffed s body =
    if s.run == 5 then opposite s.last else or_crc (packed_level body (place_of s)) s.gathered
next_at (FixedForm n) s body = Recessive

-- the level that a transmitter of this body sends next
abbrev pub next_level : Shift → SentBody → Level
next_level s body = next_at s.frame_part s body

-- at each of so many places, from the first one on, two bodies have the same level, or both have none
abbrev pub AgreeFor : ℕ → SentBody → SentBody → Type 0
AgreeFor n a b = (place : ℕ) → place < n → packed_level a place ≡ packed_level b place

-- two bodies have a level each at so many places, from the first one on, and 128 binary digits have them, as they have
-- those of every frame
pub record BothHave (n : ℕ) (a b : SentBody) : Type 0 where
  pub one : n ≤ a.length
  pub other : n ≤ b.length
  pub one_fits : a.length ≤ 128
  pub other_fits : b.length ≤ 128

-- ---- levels of the stuffed part

-- a reader takes this level, whatever levels it may have been given: it is right after them, in the stuffed part past
-- SOF. There is no frame with it, the line isn't over, and no ACK is due; at most one level more is gathered
pub record TakesInside (old : Shift) (x : Level) (new : Shift) : Type 0 where
  pub right : (l : List Level) → StandsFor old l → IsRightInside l x
  pub stands : (l : List Level) → StandsFor old l → StandsFor new (l ++ x ∷ [])
  pub inside : (l : List Level) → StandsFor old l →
      IsReadable (l ++ x ∷ []) × ShowsFrame (l ++ x ∷ []) None × (¬ IsOver (l ++ x ∷ [])) × ¬ IsAckDue (l ++ x ∷ [])
  pub near : place_of new ≤ suc (place_of old)

-- a transmitter of this body sends these levels, one after the other, and its reader takes them
pub data SendsAlong (body : SentBody) (old : Shift) : List Level → Shift → Type 0 where
  nothing : SendsAlong body old [] old
  one_more : (mid new : Shift) (xs : List Level) → SendsAlong body old xs mid →
      TakesInside mid (next_level mid body) new → SendsAlong body old (xs ++ next_level mid body ∷ []) new

-- ---- levels taken at once

-- a reader is in the stuffed part, past SOF, and no level so far was wrong: told by its own fields
pub record IsPastSof (s : Shift) : Type 0 where
  pub right : s.wrong ≡ None
  pub inside : s.frame_part ≡ Stuffed
  pub begun : s.run ≢ 0
  pub few : s.run ≤ 5

-- how many levels a packed body has; none where 128 binary digits don't have them, which the body of no frame is
abbrev pub sent_length : SentBody → ℕ
sent_length body = if nat_le body.length 128 then body.length else 0

-- up to which place levels of a body are taken at once: before the reader's next mark, with which more is known of the
-- length; before the last level; and as far as 64 digits have the levels from the next one on
abbrev pub plain_end : BodyWord → SentBody → ℕ
plain_end g body = min (min g.mark (sent_length body) - 1) (min (g.place + 64) 255)
