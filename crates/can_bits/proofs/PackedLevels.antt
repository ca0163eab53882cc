-- The levels of a packed body, and the next level of a transmitter of it.
use Rattle.std.proofs.Common.{◌≡◌, ◌≢◌, ◌+◌, ◌-◌, ◌/◌, ◌%◌, ◌^◌, ◌<◌, ◌≤◌, ◌==◌, inl, inr, ℕ, Bool, Option, Some, None}
use Rattle.std.proofs.Common.{List, [], ◌∷◌, ◌++◌, length, if◌then◌else◌, refl, ap, sym, subst, ◌∙◌, arith}
use Rattle.std.specs.List.{slice_get}
use Rattle.std.proofs.lemmas.Bool.{cases_lt, eq-eqb, le-ltb, lt-ltb}
use Rattle.std.proofs.lemmas.Bool.Decides.{eqb_tells}
use Rattle.std.proofs.lemmas.List.{length_push}
use Rattle.std.proofs.lemmas.Option.{slice_get-get_or, slice_get_past}
use Rattle.can_frame.specs.Frame.{FrameValue}
use Rattle.can_levels.specs.declared.level.Level.{Level}
use Rattle.can_levels.specs.declared.level.Level.TheVariants.{Dominant, Recessive}
use Rattle.can_bits.specs.declared.frame_part.FramePart.{FramePart}
use Rattle.can_bits.specs.declared.frame_part.FramePart.TheVariants.{Stuffed, FixedForm}
use Rattle.can_bits.specs.declared.body_word.BodyWord.{BodyWord}
use Rattle.can_bits.specs.declared.sent_body.SentBody.{SentBody}
use Rattle.can_bits.specs.declared.shift.Shift.{Shift}
use Rattle.can_levels.specs.Digits.{level_of, opposite, value}
use Rattle.can_levels.specs.Body.{sent_body}
use Rattle.can_levels.specs.Check.{Crc}
use Rattle.can_levels.specs.Fields.{level_at}
use Rattle.can_levels.specs.Line.{StuffedPart, tail}
use Rattle.can_bits.specs.Packing.{IsSentBody}
use Rattle.can_bits.specs.Sending.{AgreeFor, SendsAlong, TakesInside, next_at, next_level, or_crc, packed_level}
use Rattle.can_bits.specs.Sending.{place_of}
use Rattle.can_bits.specs.Sending.SendsAlong.{nothing, one_more}
use Rattle.can_bits.specs.Shifts.{StandsFor}
use Rattle.can_bits.specs.Inside.Gathering.{Gathers}
use Rattle.can_bits.proofs.Packing.Numbers.{level_packed}
use Rattle.can_levels.proofs.Reader.Inside.{not_past}
use Rattle.can_bits.proofs.Reader.Places.{reads_inside, reads_past}
use Rattle.can_bits.proofs.NextLevels.{next_body, next_check, plain_next, sent_inside, sent_past, sent_readable}
use Rattle.can_bits.proofs.NextLevels.{stuff_next}

-- ---- the levels of a packed body

-- the level at a place of it, and none past it
pub packed_within : (s : SentBody) (place : ℕ) → place < s.length →
    packed_level s place ≡ Some (level_of (s.word / 2 ^ ((s.length - 1 - place) % 128) % 2 == 1))
packed_within s place within =
    let some : Option Level = Some (level_of (s.word / 2 ^ ((s.length - 1 - place) % 128) % 2 == 1)) in
    ap (λ (b : Bool). if b then some else None) (lt-ltb place s.length within)

pub packed_past : (s : SentBody) (place : ℕ) → s.length ≤ place → packed_level s place ≡ None
packed_past s place past =
    let some : Option Level = Some (level_of (s.word / 2 ^ ((s.length - 1 - place) % 128) % 2 == 1)) in
    ap (λ (b : Bool). if b then some else None) (le-ltb place s.length past)

-- it is the level of the body of the frame
pub packed_of_frame : (s : SentBody) (f : FrameValue) (place : ℕ) → IsSentBody s f →
    packed_level s place ≡ slice_get (sent_body f) place
packed_of_frame s f place h =
    let w = sent_body f in
    let count = h.place_is in
    let room = h.room in
    elim (cases_lt place s.length) [
      | inl within ↦
          let shift : (s.length - 1 - place) % 128 ≡ length w - 1 - place = omega (arith, count, room) in
          let here : level_of (s.word / 2 ^ ((s.length - 1 - place) % 128) % 2 == 1) ≡ level_at w place =
          ap (λ n. level_of (n / 2 ^ ((s.length - 1 - place) % 128) % 2 == 1)) h.word_is
          ∙ ap (λ k. level_of (value w / 2 ^ k % 2 == 1)) shift
          ∙ level_packed w place (omega (arith, count, within)) in
          packed_within s place within ∙ ap Some here
          ∙ sym (slice_get-get_or w place Dominant (omega (arith, count, within)))
      | inr past ↦ packed_past s place past ∙ sym (slice_get_past w place (omega (arith, count, past)))
    ]

-- ---- the next level

-- it is the next one of the body and its CRC sequence
pub packed_next : (g : BodyWord) (s : SentBody) (f : FrameValue) (w c t : List Level) (x : Level) → IsSentBody s f →
    Gathers g w → Crc (sent_body f) c → sent_body f ++ c ≡ w ++ x ∷ t → or_crc (packed_level s g.place) g ≡ x
packed_next g s f w c t x is h right whole =
    let b = sent_body f in
    let n = length w in
    let here : packed_level s g.place ≡ slice_get b n =
    packed_of_frame s f g.place is ∙ ap (λ k. slice_get b k) h.packs.place_is in
    elim (cases_lt n (length b)) [
      | inl within ↦
          let some : slice_get b n ≡ Some (level_at b n) = slice_get-get_or b n Dominant within in
          ap (λ (o : Option Level). or_crc o g) (here ∙ some) ∙ next_body b c w t x (level_at b n) whole some
      | inr past ↦
          ap (λ (o : Option Level). or_crc o g) (here ∙ slice_get_past b n past)
          ∙ next_check b c w t x g.register right whole past h.fits h.divides
    ]

-- and the next one of the line
abbrev pub IsNextOf : Shift → SentBody → Level → Type 0
IsNextOf s body x =
    (f : FrameValue) (l others check part before rest : List Level) (y ack : Level) → IsSentBody body f →
    StandsFor s l →
    StuffedPart f (sent_body f) check part → Crc (sent_body f) check → part ++ tail ack ≡ l ++ others →
    part ++ tail Recessive ≡ before ++ y ∷ rest →
    length before ≡ length l → x ≡ y

-- after five equal levels a stuff bit comes
pub next_stuff : (s : Shift) (body : SentBody) → s.frame_part ≡ Stuffed → s.run ≡ 5 →
    next_level s body ≡ opposite s.last
next_stuff s body at five =
    let plain_level : Level = or_crc (packed_level body (place_of s)) s.gathered in
    let stuff : Level = opposite s.last in
    ap (λ (p : FramePart). next_at p s body) at
    ∙ ap (λ (b : Bool). if b then stuff else plain_level) (eq-eqb s.run 5 five)

-- and else a level of body or CRC sequence
pub next_plain : (s : Shift) (body : SentBody) → s.frame_part ≡ Stuffed → s.run ≢ 5 →
    next_level s body ≡ or_crc (packed_level body (place_of s)) s.gathered
next_plain s body at less =
    let plain_level : Level = or_crc (packed_level body (place_of s)) s.gathered in
    let stuff : Level = opposite s.last in
    elim (eqb_tells s.run 5) [
      | inl five ↦ absurd (less five.1)
      | inr not ↦
          ap (λ (p : FramePart). next_at p s body) at ∙ ap (λ (b : Bool). if b then stuff else plain_level) not.0
    ]

-- past the stuffed part a recessive level
pub next_fixed : (s : Shift) (body : SentBody) (n : ℕ) → s.frame_part ≡ FixedForm n → next_level s body ≡ Recessive
next_fixed s body n at = ap (λ (p : FramePart). next_at p s body) at

next_here : (p : FramePart) (s : Shift) (body : SentBody) → s.frame_part ≡ p → IsNextOf s body (next_level s body)
next_here Stuffed s body at f l others check part before rest x ack is h is_part right seen sent count =
    let inside = reads_inside s l at h (sent_readable l others ack is_part right seen) in
    let next = sent_inside l others before rest x ack (not_past inside.part) is_part seen sent count in
    elim (eqb_tells s.run 5) [
      | inl five ↦ next_stuff s body at five.1 ∙ stuff_next next.0 x inside.part five.1 is_part next.1
      | inr less ↦
          let plain = plain_next next.0 x inside.part less.1 is_part next.1 in
          next_plain s body at less.1
          ∙ packed_next s.gathered body f inside.bits check plain.0 x is inside.gathers right plain.1
    ]
next_here (FixedForm n) s body at f l others check part before rest x ack is h is_part right seen sent count =
    let past = reads_past s l n at h (sent_readable l others ack is_part right seen) in
    next_fixed s body n at ∙ sent_past n l others before rest x ack past is_part seen sent count

pub next_level_is : (s : Shift) (body : SentBody) → IsNextOf s body (next_level s body)
next_level_is s body = next_here s.frame_part s body refl

-- transmitters of bodies that agree there send the same
alike_at : (p : FramePart) (s : Shift) (a b : SentBody) → packed_level a (place_of s) ≡ packed_level b (place_of s) →
    next_at p s a ≡ next_at p s b
alike_at Stuffed s a b same =
    ap (λ (o : Option Level). if s.run == 5 then opposite s.last else or_crc o s.gathered) same
alike_at (FixedForm n) s a b same = refl

pub next_alike : (s : Shift) (a b : SentBody) (n : ℕ) → AgreeFor n a b → place_of s < n →
    next_level s a ≡ next_level s b
next_alike s a b n agree before = alike_at s.frame_part s a b (agree (place_of s) before)

-- ---- levels sent one after the other

-- with each of them one is gathered at most
pub near_along : (body : SentBody) (old new : Shift) (xs : List Level) → SendsAlong body old xs new →
    place_of new ≤ place_of old + length xs
near_along body old new xs nothing = omega arith
near_along body old new xs (one_more mid _ ys along takes) =
    let before = near_along body old mid ys along in
    let near = takes.near in
    omega (arith, before, near, length_push ys (next_level mid body))

-- transmitters of bodies that agree so far send the same
pub alike_along : (a b : SentBody) (old new : Shift) (xs : List Level) (n : ℕ) → AgreeFor n a b →
    place_of old + length xs ≤ n → SendsAlong a old xs new → SendsAlong b old xs new
alike_along a b old new xs n agree few nothing = nothing
alike_along a b old new xs n agree few (one_more mid _ ys along takes) =
    let near = near_along a old mid ys along in
    let count = length_push ys (next_level mid a) in
    let same : next_level mid a ≡ next_level mid b = next_alike mid a b n agree (omega (arith, near, count, few)) in
    let before = alike_along a b old mid ys n agree (omega (arith, count, few)) along in
    let Along : Level → Type 0 = λ x. SendsAlong b old (ys ++ x ∷ []) new in
    let Takes : Level → Type 0 = λ x. TakesInside mid x new in
    subst Along (sym same) (one_more mid new ys before (subst Takes same takes))
