-- The first `#` of a frame's text stands right behind the identifier.
use Rattle.std.proofs.Common.{◌≡◌, ◌==◌, ◌+◌, ◌<◌, ◌∙◌, ℕ, Bool, true, false, None, Some}
use Rattle.std.proofs.Common.{List, ◌∷◌, ◌++◌, length, take, drop, get_or, sym, ap, ap₂, inl, inr, arith}
use Rattle.std.specs.List.{position, position_or_len}
use Rattle.std.proofs.lemmas.Bool.{cases_lt, eq-eqb, eqb-true, false≢true}
use Rattle.std.proofs.lemmas.Bool.Decides.{nat_tests}
use Rattle.std.proofs.lemmas.List.{length-append, length-map, map-append, take-map, drop-map, drop-drop, get_or-map}
use Rattle.std.proofs.lemmas.List.{take_at, drop_at, get_or_at, get_or_append_left}
use Rattle.std.proofs.lemmas.List.Quantifiers.{position-Some}
use Rattle.std.proofs.lemmas.List.Sums.{position_or_len_is, fails_before_first, passes_at_first, split_at_first}
use Rattle.can_notation.specs.Digits.{digit_of, capital, capitals}
use Rattle.can_notation.specs.Text.{hash, identifier_digits, identifier_text, rest_text}
use Rattle.can_notation.specs.Faults.{HasHash, HasIdentifier, HasRest, SaysFrame, before_hash, behind_hash}
use Rattle.can_notation.proofs.DigitLemmas.{length-digits_of, digits_of-at}

-- the place of the first `#`, or the length where there is none
abbrev hash_place : List ℕ → ℕ
hash_place said = position_or_len (λ c. c == hash) said

-- a digit, in either case, is no `#`
digit_no_hash : (c v : ℕ) → v < 16 → capital c ≡ digit_of v → (c == 35) ≡ false
digit_no_hash c v small e = grind (arith, nat_tests)

-- only a `#` has it as its capital
hash_from_capital : (c : ℕ) → capital c ≡ 35 → c ≡ 35
hash_from_capital c e = grind (arith, nat_tests)

-- a text with a `#` has a first one
pub first_hash : (said : List ℕ) → HasHash said → hash_place said < length said
first_hash said (k, within, is) = elim (cases_lt (hash_place said) (length said)) [
  | inl inside ↦ inside
  | inr past ↦
      let fails = fails_before_first (λ c. c == hash) said k hash (omega arith) in
      absurd (false≢true (sym fails ∙ eq-eqb _ hash is))
]

-- what a place that was found says
pub found : (said : List ℕ) (i : ℕ) → position (λ c. c == hash) said ≡ Some i →
    HasHash said × (take i said ≡ before_hash said) × (drop (i + 1) said ≡ behind_hash said)
found said i e =
    let (within, here, before) = position-Some (λ c. c == hash) said i 35 e in
    let (_, _, before_zero) = position-Some (λ c. c == hash) said i 0 e in
    let (_, here_zero, _) = position-Some (λ c. c == hash) said i 0 e in
    let place : hash_place said ≡ i =
    position_or_len_is (λ c. c == hash) said i 0 (omega arith) before_zero (λ _. here_zero) in (
      (i, within, eqb-true _ _ here),
      ap (λ k. take k said) (sym place),
      ap (λ k. drop (k + 1) said) (sym place),
    )

-- no place was found
pub absent : (said : List ℕ) → position (λ c. c == hash) said ≡ None → ¬ HasHash said
absent said e has =
    let inside = first_hash said has in
    grind (arith, nat_tests)

module _ (said : List ℕ) (ext : Bool) (id : ℕ) (rest : List ℕ)
    (e : capitals said ≡ identifier_text ext id ++ hash ∷ rest) where
  -- as many characters as there are digits
  size : length (identifier_text ext id) ≡ identifier_digits ext
  size = length-digits_of (identifier_digits ext) id

  -- the `#` is within the text
  room : identifier_digits ext < length said
  room =
      let whole = sym (length-map said capital) ∙ ap length e ∙ length-append (identifier_text ext id) (hash ∷ rest) in
      omega (arith, whole, size)

  -- the `#`, whatever stands for a place past the end
  at_hash : (d : ℕ) → get_or said (identifier_digits ext) d ≡ 35
  at_hash d = hash_from_capital (get_or said (identifier_digits ext) d)
      (sym (get_or-map capital said (identifier_digits ext) d 0 room)
      ∙ ap (λ l. get_or l (identifier_digits ext) 0) e
      ∙ get_or_at (identifier_text ext id) hash rest 0 (identifier_digits ext) size)

  -- what stands before it is no `#`
  no_hash_before : (k : ℕ) → k < identifier_digits ext → (get_or said k 0 == 35) ≡ false
  no_hash_before k below =
      let (v, small, is) = digits_of-at (identifier_digits ext) id k below in
      let inside : k < length (identifier_text ext id) = omega (arith, size) in
      let within : k < length said = omega (arith, room) in
      digit_no_hash (get_or said k 0) v small
      (sym (get_or-map capital said k 0 0 within) ∙ ap (λ l. get_or l k 0) e
      ∙ get_or_append_left (identifier_text ext id) (hash ∷ rest) 0 k inside ∙ is)

  -- so it is the first
  place : hash_place said ≡ identifier_digits ext
  place = position_or_len_is (λ c. c == hash) said (identifier_digits ext) 0 (omega (arith, room)) no_hash_before
      (λ _. eq-eqb _ hash (at_hash 0))

  -- the identifier stands before it
  front : capitals (before_hash said) ≡ identifier_text ext id
  front =
      ap (λ k. capitals (take k said)) place ∙ sym (take-map capital (identifier_digits ext) said)
      ∙ ap (take (identifier_digits ext)) e
      ∙ take_at (identifier_text ext id) (hash ∷ rest) (identifier_digits ext) size

  -- the rest stands behind it
  back : capitals (behind_hash said) ≡ rest
  back =
      ap (λ k. capitals (drop (k + 1) said)) place ∙ sym (drop-map capital (identifier_digits ext + 1) said)
      ∙ ap (drop (identifier_digits ext + 1)) e
      ∙ sym (drop-drop 1 (identifier_digits ext) (identifier_text ext id ++ hash ∷ rest))
      ∙ ap (drop 1) (drop_at (identifier_text ext id) (hash ∷ rest) (identifier_digits ext) size)

  -- all three
  pub parts : HasHash said × (capitals (before_hash said) ≡ identifier_text ext id)
      × (capitals (behind_hash said) ≡ rest)
  parts = ((identifier_digits ext, room, at_hash hash), front, back)

-- a text whose two halves are an identifier and a rest is these with a `#` between them
pub joined : (said before behind : List ℕ) → HasHash said → capitals (before_hash said) ≡ before →
    capitals (behind_hash said) ≡ behind → capitals said ≡ before ++ hash ∷ behind
joined said before behind has front back =
    let inside = first_hash said has in
    let here : get_or said (hash_place said) 0 ≡ 35 = eqb-true _ _ (passes_at_first (λ c. c == hash) said 0 inside) in
    ap capitals (split_at_first (λ c. c == hash) said 0 inside)
    ∙ map-append capital (before_hash said) (get_or said (hash_place said) 0 ∷ behind_hash said)
    ∙ ap₂ (λ l r. l ++ r) front (ap₂ (λ c r. c ∷ r) (ap capital here) back)

-- a text that says a frame has its parts
pub said_parts : (said : List ℕ) → SaysFrame said → HasHash said × HasIdentifier said × HasRest said
said_parts said (f, valid, says) =
    let (has, front, back) = parts said f.ext f.id (rest_text f.rtr f.dlc f.bytes) says in
    (has, (f, valid, front), (f, valid, back))
