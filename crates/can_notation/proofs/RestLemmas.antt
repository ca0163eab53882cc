-- What stands behind the `#`: by its length and its first character it says kind, DLC and data bytes.
use Rattle.std.proofs.Common.{◌≡◌, ◌≢◌, ◌-◌, ◌/◌, ◌%◌, ◌<◌, ◌≤◌, ◌∙◌, ℕ, zero, suc, Bool, true, false, min, nat_lt}
use Rattle.std.proofs.Common.{List, [], ◌∷◌, ◌++◌, length, take, drop, get_or, refl, sym, ap, ap₂, inl, inr, arith}
use Rattle.std.specs.Prelude.{if◌then◌else◌}
use Rattle.std.proofs.lemmas.Bool.{cases_lt, cases_eq, false≢true}
use Rattle.std.proofs.lemmas.Bool.Decides.{nat_tests}
use Rattle.std.proofs.lemmas.List.{length-append, length-map, length-take-le, map-append, append-nil, take-append-drop}
use Rattle.std.proofs.lemmas.List.{take_at, drop_at, take_rest, take-map, drop-map, nil_from_length}
use Rattle.can_frame.specs.Frame.{data_count}
use Rattle.can_notation.specs.Digits.{digit_of, capital, capitals}
use Rattle.can_notation.specs.Text.{data_text, count_text, long_dlc_text, dlc_mark, rest_text}
use Rattle.can_notation.specs.Rest.{IsRest, BeginsRemote}
use Rattle.can_notation.proofs.DigitLemmas.{digit_of-small, digit_of-injective, capital-digit_of}
use Rattle.can_notation.proofs.DataLemmas.{AreBytes, length-data_text, length_from_text, data_text-injective}
use Rattle.can_notation.proofs.DataLemmas.{capitals-data_text}

-- a DLC of at most 8 isn't written
pub short_dlc : (dlc : ℕ) → dlc ≤ 8 → long_dlc_text dlc ≡ []
short_dlc dlc h = grind (arith, nat_tests)

-- one above 8 is
pub long_dlc : (dlc : ℕ) → 8 < dlc → long_dlc_text dlc ≡ dlc_mark ∷ digit_of dlc ∷ []
long_dlc dlc h = grind (arith, nat_tests)

-- a written DLC is one DLC
pub long_dlc-injective : (m n : ℕ) → 8 < m → 8 < n → m < 16 → n < 16 → long_dlc_text m ≡ long_dlc_text n → m ≡ n
long_dlc-injective m n hm hn fm fn e =
    digit_of-injective m n fm fn (ap (λ l. get_or l 1 0) (sym (long_dlc m hm) ∙ e ∙ long_dlc n hn))

-- a written DLC is its own capitals
capitals-long_dlc : (dlc : ℕ) → dlc < 16 → capitals (long_dlc_text dlc) ≡ long_dlc_text dlc
capitals-long_dlc dlc small = elim (cases_lt 8 dlc) [
  | inl long ↦ rw (long_dlc dlc long) (ap (λ d. dlc_mark ∷ d ∷ []) (capital-digit_of dlc small))
  | inr short ↦ rw (short_dlc dlc short) refl
]

-- a count above 0 is written
written_count : (count : ℕ) → 0 < count → count_text count ≡ digit_of count ∷ []
written_count count h = grind (arith, nat_tests)

-- and is its own capital
capitals-count : (count : ℕ) → count ≤ 8 → capitals (count_text count) ≡ count_text count
capitals-count zero h = refl
capitals-count (suc count) h =
    rw (written_count (suc count) (omega arith)) (ap (λ d. d ∷ []) (capital-digit_of (suc count) (omega arith)))

-- with 18 characters behind the `#` of a data frame the DLC is written
pub long_rest : (behind : List ℕ) → length behind ≡ 18 → (dlc : ℕ) (bytes : List ℕ) → IsRest false dlc bytes →
    capitals behind ≡ rest_text false dlc bytes →
    (8 < dlc) × (length bytes ≡ 8) × (capitals (take 16 behind) ≡ data_text bytes)
    × (capitals (drop 16 behind) ≡ long_dlc_text dlc)
long_rest behind size dlc bytes is e =
    let count : length bytes ≡ min dlc 8 = is.count in
    let whole = sym (length-map behind capital) ∙ ap length e ∙ length-append (data_text bytes) (long_dlc_text dlc) in
    let pairs = length-data_text bytes in
    elim (cases_lt 8 dlc) [
      | inl long ↦
          let eight : length (data_text bytes) ≡ 16 = omega arith in (
            long,
            omega arith,
            sym (take-map capital 16 behind) ∙ ap (take 16) e ∙ take_at (data_text bytes) (long_dlc_text dlc) 16 eight,
            sym (drop-map capital 16 behind) ∙ ap (drop 16) e ∙ drop_at (data_text bytes) (long_dlc_text dlc) 16 eight,
          )
      | inr short ↦
          let none = ap length (short_dlc dlc short) in
          absurd (omega arith)
    ]

-- with another number of them it isn't
pub short_rest : (behind : List ℕ) → length behind ≢ 18 → (dlc : ℕ) (bytes : List ℕ) → IsRest false dlc bytes →
    capitals behind ≡ rest_text false dlc bytes →
    (dlc ≤ 8) × (length bytes ≡ dlc) × (capitals behind ≡ data_text bytes)
short_rest behind size dlc bytes is e =
    let count : length bytes ≡ min dlc 8 = is.count in
    let whole = sym (length-map behind capital) ∙ ap length e ∙ length-append (data_text bytes) (long_dlc_text dlc) in
    let pairs = length-data_text bytes in
    elim (cases_lt 8 dlc) [
      | inl long ↦
          let two = ap length (long_dlc dlc long) in
          absurd (size (omega arith))
      | inr short ↦
          (short, omega arith, e ∙ ap (λ l. data_text bytes ++ l) (short_dlc dlc short) ∙ append-nil (data_text bytes))
    ]

-- 16 characters of data and a written DLC are the rest of a data frame
pub long_said : (behind : List ℕ) → length behind ≡ 18 → (dlc : ℕ) (bytes : List ℕ) → 8 < dlc → dlc < 16 →
    AreBytes bytes → capitals (take 16 behind) ≡ data_text bytes →
    capitals (take (length behind - 16) (drop 16 behind)) ≡ long_dlc_text dlc →
    IsRest false dlc bytes × (capitals behind ≡ rest_text false dlc bytes)
long_said behind size dlc bytes long small fit front back =
    let sixteen = length-take-le 16 behind (omega arith) in
    let eight = length_from_text (take 16 behind) bytes front in (
      record { dlc_small = small; count = omega arith; fit = fit },
      ap capitals (sym (take-append-drop 16 behind)) ∙ map-append capital (take 16 behind) (drop 16 behind)
          ∙ ap₂ (λ l r. l ++ r) front (ap capitals (sym (take_rest behind 16)) ∙ back),
    )

-- what begins with `R` is the rest of a remote frame alone
pub remote_rest : (behind : List ℕ) → BeginsRemote behind → (rtr : Bool) (dlc : ℕ) (bytes : List ℕ) →
    IsRest rtr dlc bytes → capitals behind ≡ rest_text rtr dlc bytes →
    (rtr ≡ true) × (capitals (drop 1 behind) ≡ count_text (min dlc 8) ++ long_dlc_text dlc)
remote_rest [] begins rtr dlc bytes is e = absurd (omega arith)
remote_rest (c ∷ behind) begins true dlc bytes is e = (refl, ap (drop 1) e)
remote_rest (c ∷ behind) begins false dlc [] is e =
    let count : 0 ≡ min dlc 8 = is.count in
    let size = ap length (e ∙ short_dlc dlc (omega arith)) in
    absurd (omega arith)
remote_rest (c ∷ behind) begins false dlc (b ∷ bytes) is e =
    let first : capital c ≡ digit_of (b / 16 % 16) = ap (λ l. get_or l 0 0) e in
    let mark : capital c ≡ 82 = begins.1 in
    let small = digit_of-small (b / 16 % 16) (omega arith) in
    absurd (omega arith)

-- the rest of a remote frame begins with `R`
pub begins_remote : (behind : List ℕ) (dlc : ℕ) (bytes : List ℕ) → capitals behind ≡ rest_text true dlc bytes →
    BeginsRemote behind
begins_remote [] dlc bytes e = cc e
begins_remote (c ∷ behind) dlc bytes e = (omega arith, ap (λ l. get_or l 0 0) e)

-- the DLC in the rest of a remote frame
abbrev dlc_in : List ℕ → ℕ
dlc_in [] = 0
dlc_in (d ∷ []) = d - 48
dlc_in (d ∷ mark ∷ []) = 0
dlc_in (d ∷ mark ∷ e ∷ rest) = if nat_lt e 58 then e - 48 else e - 55

-- one of at most 8 is the count that was written
short_in : (dlc : ℕ) → dlc ≤ 8 → dlc_in (count_text dlc ++ []) ≡ dlc
short_in zero h = refl
short_in (suc dlc) h =
    let digit : digit_of (suc dlc) - 48 ≡ suc dlc = grind (arith, nat_tests) in
    rw (written_count (suc dlc) (omega arith)) digit

-- it is the one that was written
dlc_in-written : (dlc : ℕ) → dlc < 16 → dlc_in (count_text (min dlc 8) ++ long_dlc_text dlc) ≡ dlc
dlc_in-written dlc small = elim (cases_lt 8 dlc) [
  | inl long ↦
      let eight : min dlc 8 ≡ 8 = omega arith in
      let digit : (if nat_lt (digit_of dlc) 58 then digit_of dlc - 48 else digit_of dlc - 55) ≡ dlc =
      grind (arith, nat_tests) in
      rw (eight, long_dlc dlc long) digit
  | inr short ↦
      let same : min dlc 8 ≡ dlc = omega arith in
      rw (same, short_dlc dlc short) (short_in dlc short)
]

-- the rests of two remote frames
remote-injective : (m n : ℕ) → m < 16 → n < 16 →
    count_text (min m 8) ++ long_dlc_text m ≡ count_text (min n 8) ++ long_dlc_text n → m ≡ n
remote-injective m n hm hn e = sym (dlc_in-written m hm) ∙ ap dlc_in e ∙ dlc_in-written n hn

-- the rests of two data frames, with 18 characters or not
data-injective : (behind : List ℕ) (m n : ℕ) (xs ys : List ℕ) → IsRest false m xs → IsRest false n ys →
    capitals behind ≡ rest_text false m xs → capitals behind ≡ rest_text false n ys → (m ≡ n) × (xs ≡ ys)
data-injective behind m n xs ys is_m is_n em en = elim (cases_eq (length behind) 18) [
  | inl long ↦
      let (long_m, _, data_m, dlc_m) = long_rest behind long m xs is_m em in
      let (long_n, _, data_n, dlc_n) = long_rest behind long n ys is_n en in (
        long_dlc-injective m n long_m long_n is_m.dlc_small is_n.dlc_small (sym dlc_m ∙ dlc_n),
        data_text-injective xs ys is_m.fit is_n.fit (sym data_m ∙ data_n),
      )
  | inr short ↦
      let (_, dlc_m, data_m) = short_rest behind short m xs is_m em in
      let (_, dlc_n, data_n) = short_rest behind short n ys is_n en in
      let same = data_text-injective xs ys is_m.fit is_n.fit (sym data_m ∙ data_n) in
      (sym dlc_m ∙ ap length same ∙ dlc_n, same)
]

-- what stands behind the `#` says one kind, one DLC and one list of data bytes
pub rest-injective : (behind : List ℕ) (a b : Bool) (m n : ℕ) (xs ys : List ℕ) → IsRest a m xs → IsRest b n ys →
    capitals behind ≡ rest_text a m xs → capitals behind ≡ rest_text b n ys → (a ≡ b) × (m ≡ n) × (xs ≡ ys)
rest-injective behind false false m n xs ys is_m is_n em en =
    let (dlc, bytes) = data-injective behind m n xs ys is_m is_n em en in
    (refl, dlc, bytes)
rest-injective behind true b m n xs ys is_m is_n em en =
    let begins = begins_remote behind m xs em in
    let (kind, tail_n) = remote_rest behind begins b n ys is_n en in
    let (_, tail_m) = remote_rest behind begins true m xs is_m em in
    let none : length ys ≡ 0 = is_n.count ∙ ap (λ k. data_count k n) kind in (
      sym kind,
      remote-injective m n is_m.dlc_small is_n.dlc_small (sym tail_m ∙ tail_n),
      nil_from_length xs is_m.count ∙ sym (nil_from_length ys none),
    )
rest-injective behind false true m n xs ys is_m is_n em en =
    let (kind, _) = remote_rest behind (begins_remote behind n ys en) false m xs is_m em in
    absurd (false≢true kind)

-- what stands behind the `#` is its own capitals
pub capitals-rest_text : (rtr : Bool) (dlc : ℕ) (bytes : List ℕ) → dlc < 16 →
    capitals (rest_text rtr dlc bytes) ≡ rest_text rtr dlc bytes
capitals-rest_text false dlc bytes small =
    map-append capital (data_text bytes) (long_dlc_text dlc)
    ∙ ap₂ (λ l r. l ++ r) (capitals-data_text bytes) (capitals-long_dlc dlc small)
capitals-rest_text true dlc bytes small =
    ap (λ l. 82 ∷ l) (map-append capital (count_text (min dlc 8)) (long_dlc_text dlc)
    ∙ ap₂ (λ l r. l ++ r) (capitals-count (min dlc 8) (omega arith)) (capitals-long_dlc dlc small))
