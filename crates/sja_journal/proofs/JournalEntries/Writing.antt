-- Bits after the entries of a journal, written at once into a list that was filled up.
use Rattle.std.proofs.Common.{◌≡◌, ◌≤◌, ◌-◌, ℕ, List, [], ◌∷◌, ◌++◌, length, take, drop, replicate, refl, sym, ap}
use Rattle.std.proofs.Common.{◌∙◌, arith}
use Rattle.std.specs.Simd.Lanes.{zip2}
use Rattle.std.proofs.lemmas.List.{length-append, length-drop, length-take-le, take-append-le, take_at}
use Rattle.std.proofs.lemmas.Slice.{take-put_mid}
use borrow.Rule.Slice.PartMut.{put_mid, post_of}
use Rattle.can_levels.specs.declared.level.Level.{Level}
use Rattle.can_levels.specs.declared.level.Level.TheVariants.{Dominant, Recessive}
use Rattle.lemmas.specs.Gathering.{total}
use Rattle.sja_journal.specs.declared.entry.Entry.TheVariants.{Bit}
use Rattle.sja_journal.specs.declared.code.Code.{Code}
use Rattle.sja_journal.specs.Inside.Codes.{code_of, decoded, has_other}

-- ---- the part that is written

-- as long as it was filled up by
pub part_length : {A : Type 0} (x : A) (codes items now : List A) (used n : ℕ) → items ≡ codes ++ replicate n x →
    now ≡ items → used ≡ length codes → length (replicate n x) ≡ n →
    n ≡ length (take (length now - used) (drop used now))
part_length x codes items now used n is same at count =
    let size = ap (λ (l : List _). length l) (same ∙ is) in
    let both = length-append codes (replicate n x) in
    let rest = length-drop used now in
    let part = length-take-le (length now - used) (drop used now) (omega (arith, rest)) in
    omega (arith, size, both, part, at, count)

-- the list after it
pub written : {A : Type 0} (x : A) (codes items now part : List A) (used len n : ℕ) →
    items ≡ codes ++ replicate n x → now ≡ items → used ≡ length codes → len ≡ length items →
    length (replicate n x) ≡ n → length part ≡ n →
    take len (put_mid used (length now - used) now part
    ++ drop (length (put_mid used (length now - used) now part)) items) ≡ codes ++ part
written x codes items now part used len n is same at all count size =
    let k = length now - used in
    let total = ap (λ (l : List _). length l) is in
    let both = length-append codes (replicate n x) in
    let long = ap (λ (l : List _). length l) same in
    let mid = put_mid used k now part in
    let front = length-take-le used now (omega (arith, total, both, long, at)) in
    let a = length-append (take used now) (part ++ post_of used k now) in
    let b = length-append part (post_of used k now) in
    let reach : len ≤ length mid = omega (arith, all, total, both, count, at, front, a, b, size) in
    take-append-le len mid (drop (length mid) items) reach
    ∙ take-put_mid used k now part len (omega (arith, all, total, both, count, at, size))
    (omega (arith, total, both, long, at))
    ∙ ap (λ l. take used l ++ part) (same ∙ is)
    ∙ ap (λ l. l ++ part) (take_at codes (replicate n x) used (sym at))

-- ---- codes of bits

none_other : (x y : Level) → has_other (code_of x y) ≡ 0
none_other Dominant Dominant = refl
none_other Dominant Recessive = refl
none_other Recessive Dominant = refl
none_other Recessive Recessive = refl

pub bits_have_none : (driven seen : List Level) → total has_other (zip2 code_of driven seen) ≡ 0
bits_have_none [] seen = omega arith
bits_have_none (x ∷ driven) [] = omega arith
bits_have_none (x ∷ driven) (y ∷ seen) =
    let one = none_other x y in let more = bits_have_none driven seen in omega (arith, one, more)

first_decoded : (x y : Level) (codes : List Code) → decoded (code_of x y ∷ codes) [] ≡ Bit x y ∷ decoded codes []
first_decoded Dominant Dominant codes = refl
first_decoded Dominant Recessive codes = refl
first_decoded Recessive Dominant codes = refl
first_decoded Recessive Recessive codes = refl

pub bits_decoded : (driven seen : List Level) → decoded (zip2 code_of driven seen) [] ≡ zip2 Bit driven seen
bits_decoded [] seen = refl
bits_decoded (x ∷ driven) [] = refl
bits_decoded (x ∷ driven) (y ∷ seen) =
    first_decoded x y (zip2 code_of driven seen) ∙ ap (λ l. Bit x y ∷ l) (bits_decoded driven seen)
