-- The entries of codes, one code more.
use Rattle.std.proofs.Common.{◌≡◌, List, [], ◌∷◌, ◌++◌, length, refl, ap, ◌∙◌, arith}
use Rattle.std.proofs.lemmas.List.{length-append}
use Rattle.can_levels.specs.declared.level.Level.TheVariants.{Dominant, Recessive}
use Rattle.lemmas.specs.Gathering.{total}
use Rattle.lemmas.proofs.Gathered.{total_push}
use Rattle.sja_journal.specs.declared.entry.Entry.{Entry}
use Rattle.sja_journal.specs.declared.entry.Entry.TheVariants.{Bit, Up, Abort, Stored, Overrun, Off}
use Rattle.sja_journal.specs.declared.code.Code.{Code}
use Rattle.sja_journal.specs.declared.code.Code.TheVariants.{DominantAsDriven, DominantSeenRecessive}
use Rattle.sja_journal.specs.declared.code.Code.TheVariants.{RecessiveSeenDominant, RecessiveAsDriven, Other}
use Rattle.sja_journal.specs.Between.{between_bits}
use Rattle.sja_journal.specs.Inside.Codes.{decoded, has_other, AreOthers, AreWhole, IsOther}

-- ---- as many entries as codes

pub long_enough : (codes : List Code) (others : List Entry) → length others ≡ total has_other codes →
    length (decoded codes others) ≡ length codes
long_enough [] others h = refl
long_enough (DominantAsDriven ∷ codes) others h =
    let n = long_enough codes others (omega (arith, h)) in omega (arith, n)
long_enough (DominantSeenRecessive ∷ codes) others h =
    let n = long_enough codes others (omega (arith, h)) in omega (arith, n)
long_enough (RecessiveSeenDominant ∷ codes) others h =
    let n = long_enough codes others (omega (arith, h)) in omega (arith, n)
long_enough (RecessiveAsDriven ∷ codes) others h =
    let n = long_enough codes others (omega (arith, h)) in omega (arith, n)
long_enough (Other ∷ codes) [] h = absurd (omega (arith, h))
long_enough (Other ∷ codes) (e ∷ others) h = let n = long_enough codes others (omega (arith, h)) in omega (arith, n)

pub decoded_length : (codes : List Code) (others : List Entry) → AreWhole codes others →
    length (decoded codes others) ≡ length codes
decoded_length codes others h = long_enough codes others h.many

-- ---- codes after codes

decoded_then : (codes more : List Code) (others later : List Entry) → length others ≡ total has_other codes →
    decoded (codes ++ more) (others ++ later) ≡ decoded codes others ++ decoded more later
decoded_then [] more [] later h = refl
decoded_then [] more (e ∷ others) later h = absurd (omega (arith, h))
decoded_then (DominantAsDriven ∷ codes) more others later h =
    ap (λ l. Bit Dominant Dominant ∷ l) (decoded_then codes more others later (omega (arith, h)))
decoded_then (DominantSeenRecessive ∷ codes) more others later h =
    ap (λ l. Bit Dominant Recessive ∷ l) (decoded_then codes more others later (omega (arith, h)))
decoded_then (RecessiveSeenDominant ∷ codes) more others later h =
    ap (λ l. Bit Recessive Dominant ∷ l) (decoded_then codes more others later (omega (arith, h)))
decoded_then (RecessiveAsDriven ∷ codes) more others later h =
    ap (λ l. Bit Recessive Recessive ∷ l) (decoded_then codes more others later (omega (arith, h)))
decoded_then (Other ∷ codes) more [] later h = absurd (omega (arith, h))
decoded_then (Other ∷ codes) more (e ∷ others) later h =
    ap (λ l. e ∷ l) (decoded_then codes more others later (omega (arith, h)))

pub decoded_both : (codes more : List Code) (others later : List Entry) → AreWhole codes others →
    decoded (codes ++ more) (others ++ later) ≡ decoded codes others ++ decoded more later
decoded_both codes more others later h = decoded_then codes more others later h.many

-- ---- an entry more that is no bit

others_push : (others : List Entry) (e : Entry) → AreOthers others → IsOther e → AreOthers (others ++ e ∷ [])
others_push [] e h own = (own, tt)
others_push (x ∷ others) e h own = (h.0, others_push others e h.1 own)

pub whole_other : (codes : List Code) (others : List Entry) (e : Entry) → AreWhole codes others → IsOther e →
    AreWhole (codes ++ Other ∷ []) (others ++ e ∷ [])
whole_other codes others e h own = record {
  many = let m = h.many in let n = length-append others (e ∷ []) in let t = total_push has_other codes Other in
      omega (arith, m, n, t);
  none = others_push others e h.none own;
}

-- ---- those that are no bits

between_other : (e : Entry) (es : List Entry) → IsOther e → between_bits (e ∷ es) ≡ e ∷ between_bits es
between_other (Bit driven seen) es own = elim own [ ]
between_other (Up u) es own = refl
between_other Abort es own = refl
between_other (Stored m) es own = refl
between_other (Overrun m) es own = refl
between_other Off es own = refl

none_between : (codes : List Code) (others : List Entry) → length others ≡ total has_other codes → AreOthers others →
    between_bits (decoded codes others) ≡ others
none_between [] [] h own = refl
none_between [] (e ∷ others) h own = absurd (omega (arith, h))
none_between (DominantAsDriven ∷ codes) others h own = none_between codes others (omega (arith, h)) own
none_between (DominantSeenRecessive ∷ codes) others h own = none_between codes others (omega (arith, h)) own
none_between (RecessiveSeenDominant ∷ codes) others h own = none_between codes others (omega (arith, h)) own
none_between (RecessiveAsDriven ∷ codes) others h own = none_between codes others (omega (arith, h)) own
none_between (Other ∷ codes) [] h own = absurd (omega (arith, h))
none_between (Other ∷ codes) (e ∷ others) h own =
    between_other e (decoded codes others) own.0
    ∙ ap (λ l. e ∷ l) (none_between codes others (omega (arith, h)) own.1)

pub between_decoded : (codes : List Code) (others : List Entry) → AreWhole codes others →
    between_bits (decoded codes others) ≡ others
between_decoded codes others h = none_between codes others h.many h.none
