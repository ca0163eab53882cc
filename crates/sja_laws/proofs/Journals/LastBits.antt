-- The last bit of a journal, with what it brought, is one.
use Rattle.std.proofs.Common.{◌≡◌, ◌+◌, ℕ, suc, Bool, true, false, Option, Some, None, List, [], ◌∷◌, ◌++◌, length}
use Rattle.std.proofs.Common.{refl, sym, ap, ◌∙◌, append_assoc, arith}
use Rattle.std.proofs.lemmas.List.{length-append}
use Rattle.can_levels.specs.declared.level.Level.{Level}
use Rattle.lemmas.proofs.Gathered.{gathered_append}
use Rattle.sja_journal.specs.NodeWords.{NodeBit}
use Rattle.sja_journal.specs.declared.entry.Entry.{Entry}
use Rattle.sja_journal.specs.declared.entry.Entry.TheVariants.{Bit}
use Rattle.sja_journal.specs.declared.verdict.Verdict.{Verdict}
use Rattle.sja_journal.specs.declared.verdict.Verdict.TheVariants.{Stored as ToStore, Overrun as ToLose}
use Rattle.sja_journal.specs.BitEntries.{HasBit, judged_as, off_as}
use Rattle.sja_journal.specs.Carried.{bit_in, bits_of}

-- ---- behind the bit there is no other

later_bit : (t b u : List Entry) (v w : Level) → t ≡ b ++ Bit v w ∷ u → bits_of t ≡ [] → ⊥
later_bit t b u v w e none =
    let all : length (bits_of t) ≡ length (bits_of b) + suc (length (bits_of u)) =
    ap (λ l. length (bits_of l)) e ∙ ap (λ (l : List NodeBit). length l) (gathered_append bit_in b (Bit v w ∷ u))
    ∙ length-append (bits_of b) (bits_of (Bit v w ∷ u)) in
    let no : length (bits_of t) ≡ 0 = ap (λ (l : List NodeBit). length l) none in
    omega (arith, all, no)

pub record AreSame (a b : List Entry) (x v y w : Level) (t u : List Entry) : Type 0 where
  pub before : a ≡ b
  pub driven : x ≡ v
  pub seen : y ≡ w
  pub behind : t ≡ u

pub bit_once : (a b : List Entry) (x v y w : Level) (t u : List Entry) → a ++ Bit x y ∷ t ≡ b ++ Bit v w ∷ u →
    bits_of t ≡ [] → bits_of u ≡ [] → AreSame a b x v y w t u
bit_once [] [] x v y w t u e none nothing = record { before = refl; driven = cc; seen = cc; behind = cc }
bit_once [] (c ∷ b) x v y w t u e none nothing =
    let later : t ≡ b ++ Bit v w ∷ u = cc in absurd (later_bit t b u v w later none)
bit_once (c ∷ a) [] x v y w t u e none nothing =
    let later : u ≡ a ++ Bit x y ∷ t = cc in absurd (later_bit u a t x y later nothing)
bit_once (c ∷ a) (d ∷ b) x v y w t u e none nothing =
    let first : c ≡ d = cc in
    let rest : a ++ Bit x y ∷ t ≡ b ++ Bit v w ∷ u = cc in
    let h = bit_once a b x v y w t u rest none nothing in
    record { before = (λ i. first i ∷ h.before i); driven = h.driven; seen = h.seen; behind = h.behind }

-- ---- what it brought

off_once : (o n : Bool) → off_as o ≡ off_as n → o ≡ n
off_once true true e = refl
off_once false false e = refl
off_once true false e = absurd cc
off_once false true e = absurd cc

pub brought_once : (v w : Option (Verdict × List ℕ)) (o n : Bool) →
    judged_as v ++ off_as o ≡ judged_as w ++ off_as n → (v ≡ w) × (o ≡ n)
brought_once None None o n e = (refl, off_once o n e)
brought_once None (Some (ToStore, m)) true n e = absurd cc
brought_once None (Some (ToStore, m)) false n e = absurd cc
brought_once None (Some (ToLose, m)) true n e = absurd cc
brought_once None (Some (ToLose, m)) false n e = absurd cc
brought_once (Some (ToStore, m)) None o true e = absurd cc
brought_once (Some (ToStore, m)) None o false e = absurd cc
brought_once (Some (ToLose, m)) None o true e = absurd cc
brought_once (Some (ToLose, m)) None o false e = absurd cc
brought_once (Some (ToStore, m)) (Some (ToLose, k)) o n e = absurd cc
brought_once (Some (ToLose, m)) (Some (ToStore, k)) o n e = absurd cc
brought_once (Some (ToStore, m)) (Some (ToStore, k)) o n e =
    let same : m ≡ k = cc in
    let rest : off_as o ≡ off_as n = cc in
    (ap (λ (l : List ℕ). Some (ToStore, l)) same, off_once o n rest)
brought_once (Some (ToLose, m)) (Some (ToLose, k)) o n e =
    let same : m ≡ k = cc in
    let rest : off_as o ≡ off_as n = cc in
    (ap (λ (l : List ℕ). Some (ToLose, l)) same, off_once o n rest)

-- it is no bit
pub no_bit : (v : Option (Verdict × List ℕ)) (o : Bool) → bits_of (judged_as v ++ off_as o) ≡ []
no_bit None true = refl
no_bit None false = refl
no_bit (Some (ToStore, m)) true = refl
no_bit (Some (ToStore, m)) false = refl
no_bit (Some (ToLose, m)) true = refl
no_bit (Some (ToLose, m)) false = refl

-- ---- the whole bit

pub bit_whole : (j k : List Entry) (driven seen : Level) (b : HasBit j driven seen k) →
    k ≡ j ++ Bit driven seen ∷ (judged_as b.verdict ++ off_as b.off)
bit_whole j k driven seen b =
    b.whole ∙ append_assoc (j ++ Bit driven seen ∷ []) (judged_as b.verdict) (off_as b.off)
    ∙ append_assoc j (Bit driven seen ∷ []) (judged_as b.verdict ++ off_as b.off)

pub record IsOneBit (i j : List Entry) (x v y w : Level) (verdict other : Option (Verdict × List ℕ))
    (off gone : Bool) : Type 0 where
  pub before : i ≡ j
  pub driven : x ≡ v
  pub seen : y ≡ w
  pub verdict_is : verdict ≡ other
  pub off_is : off ≡ gone

pub last_bit : (i j k l : List Entry) (x v y w : Level) (b : HasBit i x y k) (c : HasBit j v w l) → k ≡ l →
    IsOneBit i j x v y w b.verdict c.verdict b.off c.off
last_bit i j k l x v y w b c same =
    let h = bit_once i j x v y w (judged_as b.verdict ++ off_as b.off) (judged_as c.verdict ++ off_as c.off)
    (sym (bit_whole i k x y b) ∙ same ∙ bit_whole j l v w c) (no_bit b.verdict b.off) (no_bit c.verdict c.off) in
    let brought = brought_once b.verdict c.verdict b.off c.off h.behind in
    record { before = h.before; driven = h.driven; seen = h.seen; verdict_is = brought.0; off_is = brought.1 }
