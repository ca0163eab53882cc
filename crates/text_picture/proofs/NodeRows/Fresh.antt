-- Rows before the first bit, and what is written of a block.
use Rattle.std.proofs.Common.{◌≡◌, ℕ, ◌+◌, ◌<◌, ◌≤◌, zero, suc, List, [], ◌∷◌, ◌++◌, length, take}
use Rattle.std.proofs.Common.{sym, ap, ◌∙◌, subst, append_assoc, arith}
use Rattle.std.proofs.lemmas.List.{take_all}
use Rattle.lemmas.specs.Related.{EachRelated}
use Rattle.sja_log.specs.Log.{NodeValue}
use Rattle.text_report.proofs.WrittenLines.Written.{four_texts}
use Rattle.text_trace.specs.declared.node_trace.NodeTrace.{NodeTrace}
use Rattle.text_picture.specs.Pages.{AreFirst}

-- what stands beside the nodes so far, each of which is so
abbrev pub AreSo : {A : Type 0} → (A → Type 0) → List NodeValue → List A → Type 0
AreSo P nodes rows = EachRelated (λ n x. P x) nodes rows

-- none yet
pub fresh_none : {A : Type 0} (P : A → Type 0) (nodes : List NodeValue) (rows : List A) → rows ≡ [] →
    AreSo P (take 0 nodes) rows
fresh_none P nodes rows none = subst (AreSo P []) (sym none) tt

-- those of one node more
fresh_behind : {A : Type 0} (P : A → Type 0) (nodes : List NodeValue) (i : ℕ) (rows : List A) (r : A) →
    i < length nodes → P r → AreSo P (take i nodes) rows → AreSo P (take (suc i) nodes) (rows ++ r ∷ [])
fresh_behind P [] i rows r less is are = absurd (omega (arith, less))
fresh_behind P (n ∷ nodes) zero [] r less is are = (is, tt)
fresh_behind P (n ∷ nodes) zero (x ∷ rows) r less is are = absurd are
fresh_behind P (n ∷ nodes) (suc i) [] r less is are = absurd are
fresh_behind P (n ∷ nodes) (suc i) (x ∷ rows) r less is are =
    (are.0, fresh_behind P nodes i rows r (omega (arith, less)) is are.1)

pub fresh_more : {A : Type 0} (P : A → Type 0) (nodes : List NodeValue) (i : ℕ) (rows all : List A) (r : A) →
    i < length nodes → P r → AreSo P (take i nodes) rows → all ≡ rows ++ r ∷ [] → AreSo P (take (i + 1) nodes) all
fresh_more P nodes i rows all r less is are pushed =
    let one : suc i ≡ i + 1 = omega arith in
    let Q : ℕ → Type 0 = λ n. AreSo P (take n nodes) all in
    subst Q one (subst (AreSo P (take (suc i) nodes)) (sym pushed) (fresh_behind P nodes i rows r less is are))

-- all
pub fresh_all : {A : Type 0} (P : A → Type 0) (nodes : List NodeValue) (i : ℕ) (rows : List A) → length nodes ≤ i →
    AreSo P (take i nodes) rows → AreSo P nodes rows
fresh_all P nodes i rows past are =
    let Q : List NodeValue → Type 0 = λ l. AreSo P l rows in subst Q (take_all i nodes past) are

-- a block's texts, one behind the other
pub block_texts : (old t1 t2 t3 t4 a b c d : List ℕ) → t1 ≡ old ++ a → t2 ≡ t1 ++ b → t3 ≡ t2 ++ c → t4 ≡ t3 ++ d →
    t4 ≡ old ++ (a ++ ((b ++ c) ++ d))
block_texts old t1 t2 t3 t4 a b c d p q r s =
    four_texts old t1 t2 t3 t4 a b c d p q r s
    ∙ ap (λ l. old ++ l) (ap (λ l. l ++ d) (append_assoc a b c) ∙ append_assoc a (b ++ c) d)

-- node traces and rows that were lent to a call as slices
pub lent_first : (nodes given : List NodeValue) (ts lent : List NodeTrace) → given ≡ nodes → lent ≡ ts →
    AreFirst given ts → AreFirst nodes lent
lent_first nodes given ts lent same is first =
    let P : List NodeValue → Type 0 = λ l. AreFirst l lent in
    subst P same (subst (AreFirst given) (sym is) first)

pub lent_fresh : {A : Type 0} (P : A → Type 0) (nodes given : List NodeValue) (rows lent : List A) → given ≡ nodes →
    lent ≡ rows → AreSo P given rows → AreSo P nodes lent
lent_fresh P nodes given rows lent same is fresh =
    let Q : List NodeValue → Type 0 = λ l. AreSo P l lent in subst Q same (subst (AreSo P given) (sym is) fresh)
