-- The links of all nodes, of which each is another state of what stood there.
use Rattle.std.proofs.Common.{◌≡◌, ℕ, ◌<◌, List, length, refl, sym, ◌∙◌, arith}
use Rattle.std.specs.Prelude.{slice_index_or, slice_set}
use Rattle.lemmas.specs.Related.{EachRelated}
use Rattle.lemmas.proofs.Related.{each_at, each_one, each_trans}
use Rattle.sja_link.specs.Deques.{Deques, AreAlike}
use Rattle.sja_journal.specs.Links.{AreEnds, HaveLinks}
use Rattle.sja_driver.proofs.OneNode.Slices.{ends_still}

pub alike_refl : (s : Deques) → AreAlike s s
alike_refl s = (refl, refl)

alike_trans : (s t u : Deques) → AreAlike s t → AreAlike t u → AreAlike s u
alike_trans s t u p q = (q.0 ∙ p.0, q.1 ∙ p.1)

-- they are of the same nodes, and made for as many activations
pub still_ends : {nodes : ℕ} {links after : List Deques} → AreEnds (λ (s : Deques). s.node) nodes links →
    EachRelated AreAlike links after → AreEnds (λ (s : Deques). s.node) nodes after
still_ends {nodes} {links} {after} ends sames =
    ends_still (λ (s : Deques). s.node) AreAlike (λ a b e. e.0) nodes links after ends sames

pub still_starts : {nodes : ℕ} (most : ℕ) (links after : List Deques) →
    ((m : ℕ) (l : Deques) → m < nodes → (slice_index_or links m l).starts ≡ most) →
    EachRelated AreAlike links after →
    (m : ℕ) (l : Deques) → m < nodes → (slice_index_or after m l).starts ≡ most
still_starts most links after starts sames m l less =
    each_at AreAlike (λ (s : Deques). s.starts) (λ x y e. e.1) links after m l sames ∙ starts m l less

-- where the bus knows for how many, each has so many
pub links_are : {nodes most starts : ℕ} (links : List Deques) → starts ≡ most → length links ≡ nodes →
    ((m : ℕ) (l : Deques) → m < nodes → (slice_index_or links m l).starts ≡ most) →
    HaveLinks (λ (s : Deques). s.starts) starts links
links_are links known count has m l few = has m l (omega (arith, few, count)) ∙ sym known

-- and those that were left once one of them was exchanged
pub alike_after : (links after : List Deques) {node : ℕ} (old given : Deques) → node < length links →
    AreAlike (slice_index_or links node old) given → EachRelated AreAlike (slice_set links node given) after →
    EachRelated AreAlike links after
alike_after links after {node} old given there one sames =
    each_trans AreAlike alike_trans links (slice_set links node given) after
    (each_one AreAlike alike_refl links node old given there one) sames
