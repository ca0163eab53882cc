-- The links of all nodes, made one after another.
use Rattle.std.proofs.Common.{◌≡◌, ◌+◌, ℕ, List, [], ◌∷◌, ◌++◌, length, inl, inr, sym, ap, ◌∙◌, arith}
use Rattle.std.specs.Prelude.{slice_index_or}
use Rattle.std.proofs.Math.Seq.{get_or-append_seam}
use Rattle.std.proofs.lemmas.Bool.{cases_eq}
use Rattle.std.proofs.lemmas.List.{length-append, get_or_append_left}
use Rattle.sja_link.specs.Deques.{Deques}
use Rattle.sja_link.specs.NewLinks.{new_links, AreNewLinks}

-- those of one node more
pub links_more : (starts : ℕ) (links : List Deques) (new : Deques) (nodes : ℕ) → new ≡ new_links nodes starts →
    AreNewLinks nodes starts links → AreNewLinks (nodes + 1) starts (links ++ new ∷ [])
links_more starts links new nodes so made =
    let l = length-append links (new ∷ []) in let count = made.count in record {
      count = omega (arith, l, count);
      each = λ k d few. elim (cases_eq k nodes) [
        | inl last ↦
            let here : k ≡ length links = last ∙ sym count in
            ap (λ n. slice_index_or (links ++ new ∷ []) n d) here ∙ get_or-append_seam links new [] d ∙ so
            ∙ ap (λ n. new_links n starts) (sym last)
        | inr other ↦
            get_or_append_left links (new ∷ []) d k (omega (arith, few, other, count))
            ∙ made.each k d (omega (arith, few, other))
      ];
    }
