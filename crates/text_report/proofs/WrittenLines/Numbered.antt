-- Lines of all nodes, node by node, and what else is alike of each.
use Rattle.std.proofs.Common.{◌≡◌, ℕ, ◌+◌, List, [], ◌∷◌, ◌++◌, length, sym}
use Rattle.std.proofs.Common.{ap, ◌∙◌, arith, append_assoc}
use Rattle.text_report.specs.ReportLines.{numbered}

-- the lines of some and then of others
pub numbered_both : {A : Type 0} (f : ℕ → A → List ℕ) (n : ℕ) (xs ys : List A) →
    numbered f n (xs ++ ys) ≡ numbered f n xs ++ numbered f (n + length xs) ys
numbered_both f n [] ys = ap (λ m. numbered f m ys) (omega arith)
numbered_both f n (x ∷ xs) ys =
    ap (λ l. f n x ++ l) (numbered_both f (n + 1) xs ys
    ∙ ap (λ m. numbered f (n + 1) xs ++ numbered f m ys) (omega arith))
    ∙ sym (append_assoc (f n x) (numbered f (n + 1) xs) (numbered f (n + length (x ∷ xs)) ys))
