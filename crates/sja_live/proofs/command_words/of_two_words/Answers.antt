use Rattle.std.proofs.Common.{ℕ, List, [], ◌∷◌, ap, inl, inr}
use Rattle.sja_live.proofs.command_words.of_two_words.Goals as goal

-- the word behind `answer` is no node
pub returns-in-Err-node_within-clause-err : goal.returns-in-Err-node_within-clause-err
returns-in-Err-node_within-clause-err c = λ version endless.
    let word = c.args.word.now in
    let is = ap (λ (n : List ℕ). n ∷ word ∷ []) c.in-answer.is in
    (word, inr (inr (inr (inr (inl is)))), c.in-Err-node_within.ensures.err.1)

-- the word behind `place` is no node
pub returns-in-Err-node_within-2-clause-err : goal.returns-in-Err-node_within-2-clause-err
returns-in-Err-node_within-2-clause-err c = λ version endless.
    let word = c.args.word.now in
    let is = ap (λ (n : List ℕ). n ∷ word ∷ []) c.in-place.is in
    (word, inr (inr (inr (inr (inr (inl is))))), c.in-Err-node_within-2.ensures.err.1)
