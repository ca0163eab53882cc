use Rattle.std.proofs.Common.{rules, ◌≡◌, ℕ, List, [], ◌∷◌, codes, ap, inl, inr}
use Rattle.sja_live.proofs.command_words.of_three_words.Goals.{else-not-is_read-via-then-not-is_read+else-ne}
use Rattle.sja_live.proofs.command_words.of_three_words.Goals.{else-not-is_read-via-else-not-is_read}
use Rattle.sja_live.proofs.command_words.of_three_words.Goals as goal

-- the second word is no node
pub returns-in_default-clause-err : goal.returns-in_default-clause-err
returns-in_default-clause-err c =
    let node = c.args.node.now in let word = c.args.word.now in let no = c.in_default.ensures.err.1 in
    elim c.else-not-is_read.branch [
      | else-not-is_read-via-then-not-is_read+else-ne w ↦
          let name : c.args.name.now ≡ codes "strike" = search rules in
          (node, inr (inr (inr (inl (word, ap (λ (n : List ℕ). n ∷ node ∷ word ∷ []) name)))), no)
      | else-not-is_read-via-else-not-is_read w ↦
          let name : c.args.name.now ≡ codes "read" = search rules in
          (node, inr (inl (word, ap (λ (n : List ℕ). n ∷ node ∷ word ∷ []) name)), no)
    ]

-- the third one is no address
pub returns-in-Err-clause-err : goal.returns-in-Err-clause-err
returns-in-Err-clause-err c =
    let node = c.args.node.now in let word = c.args.word.now in
    let name : c.args.name.now ≡ codes "read" = search rules in (
      node,
      word,
      inl (ap (λ (n : List ℕ). n ∷ node ∷ word ∷ []) name),
      (c.in-Ok.node, c.in-Ok.ensures.ok),
      c.in-Err.ensures.err.1,
    )
