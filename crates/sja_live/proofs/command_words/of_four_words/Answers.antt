use Rattle.std.proofs.Common.{rules, ◌≡◌, ℕ, List, [], ◌∷◌, codes, ap, inl, inr}
use Rattle.sja_live.proofs.command_words.of_four_words.Goals as goal

-- the second word is no node
pub returns-in_default-clause-err : goal.returns-in_default-clause-err
returns-in_default-clause-err c = λ endless.
    let node = c.args.node.now in let address = c.args.address.now in let value = c.args.value.now in
    let name : c.args.name.now ≡ codes "write" = search rules in
    let is = ap (λ (n : List ℕ). n ∷ node ∷ address ∷ value ∷ []) name in
    (node, inr (inr (inl (address, value, is))), c.in_default.ensures.err.1)

-- the third one is no address
pub returns-in_default-address_of-clause-err : goal.returns-in_default-address_of-clause-err
returns-in_default-address_of-clause-err c = λ endless.
    let node = c.args.node.now in let address = c.args.address.now in let value = c.args.value.now in
    let name : c.args.name.now ≡ codes "write" = search rules in
    let is = ap (λ (n : List ℕ). n ∷ node ∷ address ∷ value ∷ []) name in (
      node,
      address,
      inr (value, is),
      (c.in-Ok.node, c.in-Ok.ensures.ok),
      c.in_default-address_of.ensures.err.1,
    )

-- the fourth one is no value
pub returns-in-Err-clause-err : goal.returns-in-Err-clause-err
returns-in-Err-clause-err c = λ endless.
    let node = c.args.node.now in let address = c.args.address.now in let value = c.args.value.now in
    let name : c.args.name.now ≡ codes "write" = search rules in
    let is = ap (λ (n : List ℕ). n ∷ node ∷ address ∷ value ∷ []) name in (
      node,
      address,
      value,
      c.in-Ok-address_of.address,
      is,
      (c.in-Ok.node, c.in-Ok.ensures.ok),
      c.in-Ok-address_of.ensures.ok,
      c.in-Err.ensures.err.1,
    )
