use Rattle.std.proofs.Common.{inl, inr, sym, ◌∙◌, w8}
use Rattle.std.proofs.lemmas.Bool.{cases_eq}
use Rattle.std.proofs.lemmas.Nat.Bits.{bit_at_set_same, bit_at_set_other}
use Rattle.sja_bus.proofs.struck_nodes.StruckNodes.add.Goals as goal

pub returns : goal.returns
returns c = λ other.
    let mask = c.args.self.now.mask in let node = c.args.node in
    elim (cases_eq other node) [
      | inl same ↦ (λ h. inr same, λ h. rw same (bit_at_set_same w8 mask node c.requires))
      | inr differs ↦
          let kept = bit_at_set_other w8 mask node c.requires other differs in
          (λ h. inl (sym kept ∙ h), λ h. elim h [ inl was ↦ kept ∙ was | inr same ↦ absurd (differs same) ])
    ]
