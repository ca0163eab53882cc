use Rattle.std.proofs.Common.{◌≡◌, ℕ, List, [], ◌∷◌, slice_index, ap, sym, ◌∙◌, arith}
use Rattle.can_frame.proofs.MessageLemmas.{least}
use Rattle.can_frame.proofs.message.MessageDefault.default.Goals as goal

-- three bytes, the first two of them 0, are zeros where the last is
zeros : (bytes : List ℕ) (last : ℕ) → bytes ≡ 0 ∷ 0 ∷ last ∷ [] → slice_index bytes 2 ≡ 0 → bytes ≡ 0 ∷ 0 ∷ 0 ∷ []
zeros bytes last e zero = e ∙ ap (λ x. 0 ∷ 0 ∷ x ∷ []) (sym (ap (λ l. slice_index l 2) e) ∙ zero)

pub returns : goal.returns
returns c = zeros _ _ c.of.ensures (omega (arith, ap (λ l. slice_index l 2) c.of.ensures))

-- the bytes are the message of the standard data frame with identifier 0 and no data
pub invariant_of-result : goal.invariant_of-result
invariant_of-result c = rw (returns c) least
