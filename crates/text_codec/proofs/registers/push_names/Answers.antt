use Rattle.std.proofs.Common.{◌≡◌, ◌++◌, ℕ, List, ap, ◌∙◌, append_assoc}
use Rattle.text_codec.proofs.registers.push_names.Goals as goal

-- a text that grew by two parts, one after the other
both : (old mid new a b : List ℕ) → mid ≡ old ++ a → new ≡ mid ++ b → new ≡ old ++ (a ++ b)
both old mid new a b first second = second ∙ ap (λ (l : List ℕ). l ++ b) first ∙ append_assoc old a b

pub returns : goal.returns
returns c =
    let p6 = both _ _ _ _ _ c.in_ok-push_place.ensures c.in_ok-push_place-2.ensures in
    let p5 = both _ _ _ _ _ p6 c.in_ok-push_place-3.ensures in
    let p4 = both _ _ _ _ _ p5 c.in_ok-push_place-4.ensures in
    let p3 = both _ _ _ _ _ p4 c.in_ok-push_place-5.ensures in
    let p2 = both _ _ _ _ _ p3 c.in_ok-push_place-6.ensures in
    let p1 = both _ _ _ _ _ p2 c.in_ok-push_place-7.ensures in
    both _ _ _ _ _ p1 c.in_ok-push_place-8.ensures
