use Rattle.std.proofs.Common.{◌≡◌, ℕ, ◌/◌, true, [], ◌∷◌, arith, rules}
use Rattle.std.proofs.lemmas.Nat.{and_mask}
use Rattle.can_frame.specs.Message.{bit}
use Rattle.can_frame.proofs.BufferLemmas.{bit_small}
use Rattle.can_frame.proofs.message.head_of.Goals as goal

-- five bytes are five others where each is the other
equal : (a b c d e v w x y z : ℕ) → a ≡ v → b ≡ w → c ≡ x → d ≡ y → e ≡ z →
    a ∷ b ∷ c ∷ d ∷ e ∷ [] ≡ v ∷ w ∷ x ∷ y ∷ z ∷ []
equal a b c d e v w x y z h0 h1 h2 h3 h4 = cc

pub returns-then-ext : goal.returns-then-ext
returns-then-ext c =
    let ext : c.args.frame.now.ext ≡ true = cc in
    let id = c.id-id.result in
    let rtr : c.from-rtr.result ≡ bit c.args.frame.now.rtr = search rules in
    let small = bit_small c.args.frame.now.rtr in
    rw (c.of.ensures, ext) (equal _ _ _ _ _ _ _ _ _ _ (omega arith) (omega arith)
    (omega (arith, and_mask (id / 8192) 8)) (omega (arith, and_mask (id / 32) 8)) (omega (arith, and_mask id 5)))
