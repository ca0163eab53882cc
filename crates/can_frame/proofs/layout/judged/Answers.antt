use Rattle.std.proofs.Common.{◌≡◌, [], ◌∷◌, slice_index, ap, arith}
use Rattle.can_frame.specs.Layout.{said_count}
use Rattle.can_frame.proofs.layout.judged.Goals as goal

-- the bytes are as many as the first of them says
pub unused_are_zero-requires : goal.unused_are_zero-requires
unused_are_zero-requires c =
    let first : c.if-is_empty.first ≡ slice_index c.args.bytes.now 0 = grind arith in
    omega (arith, ap (λ x. said_count (x ∷ [])) first)
