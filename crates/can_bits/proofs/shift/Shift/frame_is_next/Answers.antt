use Rattle.std.proofs.Common.{◌∷◌, [], replicate, refl}
use Rattle.can_levels.specs.declared.level.Level.TheVariants.{Recessive}
use Rattle.can_levels.proofs.Readables.{readable_front}
use Rattle.can_bits.proofs.Reader.QuickPast.{frame_with, eight_before}
use Rattle.can_bits.proofs.shift.Shift.frame_is_next.Goals as goal

pub returns : goal.returns
returns c l x h right = (
  λ t. frame_with l x (c.is_past.ensures.yes l h t) right,
  λ shown.
      let but = shown.1 in
      c.is_past.ensures.only shown.0 l but.body but.check but.line.part (Recessive ∷ but.ack ∷ replicate 6 Recessive) h
      (readable_front l (x ∷ []) right) but.line.is_part (eight_before shown.0 l x but) refl,
)
