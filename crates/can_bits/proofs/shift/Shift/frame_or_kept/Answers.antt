use Rattle.std.proofs.Common.{◌≡◌, ◌+◌, ◌++◌, ◌∷◌, length, replicate, Option, true, false, refl, sym, subst, ◌∙◌, arith}
use Rattle.can_frame.specs.Frame.{FrameValue}
use Rattle.can_levels.specs.declared.level.Level.TheVariants.{Recessive}
use Rattle.can_levels.specs.Streaming.{ShowsFrame}
use Rattle.can_bits.proofs.Reader.Past.{past_shows}
use Rattle.can_bits.proofs.DueLemmas.{past_length, sixth_part}
use Rattle.can_bits.proofs.shift.Shift.frame_or_kept.Goals as goal

-- `sixth` proves nothing here: by it a wrong body is refused with values
pub returns-then-is_past : goal.returns-then-is_past
returns-then-is_past c l h right =
    let nine = c.is_past.ensures.yes l h c.if-is_past.true in
    let sixth : length l ≡ length nine.part + 9 = omega (arith, past_length l nine) in
    let shown = c.frame_in.ensures nine.frame (nine.body ++ nine.check) nine.body nine.check nine.gathers
    (record { frame = nine.is_part.frame; body = nine.is_part.body; check = nine.is_part.check; whole = refl }) in
    let P : Option FrameValue → Type 0 = λ o. ShowsFrame l o in
    subst P (sym shown) (past_shows 9 1 l nine (omega arith) refl)

pub returns-else-is_past : goal.returns-else-is_past
returns-else-is_past c l h right = record {
  some = tt;
  only = λ f but.
      let nine =
      c.is_past.ensures.only f l but.body but.check but.line.part (Recessive ∷ but.ack ∷ replicate 7 Recessive) h right
      but.line.is_part (sixth_part f l but) refl in
      let wrong : true ≡ false = sym nine ∙ c.if-is_past.false in
      absurd cc;
}
