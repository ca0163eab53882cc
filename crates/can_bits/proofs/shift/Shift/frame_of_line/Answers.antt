use Rattle.std.proofs.Common.{◌≡◌, ◌++◌, Option, true, false, refl, sym, subst, ◌∙◌, arith}
use Rattle.can_frame.specs.Frame.{FrameValue}
use Rattle.can_levels.specs.Line.{tail}
use Rattle.can_levels.specs.Streaming.{ShowsFrameBut}
use Rattle.can_bits.proofs.Reader.Past.{past_shows}
use Rattle.can_levels.proofs.LineEnds.{over_part}
use Rattle.can_bits.proofs.shift.Shift.frame_of_line.Goals as goal

pub returns-then-is_past : goal.returns-then-is_past
returns-then-is_past c l h right =
    let ten = c.is_past.ensures.yes l h c.if-is_past.true in
    let shown = c.frame.ensures ten.frame (ten.body ++ ten.check) ten.body ten.check ten.gathers
    (record { frame = ten.is_part.frame; body = ten.is_part.body; check = ten.is_part.check; whole = refl }) in
    let P : Option FrameValue → Type 0 = λ o. ShowsFrameBut 0 l o in
    subst P (sym shown) (past_shows 10 0 l ten (omega arith) refl)

pub returns-else-is_past : goal.returns-else-is_past
returns-else-is_past c l h right = record {
  some = tt;
  only = λ f but.
      let ten =
      c.is_past.ensures.only f l but.body but.check but.line.part (tail but.ack) h right but.line.is_part
      (over_part l (f, but)) refl in
      let wrong : true ≡ false = sym ten ∙ c.if-is_past.false in
      absurd cc;
}
