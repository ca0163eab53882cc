use Rattle.std.proofs.lemmas.Result.{IfOk-weaker}
use Rattle.std.specs.Prelude.{string_bytes}
use Rattle.text_codec.specs.declared.command_refusal.CommandRefusal.TheVariants as refusal
use Rattle.sja_program.proofs.PlanAnswers.Places.{is_explained, no_place}
use Rattle.sja_program.proofs.unplaced.unplaced.Goals as goal

-- the run has no place of a strike
pub returns-in_ok-words-in-NoPlace : goal.returns-in_ok-words-in-NoPlace
returns-in_ok-words-in-NoPlace c =
    let number = c.in-NoPlace.number in
    IfOk-weaker c.said_before.result _ _ (λ text is held fault.
    is_explained held text.items (string_bytes c.in_ok-words-in-NoPlace.words) (refusal.Place number)
    (no_place held number c.in-NoPlace.frames c.in-NoPlace.last (rw c.in-NoPlace.is at fault)) is
    c.in_ok-words-in-NoPlace.ensures) c.said_before.ensures

-- the strikes are too many
pub returns-in_ok-words-in-StrikeCount : goal.returns-in_ok-words-in-StrikeCount
returns-in_ok-words-in-StrikeCount c =
    IfOk-weaker c.said_before-in-StrikeCount.result _ _ (λ text is held fault.
    is_explained held text.items (string_bytes c.in_ok-words-in-StrikeCount.words) refusal.Strikes
    (rw c.in-StrikeCount.is at fault) is c.in_ok-words-in-StrikeCount.ensures) c.said_before-in-StrikeCount.ensures
