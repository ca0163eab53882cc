-- What a request shows, where its text was printed or it was refused.
use Rattle.std.proofs.Common.{◌≡◌, ℕ, Bool, List, ap, inl, inr, subst}
use Rattle.std.specs.Prelude.{Option, Some}
use Rattle.std.specs.Io.KnownBytes.{Appends}
use Rattle.std.proofs.KnownBytes.{Keeps-refl}
use Rattle.sja_command_line.specs.Requests.{Request, check}
use Rattle.text_codec.specs.declared.command_refusal.CommandRefusal.{CommandRefusal}
use Rattle.text_codec.specs.Refusal.{refusal_line}
use Rattle.sja_program.specs.Answer.{IsPrinted, IsRefused, Shows}
use Rattle.sja_program.specs.Check.{HasHints}
use Rattle.sja_program.specs.Replies.{IsJudged}

pub shows_printed : (request : Request) (before after out_old out_new err : Option (List ℕ)) (status : ℕ)
    (text bytes : List ℕ) → IsPrinted request before after text → status ≡ 0 → bytes ≡ text →
    Appends out_old out_new bytes → Shows request (Some status) before after out_old out_new err err
shows_printed request before after out_old out_new err status text bytes is ended same written =
    inl (text, is, ap Some ended, subst (Appends out_old out_new) same written, Keeps-refl err)

pub shows_refused : (request : Request) (before after out err_old err_new : Option (List ℕ)) (status : ℕ)
    (why : CommandRefusal) → IsRefused request before after why → status ≡ 1 →
    Appends err_old err_new (refusal_line why) → Shows request (Some status) before after out out err_old err_new
shows_refused request before after out err_old err_new status why is ended written =
    inr (inl (why, is, ap Some ended, Keeps-refl out, written))

-- what a run left out
pub shows_hints : (strict : Bool) (before after out_old out_new err : Option (List ℕ)) (status : ℕ) (text : List ℕ) →
    HasHints before after text → IsJudged strict text status → Appends out_old out_new text →
    Shows (check strict) (Some status) before after out_old out_new err err
shows_hints strict before after out_old out_new err status text has (inl fine) written =
    inl (text, (has, fine.1), ap Some fine.0, written, Keeps-refl err)
shows_hints strict before after out_old out_new err status text has (inr told) written =
    inr (inr (inr (text, ap check told.1, has, told.2, ap Some told.0, written, Keeps-refl err)))
