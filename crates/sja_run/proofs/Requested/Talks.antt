-- What becomes of `live`: a talk, or memory that was refused before one.
use Rattle.std.proofs.Common.{◌≡◌, ◌⊎◌, ℕ, Bool, List, [], Option, Some, None, false, refl, sym, subst, inl, inr}
use Rattle.std.proofs.lemmas.List.{append-nil}
use Rattle.sja_live.specs.Talking.{IsBrokenOff, Speaks}
use Rattle.sja_live.specs.declared.live_session_fault.LiveSessionFault.TheVariants.{Memory}
use Rattle.text_codec.specs.declared.command_refusal.CommandRefusal.TheVariants.{OutOfMemory}
use Rattle.sja_program.specs.Answer.{IsLeft}
use Rattle.sja_run.specs.Live.{ShowsLiveSession}

-- nothing was read or written
pub silent : (input out : Option (List ℕ)) → Speaks input input out out (IsBrokenOff Memory)
silent None out = tt
silent (Some input) None = tt
silent (Some input) (Some old) = ([], sym (append-nil old), inl (refl, inl ([], tt, refl)))

-- no talk was begun, since memory was refused
pub left_talks : (status : ℕ) (failed : Bool) (in_old in_new out_old out_new err_old err_new : Option (List ℕ)) →
    IsLeft (Some status) failed err_old err_new → in_new ≡ in_old → out_new ≡ out_old → failed ≡ false →
    ShowsLiveSession status in_old in_new out_old out_new err_old err_new
left_talks status failed in_old in_new out_old out_new err_old err_new (inl none) unread same wrote = cc
left_talks status failed in_old in_new out_old out_new err_old err_new (inr told) unread same wrote =
    let broken = subst (λ o. Speaks in_old in_new out_old o (IsBrokenOff Memory)) (sym same)
    (subst (λ i. Speaks in_old i out_old out_old (IsBrokenOff Memory)) (sym unread) (silent in_old out_old)) in
    inr (Memory, OutOfMemory, refl, cc told.0, broken, told.1 wrote)

-- a talk from where another call left all as it was
pub talks_from : (status : ℕ) (a b c x y z i o e : Option (List ℕ)) → x ≡ a → y ≡ b → z ≡ c →
    ShowsLiveSession status x i y o z e → ShowsLiveSession status a i b o c e
talks_from status a b c x y z i o e same_in same_out same_err shows =
    rw (sym same_in, sym same_out, sym same_err) shows
