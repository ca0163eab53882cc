-- What comes of a plan and of the report that is expected of it.
use Rattle.std.proofs.Common.{◌≡◌, ◌∷◌, ◌&&◌, ℕ, Bool, true, false, List, [], Option, Some, None, Result, Ok, Err}
use Rattle.std.proofs.Common.{refl, inl, inr, sym}
use Rattle.std.specs.Prelude.{if◌then◌else◌}
use Rattle.std.specs.Io.KnownBytes.{Appends, Keeps}
use Rattle.std.proofs.lemmas.List.{append-nil}
use Rattle.text_codec.specs.declared.command_refusal.CommandRefusal.TheVariants.{OutOfMemory}
use Rattle.sja_program.specs.Answer.{IsLeft}
use Rattle.sja_run.specs.Expected.{MeetsPlan, ShowsExpected}
use Rattle.sja_run.specs.Files.{status_of}
use Rattle.sja_run.specs.Inside.FileReads.{IsMetBy, IsReadOf}
use Rattle.sja_run.specs.declared.file_outcome.FileOutcome.{FileOutcome}
use Rattle.sja_run.specs.declared.file_outcome.FileOutcome.TheVariants.{Refused}

-- of what was read under the plan's name
pub met_from : {V : Type 0} (items : V → List ℕ) (Holds : List ℕ → Option (List ℕ) → Type 0) (threads : Bool)
    (expected plan : List ℕ) (a b : Option (List ℕ)) (read : Result V FileOutcome) (outcome : FileOutcome) →
    IsReadOf items Holds plan a b read → IsMetBy items threads expected read outcome →
    MeetsPlan Holds threads expected plan a b outcome
met_from items Holds threads expected plan a b (Ok bytes) outcome is met = inl (items bytes, is, met)
met_from items Holds threads expected plan a b (Err given) outcome is met = inr (rw met is)

-- nothing more is known
appends_nothing : (old new : Option (List ℕ)) → Keeps old new → Appends old new []
appends_nothing None new keeps = tt
appends_nothing (Some xs) None keeps = keeps
appends_nothing (Some xs) (Some ys) keeps = rw (append-nil xs) keeps

-- nothing was read or written but that memory was refused
pub met_unread : (Holds : List ℕ → Option (List ℕ) → Type 0) (threads : Bool) (plan report : List ℕ) (status : ℕ)
    (failed : Bool) (in_old in_new out_old out_new err_old err_new : Option (List ℕ)) →
    IsLeft (Some status) failed err_old err_new → in_new ≡ in_old → Keeps out_old out_new → failed ≡ false →
    ShowsExpected Holds threads plan report status in_old in_new out_old out_new err_old err_new
met_unread Holds threads plan report status failed in_old in_new out_old out_new err_old err_new (inl none) unread keeps
    wrote = cc
met_unread Holds threads plan report status failed in_old in_new out_old out_new err_old err_new (inr told) unread keeps
    wrote = (
      report,
      Refused OutOfMemory,
      inr (inr (refl, refl, unread)),
      cc told.0,
      appends_nothing out_old out_new keeps,
      told.1 wrote,
    )

-- from where another call left all as it was
pub shows_met : (Holds : List ℕ → Option (List ℕ) → Type 0) (threads was_threads : Bool)
    (plan was_plan report was_report : List ℕ) (status : ℕ) (a b c x y z i o e : Option (List ℕ)) →
    threads ≡ was_threads → plan ≡ was_plan → report ≡ was_report → x ≡ a → y ≡ b → z ≡ c →
    ShowsExpected Holds was_threads was_plan was_report status x i y o z e →
    ShowsExpected Holds threads plan report status a i b o c e
shows_met Holds threads was_threads plan was_plan report was_report status a b c x y z i o e same_threads same_plan
    same_report same_in same_out same_err shows =
    rw (same_threads, same_plan, same_report, sym same_in, sym same_out, sym same_err) shows
