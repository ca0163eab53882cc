-- Why what is asked of a plan has no answer, in one line or with its mistake: from why there is none of a part of it.
use Rattle.std.proofs.Common.{◌≡◌, ◌⊎◌, ℕ, Bool, List, Option, false, true, ap, inl, inr, subst, sym}
use Rattle.std.specs.Prelude.{Some}
use Rattle.std.specs.Io.KnownBytes.{Appends}
use Rattle.std.proofs.KnownBytes.{Keeps-refl}
use Rattle.sja_plan.specs.Plan.{PlanValue}
use Rattle.sja_command_line.specs.Requests.{Request}
use Rattle.text_codec.specs.declared.command_refusal.CommandRefusal.{CommandRefusal}
use Rattle.text_codec.specs.declared.sweep_refusal.SweepRefusal.{SweepRefusal}
use Rattle.sja_program.specs.Answer.{AsksForRun, IsRefused, Shows, request_for, request_left}
use Rattle.sja_program.specs.Check.{HasMistakeByBytes}
use Rattle.sja_program.specs.PlanTexts.{RefusesTextFor, RefusesTextIn}
use Rattle.sja_program.specs.Input.{IsRead, ReadsFew}
use Rattle.sja_program.specs.Denials.{Denies, DeniesOf, IsDenied, told_of}
use Rattle.sja_program.specs.PlanDocument.{RefusesInputSpelled, RefusesSpelling}
use Rattle.sja_program.specs.Run.{RefusesRun, RefusesRunPlan, RefusesText}
use Rattle.sja_program.specs.Sweep.{RefusesOfPlan}
use Rattle.sja_program.specs.declared.run_text.RunText.{RunText}
use Rattle.sja_program.specs.declared.run_text.RunText.TheVariants.{Report, Wave, Trace, Frames, Picture, Drawing}
use Rattle.sja_program.specs.declared.run_text.RunText.TheVariants.{Candump}
use Rattle.sja_program.specs.declared.thread_task.ThreadTask.{ThreadTask}
use Rattle.sja_program.specs.declared.thread_task.ThreadTask.TheVariants.{Text}
use Rattle.sja_program.specs.declared.unanswered.Unanswered.{Unanswered}
use Rattle.sja_program.specs.declared.unanswered.Unanswered.TheVariants.{Refused, Mistaken}
use Rattle.sja_program.proofs.BytesRead.FewBytes.{few_turned_down, refused_input, refused_once, refused_threads}
use Rattle.sja_program.proofs.PlanAnswers.PlanRefusals.{no_spelling, no_text, of_plan_refused, plan_refused}
use Rattle.sja_program.proofs.PlanAnswers.PlanRefusals.{text_refused}
use Rattle.sja_program.proofs.PlanAnswers.PlanRefusals.{unspelled}
use Rattle.sja_program.proofs.PlanAnswers.PlanRuns.{bytes_refused, document_bytes, document_refused, run_refused}
use Rattle.sja_program.proofs.PlanAnswers.PlanRuns.{threads_refused}
use Rattle.sja_program.proofs.Requested.Requests.{asks_left, left_refused, once_printed, once_refused}
use Rattle.sja_program.proofs.Requested.Showing.{shows_printed, shows_refused}

-- ---- of bytes

-- of the document alone, and of a text of a run of its plan
pub bytes_denied : (threads : Bool) (what : RunText) (bytes : List ℕ) (why : Unanswered) →
    DeniesOf (RefusesRunPlan bytes) bytes why → DeniesOf (RefusesTextIn threads what bytes) bytes why
bytes_denied threads what bytes (Refused r) h = document_bytes threads what bytes r h
bytes_denied threads what bytes (Mistaken text) h = h

pub ruleset of_bytes = (bytes_refused, bytes_denied)

-- of another text of it
pub text_denied : (May : PlanValue → SweepRefusal → Type 0) (bytes : List ℕ) (why : Unanswered) →
    DeniesOf (RefusesRunPlan bytes) bytes why → DeniesOf (RefusesTextFor May bytes) bytes why
text_denied May bytes (Refused r) h = no_text May bytes r h
text_denied May bytes (Mistaken text) h = h

pub ruleset of_text = (text_refused, text_denied)

-- of the plan as it is written
pub spelling_denied : (bytes : List ℕ) (why : Unanswered) → DeniesOf (RefusesRunPlan bytes) bytes why →
    DeniesOf (RefusesSpelling bytes) bytes why
spelling_denied bytes (Refused r) h = no_spelling bytes r h
spelling_denied bytes (Mistaken text) h = h

pub ruleset spelling = (unspelled, spelling_denied)

-- ---- of the input

-- its bytes are no plan to run
pub document_denied : (before after : Option (List ℕ)) (bytes : List ℕ) (why : Unanswered) →
    IsRead before after bytes → DeniesOf (RefusesRunPlan bytes) bytes why → Denies RefusesRun before after why
document_denied before after bytes (Refused r) read h = document_refused before after bytes r read h
document_denied before after bytes (Mistaken text) read h = (bytes, read, h.0, h.1)

pub ruleset of_input = (refused_input, document_denied)

-- so there is no text of a run in one thread
pub once_denied : (what : RunText) (before after : Option (List ℕ)) (why : Unanswered) →
    Denies RefusesRun before after why → Denies (RefusesText false what) before after why
once_denied what before after (Refused r) h = refused_once what before after r h
once_denied what before after (Mistaken text) h = h

pub ruleset no_run = (once_denied, run_refused)

-- nor in threads
pub threads_denied : (what : RunText) (before after : Option (List ℕ)) (why : Unanswered) →
    Denies RefusesRun before after why → Denies (RefusesText true what) before after why
threads_denied what before after (Refused r) h = refused_threads what before after r h
threads_denied what before after (Mistaken text) h = h

pub ruleset no_threads = (threads_denied, threads_refused)

-- nor another text
pub of_plan_denied : (May : PlanValue → SweepRefusal → Type 0) (before after : Option (List ℕ)) (why : Unanswered) →
    Denies RefusesRun before after why → Denies (RefusesOfPlan May) before after why
of_plan_denied May before after (Refused r) h = of_plan_refused May before after r h
of_plan_denied May before after (Mistaken text) h = h

pub ruleset refusals = (of_plan_denied, plan_refused)

-- nor the plan as it is written
pub input_unspelled : (before after : Option (List ℕ)) (bytes : List ℕ) (why : Unanswered) →
    IsRead before after bytes → DeniesOf (RefusesSpelling bytes) bytes why →
    Denies RefusesInputSpelled before after why
input_unspelled before after bytes (Refused r) read h = inr (bytes, read, h)
input_unspelled before after bytes (Mistaken text) read h = (bytes, read, h.0, h.1)

-- ---- of a request

-- of what asks about a plan
pub asked_denied : (request : Request) (Refuses : Option (List ℕ) → Option (List ℕ) → CommandRefusal → Type 0)
    (before after : Option (List ℕ)) (why : Unanswered) → AsksForRun request →
    ((r : CommandRefusal) → Refuses before after r → IsRefused request before after r) →
    Denies Refuses before after why → IsDenied request before after why
asked_denied request Refuses before after (Refused r) asks refused h = refused r h
asked_denied request Refuses before after (Mistaken text) asks refused h = (asks, h)

-- a text of a run asks about one
asks_for : (threads : Bool) (what : RunText) → AsksForRun (request_for threads what)
asks_for threads Report = tt
asks_for threads Wave = tt
asks_for threads Trace = tt
asks_for threads (Frames bits) = tt
asks_for threads (Picture first last meant) = tt
asks_for threads (Drawing first last meant) = tt
asks_for threads (Candump errors) = tt

pub run_denied : (request : Request) (what : RunText) (before after : Option (List ℕ)) (why : Unanswered) →
    request ≡ request_for false what → Denies (RefusesText false what) before after why →
    IsDenied request before after why
run_denied request what before after why asks h =
    asked_denied request (RefusesText false what) before after why (subst AsksForRun (sym asks) (asks_for false what))
    (λ r refused. once_refused request what before after r asks refused) h

-- what is printed of a request, or why it has no answer
pub ruleset once = (once_printed, run_denied)

-- what is left to threads
pub left_denied : (what : RunText) (before after : Option (List ℕ)) (why : Unanswered) →
    Denies (RefusesText true what) before after why → IsDenied (request_left (Text what)) before after why
left_denied what before after why h =
    asked_denied (request_left (Text what)) (RefusesText true what) before after why (asks_left (Text what))
    (λ r refused. left_refused what before after r refused) h

-- few bytes were read
pub few_denied : (request : Request) (before after : Option (List ℕ)) (why : Unanswered) →
    AsksForRun request ⊎ (after ≡ before) → IsDenied request before after why → ReadsFew before after
few_denied request before after (Refused r) asks denied = few_turned_down request before after r asks denied
few_denied request before after (Mistaken text) asks denied = (denied.1.0, denied.1.1.0, denied.1.1.1)

pub few_left_denied : (left : ThreadTask) (before after : Option (List ℕ)) (why : Unanswered) →
    IsDenied (request_left left) before after why → ReadsFew before after
few_left_denied left before after why denied =
    few_denied (request_left left) before after why (inl (asks_left left)) denied

-- what it shows
pub shows_denied : (request : Request) (before after out err_old err_new : Option (List ℕ)) (status : ℕ)
    (why : Unanswered) → IsDenied request before after why → status ≡ 1 → Appends err_old err_new (told_of why) →
    Shows request (Some status) before after out out err_old err_new
shows_denied request before after out err_old err_new status (Refused r) is ended written =
    shows_refused request before after out err_old err_new status r is ended written
shows_denied request before after out err_old err_new status (Mistaken text) is ended written =
    inr (inr (inl (text.items, inr is, ap Some ended, Keeps-refl out, written)))

-- what is printed, or why there is no answer
pub ruleset shows = (shows_printed, shows_denied)
