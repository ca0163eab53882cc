-- What words ask for, and what becomes of what is left to threads.
use Rattle.std.proofs.Common.{◌≡◌, ◌⊎◌, ℕ, Bool, List, Option, Some, true, false, sym, subst, inl, inr}
use Rattle.std.proofs.Math.Decide.{dec_lt}
use Rattle.std.specs.Io.KnownBytes.{Keeps}
use Rattle.sja_command_line.specs.Requests.{Request, encode, decode, filter, arbitrate, message, run, wave, trace}
use Rattle.sja_command_line.specs.Requests.{frames}
use Rattle.sja_command_line.specs.Requests.{registers}
use Rattle.sja_command_line.specs.Requests.{picture, candump, check, sweep, struck_plan, spelled_plan, expected, files}
use Rattle.sja_command_line.specs.Requests.{live}
use Rattle.sja_command_line.specs.Words.{ParsesAs}
use Rattle.text_codec.specs.declared.command_refusal.CommandRefusal.TheVariants.{OutOfMemory}
use Rattle.text_codec.specs.declared.command_refusal.CommandRefusal.{CommandRefusal}
use Rattle.sja_program.specs.Answer.{AsksForOne, AsksForRun, IsLeftOver, IsPrinted, IsRefused, Shows, IsLeft}
use Rattle.sja_program.specs.Answer.{request_for, request_left}
use Rattle.sja_program.specs.Run.{IsOfPlan, RefusesText}
use Rattle.sja_program.specs.RunText.{IsTextOfRun}
use Rattle.sja_program.specs.declared.run_text.RunText.{RunText}
use Rattle.sja_program.specs.declared.run_text.RunText.TheVariants.{Report, Wave, Trace, Frames, Picture, Drawing}
use Rattle.sja_program.specs.declared.run_text.RunText.TheVariants.{Candump}
use Rattle.sja_program.specs.declared.thread_task.ThreadTask.{ThreadTask}
use Rattle.sja_program.specs.declared.thread_task.ThreadTask.TheVariants.{Text, Sweep}
use Rattle.sja_program.specs.Input.{ReadsFew}
use Rattle.sja_program.proofs.PlanAnswers.PlanRuns.{plain_refused}
use Rattle.sja_program.proofs.Requested.RefusedMemory.{memory_refused}

-- words ask for one thing
pub asks_one : (words : List (List ℕ)) (r q : Request) → ParsesAs words r → ParsesAs words q → r ≡ q
asks_one words r q one other = cc (one.asks, other.asks)

-- it is left to another call, or it isn't
pub is_left_over : (r : Request) → IsLeftOver r ⊎ ¬ IsLeftOver r
is_left_over (run true) = inl tt
is_left_over (run false) = inr (λ asks. asks)
is_left_over (encode digits) = inr (λ asks. asks)
is_left_over (decode digits) = inr (λ asks. asks)
is_left_over (filter single acr amr digits) = inr (λ asks. asks)
is_left_over (arbitrate messages) = inr (λ asks. asks)
is_left_over (message given) = inr (λ asks. asks)
is_left_over (wave true) = inl tt
is_left_over (wave false) = inr (λ asks. asks)
is_left_over (trace true) = inl tt
is_left_over (trace false) = inr (λ asks. asks)
is_left_over (frames bits true) = inl tt
is_left_over (frames bits false) = inr (λ asks. asks)
is_left_over (picture first last svg true meant) = inl tt
is_left_over (picture first last svg false meant) = inr (λ asks. asks)
is_left_over (candump errors true) = inl tt
is_left_over (candump errors false) = inr (λ asks. asks)
is_left_over (check strict) = inr (λ asks. asks)
is_left_over (sweep w) = elim (dec_lt 1 w.jobs) [ yes more ↦ inl more | no not ↦ inr not ]
is_left_over (struck_plan node bit) = inr (λ asks. asks)
is_left_over (registers bit) = inr (λ asks. asks)
is_left_over spelled_plan = inr (λ asks. asks)
is_left_over (expected threads plan report) = inl tt
is_left_over (files asked jobs names) = inl tt
is_left_over live = inl tt

-- whatever is left to threads asks about a plan
pub asks_left : (left : ThreadTask) → AsksForRun (request_left left)
asks_left (Text Report) = tt
asks_left (Text Wave) = tt
asks_left (Text Trace) = tt
asks_left (Text (Frames bits)) = tt
asks_left (Text (Picture first last meant)) = tt
asks_left (Text (Drawing first last meant)) = tt
asks_left (Text (Candump errors)) = tt
asks_left (Sweep w) = tt

-- a text of a run or a sweep is one answer
pub one_left : (left : ThreadTask) → AsksForOne (request_left left)
one_left (Text Report) = tt
one_left (Text Wave) = tt
one_left (Text Trace) = tt
one_left (Text (Frames bits)) = tt
one_left (Text (Picture first last meant)) = tt
one_left (Text (Drawing first last meant)) = tt
one_left (Text (Candump errors)) = tt
one_left (Sweep w) = tt

-- what is printed of a run in threads is what was left to them
pub left_printed : (what : RunText) (before after : Option (List ℕ)) (text : List ℕ) →
    IsOfPlan (IsTextOfRun true what) before after text → IsPrinted (request_left (Text what)) before after text
left_printed Report before after text has = has
left_printed Wave before after text has = has
left_printed Trace before after text has = has
left_printed (Frames bits) before after text has = has
left_printed (Picture first last meant) before after text has = has
left_printed (Drawing first last meant) before after text has = has
left_printed (Candump errors) before after text has = has

-- and so is what is refused of it
pub left_refused : (what : RunText) (before after : Option (List ℕ)) (why : CommandRefusal) →
    RefusesText true what before after why → IsRefused (request_left (Text what)) before after why
left_refused Report before after why has =
    plain_refused true Report before after why tt has
left_refused Wave before after why has =
    plain_refused true Wave before after why tt has
left_refused Trace before after why has =
    plain_refused true Trace before after why tt has
left_refused (Frames bits) before after why has =
    plain_refused true (Frames bits) before after why tt has
left_refused (Picture first last meant) before after why has = has
left_refused (Drawing first last meant) before after why has = has
left_refused (Candump errors) before after why has =
    plain_refused true (Candump errors) before after why tt has

-- what is printed of a run in one thread is what was asked for
pub once_told : (what : RunText) (before after : Option (List ℕ)) (text : List ℕ) →
    IsOfPlan (IsTextOfRun false what) before after text → IsPrinted (request_for false what) before after text
once_told Report before after text has = has
once_told Wave before after text has = has
once_told Trace before after text has = has
once_told (Frames bits) before after text has = has
once_told (Picture first last meant) before after text has = has
once_told (Drawing first last meant) before after text has = has
once_told (Candump errors) before after text has = has

pub once_printed : (r : Request) (what : RunText) (before after : Option (List ℕ)) (text : List ℕ) →
    r ≡ request_for false what → IsOfPlan (IsTextOfRun false what) before after text → IsPrinted r before after text
once_printed r what before after text asks has =
    subst (λ q. IsPrinted q before after text) (sym asks) (once_told what before after text has)

-- and so is what is refused of it
pub once_denied : (what : RunText) (before after : Option (List ℕ)) (why : CommandRefusal) →
    RefusesText false what before after why → IsRefused (request_for false what) before after why
once_denied Report before after why has =
    plain_refused false Report before after why tt has
once_denied Wave before after why has =
    plain_refused false Wave before after why tt has
once_denied Trace before after why has =
    plain_refused false Trace before after why tt has
once_denied (Frames bits) before after why has =
    plain_refused false (Frames bits) before after why tt has
once_denied (Picture first last meant) before after why has = has
once_denied (Drawing first last meant) before after why has = has
once_denied (Candump errors) before after why has =
    plain_refused false (Candump errors) before after why tt has

pub once_refused : (r : Request) (what : RunText) (before after : Option (List ℕ)) (why : CommandRefusal) →
    r ≡ request_for false what → RefusesText false what before after why → IsRefused r before after why
once_refused r what before after why asks has =
    subst (λ q. IsRefused q before after why) (sym asks) (once_denied what before after why has)

-- what is left to threads, and isn't left, since memory was refused
pub left_shows : (r : Request) (status : ℕ) (failed : Bool)
    (in_old in_new out_old out_new err_old err_new : Option (List ℕ)) → IsLeft (Some status) failed err_old err_new →
    ReadsFew in_old in_new → Keeps out_old out_new → failed ≡ false →
    Shows r (Some status) in_old in_new out_old out_new err_old err_new
left_shows r status failed in_old in_new out_old out_new err_old err_new (inl none) few keeps wrote = cc
left_shows r status failed in_old in_new out_old out_new err_old err_new (inr told) few keeps wrote =
    inr (inl (OutOfMemory, memory_refused r in_old in_new few, told.0, keeps, told.1 wrote))

-- what is shown from where another call left all as it was
pub shows_from : (r q : Request) (status : Option ℕ) (a b c x y z i o e : Option (List ℕ)) → r ≡ q →
    x ≡ a → y ≡ b → z ≡ c → Shows q status x i y o z e → Shows r status a i b o c e
shows_from r q status a b c x y z i o e asks same_in same_out same_err shows =
    rw (asks, sym same_in, sym same_out, sym same_err) shows
