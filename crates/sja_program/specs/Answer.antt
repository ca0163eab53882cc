-- What the program does, by what the words ask for (this project's own rule).
use Rattle.std.specs.Prelude.{◌≡◌, ◌⊎◌, ◌<◌, ℕ, Bool, true, false, List, Option, Some, None, Result, Ok, Err, map}
use Rattle.std.specs.Io.KnownBytes.{Appends, Keeps}
use Rattle.sja_command_line.specs.Requests.{Request, encode, decode, filter, arbitrate, message, run, wave, trace}
use Rattle.sja_command_line.specs.Requests.{frames}
use Rattle.sja_command_line.specs.Requests.{registers}
use Rattle.sja_command_line.specs.Requests.{picture, candump, check, sweep, struck_plan, spelled_plan, expected, files}
use Rattle.sja_command_line.specs.Requests.{live}
use Rattle.text_codec.specs.declared.command_refusal.CommandRefusal.{CommandRefusal}
use Rattle.text_codec.specs.declared.command_refusal.CommandRefusal.TheVariants as refusal
use Rattle.text_codec.specs.Arbitrate.{IsArbitration, RefusesMessages}
use Rattle.text_codec.specs.Decode.{IsDecoding, RefusesLine}
use Rattle.text_codec.specs.Encode.{IsEncoding}
use Rattle.text_codec.specs.Filter.{IsFiltering, RefusesFilter}
use Rattle.text_codec.specs.Notation.{IsTranslation}
use Rattle.text_codec.specs.Given.{RefusesGiven}
use Rattle.text_codec.specs.Refusal.{refusal_line}
use Rattle.sja_program.specs.Check.{HasHints, HasMistake, HasMistakeByBytes, IsFine}
use Rattle.sja_program.specs.Input.{ReadsFew, RefusesInput}
use Rattle.sja_program.specs.PlanDocument.{IsInputSpelled, RefusesInputSpelled}
use Rattle.sja_program.specs.Run.{IsOfPlan, RefusesBy, RefusesText}
use Rattle.sja_program.specs.RunText.{IsTextOfRun, MayFault}
use Rattle.sja_program.specs.Registers.{IsTold, RefusesRegisters}
use Rattle.sja_program.specs.Sweep.{IsStruck, IsSwept, RefusesOfPlan, RefusesStruck, RefusesSwept}
use Rattle.sja_program.specs.declared.further_task.FurtherTask.{FurtherTask}
use Rattle.sja_program.specs.declared.further_task.FurtherTask.TheVariants.{Threads, Files, Expected, LiveSession}
use Rattle.sja_program.specs.declared.thread_task.ThreadTask.{ThreadTask}
use Rattle.sja_program.specs.declared.run_text.RunText.{RunText}
use Rattle.sja_program.specs.declared.run_text.RunText.TheVariants.{Report, Wave, Trace, Frames, Picture, Drawing}
use Rattle.sja_program.specs.declared.run_text.RunText.TheVariants.{Candump}
use Rattle.sja_program.specs.declared.thread_task.ThreadTask.TheVariants.{Text, Sweep}

-- a plan is asked about: a text of its run, whether it is one, its sweep, its registers, or the plan as it is written,
-- with a strike more or without; or plans that stand in files; or a session is driven. Else the input isn't read
abbrev pub AsksForRun : Request → Type 0
AsksForRun (run threads) = Unit {0}
AsksForRun (wave threads) = Unit {0}
AsksForRun (trace threads) = Unit {0}
AsksForRun (frames bits threads) = Unit {0}
AsksForRun (picture first last svg threads meant) = Unit {0}
AsksForRun (candump errors threads) = Unit {0}
AsksForRun (check strict) = Unit {0}
AsksForRun (sweep w) = Unit {0}
AsksForRun (struck_plan node bit) = Unit {0}
AsksForRun (registers bit) = Unit {0}
AsksForRun spelled_plan = Unit {0}
AsksForRun (expected threads plan report) = Unit {0}
AsksForRun (files asked jobs names) = Unit {0}
AsksForRun live = Unit {0}
AsksForRun other = ⊥

-- it is left to another call: threads are asked for, for a run with each driver in a thread of its own or for a sweep
-- in more than one; or plans stand in files, or a session is driven
abbrev pub IsLeftOver : Request → Type 0
IsLeftOver (run true) = Unit {0}
IsLeftOver (wave true) = Unit {0}
IsLeftOver (trace true) = Unit {0}
IsLeftOver (frames bits true) = Unit {0}
IsLeftOver (picture first last svg true meant) = Unit {0}
IsLeftOver (candump errors true) = Unit {0}
IsLeftOver (sweep w) = 1 < w.jobs
IsLeftOver (expected threads plan report) = Unit {0}
IsLeftOver (files asked jobs names) = Unit {0}
IsLeftOver live = Unit {0}
IsLeftOver other = ⊥

-- it is `check`
abbrev pub IsCheck : Request → Type 0
IsCheck (check strict) = Unit {0}
IsCheck other = ⊥

-- there is one answer, a text or a refusal: not one of a file or of each, nor those of a session
abbrev pub AsksForOne : Request → Type 0
AsksForOne (expected threads plan report) = ⊥
AsksForOne (files asked jobs names) = ⊥
AsksForOne live = ⊥
AsksForOne other = Unit {0}

-- a text of a run, in threads or in one, as what was asked for
abbrev pub request_for : Bool → RunText → Request
request_for threads Report = run threads
request_for threads Wave = wave threads
request_for threads Trace = trace threads
request_for threads (Frames bits) = frames bits threads
request_for threads (Picture first last meant) = picture first last false threads meant
request_for threads (Drawing first last meant) = picture first last true threads meant
request_for threads (Candump errors) = candump errors threads

-- the text that `picture` asks for: a drawing in SVG (`true`), or a picture
abbrev pub picture_or_drawing : Bool → ℕ → Option ℕ → Bool → RunText
picture_or_drawing true first last meant = Drawing first last meant
picture_or_drawing false first last meant = Picture first last meant

-- what is left to threads, as what was asked for
abbrev pub request_left : ThreadTask → Request
request_left (Text what) = request_for true what
request_left (Sweep w) = sweep w

-- what is left to another call, as what was asked for
abbrev pub request_over : FurtherTask → Request
request_over (Threads threaded) = request_left threaded
request_over (Files w) = files w.question w.jobs (map (λ name. name.now) w.names.items)
request_over (Expected w) = expected w.threads w.plan.now w.report.now
request_over LiveSession = live

-- the exit status, where nothing is left to another call
abbrev pub status_in : Result ℕ FurtherTask → Option ℕ
status_in (Ok status) = Some status
status_in (Err left) = None

-- the request, what the input held before and holds after, and the text that answers the request
abbrev pub IsPrinted : Request → Option (List ℕ) → Option (List ℕ) → List ℕ → Type 0
IsPrinted (encode digits) before after text = IsEncoding digits text
IsPrinted (decode digits) before after text = IsDecoding digits text
IsPrinted (filter single acr amr digits) before after text = IsFiltering single acr amr digits text
IsPrinted (arbitrate messages) before after text = IsArbitration messages text
IsPrinted (message given) before after text = IsTranslation given text
IsPrinted (run threads) before after text = IsOfPlan (IsTextOfRun threads Report) before after text
IsPrinted (wave threads) before after text = IsOfPlan (IsTextOfRun threads Wave) before after text
IsPrinted (trace threads) before after text = IsOfPlan (IsTextOfRun threads Trace) before after text
IsPrinted (frames bits threads) before after text = IsOfPlan (IsTextOfRun threads (Frames bits)) before after text
IsPrinted (picture first last svg threads meant) before after text =
    IsOfPlan (IsTextOfRun threads (picture_or_drawing svg first last meant)) before after text
IsPrinted (candump errors threads) before after text = IsOfPlan (IsTextOfRun threads (Candump errors)) before after text
IsPrinted (check strict) before after text = HasHints before after text × IsFine strict text
IsPrinted (sweep w) before after text = IsOfPlan (IsSwept w) before after text
IsPrinted (struck_plan node bit) before after text = IsOfPlan (IsStruck node bit) before after text
IsPrinted (registers bit) before after text = IsOfPlan (IsTold bit) before after text
IsPrinted spelled_plan before after text = IsInputSpelled before after text
IsPrinted (expected threads plan report) before after text = ⊥
IsPrinted (files asked jobs names) before after text = ⊥
IsPrinted live before after text = ⊥

-- the same, and why the request has no answer
abbrev pub IsRefused : Request → Option (List ℕ) → Option (List ℕ) → CommandRefusal → Type 0
IsRefused (encode given) before after r = RefusesGiven given r
IsRefused (decode digits) before after r = RefusesLine digits r
IsRefused (filter single acr amr digits) before after r = RefusesFilter acr amr digits r
IsRefused (arbitrate messages) before after r = RefusesMessages messages r
IsRefused (message given) before after r = RefusesGiven given r
IsRefused (run threads) before after r = RefusesBy (MayFault threads) before after r
IsRefused (wave threads) before after r = RefusesBy (MayFault threads) before after r
IsRefused (trace threads) before after r = RefusesBy (MayFault threads) before after r
IsRefused (frames bits threads) before after r = RefusesBy (MayFault threads) before after r
IsRefused (picture first last svg threads meant) before after r =
    RefusesText threads (picture_or_drawing svg first last meant) before after r
IsRefused (candump errors threads) before after r = RefusesBy (MayFault threads) before after r
IsRefused (check strict) before after r = RefusesInput before after r
IsRefused (sweep w) before after r = RefusesOfPlan (RefusesSwept w) before after r
IsRefused (struck_plan node bit) before after r = RefusesOfPlan (RefusesStruck node bit) before after r
IsRefused (registers bit) before after r = RefusesOfPlan (RefusesRegisters bit) before after r
IsRefused spelled_plan before after r = RefusesInputSpelled before after r
IsRefused (expected threads plan report) before after r = (r ≡ refusal.OutOfMemory) × ReadsFew before after
IsRefused (files asked jobs names) before after r = (r ≡ refusal.OutOfMemory) × ReadsFew before after
IsRefused live before after r = (r ≡ refusal.OutOfMemory) × ReadsFew before after

-- the same, and what is told of the plan's mistake: `check` tells any, and each other request those of a document that
-- says its version 3 before all other keys
abbrev pub TellsMistake : Request → Option (List ℕ) → Option (List ℕ) → List ℕ → Type 0
TellsMistake request before after text =
    (IsCheck request × HasMistake before after text) ⊎ (AsksForRun request × HasMistakeByBytes before after text)

-- The request, the exit status, and what the input, the output and the error output held before and hold after.
-- Either the text is on the output and the status is 0; or the refusal's line, or what is told of a mistake, is on the
-- error output and the status is 1; or hints that are asked to be none are on the output, and the status is 1. The
-- other writer keeps what it held.
abbrev pub Shows :
    Request → Option ℕ → Option (List ℕ) → Option (List ℕ) → Option (List ℕ) → Option (List ℕ) → Option (List ℕ)
    → Option (List ℕ) → Type 0
Shows request status in_old in_new out_old out_new err_old err_new =
    ((text : List ℕ) × IsPrinted request in_old in_new text × (status ≡ Some 0) × Appends out_old out_new text
    × Keeps err_old err_new)
    ⊎ ((r : CommandRefusal) × IsRefused request in_old in_new r × (status ≡ Some 1) × Keeps out_old out_new
    × Appends err_old err_new (refusal_line r))
    ⊎ ((text : List ℕ) × TellsMistake request in_old in_new text × (status ≡ Some 1) × Keeps out_old out_new
    × Appends err_old err_new text)
    ⊎ ((text : List ℕ) × (request ≡ check true) × HasHints in_old in_new text × (¬ IsFine true text)
    × (status ≡ Some 1) × Appends out_old out_new text × Keeps err_old err_new)

-- What the words ask for is left to another call: there is no status; or memory was refused, and where no write to the
-- error output failed it has that refusal's line.
abbrev pub IsLeft : Option ℕ → Bool → Option (List ℕ) → Option (List ℕ) → Type 0
IsLeft status failed err_old err_new =
    (status ≡ None)
    ⊎ ((status ≡ Some 1) × (failed ≡ false → Appends err_old err_new (refusal_line refusal.OutOfMemory)))

-- The words don't parse: the status is 2 and the error output has the parser's text, or memory was refused.
abbrev pub IsTurnedAway : Option ℕ → Option (List ℕ) → Option (List ℕ) → Type 0
IsTurnedAway status err_old err_new =
    ((text : List ℕ) × (status ≡ Some 2) × Appends err_old err_new text)
    ⊎ ((status ≡ Some 1) × Appends err_old err_new (refusal_line refusal.OutOfMemory))
