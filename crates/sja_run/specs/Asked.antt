-- What the program does of a request, whichever it is (this project's own rule).
use Rattle.std.specs.Prelude.{ℕ, List, Option, Some}
use Rattle.sja_command_line.specs.Requests.{Request, expected, files, live}
use Rattle.sja_program.specs.Answer.{Shows}
use Rattle.sja_run.specs.Expected.{ShowsExpected}
use Rattle.sja_run.specs.Files.{ShowsFiles}
use Rattle.sja_run.specs.Live.{ShowsLiveSession}

-- What stands under names, the request, the exit status, and what the input, the output and the error output held
-- before and hold after.
abbrev pub ShowsAsked :
    (List ℕ → Option (List ℕ) → Type 0) → Request → ℕ → Option (List ℕ) → Option (List ℕ) → Option (List ℕ)
    → Option (List ℕ) → Option (List ℕ) → Option (List ℕ) → Type 0
ShowsAsked Holds (files asked jobs names) status in_old in_new out_old out_new err_old err_new =
    ShowsFiles Holds asked names status in_old in_new out_old out_new err_old err_new
ShowsAsked Holds (expected threads plan report) status in_old in_new out_old out_new err_old err_new =
    ShowsExpected Holds threads plan report status in_old in_new out_old out_new err_old err_new
ShowsAsked Holds live status in_old in_new out_old out_new err_old err_new =
    ShowsLiveSession status in_old in_new out_old out_new err_old err_new
ShowsAsked Holds other status in_old in_new out_old out_new err_old err_new =
    Shows other (Some status) in_old in_new out_old out_new err_old err_new
