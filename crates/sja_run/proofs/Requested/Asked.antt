-- What is done of a request, by what is done of one of its kind.
use Rattle.std.proofs.Common.{◌≡◌, ℕ, Bool, List, Option, Some, refl}
use Rattle.sja_command_line.specs.Requests.{Request, encode, decode, filter, arbitrate, message, run, wave, trace}
use Rattle.sja_command_line.specs.Requests.{frames}
use Rattle.sja_command_line.specs.Requests.{registers}
use Rattle.sja_command_line.specs.Requests.{picture, candump, check, sweep, struck_plan, spelled_plan, expected, files}
use Rattle.sja_command_line.specs.Requests.{live}
use Rattle.sja_command_line.specs.declared.plan_question.PlanQuestion.{PlanQuestion}
use Rattle.sja_program.specs.Answer.{AsksForOne, Shows}
use Rattle.sja_run.specs.Asked.{ShowsAsked}
use Rattle.sja_run.specs.Expected.{ShowsExpected}
use Rattle.sja_run.specs.Files.{ShowsFiles}
use Rattle.sja_run.specs.Live.{ShowsLiveSession}

module _ (Holds : List ℕ → Option (List ℕ) → Type 0) (status : ℕ)
    (in_old in_new out_old out_new err_old err_new : Option (List ℕ)) where
  pub shows_asked : (r : Request) →
      (AsksForOne r → Shows r (Some status) in_old in_new out_old out_new err_old err_new) →
      ((asked : PlanQuestion) (jobs : ℕ) (names : List (List ℕ)) → r ≡ files asked jobs names →
      ShowsFiles Holds asked names status in_old in_new out_old out_new err_old err_new) →
      ((threads : Bool) (plan report : List ℕ) → r ≡ expected threads plan report →
      ShowsExpected Holds threads plan report status in_old in_new out_old out_new err_old err_new) →
      (r ≡ live → ShowsLiveSession status in_old in_new out_old out_new err_old err_new) →
      ShowsAsked Holds r status in_old in_new out_old out_new err_old err_new
  shows_asked (encode digits) one of_files expects talks = one tt
  shows_asked (decode digits) one of_files expects talks = one tt
  shows_asked (filter single acr amr digits) one of_files expects talks = one tt
  shows_asked (arbitrate messages) one of_files expects talks = one tt
  shows_asked (message given) one of_files expects talks = one tt
  shows_asked (run threads) one of_files expects talks = one tt
  shows_asked (wave threads) one of_files expects talks = one tt
  shows_asked (trace threads) one of_files expects talks = one tt
  shows_asked (frames bits threads) one of_files expects talks = one tt
  shows_asked (picture first last svg threads meant) one of_files expects talks = one tt
  shows_asked (candump errors threads) one of_files expects talks = one tt
  shows_asked (check strict) one of_files expects talks = one tt
  shows_asked (sweep w) one of_files expects talks = one tt
  shows_asked (struck_plan node bit) one of_files expects talks = one tt
  shows_asked (registers bit) one of_files expects talks = one tt
  shows_asked spelled_plan one of_files expects talks = one tt
  shows_asked (expected threads plan report) one of_files expects talks = expects threads plan report refl
  shows_asked (files asked jobs names) one of_files expects talks = of_files asked jobs names refl
  shows_asked live one of_files expects talks = talks refl

  -- of one that asks for one answer
  pub one_asked : (r : Request) → AsksForOne r →
      Shows r (Some status) in_old in_new out_old out_new err_old err_new →
      ShowsAsked Holds r status in_old in_new out_old out_new err_old err_new
  one_asked (encode digits) plain shows = shows
  one_asked (decode digits) plain shows = shows
  one_asked (filter single acr amr digits) plain shows = shows
  one_asked (arbitrate messages) plain shows = shows
  one_asked (message given) plain shows = shows
  one_asked (run threads) plain shows = shows
  one_asked (wave threads) plain shows = shows
  one_asked (trace threads) plain shows = shows
  one_asked (frames bits threads) plain shows = shows
  one_asked (picture first last svg threads meant) plain shows = shows
  one_asked (candump errors threads) plain shows = shows
  one_asked (check strict) plain shows = shows
  one_asked (sweep w) plain shows = shows
  one_asked (struck_plan node bit) plain shows = shows
  one_asked (registers bit) plain shows = shows
  one_asked spelled_plan plain shows = shows
  one_asked (expected threads plan report) plain shows = absurd plain
  one_asked (files asked jobs names) plain shows = absurd plain
  one_asked live plain shows = absurd plain
