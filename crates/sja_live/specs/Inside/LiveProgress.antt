-- What the functions that go on with a talk promise of one another.
use Rattle.std.specs.Prelude.{◌≡◌, ◌⊎◌, ◌++◌, Option, Some, None, Result, Ok, Err, List, []}
use Rattle.std.specs.Io.KnownBytes.{Appends}
use Rattle.sja_driver.specs.StepRuns.{StepRun}
use Rattle.sja_session.specs.Sessions.{SessionValue}
use Rattle.sja_live.specs.Beginning.{IsNewOf}
use Rattle.sja_live.specs.Inside.Standing.{IsLiveAt}
use Rattle.sja_live.specs.Ending.{IsLastText}
use Rattle.sja_live.specs.Lines.{first_line, behind_line, IsReadable}
use Rattle.sja_live.specs.Opening.{Opens, IsOpeningFault}
use Rattle.sja_live.specs.Talking.{EndsLiveSession, HasTalked, Replies}
use Rattle.sja_live.specs.declared.live_answer.LiveAnswer.{LiveAnswer}
use Rattle.sja_live.specs.declared.opening.Opening.{Opening}
use Rattle.sja_live.specs.declared.opening_fault.OpeningFault.{OpeningFault}
use Rattle.sja_plan_reading.specs.Words.{Text}

-- ---- the first line

-- the first line of the input opens this session, or none for this reason, and what stands behind it is left
abbrev pub FirstIs : Text → Text → Result Opening OpeningFault → Type 0
FirstIs input left (Ok opening) =
    ¬ (input ≡ []) × IsReadable (first_line input) × Opens (first_line input) opening × (left ≡ behind_line input)
FirstIs input left (Err fault) = IsOpeningFault (first_line input) fault × (left ≡ behind_line input)

-- where the bytes are known
abbrev pub FirstSays : Option Text → Option Text → Result Opening OpeningFault → Type 0
FirstSays (Some input) (Some left) said = FirstIs input left said
FirstSays (Some input) None said = ⊥
FirstSays None left said = Unit {0}

-- ---- each further one

-- the session answers a line so, or the line is its end
abbrev pub IsAnswerOf : SessionValue → SessionValue → List (List StepRun) → Text → Option LiveAnswer → Type 0
IsAnswerOf was now step_runs line (Some answer) =
    (after : List (List StepRun)) × Replies was now step_runs line answer after × IsLiveAt now after
IsAnswerOf was now step_runs line None = (now ≡ was) × EndsLiveSession was line

-- the next line of the input is answered so; or it ends the talk, or there is none. What stands behind it is left
abbrev pub IsNext : Text → Text → SessionValue → SessionValue → List (List StepRun) → Option LiveAnswer → Type 0
IsNext input left was now step_runs (Some answer) =
    ¬ (input ≡ []) × IsAnswerOf was now step_runs (first_line input) (Some answer) × (left ≡ behind_line input)
IsNext input left was now step_runs None =
    (now ≡ was) × ((input ≡ []) ⊎ (¬ (input ≡ []) × EndsLiveSession was (first_line input)))
    × (left ≡ behind_line input)

-- where the bytes are known
abbrev pub IsNextAnswer :
    Option Text → Option Text → SessionValue → SessionValue → List (List StepRun) → Option LiveAnswer → Type 0
IsNextAnswer (Some input) (Some left) was now step_runs next = IsNext input left was now step_runs next
IsNextAnswer (Some input) None was now step_runs next = ⊥
IsNextAnswer None left was now step_runs next = Unit {0}

-- ---- the end

-- the report of the session's log was written, or that there is none
abbrev pub AppendsReport : Option Text → Option Text → SessionValue → List (List StepRun) → Type 0
AppendsReport old new session step_runs =
    (text : Text) × IsLastText session step_runs text × Appends old new text

-- ---- on the way

-- a session was opened, lines were answered, and it stands where they led; the writer has their answers more
abbrev pub Goes : Option Text → Option Text → Option Text → Option Text → SessionValue → Type 0
Goes None rest old new s = Unit {0}
Goes (Some input) rest None new s = Unit {0}
Goes (Some input) None (Some old) new s = ⊥
Goes (Some input) (Some rest) (Some old) None s = ⊥
Goes (Some input) (Some rest) (Some old) (Some new) s =
    (said : Text) × (step_runs : List (List StepRun)) × IsLiveAt s step_runs × HasTalked input rest s step_runs said
    × (new ≡ old ++ said)

-- the first line opened this session, and what stands behind it is left
pub record IsBegun (input left : Option Text) (s : SessionValue) : Type 0 where
  pub opening : Opening
  pub said : FirstSays input left (Ok opening)
  pub new : IsNewOf s opening

-- lines were answered, and the next one, behind which this is left, ends the talk, or there is none
pub record IsOver (input left old new : Option Text) (now : SessionValue) : Type 0 where
  pub last : SessionValue
  pub rest : Option Text
  pub goes : Goes input rest old new last
  pub ends : (step_runs : List (List StepRun)) → IsLiveAt last step_runs →
      IsNextAnswer rest left last now step_runs None
