-- A talk with `sja live` (this project's own rule): the first line opens a session, each further line is answered
-- before the next one is read, and `end` or the end of the input ends the talk with the report, or with a line that a
-- session without an end has none.
use Rattle.std.specs.Prelude.{◌≡◌, ◌⊎◌, ◌<◌, ◌≤◌, ◌++◌, Option, Some, None, List, [], ◌∷◌, length, replicate, IsUtf8}
use Rattle.sja_driver.specs.StepRuns.{StepRun}
use Rattle.sja_session.specs.Sessions.{SessionValue}
use Rattle.sja_live.specs.AnswerTexts.{answer_text, opened_text, opening_text}
use Rattle.sja_live.specs.Answering.{Answers}
use Rattle.sja_live.specs.Beginning.{IsNewOf, is_endless}
use Rattle.sja_live.specs.Commands.{AsksFor, lacks_end}
use Rattle.sja_live.specs.Ending.{IsLastText}
use Rattle.sja_live.specs.Lines.{most_line, first_line, behind_line, HasBegun, LeadsOn, IsReadable}
use Rattle.sja_live.specs.Mistakes.{IsMistaken}
use Rattle.sja_live.specs.Opening.{Opens, IsOpeningFault}
use Rattle.sja_live.specs.declared.line_fault.LineFault.{LineFault}
use Rattle.sja_live.specs.declared.line_fault.LineFault.TheVariants.{Text as NoText}
use Rattle.sja_live.specs.declared.live_answer.LiveAnswer.{LiveAnswer}
use Rattle.sja_live.specs.declared.live_answer.LiveAnswer.TheVariants.{Mistaken, Long}
use Rattle.sja_live.specs.declared.live_command.LiveCommand.{LiveCommand}
use Rattle.sja_live.specs.declared.live_command.LiveCommand.TheVariants.{End}
use Rattle.sja_live.specs.declared.opening.Opening.{Opening}
use Rattle.sja_live.specs.declared.opening_fault.OpeningFault.{OpeningFault}
use Rattle.sja_live.specs.declared.live_session_fault.LiveSessionFault.{LiveSessionFault}
use Rattle.sja_live.specs.declared.live_session_fault.LiveSessionFault.TheVariants.{Memory, Read, Write}
use Rattle.sja_live.specs.declared.live_session_end.LiveSessionEnd.{LiveSessionEnd}
use Rattle.sja_live.specs.declared.live_session_end.LiveSessionEnd.TheVariants.{Reported, Unopened}
use Rattle.sja_plan_reading.specs.Words.{Text}

-- ---- one line

-- the session answers a line so: it asks for something that isn't the end, and that is done; or for nothing, or it
-- can't be read, and then nothing is done
pub data Replies (was now : SessionValue) (step_runs : List (List StepRun)) (line : Text) :
    LiveAnswer → List (List StepRun) → Type 0 where
  done : {command : LiveCommand} {answer : LiveAnswer} {after : List (List StepRun)} → IsReadable line →
      AsksFor was line command → Answers was now step_runs command answer after →
      Replies was now step_runs line answer after
  mistaken : {fault : LineFault} → IsReadable line →
      IsMistaken was line fault → now ≡ was →
      Replies was now step_runs line (Mistaken fault) step_runs
  no_text : length line ≤ most_line → ¬ IsUtf8 line → now ≡ was →
      Replies was now step_runs line (Mistaken NoText) step_runs
  long : most_line < length line → now ≡ was → Replies was now step_runs line Long step_runs

-- ---- lines one after another

-- from where the session was, by these lines, it came here, and the answers are this text
pub data Talks (first : SessionValue) (begun : List (List StepRun)) :
    List Text → SessionValue → List (List StepRun) → Text → Type 0 where
  begin : Talks first begun [] first begun []
  go_on : {lines : List Text} {was now : SessionValue} {step_runs after : List (List StepRun)} {text line : Text}
      {answer : LiveAnswer} → Talks first begun lines was step_runs text → Replies was now step_runs line answer after →
      Talks first begun (lines ++ line ∷ []) now after (text ++ answer_text answer)

-- the line ends the talk
abbrev pub EndsLiveSession : SessionValue → Text → Type 0
EndsLiveSession s line = IsReadable line × AsksFor s line End

-- ---- the whole

-- a session was opened by the first line, these lines were answered, and this is what was written so far. The session
-- lacks an end exactly where the first line asked for a session without one
pub record HasTalked (input rest : Text) (last : SessionValue) (step_runs : List (List StepRun)) (output : Text) :
    Type 0 where
  pub some : ¬ (input ≡ [])
  pub readable : IsReadable (first_line input)
  pub opening : Opening
  pub opens : Opens (first_line input) opening
  pub first : SessionValue
  pub new : IsNewOf first opening
  pub lines : List Text
  pub lead : LeadsOn (behind_line input) lines rest
  pub text : Text
  pub talks : Talks first (replicate opening.nodes []) lines last step_runs text
  pub as_opened : lacks_end last.plan ≡ is_endless opening
  pub output_is : output ≡ opened_text ++ text

-- the talk is over: the next line ends it, or there is none; and the report of the session's log was written, or that
-- there is none. Of the input what stands behind that line is left
pub record IsLiveSession (input output left : Text) : Type 0 where
  pub last : SessionValue
  pub step_runs : List (List StepRun)
  pub rest : Text
  pub said : Text
  pub talked : HasTalked input rest last step_runs said
  pub over : (rest ≡ []) ⊎ (¬ (rest ≡ []) × EndsLiveSession last (first_line rest))
  pub text : Text
  pub is : IsLastText last step_runs text
  pub told : output ≡ said ++ text
  pub behind : left ≡ behind_line rest

-- there was no session: the first line opens none, which is without words where the input is empty, and that was said
pub record IsNoLiveSession (input output left : Text) : Type 0 where
  pub fault : OpeningFault
  pub is : IsOpeningFault (first_line input) fault
  pub told : output ≡ opening_text fault
  pub behind : left ≡ behind_line input

-- how it ended
abbrev pub IsTold : LiveSessionEnd → Text → Text → Text → Type 0
IsTold Reported input output left = IsLiveSession input output left
IsTold Unopened input output left = IsNoLiveSession input output left

-- ---- a talk that breaks off

-- how far the lines were read that aren't answered: a line was begun at most; or memory was refused for the answer of
-- the next one, which was read, and no other line was. A write that fails tells no such thing, and is left open
abbrev pub IsLeftUnanswered : LiveSessionFault → Text → Text → Type 0
IsLeftUnanswered Memory lines left = HasBegun lines left ⊎ (left ≡ behind_line lines)
IsLeftUnanswered Read lines left = HasBegun lines left
IsLeftUnanswered Write lines left = ⊥

-- it broke off: nothing was written, and of the input no session was opened; or a session was, and what was written is
-- the answers of the lines before those that are left
abbrev pub IsBrokenOff : LiveSessionFault → Text → Text → Text → Type 0
IsBrokenOff fault input output left =
    ((output ≡ []) × IsLeftUnanswered fault input left)
    ⊎ ((last : SessionValue) × (rest : Text) × (step_runs : List (List StepRun))
    × HasTalked input rest last step_runs output × IsLeftUnanswered fault rest left)

-- ---- a reader and a writer whose bytes are known

-- these bytes were left to read, and from them to these; and the writer has this text more
abbrev pub Speaks : Option Text → Option Text → Option Text → Option Text → (Text → Text → Text → Type 0) → Type 0
Speaks None left old new told = Unit {0}
Speaks (Some input) left None new told = Unit {0}
Speaks (Some input) None (Some old) new told = ⊥
Speaks (Some input) (Some left) (Some old) None told = ⊥
Speaks (Some input) (Some left) (Some old) (Some new) told =
    (output : Text) × (new ≡ old ++ output) × told input output left
