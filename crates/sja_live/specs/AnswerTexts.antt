-- How `sja live` writes an answer (this project's own rule): one line, its words with one space between two, numbers in
-- decimal and bytes with two hexadecimal digits, in lower case.
use Rattle.std.specs.Prelude.{◌++◌, List, [], ◌∷◌, codes, decimal, string_bytes}
use Rattle.hex.specs.Hex.{encode_lower}
use Rattle.sja_live.specs.declared.line_fault.LineFault.{LineFault}
use Rattle.sja_live.specs.declared.line_fault.LineFault.TheVariants.{Text as NoText, Command, Node, Number}
use Rattle.sja_live.specs.declared.line_fault.LineFault.TheVariants.{Address, Byte, Step as StepWord}
use Rattle.sja_live.specs.declared.line_fault.LineFault.TheVariants.{Place as PlaceWord}
use Rattle.sja_live.specs.declared.live_answer.LiveAnswer.{LiveAnswer}
use Rattle.sja_live.specs.declared.live_answer.LiveAnswer.TheVariants.{Told, Waits, Ran, Rose, Spent, Lines, Bits}
use Rattle.sja_live.specs.declared.live_answer.LiveAnswer.TheVariants.{At, Nothing}
use Rattle.sja_live.specs.declared.live_answer.LiveAnswer.TheVariants.{PlanSoFar, NoPlan, Mistaken, NoBit, Full, Long}
use Rattle.sja_live.specs.declared.opening_fault.OpeningFault.{OpeningFault}
use Rattle.sja_live.specs.declared.opening_fault.OpeningFault.TheVariants.{Long as LongLine, Text as NoLineText}
use Rattle.sja_live.specs.declared.opening_fault.OpeningFault.TheVariants.{Command as NoLive, Version, Bits as NoBits}
use Rattle.sja_live.specs.declared.opening_fault.OpeningFault.TheVariants.{Nodes}
use Rattle.sja_live.specs.declared.exhausted.Exhausted.{Exhausted}
use Rattle.sja_live.specs.declared.exhausted.Exhausted.TheVariants.{Steps, Turns, Strikes, Document}
use Rattle.sja_live.specs.PlaceTexts.{place_text}
use Rattle.sja_plan_reading.specs.Words.{Text}
use Rattle.text_report.specs.ReportLines.{line_text}
use Rattle.text_report.specs.ReportWords.{byte_word}
use Rattle.sja_steps.specs.Refusals.{refusal_name}
use Rattle.sja_steps.specs.declared.step_answer.StepAnswer.{StepAnswer}
use Rattle.sja_steps.specs.declared.step_answer.StepAnswer.TheVariants.{Done, NoMessage, Shown, Released, Value}
use Rattle.sja_steps.specs.declared.step_answer.StepAnswer.TheVariants.{Refused, Ignored}

-- what a step answers; a driver isn't told that its write was ignored
abbrev pub told_words : StepAnswer → List Text
told_words Done = codes "ok" ∷ []
told_words NoMessage = codes "none" ∷ []
told_words (Shown message) = codes "message" ∷ encode_lower message ∷ []
told_words (Released bytes) = codes "released" ∷ decimal bytes ∷ []
told_words (Value value) = codes "value" ∷ byte_word value ∷ []
told_words (Refused refusal) = codes "refused" ∷ refusal_name refusal ∷ []
told_words (Ignored cause) = codes "ok" ∷ []

-- why a line asks for nothing
abbrev pub fault_word : LineFault → Text
fault_word NoText = codes "TEXT"
fault_word Command = codes "COMMAND"
fault_word Node = codes "NODE"
fault_word StepWord = codes "STEP"
fault_word Address = codes "ADDRESS"
fault_word Byte = codes "BYTE"
fault_word PlaceWord = codes "PLACE"
fault_word Number = codes "NUMBER"

-- what is used up
abbrev pub used_word : Exhausted → Text
used_word Steps = codes "STEPS"
used_word Turns = codes "TURNS"
used_word Strikes = codes "STRIKES"
used_word Document = codes "PLAN"

-- the line of an answer; that of a plan is its text and then a point, in a line of its own since the last line of a
-- plan's text is ended (`a_plan_text_ends_in_a_line_feed` of `sja_plan_text`)
abbrev pub answer_text : LiveAnswer → Text
answer_text (Told answer) = line_text (told_words answer)
answer_text Waits = line_text (codes "wait" ∷ [])
answer_text (Ran bits) = line_text (codes "ran" ∷ decimal bits ∷ [])
answer_text (Rose bits lines) =
    line_text (codes "ran" ∷ decimal bits ∷ codes "line" ∷ byte_word lines ∷ [])
answer_text (Spent bits) = line_text (codes "ran" ∷ decimal bits ∷ codes "spent" ∷ [])
answer_text (Lines lines) = line_text (codes "line" ∷ byte_word lines ∷ [])
answer_text (Bits bits) = line_text (codes "bits" ∷ decimal bits ∷ [])
answer_text (At place) = line_text (codes "place" ∷ place_text place ∷ [])
answer_text Nothing = line_text (codes "nothing" ∷ [])
answer_text (PlanSoFar document) = string_bytes document ++ codes ".\n"
answer_text NoPlan = line_text (codes "no" ∷ codes "PLAN" ∷ [])
answer_text (Mistaken fault) = line_text (codes "no" ∷ fault_word fault ∷ [])
answer_text NoBit = line_text (codes "no" ∷ codes "BIT" ∷ [])
answer_text (Full used) = line_text (codes "full" ∷ used_word used ∷ [])
answer_text Long = line_text (codes "long" ∷ [])

-- the line that says at the end that a session without an end has no report
abbrev pub no_report_text : Text
no_report_text = line_text (codes "no" ∷ codes "REPORT" ∷ [])

-- the line that says that a session is open, and the one that says why none is
abbrev pub opened_text : Text
opened_text = line_text (codes "ok" ∷ [])

abbrev pub opening_words : OpeningFault → List Text
opening_words LongLine = codes "long" ∷ []
opening_words NoLineText = codes "no" ∷ codes "TEXT" ∷ []
opening_words NoLive = codes "no" ∷ codes "COMMAND" ∷ []
opening_words Version = codes "no" ∷ codes "VERSION" ∷ []
opening_words NoBits = codes "no" ∷ codes "BITS" ∷ []
opening_words Nodes = codes "no" ∷ codes "NODES" ∷ []

abbrev pub opening_text : OpeningFault → Text
opening_text fault = line_text (opening_words fault)
