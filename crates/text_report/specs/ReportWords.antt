-- The words of a report (this project's own rule): numbers are in decimal, bytes have two hexadecimal digits.
use Rattle.std.specs.Prelude.{◌/◌, ◌%◌, ℕ, false, List, [], ◌∷◌, map, codes, decimal}
use Rattle.std.specs.Fmt.{digit_glyph}
use Rattle.sja_steps.specs.Refusals.{refusal_name}
use Rattle.sja_steps.specs.declared.step_answer.StepAnswer.{StepAnswer}
use Rattle.sja_steps.specs.declared.step_answer.StepAnswer.TheVariants.{Done as IsDone, NoMessage}
use Rattle.sja_steps.specs.declared.step_answer.StepAnswer.TheVariants.{Shown, Released, Value, Refused, Ignored}

-- a byte: two hexadecimal digits, in lower case
abbrev pub byte_word : ℕ → List ℕ
byte_word byte = digit_glyph false (byte / 16) ∷ digit_glyph false (byte % 16) ∷ []

-- a message: a word a byte
abbrev pub message_words : List ℕ → List (List ℕ)
message_words bytes = map byte_word bytes

-- the answer of a step; a driver isn't told that its write was ignored
abbrev pub answer_words : StepAnswer → List (List ℕ)
answer_words IsDone = codes "ok" ∷ []
answer_words NoMessage = codes "none" ∷ []
answer_words (Shown m) = message_words m
answer_words (Released n) = decimal n ∷ []
answer_words (Value v) = byte_word v ∷ []
answer_words (Refused r) = codes "refused" ∷ refusal_name r ∷ []
answer_words (Ignored cause) = codes "ok" ∷ []
