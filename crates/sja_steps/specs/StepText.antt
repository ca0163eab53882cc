-- The text of a driver's step, as plans and traces spell it (this project's own rule): words with one space between
-- two, numbers in decimal without leading zeros, and bytes with two hexadecimal digits each, in lower case.
use Rattle.std.specs.Prelude.{ℕ, List, [], ◌∷◌, codes, decimal}
use Rattle.std.specs.List.{join_with_byte}
use Rattle.hex.specs.Hex.{encode_lower}
use Rattle.sja_steps.specs.declared.step.Step.{Step}
use Rattle.sja_steps.specs.declared.step.Step.TheVariants.{Start, Stop, Window, Release, Read, Write}
use Rattle.sja_steps.specs.declared.step.Step.TheVariants.{Load, Command, Await, Sent, Interrupt, At}

-- words with one space between two
abbrev pub joined : List (List ℕ) → List ℕ
joined words = join_with_byte 32 words

-- the words of a step
abbrev pub step_words : Step → List (List ℕ)
step_words Start = codes "start" ∷ []
step_words Stop = codes "stop" ∷ []
step_words Window = codes "window" ∷ []
step_words Release = codes "release" ∷ []
step_words (Read address) = codes "read" ∷ decimal address ∷ []
step_words (Write address value) = codes "write" ∷ decimal address ∷ encode_lower (value ∷ []) ∷ []
step_words (Load message) = codes "load" ∷ encode_lower message ∷ []
step_words (Command value) = codes "command" ∷ encode_lower (value ∷ []) ∷ []
step_words (Await count) = codes "await" ∷ decimal count ∷ []
step_words Sent = codes "sent" ∷ []
step_words Interrupt = codes "interrupt" ∷ []
step_words (At least) = codes "at" ∷ decimal least ∷ []

-- the text of a step
abbrev pub step_text : Step → List ℕ
step_text step = joined (step_words step)
