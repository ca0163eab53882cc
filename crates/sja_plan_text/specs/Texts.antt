-- The texts in which steps, turns and strikes are written (this project's own rule): words with one space between two,
-- numbers in decimal without leading zeros, and bytes with two hexadecimal digits each, in lower case; or names.
use Rattle.std.specs.Prelude.{◌==◌, ◌&&◌, if◌then◌else◌, Bool, true, false, List, [], ◌∷◌, codes, decimal}
use Rattle.sja_plan_reading.specs.Words.{Text}
use Rattle.sja_steps.specs.declared.step.Step.{Step}
use Rattle.sja_steps.specs.StepText.{joined, step_words, step_text}
use Rattle.sja_steps.specs.declared.step.Step.TheVariants.{Read, Write, Load, Command}
use Rattle.sja_steps.specs.declared.strike.Strike.{Strike}
use Rattle.sja_plan.specs.declared.turn.Turn.{Turn}
use Rattle.sja_plan.specs.declared.turn.Turn.TheVariants.{Bus, Rest, Node, All, Irq, Go}
use Rattle.sja_plan_text.specs.Names.{before_transmit, before_receive, address_word, value_word, message_word}

-- the words of a step with names; `command` writes CMR, which is at address 1
abbrev pub named_words : Step → List Text
named_words (Read address) = codes "read" ∷ address_word before_receive address ∷ []
named_words (Write address value) =
    codes "write" ∷ address_word before_transmit address ∷ value_word address value ∷ []
named_words (Load message) = codes "load" ∷ message_word message ∷ []
named_words (Command value) = codes "command" ∷ value_word 1 value ∷ []
named_words this = step_words this

-- the text of a step with names
abbrev pub named_text : Step → Text
named_text step = joined (named_words step)

-- the text of a step with names, or without
abbrev pub spelled_step : Bool → Step → Text
spelled_step true step = named_text step
spelled_step false step = step_text step

-- the words of a turn
abbrev pub turn_words : Turn → List Text
turn_words (Bus bits) = codes "bus" ∷ decimal bits ∷ []
turn_words Rest = codes "rest" ∷ []
turn_words (Node node steps) = codes "node" ∷ decimal node ∷ decimal steps ∷ []
turn_words (All node) = codes "node" ∷ decimal node ∷ []
turn_words (Irq node bits) = codes "irq" ∷ decimal node ∷ decimal bits ∷ []
turn_words Go = codes "go" ∷ []

-- the text of a turn
abbrev pub turn_text : Turn → Text
turn_text turn = joined (turn_words turn)

-- the words of a strike: two numbers where it strikes one bit and says so with a distance of 1, and else four
abbrev pub strike_words : Strike → List Text
strike_words s =
    if s.every == 1 && s.times == 1 then decimal s.node ∷ decimal s.bit ∷ []
    else decimal s.node ∷ decimal s.bit ∷ decimal s.every ∷ decimal s.times ∷ []

-- the text of a strike
abbrev pub strike_text : Strike → Text
strike_text s = joined (strike_words s)
