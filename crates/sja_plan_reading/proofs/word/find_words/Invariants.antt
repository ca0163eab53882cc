use Rattle.std.proofs.Common.{◌≡◌, map, length, ◌++◌}
use denote.Text.{Utf8}
use denote.Shadow.{shadow}
use Rattle.sja_plan_reading.specs.Words.{words}
use Rattle.sja_plan_reading.proofs.word.find_words.Given as goal

-- the words of the text are those that were found and those of the rest
abbrev pub invariant-loop-word : goal.invariant-loop-word
invariant-loop-word l = shadow (Utf8 l.rest) × (words l.text ≡ map (λ w. w.now) l.found.items ++ words l.rest)

abbrev pub decreases-loop-word : goal.decreases-loop-word
decreases-loop-word l = length l.rest
