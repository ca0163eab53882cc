use Rattle.std.proofs.Common.{All, take}
use Rattle.sja_plan_text.specs.HasTexts.{HasTurnText}
use Rattle.sja_plan_text.proofs.writable.turns_have_texts.Given as goal

-- the turns so far have texts
abbrev pub invariant-loop-turn : goal.invariant-loop-turn
invariant-loop-turn l = All (HasTurnText l.version) (take l.turn-index l.turns)
