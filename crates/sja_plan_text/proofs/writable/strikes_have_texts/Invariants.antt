use Rattle.std.proofs.Common.{All, take}
use Rattle.sja_plan_text.specs.HasTexts.{HasStrikeText}
use Rattle.sja_plan_text.proofs.writable.strikes_have_texts.Given as goal

-- the strikes so far have texts
abbrev pub invariant-loop-strike : goal.invariant-loop-strike
invariant-loop-strike l = All HasStrikeText (take l.strike-index l.strikes)
