use Rattle.std.proofs.Common.{rules, refl, subst, inl, inr}
use Rattle.std.specs.Io.KnownBytes.{Appends}
use Rattle.std.proofs.KnownBytes.{Keeps-refl}
use Rattle.sja_program.specs.Check.{HasHints, HasMistake}
use Rattle.sja_program.proofs.Requested.Showing.{shows_hints}
use Rattle.sja_program.proofs.serial.reply_check.Goals as goal

-- hints go to the output
pub returns-in-Ok-Hints-clause-answered : goal.returns-in-Ok-Hints-clause-answered
returns-in-Ok-Hints-clause-answered g c = λ wrote told.
    let text = c.in-Ok-Hints.text.items in
    let has : HasHints (g.R.Read.remaining c.args.input.now) (g.R.Read.remaining c.checked.new.input) text =
    search rules in
    shows_hints c.args.strict _ _ _ _ _ _ text has (c.put_hints.ensures.judged wrote)
    (c.put_hints.ensures.written wrote).1

-- a mistake goes to the error output
pub returns-in-Ok-Mistake-clause-answered : goal.returns-in-Ok-Mistake-clause-answered
returns-in-Ok-Mistake-clause-answered g c = λ wrote told.
    let text = c.in-Ok-Mistake.text.items in
    let mistake : HasMistake (g.R.Read.remaining c.args.input.now) (g.R.Read.remaining c.checked.new.input) text =
    search rules in
    let written = subst (λ bytes. Appends (g.E.Write.contents c.args.err.now.writer)
    (g.E.Write.contents c.put.new.self.writer) bytes) c.as_slice.ensures.value
    (c.put.ensures.written told).1 in
    inr (inr (inl (text, inl (tt, mistake), refl, Keeps-refl _, written)))
