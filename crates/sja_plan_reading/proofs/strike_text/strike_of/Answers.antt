use Rattle.std.proofs.Common.{refl, arith, Bor}
use Rattle.std.proofs.lemmas.List.{length-map}
use Rattle.sja_plan_reading.specs.Words.{Text}
use Rattle.sja_plan_reading.proofs.Spelling.StrikeWords.{no_strike, four_words}
use Rattle.sja_plan_reading.proofs.strike_text.strike_of.Goals as goal

pub returns-in-len4-clause-err : goal.returns-in-len4-clause-err
returns-in-len4-clause-err c =
    let whole = four_words c.args.words.now _ (omega (arith, c.in-len4.len_at_least, c.in-len4.len_below)) in
    rw whole c.strike_at-in-len4.ensures.err

pub returns-in_default-2-clause-err : goal.returns-in_default-2-clause-err
returns-in_default-2-clause-err c =
    let long = length-map c.args.words.now (λ (w : Bor Text). w.now) in (
      refl,
      λ s. no_strike c.args.nodes _ s (λ e. omega (arith, long, e, c.in_default.len_at_least)) (λ e. omega (
        arith,
        long,
        e,
        c.in_default.len_below,
      )),
    )
