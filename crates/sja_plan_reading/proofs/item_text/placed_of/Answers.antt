use Rattle.std.proofs.Common.{arith}
use Rattle.sja_plan_reading.proofs.Spelling.StrikeWords.{five_words}
use Rattle.sja_plan_reading.proofs.item_text.placed_of.Goals as goal

pub returns-in-len5-clause-err : goal.returns-in-len5-clause-err
returns-in-len5-clause-err c =
    let whole = five_words c.args.words.now _ (omega (arith, c.in-len5.len_at_least, c.in-len5.len_below)) in
    rw whole c.of_five_words.ensures.err
