use Rattle.std.proofs.Common.{◌≡◌, ◌≢◌, ◌==◌, ◌<◌, ◌∙◌, ℕ, Option, IfSome, get_or, slice_index, sym, subst, arith}
use Rattle.std.proofs.lemmas.Bool.Decides.{nat_tests}
use Rattle.sja_plan_reading.proofs.Spelling.Numbers.{parsed_number, number_of_small}
use Rattle.sja_plan_reading.proofs.word.number.Goals as goal

pub returns-clause-value : goal.returns-clause-value
returns-clause-value c =
    let test : c.starts_with.result ≡ (slice_index c.args.word.now 0 == 43) =
    c.starts_with.ensures.byte (omega arith) (omega arith) (λ w o h. h) in
    let plain : get_or c.args.word.now 0 0 ≢ 43 =
    λ plus. grind (arith, nat_tests, test, plus, c.if-starts_with.false) in
    c.ok.ensures.value ∙ parsed_number c.args.word.now c.parse.result c.parse.ensures.value.0 plain (omega arith)

pub returns-clause-small : goal.returns-clause-small
returns-clause-small c =
    subst (λ (r : Option ℕ). IfSome r (λ n. n < 10000000)) (sym (returns-clause-value c))
    (number_of_small c.args.word.now)
