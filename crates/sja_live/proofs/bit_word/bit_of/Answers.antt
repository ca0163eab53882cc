use Rattle.std.proofs.Common.{◌≡◌, ◌≢◌, ◌==◌, ◌≤◌, ℕ, Option, IfSome, IfNone, get_or, length, slice_index, sym}
use Rattle.std.proofs.Common.{subst, arith}
use Rattle.std.proofs.lemmas.Bool.Decides.{nat_tests}
use Rattle.sja_live.specs.Commands.{most_digits, SpellsBit}
use Rattle.sja_live.proofs.Spelling.BitWords.{parsed_bit}
use Rattle.sja_live.proofs.bit_word.bit_of.Goals.{After-ok}
use Rattle.sja_live.proofs.bit_word.bit_of.Goals as goal

-- the word, parsed
parsed : (c : After-ok) → IfSome c.ok.result (SpellsBit c.args.endless c.args.word.now)
    × IfNone c.ok.result ((bit : ℕ) → ¬ SpellsBit c.args.endless c.args.word.now bit)
parsed c =
    let word = c.args.word.now in let endless = c.args.endless in
    let test : c.starts_with.result ≡ (slice_index word 0 == 43) =
    c.starts_with.ensures.byte (omega arith) (omega arith) (λ w o h. h) in
    let plain : get_or word 0 0 ≢ 43 = λ plus. grind (arith, nat_tests, test, plus, c.if-starts_with.false) in
    let most = c.most_digits.ensures.value in let all = c.most_digits.ensures.few in
    let P : Option ℕ → Type 0 = λ r. IfSome r (SpellsBit endless word)
    × IfNone r ((bit : ℕ) → ¬ SpellsBit endless word bit) in
    let short : length word ≤ most_digits endless = omega (arith, most) in
    subst P (sym c.ok.ensures.value)
    (parsed_bit endless word c.parse.result c.parse.ensures.value.0 plain short (omega (arith, most, all)))

pub returns-clause-some : goal.returns-clause-some
returns-clause-some c = (parsed (goal.at.returns-clause-some c).After-ok).0

pub returns-clause-none : goal.returns-clause-none
returns-clause-none c = (parsed (goal.at.returns-clause-none c).After-ok).1
