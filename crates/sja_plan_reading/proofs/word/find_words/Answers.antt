use Rattle.std.proofs.Common.{◌≡◌, ◌++◌, ◌∙◌, List, length, map, Bor, sym, ap, rules, arith}
use denote.Text.{Utf8}
use denote.Shadow.{shadow}
use Rattle.std.proofs.lemmas.Str.Pattern.{split_once_first}
use Rattle.sja_plan_reading.specs.Words.{Text, words}
use Rattle.sja_plan_reading.proofs.Spelling.Words.{words_more, words_last}
use Rattle.sja_plan_reading.proofs.word.find_words.Goals as goal

-- what is left stands behind the word: how long it is is asked first, so that another rest is refused by values
rest_of : (text : Text) (found : List Text) (rest behind : Text) → length rest ≡ length behind →
    shadow (Utf8 rest) → rest ≡ behind → words text ≡ found ++ words behind →
    shadow (Utf8 rest) × (words text ≡ found ++ words rest)
rest_of text found rest behind long utf8 same so_far = (utf8, so_far ∙ ap (λ r. found ++ words r) (sym same))

pub loop-word-preserved : goal.loop-word-preserved
loop-word-preserved c =
    let (inside, front, back) = rw c.in-Some.is at (split_once_first 32 c.loop-word.rest.now c.split_once.result
    c.split_once.ensures.cases (omega arith)) in
    rest_of c.args.text.now (map (λ (w : Bor Text). w.now) c.push.new.self.items) _ c.in-Some.behind.now (omega arith)
    (search rules) (search rules)
    (rw c.in_ok-push.ensures.items (words_more c.args.text.now c.loop-word.rest.now c.in-Some.behind.now
    c.loop-word.found.items c.in-Some.word c.loop-word.invariant.1 inside front back))

pub returns : goal.returns
returns c =
    let none = rw c.in_default.is at (split_once_first 32 c.loop-word.rest.now c.split_once.result
    c.split_once.ensures.cases (omega arith)) in
    rw c.in_ok-push-2.ensures.items
    (words_last c.args.text.now c.loop-word.found.items c.loop-word.rest c.loop-word.invariant.1 none)
