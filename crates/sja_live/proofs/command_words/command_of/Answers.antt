use Rattle.std.proofs.Common.{rules, ◌≡◌, List, [], Bor, codes, sym, subst}
use Rattle.std.specs.Prelude.{IfOk, IfErr}
use Rattle.sja_live.specs.Commands.{AreCommandWords}
use Rattle.sja_live.specs.Inside.Reading.{IsCommandRefusal}
use Rattle.sja_plan_reading.specs.Words.{Text}
use Rattle.sja_live.proofs.Lines.WordLists.{one_word, two_words, three_words, four_words, text_at, words_behind}
use Rattle.sja_live.proofs.command_words.command_of.Goals as goal

-- no word
abbrev none : Bor Text
none = record { ref_ptr = (0, 0); now = [] }

pub returns-then-eq-clause-ok : goal.returns-then-eq-clause-ok
returns-then-eq-clause-ok c =
    let name : text_at c.args.words.now 0 none ≡ codes "step" = search rules in
    subst (λ (l : List Text). IfOk c.step_of_node.result (λ x.
    AreCommandWords c.args.version c.args.endless c.args.nodes l x))
    (sym (words_behind (codes "step") c.args.words.now none c.if-words-ge2.true name))
    (c.step_of_node.ensures.ok c.args.endless)

pub returns-then-eq-clause-err : goal.returns-then-eq-clause-err
returns-then-eq-clause-err c =
    let name : text_at c.args.words.now 0 none ≡ codes "step" = search rules in
    subst (λ (l : List Text). IfErr c.step_of_node.result
    (IsCommandRefusal c.args.version c.args.endless c.args.nodes l))
    (sym (words_behind (codes "step") c.args.words.now none c.if-words-ge2.true name))
    (c.step_of_node.ensures.err c.args.endless)

pub returns-then-eq-2-clause-ok : goal.returns-then-eq-2-clause-ok
returns-then-eq-2-clause-ok c =
    let name : text_at c.args.words.now 0 none ≡ codes "to" = search rules in
    subst (λ (l : List Text). IfOk c.to_place_of.result (λ x.
    AreCommandWords c.args.version c.args.endless c.args.nodes l x))
    (sym (words_behind (codes "to") c.args.words.now none c.if-words-ge2-2.true name))
    (c.to_place_of.ensures.ok c.args.version c.args.endless)

pub returns-then-eq-2-clause-err : goal.returns-then-eq-2-clause-err
returns-then-eq-2-clause-err c =
    let name : text_at c.args.words.now 0 none ≡ codes "to" = search rules in
    subst (λ (l : List Text). IfErr c.to_place_of.result
    (IsCommandRefusal c.args.version c.args.endless c.args.nodes l))
    (sym (words_behind (codes "to") c.args.words.now none c.if-words-ge2-2.true name))
    (c.to_place_of.ensures.err c.args.version c.args.endless)

pub returns-in-len1-clause-ok : goal.returns-in-len1-clause-ok
returns-in-len1-clause-ok c =
    subst (λ (l : List Text). IfOk c.of_one_word.result (λ x.
    AreCommandWords c.args.version c.args.endless c.args.nodes l x))
    (sym (one_word c.args.words.now none c.in-len1.len_at_least c.in-len1.len_below))
    (c.of_one_word.ensures.ok c.args.version c.args.endless c.args.nodes)

pub returns-in-len1-clause-err : goal.returns-in-len1-clause-err
returns-in-len1-clause-err c =
    subst (λ (l : List Text). IfErr c.of_one_word.result
    (IsCommandRefusal c.args.version c.args.endless c.args.nodes l))
    (sym (one_word c.args.words.now none c.in-len1.len_at_least c.in-len1.len_below))
    (c.of_one_word.ensures.err c.args.version c.args.endless c.args.nodes)

pub returns-in-len2-clause-ok : goal.returns-in-len2-clause-ok
returns-in-len2-clause-ok c =
    subst (λ (l : List Text). IfOk c.of_two_words.result (λ x.
    AreCommandWords c.args.version c.args.endless c.args.nodes l x))
    (sym (two_words c.args.words.now none c.in-len2.len_at_least c.in-len2.len_below))
    (c.of_two_words.ensures.ok c.args.version c.args.endless)

pub returns-in-len2-clause-err : goal.returns-in-len2-clause-err
returns-in-len2-clause-err c =
    subst (λ (l : List Text). IfErr c.of_two_words.result
    (IsCommandRefusal c.args.version c.args.endless c.args.nodes l))
    (sym (two_words c.args.words.now none c.in-len2.len_at_least c.in-len2.len_below))
    (c.of_two_words.ensures.err c.args.version c.args.endless)

pub returns-in-len3-clause-ok : goal.returns-in-len3-clause-ok
returns-in-len3-clause-ok c =
    subst (λ (l : List Text). IfOk c.of_three_words.result (λ x.
    AreCommandWords c.args.version c.args.endless c.args.nodes l x))
    (sym (three_words c.args.words.now none c.in-len3.len_at_least c.in-len3.len_below))
    c.of_three_words.ensures.ok

pub returns-in-len3-clause-err : goal.returns-in-len3-clause-err
returns-in-len3-clause-err c =
    subst (λ (l : List Text). IfErr c.of_three_words.result
    (IsCommandRefusal c.args.version c.args.endless c.args.nodes l))
    (sym (three_words c.args.words.now none c.in-len3.len_at_least c.in-len3.len_below))
    c.of_three_words.ensures.err

pub returns-in-len4-clause-ok : goal.returns-in-len4-clause-ok
returns-in-len4-clause-ok c =
    subst (λ (l : List Text). IfOk c.of_four_words.result (λ x.
    AreCommandWords c.args.version c.args.endless c.args.nodes l x))
    (sym (four_words c.args.words.now none c.in-len4.len_at_least c.in-len4.len_below))
    (c.of_four_words.ensures.ok c.args.endless)

pub returns-in-len4-clause-err : goal.returns-in-len4-clause-err
returns-in-len4-clause-err c =
    subst (λ (l : List Text). IfErr c.of_four_words.result
    (IsCommandRefusal c.args.version c.args.endless c.args.nodes l))
    (sym (four_words c.args.words.now none c.in-len4.len_at_least c.in-len4.len_below))
    (c.of_four_words.ensures.err c.args.endless)
