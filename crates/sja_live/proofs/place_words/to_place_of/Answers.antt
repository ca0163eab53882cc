use Rattle.std.proofs.Common.{List, [], ◌∷◌, Bor, codes, sym, subst}
use Rattle.std.specs.Prelude.{IfOk, IfErr}
use Rattle.sja_live.specs.Commands.{AreCommandWords, ArePlaceWords}
use Rattle.sja_live.specs.Commands.ArePlaceWords.{one, two}
use Rattle.sja_live.specs.Inside.Reading.{IsCommandRefusal}
use Rattle.sja_plan_reading.specs.Words.{Text}
use Rattle.sja_live.proofs.Lines.WordLists.{text_at}
use Rattle.sja_live.proofs.Lines.WayWords.{two_behind, three_behind, way_asked, way_mistaken, ok_so, err_so}
use Rattle.sja_live.proofs.place_words.to_place_of.Goals as goal

-- no word
abbrev none : Bor Text
none = record { ref_ptr = (0, 0); now = [] }

pub returns-in-len2-clause-ok : goal.returns-in-len2-clause-ok
returns-in-len2-clause-ok c = λ version endless.
    let ws = c.args.rest.now in
    let are : ArePlaceWords (text_at c.args.rest.now 0 none ∷ []) c.place_of_word.result =
    subst (ArePlaceWords (text_at c.args.rest.now 0 none ∷ [])) (sym c.place_of_word.ensures)
    (one (text_at c.args.rest.now 0 none)) in
    subst (λ (l : List Text). IfOk c.way_of.result (λ x. AreCommandWords version endless c.args.nodes
    (codes "to" ∷ c.args.node.now ∷ l) x))
    (sym (two_behind ws none c.in-len2.len_at_least c.in-len2.len_below))
    (ok_so c.way_of.result c.way_of.ensures.ok (λ x says. way_asked version endless c.args.nodes c.args.node.now
    (text_at ws 1 none)
    (text_at c.args.rest.now 0 none ∷ []) c.place_of_word.result x are says))

pub returns-in-len2-clause-err : goal.returns-in-len2-clause-err
returns-in-len2-clause-err c = λ version endless.
    let ws = c.args.rest.now in
    let are : ArePlaceWords (text_at c.args.rest.now 0 none ∷ []) c.place_of_word.result =
    subst (ArePlaceWords (text_at c.args.rest.now 0 none ∷ [])) (sym c.place_of_word.ensures)
    (one (text_at c.args.rest.now 0 none)) in
    subst (λ (l : List Text). IfErr c.way_of.result (IsCommandRefusal version endless c.args.nodes
    (codes "to" ∷ c.args.node.now ∷ l)))
    (sym (two_behind ws none c.in-len2.len_at_least c.in-len2.len_below))
    (err_so c.way_of.result c.way_of.ensures.err (λ x says. way_mistaken version endless c.args.nodes c.args.node.now
    (text_at ws 1 none)
    (text_at c.args.rest.now 0 none ∷ []) c.place_of_word.result x are says))

pub returns-in-len3-clause-ok : goal.returns-in-len3-clause-ok
returns-in-len3-clause-ok c = λ version endless.
    let ws = c.args.rest.now in
    let are : ArePlaceWords (text_at c.args.rest.now 0 none ∷ text_at c.args.rest.now 1 none ∷ [])
    c.place_of_words.result =
    subst (ArePlaceWords (text_at c.args.rest.now 0 none ∷ text_at c.args.rest.now 1 none ∷ []))
    (sym c.place_of_words.ensures) (two (text_at c.args.rest.now 0 none) (text_at c.args.rest.now 1 none)) in
    subst (λ (l : List Text). IfOk c.way_of-in-len3.result (λ x. AreCommandWords version endless c.args.nodes
    (codes "to" ∷ c.args.node.now ∷ l) x))
    (sym (three_behind ws none c.in-len3.len_at_least c.in-len3.len_below))
    (ok_so c.way_of-in-len3.result c.way_of-in-len3.ensures.ok (λ x says. way_asked version endless c.args.nodes
    c.args.node.now (text_at ws 2 none)
    (text_at c.args.rest.now 0 none ∷ text_at c.args.rest.now 1 none ∷ []) c.place_of_words.result x are says))

pub returns-in-len3-clause-err : goal.returns-in-len3-clause-err
returns-in-len3-clause-err c = λ version endless.
    let ws = c.args.rest.now in
    let are : ArePlaceWords (text_at c.args.rest.now 0 none ∷ text_at c.args.rest.now 1 none ∷ [])
    c.place_of_words.result =
    subst (ArePlaceWords (text_at c.args.rest.now 0 none ∷ text_at c.args.rest.now 1 none ∷ []))
    (sym c.place_of_words.ensures) (two (text_at c.args.rest.now 0 none) (text_at c.args.rest.now 1 none)) in
    subst (λ (l : List Text). IfErr c.way_of-in-len3.result (IsCommandRefusal version endless c.args.nodes
    (codes "to" ∷ c.args.node.now ∷ l)))
    (sym (three_behind ws none c.in-len3.len_at_least c.in-len3.len_below))
    (err_so c.way_of-in-len3.result c.way_of-in-len3.ensures.err (λ x says. way_mistaken version endless c.args.nodes
    c.args.node.now (text_at ws 2 none)
    (text_at c.args.rest.now 0 none ∷ text_at c.args.rest.now 1 none ∷ []) c.place_of_words.result x are says))
