use Rattle.std.proofs.Common.{rules, ◌≡◌, [], Bor, codes, ap, ◌∙◌}
use Rattle.sja_plan_reading.specs.Words.{Text}
use Rattle.sja_live.proofs.Lines.WordLists.{live_words, text_at, texts}
use Rattle.sja_live.proofs.opening_words.opened.Goals as goal

-- no word
abbrev none : Bor Text
none = record { ref_ptr = (0, 0); now = [] }

-- ---- the line has four words, of which the first one is `live`

pub returns-clause-err : goal.returns-clause-err
returns-clause-err c =
    let ws = c.as_slice.result.now in
    let name : text_at ws 0 none ≡ codes "live" = search rules in
    c.in-Err.ensures.err c.args.line.now c.requires
    (live_words c.args.line.now ws none (ap texts c.as_slice.ensures.value ∙ c.in_ok-find_words.ensures)
    c.in-len4.len_at_least c.in-len4.len_below name)

pub returns-in-Ok-clause-ok : goal.returns-in-Ok-clause-ok
returns-in-Ok-clause-ok c =
    let ws = c.as_slice.result.now in
    let name : text_at ws 0 none ≡ codes "live" = search rules in
    c.in-Ok.ensures.ok c.args.line.now
    (live_words c.args.line.now ws none (ap texts c.as_slice.ensures.value ∙ c.in_ok-find_words.ensures)
    c.in-len4.len_at_least c.in-len4.len_below name)
