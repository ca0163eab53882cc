use Rattle.std.proofs.Common.{length, ap, sym, subst, ◌∙◌, arith}
use Rattle.std.proofs.lemmas.List.{take_all}
use Rattle.std.specs.List.{slice_index_or}
use Rattle.toml.specs.Data.{same_key}
use Rattle.toml.proofs.NodeLaws.{same_key-self}
use Rattle.sja_plan_reading.specs.Inside.Items.{first_of}
use Rattle.sja_plan_reading.specs.Inside.Names.{texts_of}
use Rattle.sja_plan_reading.specs.Inside.Definitions.{item_of, items_of, FirstsAre}
use Rattle.sja_plan_reading.proofs.SortedItems.{firsts_more}
use Rattle.sja_plan_reading.proofs.Judged.{same_texts, by_default}
use Rattle.sja_plan_reading.proofs.tables.judging.run_length.Goals as goal

pub loop-length-init : goal.loop-length-init
loop-length-init c d =
    let ts = texts_of c.args.names.now in
    let f = first_of (item_of ts (slice_index_or c.args.definitions.now 0 d)) in
    firsts_more ts (same_key f) c.args.definitions.now 0 d c.requires (same_key-self f) tt

pub loop-length-preserved : goal.loop-length-preserved
loop-length-preserved c d =
    let ts = texts_of c.args.names.now in
    let ds = c.args.definitions.now in
    let n = c.loop-length.length in
    let f = first_of (item_of ts (slice_index_or ds 0 d)) in
    firsts_more ts (same_key f) ds n d (omega arith)
    (same_texts _ _ _ _ (c.part-first.ensures ∙ c.first.ensures ts ∙ ap (λ e. first_of (item_of ts e))
    (by_default ds 0 _ d (omega arith)))
    (c.part.ensures ∙ c.first-in-loop-length.ensures ts ∙ ap (λ e. first_of (item_of ts e)) (by_default ds n _ d
    (omega arith)))
    (sym c.is_same.ensures ∙ c.if-not-is_same.false))
    (c.loop-length.invariant d)

pub returns-clause-same : goal.returns-clause-same
returns-clause-same c d =
    let ts = texts_of c.args.names.now in
    let ds = c.args.definitions.now in
    let f = first_of (item_of ts (slice_index_or ds 0 d)) in
    subst (λ l. FirstsAre (same_key f) (items_of ts l))
    (take_all c.loop-length.length ds c.loop-length-test.false ∙ sym (take_all (length ds) ds (omega arith)))
    (c.loop-length.invariant d)
