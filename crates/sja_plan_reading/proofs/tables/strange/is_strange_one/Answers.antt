use Rattle.std.proofs.Common.{◌≡◌, true, false, sym, ap, ◌∙◌, subst, inl, inr}
use Rattle.std.specs.List.{list_any}
use Rattle.std.specs.Str.{bytes_eq}
use Rattle.sja_plan_reading.specs.Inside.Items.{first_of}
use Rattle.sja_plan_reading.specs.Inside.Judging.{comes, ends}
use Rattle.sja_plan_reading.specs.Inside.Names.{texts_of}
use Rattle.sja_plan_reading.specs.Inside.Definitions.{item_of}
use Rattle.sja_plan_reading.specs.Inside.Strange.{all_keys, is_nodes, is_odd}
use Rattle.sja_plan_reading.proofs.tables.strange.is_strange_one.Goals as goal

pub returns-then-not-known : goal.returns-then-not-known
returns-then-not-known c _ =
    let ts = texts_of c.args.names.now in
    let i = item_of ts c.args.definition in
    let key_is : c.part-key.result.now ≡ first_of i = c.part-key.ensures ∙ c.first.ensures ts in
    inl (subst (λ key. list_any (λ known. bytes_eq known key) all_keys ≡ false) key_is (sym c.is_among-known.ensures
    ∙ c.if-not-known.true))

pub returns-then-odd : goal.returns-then-odd
returns-then-odd c odd =
    let ts = texts_of c.args.names.now in
    let i = item_of ts c.args.definition in
    let key = c.part-key.result.now in
    let key_is : key ≡ first_of i = c.part-key.ensures ∙ c.first.ensures ts in
    inr (inl (ap (λ k. is_odd (is_nodes k) (comes i) (ends i)) (sym key_is)
    ∙ ap (λ w. is_odd (is_nodes key) w (ends i)) (sym (c.comes.ensures ts))
    ∙ ap (λ e. is_odd (is_nodes key) c.comes.result e) (sym (c.ends.ensures ts))
    ∙ ap (λ n. is_odd n c.comes.result c.ends.result) (sym c.is_among-nodes.ensures) ∙ sym c.is_odd-odd.ensures ∙ odd))

pub returns : goal.returns
returns c found =
    let ts = texts_of c.args.names.now in
    let i = item_of ts c.args.definition in
    let key_is : c.part-key.result.now ≡ first_of i = c.part-key.ensures ∙ c.first.ensures ts in
    let (through, strange) = c.is_strange_below.ensures found in
    inr (inr (
      subst (λ key. is_nodes key ≡ true) key_is (sym c.is_among-nodes.ensures ∙ c.if-not-nodes.false),
      through,
      strange,
    ))
