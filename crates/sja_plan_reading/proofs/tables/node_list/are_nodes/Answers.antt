use Rattle.std.proofs.Common.{rules, ◌≡◌, ◌-◌, ◌==◌, true, false, length, sym, ap, subst, ◌∙◌, arith}
use Rattle.std.proofs.lemmas.Grind.{common_steps}
use Rattle.toml_parser.specs.Lexical.{first, skip_blank}
use Rattle.toml_parser.specs.Strings.{recursion_limit}
use Rattle.toml.specs.Data.{no_items, push_item}
use Rattle.toml.specs.Parse.{val, items}
use Rattle.toml.proofs.Turns.{items_more}
use Rattle.sja_plan_reading.proofs.NodeItems.{IsNone, no_list, list_refused}
use Rattle.sja_plan_reading.proofs.tables.node_list.are_nodes.Goals as goal

pub returns-then-first-ne91-clause-no : goal.returns-then-first-ne91-clause-no
returns-then-first-ne91-clause-no c _ d rest read =
    let s = c.args.text.now in
    let other : (first s == 91) ≡ false = grind (arith, common_steps) in
    no_list s other d rest read

pub items-init : goal.items-init
items-init c =
    let s = c.args.text.now in (
      search rules,
      grind (arith, common_steps),
      (
        length s,
        no_items,
        c.skip-rest.ensures.shorter,
        ap (items (val (recursion_limit - 1)) (length s) no_items) (sym c.skip-rest.ensures.rest),
      ),
    )

pub returns-then-not-node-clause-no : goal.returns-then-not-node-clause-no
returns-then-not-node-clause-no c _ d rest read =
    let l = c.items in
    let (m, found, room, loop) = l.invariant.2 in
    let other : (first (skip_blank l.rest.now) == 93) ≡ false = grind (arith, common_steps) in
    list_refused c.args.text.now m found l.rest.now l.invariant.1 (omega arith) loop other
    (subst IsNone c.skip_blank-start.ensures.rest (c.in_ok-node.ensures.no c.if-not-node.true)) d rest read

pub items-preserved : goal.items-preserved
items-preserved c =
    let l = c.items in
    let start_is = c.skip_blank-start.ensures.rest in
    let before = c.skip_blank-start.ensures.within in
    let shorter = c.in-Ok.ensures.shorter in
    let other : (first (skip_blank l.rest.now) == 93) ≡ false = grind (arith, common_steps) in
    let (m, found, room, loop) = l.invariant.2 in
    let (d, after, read, ends) = c.in-Ok.ensures.value in (
      search rules,
      l.invariant.1,
      (
        m - 1,
        push_item found d,
        omega arith,
        loop ∙ items_more (val (recursion_limit - 1)) m found l.rest.now d after c.in-Ok.after.now (omega arith) other
            (rw start_is at read) ends,
      ),
    )
