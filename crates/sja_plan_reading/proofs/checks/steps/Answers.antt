use Rattle.std.proofs.Common.{rules, ◌≡◌, length, refl, sym, arith}
use Rattle.sja_plan_reading.specs.Inside.Views.{document_view}
use Rattle.sja_plan_reading.proofs.Parts.Nodes.{node_more, step_is_bad}
use Rattle.sja_plan_reading.proofs.checks.steps.Goals as goal

pub returns-in-Err-clause-err : goal.returns-in-Err-clause-err
returns-in-Err-clause-err c = λ before.
    let items = c.as_slice-texts-items.ensures.value in
    let within = rw items at c.loop-texts-test.true in
    let read = rw items at c.loop-texts.invariant.made in
    let is = rw items at c.texts-item.is in
    let len : c.len-in-Err.result ≡ length c.loop-texts.found.items = search rules in
    let unread = rw (c.as_slice.ensures.value, c.within_of-within.ensures) at c.in-Err.ensures.err in
    rw (c.step_fault.ensures.is, len)
    (step_is_bad (document_view c.args.document.now) c.args.version c.args.document.now.nodes.items
    c.loop-texts.found.items c.loop-texts.texts-index c.texts-item.result c.in-Err.fault before
    (sym c.requires.version) refl within read is unread)

pub loop-texts-preserved : goal.loop-texts-preserved
loop-texts-preserved c =
    let said = rw (c.as_slice.ensures.value, c.within_of-within.ensures) at c.in-Ok-read_all.ensures.ok in record {
      count = search rules;
      room = search rules;
      made = rw c.push_reserved.ensures.items
          (node_more c.args.version c.as_slice-texts-items.result.now c.loop-texts.found.items c.loop-texts.texts-index
          c.texts-item.result c.in-Ok-read_all.steps (omega (arith, c.loop-texts-test.true)) c.loop-texts.invariant.made
          c.texts-item.is said);
    }

pub read_all-requires : goal.read_all-requires
read_all-requires c = rw c.within_of-within.ensures (search rules)
