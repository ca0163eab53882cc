use Rattle.std.proofs.Common.{rules, ◌≡◌, length, Bor, [], arith}
use Rattle.sja_plan_reading.specs.Words.{Text}
use Rattle.sja_plan_reading.proofs.Spelling.Texts.{read_more, list_is_bad, read_count}
use Rattle.sja_plan_reading.proofs.plan_text.read_all.Goals as goal

abbrev none_there : Bor Text
none_there = record { ref_ptr = (0, 0); now = [] }

pub returns-in-Err-clause-err : goal.returns-in-Err-clause-err
returns-in-Err-clause-err g c =
    let len : c.len.result ≡ length c.loop-text.found.items = search rules in
    rw (c.list_fault.ensures, len)
    (list_is_bad (g.T.PlanText.says c.args.within) c.args.texts.now c.loop-text.found.items c.loop-text.text-index
    none_there c.in-Err.fault (omega (arith, c.loop-text-test.true)) c.loop-text.invariant.made c.in-Err.ensures.err)

pub loop-text-preserved : goal.loop-text-preserved
loop-text-preserved g c = record {
  count = search rules;
  room = search rules;
  made = rw c.push_reserved.ensures.items
      (read_more (g.T.PlanText.says c.args.within) c.args.texts.now c.loop-text.found.items c.loop-text.text-index
      none_there c.in-Ok-plan_text.value (omega (arith, c.loop-text-test.true)) c.loop-text.invariant.made
      c.in-Ok-plan_text.ensures.ok);
}

pub list_fault-requires : goal.list_fault-requires
list_fault-requires g c =
    let len : c.len.result ≡ length c.loop-text.found.items = search rules in
    let count = read_count (g.T.PlanText.says c.args.within) c.args.texts.now c.loop-text.found.items
    c.loop-text.text-index (omega (arith, c.loop-text-test.true)) c.loop-text.invariant.made in
    search rules
