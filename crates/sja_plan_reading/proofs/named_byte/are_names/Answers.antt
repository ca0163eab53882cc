use Rattle.std.proofs.Common.{rules, map, arith}
use Rattle.sja_plan_reading.specs.BitNames.{is_among}
use Rattle.std.proofs.lemmas.Str.Pattern.{split_once_first}
use Rattle.sja_plan_reading.proofs.Spelling.Parts.{parts_first, parts_none, all_failed, all_behind, all_last}
use Rattle.sja_plan_reading.proofs.named_byte.are_names.Goals as goal

pub returns-then-not-is_name : goal.returns-then-not-is_name
returns-then-not-is_name c =
    let (inside, front, back) = rw c.in-Some.is at (split_once_first 124 c.loop-part.rest.now c.split_once.result
    c.split_once.ensures.cases (omega arith)) in
    all_failed (is_among (map (λ name. name.now) c.args.names.now)) c.args.word.now c.loop-part.rest.now
    c.in-Some.part.now c.in-Some.behind.now c.loop-part.invariant.1
    (parts_first c.loop-part.rest.now c.in-Some.part.now c.in-Some.behind.now inside front back) (search rules)

pub loop-part-preserved : goal.loop-part-preserved
loop-part-preserved c =
    let (inside, front, back) = rw c.in-Some.is at (split_once_first 124 c.loop-part.rest.now c.split_once.result
    c.split_once.ensures.cases (omega arith)) in (
      search rules,
      all_behind (is_among (map (λ name. name.now) c.args.names.now)) c.args.word.now c.loop-part.rest.now
          c.in-Some.part.now c.in-Some.behind.now c.loop-part.invariant.1
          (parts_first c.loop-part.rest.now c.in-Some.part.now c.in-Some.behind.now inside front back) (search rules),
    )

pub returns : goal.returns
returns c =
    let none = rw c.in_default.is at (split_once_first 124 c.loop-part.rest.now c.split_once.result
    c.split_once.ensures.cases (omega arith)) in
    all_last (is_among (map (λ name. name.now) c.args.names.now)) c.args.word.now c.loop-part.rest.now _
    c.loop-part.invariant.1 (parts_none c.loop-part.rest.now none) c.is_name-2.ensures
