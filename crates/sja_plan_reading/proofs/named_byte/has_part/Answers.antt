use Rattle.std.proofs.Common.{rules, arith}
use Rattle.std.specs.Str.{str_eq_ignore_ascii_case}
use Rattle.std.proofs.lemmas.Str.Pattern.{split_once_first}
use Rattle.sja_plan_reading.proofs.Spelling.Parts.{parts_first, parts_none, any_found, any_behind, any_last}
use Rattle.sja_plan_reading.proofs.named_byte.has_part.Goals as goal

pub returns-then-is_same_name : goal.returns-then-is_same_name
returns-then-is_same_name c =
    let (inside, front, back) = rw c.in-Some.is at (split_once_first 124 c.loop-part.rest.now c.split_once.result
    c.split_once.ensures.cases (omega arith)) in
    any_found (λ part. str_eq_ignore_ascii_case part c.args.name.now) c.args.word.now c.loop-part.rest.now
    c.in-Some.part.now c.in-Some.behind.now c.loop-part.invariant.1
    (parts_first c.loop-part.rest.now c.in-Some.part.now c.in-Some.behind.now inside front back) (search rules)

pub loop-part-preserved : goal.loop-part-preserved
loop-part-preserved c =
    let (inside, front, back) = rw c.in-Some.is at (split_once_first 124 c.loop-part.rest.now c.split_once.result
    c.split_once.ensures.cases (omega arith)) in (
      search rules,
      any_behind (λ part. str_eq_ignore_ascii_case part c.args.name.now) c.args.word.now c.loop-part.rest.now
          c.in-Some.part.now c.in-Some.behind.now c.loop-part.invariant.1
          (parts_first c.loop-part.rest.now c.in-Some.part.now c.in-Some.behind.now inside front back) (search rules),
    )

pub returns : goal.returns
returns c =
    let none = rw c.in_default.is at (split_once_first 124 c.loop-part.rest.now c.split_once.result
    c.split_once.ensures.cases (omega arith)) in
    any_last (λ part. str_eq_ignore_ascii_case part c.args.name.now) c.args.word.now c.loop-part.rest.now _
    c.loop-part.invariant.1 (parts_none c.loop-part.rest.now none) c.is_same_name-2.ensures
