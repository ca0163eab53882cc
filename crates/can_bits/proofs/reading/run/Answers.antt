use Rattle.std.proofs.Common.{List, take, drop, suc, sym, subst, rules}
use Rattle.std.proofs.lemmas.List.{take_more, take_all}
use Rattle.can_levels.specs.declared.level.Level.{Level}
use Rattle.can_levels.specs.declared.level.Level.TheVariants.{Dominant}
use Rattle.can_levels.specs.Reading.{IsFaultless, IsFirstFault}
use Rattle.can_bits.specs.Shifts.{StandsFor}
use Rattle.std.proofs.Math.Seq.{split_at}
use Rattle.can_levels.proofs.Readables.{faultless_readable}
use Rattle.can_levels.proofs.Whole.Faultless.{faultless_nothing}
use Rattle.can_bits.proofs.Whole.FirstFault.{faultless_open, faultless_received}
use Rattle.can_bits.proofs.reading.run.Goals as goal

pub loop-level-init : goal.loop-level-init
loop-level-init c = record { stands = c.new-shift.ensures; faultless = faultless_nothing }

pub returns-in_err-take_answered-clause-fault : goal.returns-in_err-take_answered-clause-fault
returns-in_err-take_answered-clause-fault c =
    let levels = c.args.levels.now in
    let k = c.loop-level.level-index in
    let loop = c.loop-level.invariant in
    let P = λ (l : List Level). IsFirstFault l c.in_err-take_answered.field-0.0 in
    let fault = subst P (sym (split_at levels k Dominant c.loop-level-test.true))
    (c.in_err-take_answered.ensures.fault (take k levels) (drop (suc k) levels) loop.stands loop.faultless) in
    search (rules, fault)

pub loop-level-preserved : goal.loop-level-preserved
loop-level-preserved c =
    let levels = c.args.levels.now in
    let k = c.loop-level.level-index in
    let loop = c.loop-level.invariant in
    rw (take_more levels k Dominant c.loop-level-test.true) (record {
      stands = c.take_answered.ensures.stands (take k levels) loop.stands;
      faultless = c.in_ok-take_answered.ensures.good (take k levels) loop.stands loop.faultless;
    })

pub returns-in-Some-clause-frame : goal.returns-in-Some-clause-frame
returns-in-Some-clause-frame c =
    let levels = c.args.levels.now in
    let all = take_all c.loop-level.level-index levels c.loop-level-test.false in
    let P = λ (l : List Level). StandsFor c.loop-level.shift l in
    let good : IsFaultless levels = subst IsFaultless all c.loop-level.invariant.faultless in
    let shows = c.in-Some.ensures levels (subst P all c.loop-level.invariant.stands) (faultless_readable levels good) in
    faultless_received c.in-Some.frame levels good shows.some

pub returns-in-None-clause-fault : goal.returns-in-None-clause-fault
returns-in-None-clause-fault c =
    let levels = c.args.levels.now in
    let all = take_all c.loop-level.level-index levels c.loop-level-test.false in
    let P = λ (l : List Level). StandsFor c.loop-level.shift l in
    let good : IsFaultless levels = subst IsFaultless all c.loop-level.invariant.faultless in
    let shows = c.in-None.ensures levels (subst P all c.loop-level.invariant.stands) (faultless_readable levels good) in
    faultless_open levels good (λ over. let wrong = shows.only over.0 over.1 in cc)
