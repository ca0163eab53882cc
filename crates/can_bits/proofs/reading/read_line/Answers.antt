use Rattle.std.proofs.Common.{List, sym, subst}
use Rattle.can_levels.specs.declared.level.Level.{Level}
use Rattle.can_levels.specs.Reading.{IsReceived}
use Rattle.can_levels.proofs.LineLaws.{sent_received}
use Rattle.can_levels.proofs.Whole.Verdicts.{judged_by, frame_only, fault_only}
use Rattle.can_bits.proofs.reading.read_line.Goals as goal

pub returns-clause-frame_only : goal.returns-clause-frame_only
returns-clause-frame_only c =
    frame_only c.args.levels.now c.run.result
    (judged_by _ _ c.run.ensures.frame c.run.ensures.fault)

pub returns-clause-fault_only : goal.returns-clause-fault_only
returns-clause-fault_only c =
    fault_only c.args.levels.now c.run.result
    (judged_by _ _ c.run.ensures.frame c.run.ensures.fault)

pub returns-clause-sent : goal.returns-clause-sent
returns-clause-sent c f l h e =
    let P = λ (m : List Level). IsReceived f m in
    returns-clause-frame_only c f (subst P (sym e) (sent_received f l h))
