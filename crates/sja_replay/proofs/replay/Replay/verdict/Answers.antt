use Rattle.std.proofs.Common.{Result, subst}
use Rattle.sja_replay.specs.declared.reception.Reception.{Reception}
use Rattle.sja_replay.specs.declared.misfit.Misfit.{Misfit}
use Rattle.sja_replay.specs.Inside.Walking.{JudgesNext}
use Rattle.sja_replay.proofs.BitTaken.Closes.{with_frame, without_frame}
use Rattle.sja_replay.proofs.replay.Replay.verdict.Goals as goal

-- src/verdicts.rt
pub returns-in_ok-reception-in-Some : goal.returns-in_ok-reception-in-Some
returns-in_ok-reception-in-Some c = λ p free looked.
    let P : Result Reception Misfit → Type 0 = λ r. JudgesNext c.args.self.now c.judge.new.self r in
    with_frame c.args.self.now c.judge.new.self p c.args.events.now.received _ c.in_ok-reception-in-Some.reception
    c.in-Some.is
    (subst P c.in_ok-reception-in-Some.was c.judge.ensures p free looked)

pub returns-in-None : goal.returns-in-None
returns-in-None c = λ p free looked.
    without_frame c.args.self.now p c.args.events.now.received c.in-None.is free looked
