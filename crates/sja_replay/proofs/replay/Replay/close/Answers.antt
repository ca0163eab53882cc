use Rattle.std.proofs.Common.{Option, Result, subst}
use Rattle.sja_replay.specs.declared.reception.Reception.{Reception}
use Rattle.sja_replay.specs.declared.misfit.Misfit.{Misfit}
use Rattle.sja_replay.specs.Inside.Walking.{FindsVerdict, GoesOff}
use Rattle.sja_replay.proofs.BitTaken.Closes.{closed_on, closed_off}
use Rattle.sja_replay.proofs.replay.Replay.close.Goals as goal

-- src/verdicts.rt
pub returns-else-events : goal.returns-else-events
returns-else-events c = λ p free looked.
    let V : Result (Option Reception) Misfit → Type 0 =
    λ r. FindsVerdict c.args.self.now c.verdict.new.self c.args.events.now r in
    closed_on c.args.self.now c.verdict.new.self p c.args.events.now c.in_ok-reception.reception c.if-events.false
    (subst V c.in_ok-reception.was c.verdict.ensures p free looked)

pub returns-in_ok-go_off : goal.returns-in_ok-go_off
returns-in_ok-go_off c = λ p free looked.
    let V : Result (Option Reception) Misfit → Type 0 =
    λ r. FindsVerdict c.args.self.now c.verdict.new.self c.args.events.now r in
    let G : Result (Unit {0}) Misfit → Type 0 = λ r. GoesOff c.verdict.new.self c.go_off.new.self r in
    closed_off c.args.self.now c.verdict.new.self c.go_off.new.self p c.args.events.now c.in_ok-reception.reception
    c.if-events.true (subst V c.in_ok-reception.was c.verdict.ensures p free looked)
    (subst G c.in_ok-go_off.was c.go_off.ensures)
