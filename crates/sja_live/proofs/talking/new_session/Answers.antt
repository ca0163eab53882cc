use Rattle.std.proofs.Common.{◌≡◌, rules}
use Rattle.sja_live.proofs.Talks.NewSessions.{ended_answer, endless_answer}
use Rattle.sja_live.proofs.talking.new_session.Goals as goal

pub returns-then-opening-eq0 : goal.returns-then-opening-eq0
returns-then-opening-eq0 c =
    let e = c.endless.ensures in let version : c.args.opening.version ≡ 3 = search rules in
    let bits : c.args.opening.bits ≡ 0 = search rules in
    endless_answer c.args.opening c.endless.result version bits e.at e.bus e.plan e.room

pub returns : goal.returns
returns c =
    let e = c.new.ensures in
    ended_answer c.args.opening c.new.result e.at e.bus e.plan e.room e.limits
