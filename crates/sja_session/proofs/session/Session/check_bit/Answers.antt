use Rattle.std.proofs.Common.{ap, arith}
use Rattle.sja_session.specs.Sessions.{SessionValue}
use Rattle.sja_session.proofs.session.Session.check_bit.Goals as goal

-- the bit is one of the session's, and hasn't run
pub returns-clause-ahead : goal.returns-clause-ahead
returns-clause-ahead c =
    let all = ap (λ (s : SessionValue). s.plan.bits) c.self.view_is in
    let ran = ap (λ (s : SessionValue). s.run.bits) c.self.view_is in
    let few = c.if-bit-self.false in
    let past = c.if-bit-bits.false in let now = c.bits.ensures in
    (omega (arith, few, all), omega (arith, past, now, ran))
