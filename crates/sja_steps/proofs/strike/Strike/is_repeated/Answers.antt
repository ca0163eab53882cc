use Rattle.std.proofs.Common.{◌≡◌, ◌<◌, ◌/◌, ◌%◌, rules}
use Rattle.sja_steps.proofs.Repeating.{repeated_whole, whole_repeated}
use Rattle.sja_steps.proofs.strike.Strike.is_repeated.Goals as goal

pub returns-then-later-every-eq0 : goal.returns-then-later-every-eq0
returns-then-later-every-eq0 c =
    let s = c.args.self.now in let later = c.args.later in
    let some : 0 < s.every = search rules in (
      (λ t. repeated_whole s later c.if-later-every-eq0.true
          (let few : later / s.every < s.times = search rules in few)),
      (λ h. let few : later / s.every < s.times = (whole_repeated s later some h).1 in search rules),
    )

pub returns-else-later-every-eq0 : goal.returns-else-later-every-eq0
returns-else-later-every-eq0 c =
    let s = c.args.self.now in let later = c.args.later in
    let some : 0 < s.every = search rules in
    let no = c.if-later-every-eq0.false in (
      (λ t. absurd (no (let e : later % s.every ≡ 0 = search rules in e))),
      (λ h. absurd (no (whole_repeated s later some h).0)),
    )
