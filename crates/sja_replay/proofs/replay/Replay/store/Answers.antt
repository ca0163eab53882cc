use Rattle.std.proofs.Common.{◌≤◌, ◌-◌, length, refl, ap, arith}
use Rattle.sja_replay.proofs.BitTaken.Judging.{stored}
use Rattle.sja_replay.proofs.replay.Replay.store.Goals as goal

-- src/verdicts.rt
pub returns : goal.returns
returns c = λ m is long p free looked.
    let fits : length m ≤ c.args.self.now.free = (let few = c.if-bytes-self.false in omega (arith, few, long)) in
    stored c.args.self.now _ c.take.new.self c.take.result m p is fits free
    (record { node = refl; bits = refl; aborted = refl }) refl refl refl
    (ap (λ b. c.args.self.now.free - b) long) c.take.ensures
