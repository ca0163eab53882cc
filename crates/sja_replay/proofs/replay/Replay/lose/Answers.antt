use Rattle.std.proofs.Common.{◌<◌, length, arith}
use Rattle.sja_replay.proofs.BitTaken.Judging.{overrun}
use Rattle.sja_replay.proofs.replay.Replay.lose.Goals as goal

-- src/verdicts.rt
pub returns : goal.returns
returns c = λ m is long p free looked.
    let beyond : c.args.self.now.free < length m = (let more = c.if-bytes-self.false in omega (arith, more, long)) in
    overrun c.args.self.now c.take.new.self c.take.result m c.args.bytes c.take.new.self.free p is long beyond free
    c.take.ensures c.take.ensures.free
