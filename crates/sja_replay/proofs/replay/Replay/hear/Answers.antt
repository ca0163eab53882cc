use Rattle.std.proofs.Common.{refl}
use Rattle.sja_replay.proofs.BitTaken.Heard.{heard_bit}
use Rattle.sja_replay.proofs.replay.Replay.hear.Goals as goal

pub returns : goal.returns
returns c =
    let took = c.look_on.ensures in record {
      node = took.same.node;
      aborted = took.same.aborted;
      passes = λ before after level segment next hears r takes says then j at.
          heard_bit c.args.self.now c.look_on.new.self before after level segment next hears r takes says then _
          (record { node = refl; bits = refl; aborted = refl; off = refl; free = refl; entries = refl }) took j at;
    }
