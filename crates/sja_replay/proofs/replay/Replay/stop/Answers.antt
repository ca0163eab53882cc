use Rattle.std.proofs.Common.{refl}
use Rattle.sja_replay.proofs.Knowledge.Entering.{stop_taken, stops}
use Rattle.sja_replay.proofs.replay.Replay.stop.Goals as goal

-- src/items.rt
pub returns : goal.returns
returns c = record {
  ahead = refl;
  entries = refl;
  taken = λ e before h. (
    stop_taken c.args.self.now before h,
    stops c.args.self.now _ before h (record { bits = refl; ahead = refl; entries = refl })
        c.stop.ensures.enters refl refl refl,
  );
  refused = λ e before h t. cc;
}
