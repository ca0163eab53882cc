use Rattle.std.proofs.Common.{refl}
use Rattle.sja_replay.proofs.Knowledge.Entering.{start_taken, start_refused, starts}
use Rattle.sja_replay.proofs.replay.Replay.start.Goals as goal

-- src/items.rt
pub returns-in-Reset : goal.returns-in-Reset
returns-in-Reset c = record {
  ahead = refl;
  entries = refl;
  taken = λ e before h. (
    start_taken c.args.self.now before c.args.config c.phase.result h c.phase.ensures.phase c.in-Reset.is,
    starts c.args.self.now _ before c.args.config h (record { bits = refl; ahead = refl; entries = refl })
        c.start.ensures refl refl refl,
  );
  refused = λ e before h t. cc;
}

pub returns-in_default : goal.returns-in_default
returns-in_default c = record {
  ahead = refl;
  entries = refl;
  taken = λ e before h. cc;
  refused = λ e before h t.
      start_refused c.args.self.now before c.args.config c.phase.result h c.phase.ensures.phase
      c.in_default.not-Reset t;
}
