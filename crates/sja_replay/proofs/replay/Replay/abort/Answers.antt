use Rattle.std.proofs.Common.{refl}
use Rattle.sja_replay.proofs.Knowledge.Entering.{abort_taken, abort_refused, aborts_on}
use Rattle.sja_replay.proofs.replay.Replay.abort.Goals as goal

-- src/items.rt
pub returns-in-Unchanged : goal.returns-in-Unchanged
returns-in-Unchanged c = record {
  ahead = refl;
  entries = refl;
  taken = λ e before h. cc;
  refused = λ e before h t.
      abort_refused c.args.self.now before c.abort.new.self c.abort.result h c.in-Unchanged.is c.abort.ensures t;
}

pub returns-in_default : goal.returns-in_default
returns-in_default c = record {
  ahead = refl;
  entries = refl;
  taken = λ e before h. (
    abort_taken c.args.self.now before c.abort.new.self c.abort.result h c.in_default.not-Unchanged c.abort.ensures,
    aborts_on c.args.self.now _ before c.abort.result h (record { bits = refl; ahead = refl; entries = refl })
        c.in_default.not-Unchanged c.abort.ensures refl refl refl,
  );
  refused = λ e before h t. cc;
}
