use Rattle.std.proofs.Common.{Result, refl, subst}
use Rattle.can_node_rules.specs.declared.request.Request.{Request}
use Rattle.can_node.specs.Stands.{Requests}
use Rattle.sja_replay.proofs.Knowledge.Entering.{asks_takes, off_takes, send_refused, asks, asks_off}
use Rattle.sja_replay.proofs.replay.Replay.send.Goals as goal

-- src/items.rt
pub returns-then-self : goal.returns-then-self
returns-then-self c = record {
  ahead = refl;
  entries = refl;
  taken = λ e before h. (
    off_takes c.args.self.now before c.args.request h c.if-self.true,
    asks_off c.args.self.now _ before c.args.request h (record { bits = refl; ahead = refl; entries = refl })
        c.if-self.true refl refl refl refl,
  );
  refused = λ e before h t. cc;
}

pub returns-in-Ok : goal.returns-in-Ok
returns-in-Ok c =
    let P : Result (Unit {0}) Request → Type 0 =
    λ r. Requests c.args.self.now.node c.request.new.self c.args.request r in
    let took = subst P c.in-Ok.is c.request.ensures in record {
      ahead = refl;
      entries = refl;
      taken = λ e before h. (
        asks_takes c.args.self.now before c.args.request c.request.new.self h c.if-self.false took,
        asks c.args.self.now _ before c.args.request h (record { bits = refl; ahead = refl; entries = refl })
            c.if-self.false took.0 refl refl refl,
      );
      refused = λ e before h t. cc;
    }

pub returns-in-Err : goal.returns-in-Err
returns-in-Err c =
    let P : Result (Unit {0}) Request → Type 0 =
    λ r. Requests c.args.self.now.node c.request.new.self c.args.request r in
    let back = subst P c.in-Err.is c.request.ensures in record {
      ahead = refl;
      entries = refl;
      taken = λ e before h. cc;
      refused = λ e before h t.
          send_refused c.args.self.now before c.args.request _ c.request.new.self h c.if-self.false back t;
    }
