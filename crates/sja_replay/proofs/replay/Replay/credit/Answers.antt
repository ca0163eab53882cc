use Rattle.std.proofs.Common.{◌≤◌, ◌+◌, refl, arith}
use Rattle.sja_replay.proofs.Knowledge.Entering.{credit_taken, credit_refused, pays}
use Rattle.sja_replay.proofs.replay.Replay.credit.Goals as goal

-- src/items.rt
pub returns-then-bytes-self : goal.returns-then-bytes-self
returns-then-bytes-self c = record {
  ahead = refl;
  entries = refl;
  taken = λ e before h. cc;
  refused = λ e before h t.
      credit_refused c.args.self.now before c.args.bytes h
      (λ few. let m = c.if-bytes-self.true in omega (arith, few, m)) t;
}

pub returns : goal.returns
returns c =
    let most = c.args.self.now.fits in
    let few : c.args.self.now.free + c.args.bytes ≤ 64 = omega (arith, most) in record {
      ahead = refl;
      entries = refl;
      taken = λ e before h. (
        credit_taken c.args.self.now before c.args.bytes h few,
        pays c.args.self.now _ before c.args.bytes h (record { bits = refl; ahead = refl; entries = refl })
            refl refl refl refl,
      );
      refused = λ e before h t. cc;
    }
