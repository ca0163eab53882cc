use Rattle.std.proofs.Common.{◌≡◌, Bool, true, false, refl, rules}
use Rattle.std.proofs.lemmas.Bool.{and_parts, eqb-true}
use Rattle.sja_bus.proofs.ports.says_as.Goals as goal

same : (x y : Bool) → mathlib.Core.Bool.beq x y ≡ true → x ≡ y
same true true is = refl
same false false is = refl
same true false is = absurd cc
same false true is = absurd cc

pub returns-clause-yes : goal.returns-clause-yes
returns-clause-yes c = λ yes.
    let t = c.args.turn.now in let o = c.args.other.now in
    let most = and_parts _ _ yes in let all = and_parts _ _ most.0 in let but_ends = and_parts _ _ all.0 in
    let ends = and_parts _ _ but_ends.1 in let front = and_parts _ _ but_ends.0 in let counts = and_parts _ _ front.0 in
    let errors = and_parts _ _ counts.0 in let phase : c.eq.result ≡ true = most.1 in record {
      activation = eqb-true t.activation o.activation all.1;
      receiving = same t.events.receiving o.events.receiving front.1;
      txerr = eqb-true t.txerr o.txerr errors.0;
      rxerr = eqb-true t.rxerr o.rxerr errors.1;
      off = same t.off o.off counts.1;
      phase = search (rules, phase);
      aborted = same t.aborted o.aborted ends.0;
      overrun = same t.overrun o.overrun ends.1;
    }
