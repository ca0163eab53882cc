use Rattle.std.proofs.Common.{rules, ◌≡◌, ℕ, suc, ◌+◌, ◌≤◌, false, List, subst, arith}
use Rattle.sja_driver.specs.TypedActs.{TypedAct}
use Rattle.sja_serial.specs.Bits.{TakesBits}
use Rattle.sja_serial.specs.Bits.TakesBits.{no_bit, one_more}
use Rattle.sja_serial.specs.SerialPlaces.{IsElsewhere}
use Rattle.sja_serial.specs.Serial.{SerialValue, StandsAt}
use Rattle.sja_serial.proofs.WholeRun.GoingOn.{stands_bits}
use Rattle.sja_serial.proofs.serial_run.SerialRun.place_turn.Goals as goal

pub loop-place-init : goal.loop-place-init
loop-place-init g c = record {
  most = omega arith;
  bits = λ acts h. no_bit c.args.self.now;
  stays = c.requires.0;
}

pub loop-place-preserved : goal.loop-place-preserved
loop-place-preserved g c =
    let was = c.args.self.now in let mid = c.loop-place.self in let now = c.run_one_bit.new.self in
    let i = c.loop-place.invariant in let run = c.loop-place.run in let less = c.if-run-limit.false in
    let Before : SerialValue → Type 0 = IsElsewhere c.args.node c.args.place in
    let next : suc run ≡ run + 1 = omega arith in
    let away : c.is_at.result ≡ false = search rules in
    let all : (acts : List (List TypedAct)) → StandsAt g.setup was acts →
    TakesBits g.setup acts Before was (run + 1) now =
    λ acts h. subst (λ (n : ℕ). TakesBits g.setup acts Before was n now) next
    (one_more was mid now run (i.bits acts h) (c.is_at.ensures.no away)
    (c.run_one_bit.ensures acts (stands_bits g.setup acts Before was mid run (i.bits acts h) h))) in
    record {
      most = omega (arith, less);
      bits = all;
      stays = (
        c.requires.0.0,
        stands_bits g.setup c.requires.0.0 Before was now (run + 1)
            (all c.requires.0.0 c.requires.0.1) c.requires.0.1,
      );
    }
