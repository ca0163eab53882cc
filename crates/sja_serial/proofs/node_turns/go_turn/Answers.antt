use Rattle.std.proofs.Common.{rules, ◌≡◌, ℕ, true, false, Bool, subst, arith}
use Rattle.sja_serial.specs.Bits.{TakesBusTurn, TakesRest}
use Rattle.sja_serial.specs.Ending.{setup_of}
use Rattle.sja_serial.specs.Inside.Rounds.TakesGo.{over, spent, one_bit}
use Rattle.sja_serial.specs.Serial.{Setup, all_acts}
use Rattle.sja_serial.proofs.AllNodes.Several.{at_own, from_own}
use Rattle.sja_serial.proofs.ManyBits.SomeBits.{bits_within}
use Rattle.sja_serial.proofs.WholeRun.GoingOn.{bits_run, stands_by_bits}
use Rattle.sja_serial.proofs.node_turns.go_turn.Goals as goal

pub rest_turn-requires : goal.rest_turn-requires
rest_turn-requires c =
    let h = c.requires.run in let m = c.loop.invariant.goes h.0 h.1 in
    let r = c.take_round.ensures.round m.0 m.1 in (all_acts r.0, at_own r.2.by.stands)

pub bus_turn-requires : goal.bus_turn-requires
bus_turn-requires c =
    let h = c.requires.run in let m = c.loop.invariant.goes h.0 h.1 in
    let r = c.take_round.ensures.round m.0 m.1 in (all_acts r.0, at_own r.2.by.stands)

pub returns-then-none_is_left : goal.returns-then-none_is_left
returns-then-none_is_left c = λ step_runs h.
    let m = c.loop.invariant.goes step_runs h in let r = c.take_round.ensures.round m.0 m.1 in
    let mid = c.take_round.new.run in let now = c.rest_turn.new.self in let acts = all_acts r.0 in
    m.2 now c.rest_turn.result (over m.0 r.0 c.loop.run mid now c.rest_turn.result r.1
    (c.none_is_left.ensures.none c.if-none_is_left.true r.0 r.2)
    (subst (λ (n : ℕ). TakesRest (setup_of c.args.plan.now) acts mid now n c.rest_turn.result)
    c.bits-then-none_is_left.ensures.value
    (from_own (λ (s : Setup). TakesRest s acts mid now c.bits-then-none_is_left.result c.rest_turn.result)
    r.2.by.stands
    (c.rest_turn.ensures.turn acts (at_own r.2.by.stands)))))

pub returns-then-not-bus_turn : goal.returns-then-not-bus_turn
returns-then-not-bus_turn c = λ step_runs h.
    let m = c.loop.invariant.goes step_runs h in let r = c.take_round.ensures.round m.0 m.1 in
    let mid = c.take_round.new.run in let now = c.bus_turn.new.self in let acts = all_acts r.0 in
    let no : c.bus_turn.result ≡ false = search rules in
    let t = from_own (λ (s : Setup). TakesBusTurn s acts mid now 1 c.bus_turn.result) r.2.by.stands
    (c.bus_turn.ensures.turn acts (at_own r.2.by.stands)) in
    m.2 now false (spent m.0 r.0 c.loop.run mid now r.1
    (c.none_is_left.ensures.some c.if-none_is_left.false r.0 r.2)
    (subst (λ (b : Bool). TakesBusTurn (setup_of c.args.plan.now) acts mid now 1 b) no t))

pub loop-preserved : goal.loop-preserved
loop-preserved c =
    let plan = c.args.plan.now in let mid = c.take_round.new.run in let now = c.bus_turn.new.self in
    let yes : c.bus_turn.result ≡ true = search rules in record {
      bits =
          let h = c.requires.run in let m = c.loop.invariant.goes h.0 h.1 in
          let r = c.take_round.ensures.round m.0 m.1 in let acts = all_acts r.0 in
          let t = from_own (λ (s : Setup). TakesBusTurn s acts mid now 1 c.bus_turn.result) r.2.by.stands
          (c.bus_turn.ensures.turn acts (at_own r.2.by.stands)) in
          let n = bits_run (setup_of plan) acts _ mid now t.run t.bits in let one = t.whole yes in
          let before = c.take_round.ensures.bits in let counted = c.loop.invariant.bits in
          omega (arith, n, one, before, counted);
      goes = λ step_runs h.
          let m = c.loop.invariant.goes step_runs h in let r = c.take_round.ensures.round m.0 m.1 in
          let acts = all_acts r.0 in
          let t = from_own (λ (s : Setup). TakesBusTurn s acts mid now 1 c.bus_turn.result) r.2.by.stands
          (c.bus_turn.ensures.turn acts (at_own r.2.by.stands)) in (
            r.0,
            record {
              by = stands_by_bits (setup_of plan) r.0 _ mid now t.run t.bits r.2.by;
              first = r.2.first;
            },
            λ last whole rest. m.2 last whole (one_bit m.0 r.0 c.loop.run mid now last whole r.1
                (c.none_is_left.ensures.some c.if-none_is_left.false r.0 r.2)
                (subst (λ (b : Bool). TakesBusTurn (setup_of plan) acts mid now 1 b) yes t) rest),
          );
    }

pub unreachable-requires : goal.unreachable-requires
unreachable-requires c =
    let h = c.requires.run in let m = c.loop.invariant.goes h.0 h.1 in
    let within = bits_within (setup_of c.args.plan.now) c.loop.run (all_acts m.0) m.1.by.stands in
    let counted = c.loop.invariant.bits in let past = c.loop-test.false in let all = c.bits.ensures.value in
    omega (arith, within, counted, past, all)
