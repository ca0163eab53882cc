use Rattle.std.proofs.Common.{sym, subst}
use Rattle.sja_serial.specs.Bits.{AllRestIn, SomeWorks}
use Rattle.sja_serial.specs.Serial.{SerialValue, StandsAt}
use Rattle.sja_serial.specs.Inside.SerialProgress.{run_now}
use Rattle.sja_serial.proofs.WholeRun.GoingOn.{stands_bits}
use Rattle.sja_serial.proofs.ManyBits.SomeBits.{all_rest, some_works, rest_so}
use Rattle.sja_serial.proofs.serial_run.SerialRun.rest_turn.Goals as goal

pub returns-clause-turn : goal.returns-clause-turn
returns-clause-turn g c = λ acts h.
    let setup = g.setup in let n = c.run_busy_bits.new.self in let b = c.self.inside in
    let t = c.run_busy_bits.ensures.bits acts h in
    let now = run_now b.bus b.drivers.items b.board.ports.items b.links.items b.bits in
    let s : StandsAt setup now acts = subst (λ (x : SerialValue). StandsAt setup x acts) (sym c.self.view_is)
    (stands_bits setup acts (SomeWorks setup) c.args.self.now n c.run_busy_bits.result t h) in
    rest_so setup acts c.args.self.now n c.run_busy_bits.result c.args.most c.at_rest.result h t
    c.run_busy_bits.ensures.most c.run_busy_bits.ensures.whole
    (λ yes. subst (λ (x : SerialValue). AllRestIn setup x) c.self.view_is
    (all_rest setup now acts s (c.at_rest.ensures.rest s.right yes)))
    (λ no. subst (λ (x : SerialValue). SomeWorks setup x) c.self.view_is
    (some_works setup now acts s (c.at_rest.ensures.busy s.right no)))

pub returns-clause-stays : goal.returns-clause-stays
returns-clause-stays g c =
    let h = c.requires in (
      h.0,
      stands_bits g.setup h.0 (SomeWorks g.setup) c.args.self.now c.run_busy_bits.new.self
          c.run_busy_bits.result (c.run_busy_bits.ensures.bits h.0 h.1) h.1,
    )
