use Rattle.std.proofs.Common.{◌≡◌, ◌+◌, false, arith, rules, sym, subst}
use Rattle.std.specs.Prelude.{Ok}
use Rattle.std.proofs.lemmas.List.{with_items_is}
use Rattle.sja_steps.specs.Striking.{Strikes}
use Rattle.sja_bus.specs.Boards.{HasOrders}
use Rattle.sja_bus.specs.Moment.{moment}
use Rattle.sja_bus.specs.UntilTold.{IsCalm, RunsNone}
use Rattle.sja_serial.specs.Serial.{SerialValue}
use Rattle.sja_serial.proofs.ManyBits.Ending.{ended_told}
use Rattle.sja_serial.proofs.ManyBits.ManyBits.{untold, no_break, bits_taken}
use Rattle.sja_serial.proofs.serial_run.SerialRun.run_untold_bits.Goals as goal

pub unreachable-requires : goal.unreachable-requires
unreachable-requires g c = let b = c.self.inside in
    no_break b.bus b.drivers.items b.board c.as_mut_slice.result.now b.links.items b.bits c.args.self.now
    c.as_mut_slice.ensures.value c.self.view_is g.setup c.requires.0 c.requires.1.1 c.args.count
    c.requires.1.0 (untold g.setup)
    (moment c.bits_until_told.new.self c.bits_until_told.new.links c.bits_until_told.new.board) _
    c.in-Err.ensures.reason

pub returns-clause-bits : goal.returns-clause-bits
returns-clause-bits g c = let b = c.self.inside in
    bits_taken b.bus b.drivers.items b.board c.as_mut_slice.result.now b.links.items b.bits c.args.self.now
    c.as_mut_slice.ensures.value c.self.view_is g.setup c.requires.0 c.requires.1.1 c.args.count
    c.requires.1.0 (untold g.setup)
    (moment c.bits_until_told.new.self c.bits_until_told.new.links c.bits_until_told.new.board) _
    (with_items_is b.links c.bits_until_told.new.links
    (omega (arith, c.bits_until_told.auto.links, c.as_mut_slice.ensures.len))) c.in-Ok.bits c.in-Ok.ensures.bits

pub returns-clause-unstruck : goal.returns-clause-unstruck
returns-clause-unstruck g c = λ i node less few strikes.
    let P : SerialValue → Type 0 = λ x. Strikes x.bus.script (x.bus.run + i) node in
    c.in-Ok.ensures.unstruck i node less few (subst P (sym c.self.view_is) strikes)

pub returns-clause-longest : goal.returns-clause-longest
returns-clause-longest g c = λ some. let b = c.self.inside in
    ended_told c.args.count c.in-Ok.bits (moment b.bus c.as_mut_slice.result.now b.board)
    (moment c.bits_until_told.new.self c.bits_until_told.new.links c.bits_until_told.new.board) b.drivers.items
    b.links.items _ b.bits _ c.args.self.now c.self.view_is (c.in-Ok.ensures.longest some)

pub returns-clause-none : goal.returns-clause-none
returns-clause-none g c = λ zero.
    let is : c.bits_until_told.result ≡ Ok 0 = search rules in
    let P : SerialValue → Type 0 = λ x. RunsNone (HasOrders x.ports) false c.args.count x.bus in
    subst P c.self.view_is (c.bits_until_told.ensures.none is)

pub returns-clause-calm : goal.returns-clause-calm
returns-clause-calm g c = λ some.
    let P : SerialValue → Type 0 = λ x. IsCalm (HasOrders x.ports) x.bus in
    subst P c.self.view_is (c.in-Ok.ensures.calm some)
