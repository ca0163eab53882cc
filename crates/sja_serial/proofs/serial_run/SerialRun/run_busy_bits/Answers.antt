use Rattle.std.proofs.Common.{◌≡◌, ◌+◌, ◌≤◌, arith}
use Rattle.std.proofs.lemmas.List.{with_items_is}
use Rattle.sja_bus.specs.Moment.{moment}
use Rattle.sja_serial.specs.Bits.{SomeWorks}
use Rattle.sja_serial.proofs.ManyBits.ManyBits.{busy, either, ends_at_rest, asked_in, no_break, bits_taken}
use Rattle.sja_serial.proofs.ManyBits.SomeBits.{some_first, busy_whole}
use Rattle.sja_serial.proofs.serial_run.SerialRun.run_busy_bits.Given.{Over}
use Rattle.sja_serial.proofs.serial_run.SerialRun.run_busy_bits.Goals.{After-bits}
use Rattle.sja_serial.proofs.serial_run.SerialRun.run_busy_bits.Goals as goal

-- no more are asked for than are left
few : {g : Over} (c : After-bits g) → c.args.self.now.bits + c.at_most-most.result ≤ g.setup.bits
few c = let left = c.bits_left.ensures.left in let most = c.at_most-most.ensures in omega (arith, left, most)

pub unreachable-requires : goal.unreachable-requires
unreachable-requires g c = let b = c.self.inside in let at = (goal.at.unreachable-requires g c).After-bits in
    no_break b.bus b.drivers.items b.board c.as_mut_slice.result.now b.links.items b.bits c.args.self.now
    c.as_mut_slice.ensures.value c.self.view_is g.setup c.requires c.bits_left.ensures.lawful
    c.at_most-most.result (few at) (either g.setup _)
    (moment c.bits.new.self c.bits.new.links c.bits.new.board) _
    c.in-Err.ensures.reason

pub returns-clause-bits : goal.returns-clause-bits
returns-clause-bits g c =
    let asked : ends_at_rest (asked_in _ c.in-Ok.ensures.bits) ≡ 1 = omega arith in
    let b = c.self.inside in let at = (goal.at.returns-clause-bits g c).After-bits in
    bits_taken b.bus b.drivers.items b.board c.as_mut_slice.result.now b.links.items b.bits c.args.self.now
    c.as_mut_slice.ensures.value c.self.view_is g.setup c.requires c.bits_left.ensures.lawful
    c.at_most-most.result (few at) (busy g.setup (asked_in _ c.in-Ok.ensures.bits) asked)
    (moment c.bits.new.self c.bits.new.links c.bits.new.board) _
    (with_items_is b.links c.bits.new.links (omega (arith, c.bits.auto.links, c.as_mut_slice.ensures.len)))
    c.in-Ok.many c.in-Ok.ensures.bits

pub returns-clause-whole : goal.returns-clause-whole
returns-clause-whole g c = let setup = g.setup in let h = c.requires in
    busy_whole setup h.0 (SomeWorks setup) c.args.self.now _ c.in-Ok.many c.at_most-most.result c.args.count
    c.bits_left.result (some_first setup h.0 (SomeWorks setup) c.args.self.now _ c.in-Ok.many h.1
    (returns-clause-bits g c h.0 h.1)) c.bits_left.ensures.left c.at_most-most.ensures c.in-Ok.ensures.whole
