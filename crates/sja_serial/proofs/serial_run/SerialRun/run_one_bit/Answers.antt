use Rattle.std.proofs.Common.{◌+◌, refl, arith}
use Rattle.std.proofs.lemmas.List.{with_items_is}
use Rattle.sja_bus.specs.Boards.{HasOrders}
use Rattle.sja_serial.specs.Inside.SerialProgress.{run_now}
use Rattle.sja_serial.specs.Bits.{TakesBit}
use Rattle.sja_serial.proofs.ManyBits.BitRun.{cuts_of, takes_bit}
use Rattle.sja_serial.proofs.ManyBits.Borrowed.{stands_there, lawful_there, put_back}
use Rattle.sja_serial.proofs.ManyBits.Unstopped.{never_stops_there}
use Rattle.sja_serial.proofs.serial_run.SerialRun.run_one_bit.Goals as goal

pub returns : goal.returns
returns g c = λ acts h.
    let s = c.self.inside in let now = c.bit.new in let ports = now.board.ports.items in
    let b = c.in-Ok.ensures.bit in
    let same = c.as_mut_slice.ensures.value in let view = c.self.view_is in
    put_back same view (TakesBit g.setup acts) now.self s.drivers.items ports now.links _ (s.bits + 1)
    (with_items_is s.links now.links (omega (arith, c.bit.auto.links, c.as_mut_slice.ensures.len)))
    (takes_bit g.setup (run_now s.bus s.drivers.items s.board.ports.items
    c.as_mut_slice.result.now s.bits) (run_now now.self s.drivers.items ports now.links (s.bits + 1)) acts
    (stands_there same view g.setup acts h) b.right b.keeps.script b.keeps.starts b.keeps.steps b.run b.left
    b.keeps.nodes refl refl b.keeps.others.0 b.kept b.keeps.sames
    b.bit (cuts_of (lawful_there same view c.requires.1.1)) b.lawful)

pub unreachable-requires : goal.unreachable-requires
unreachable-requires g c =
    never_stops_there c.as_mut_slice.ensures.value c.self.view_is g.setup c.requires.0 c.requires.1.0
    c.requires.1.1 (HasOrders c.self.inside.board.ports.items) c.bit.new.self
    c.bit.new.links _ c.in-Err.ensures.reason
