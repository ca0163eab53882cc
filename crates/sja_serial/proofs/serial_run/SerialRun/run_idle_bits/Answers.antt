use Rattle.std.proofs.Common.{rules, ◌≡◌, ℕ, ◌+◌, refl, ap, ◌∙◌, arith}
use Rattle.std.specs.Prelude.{Ok}
use Rattle.std.proofs.lemmas.List.{with_items_is}
use Rattle.sja_serial.specs.Inside.SerialProgress.{TakesAtOnce, run_now}
use Rattle.sja_serial.specs.Serial.{SerialValue}
use Rattle.sja_serial.proofs.ManyBits.AtOnce.{takes_at_once}
use Rattle.sja_serial.proofs.ManyBits.Borrowed.{stands_there, put_back}
use Rattle.sja_serial.proofs.ManyBits.Unstopped.{never_refused_there}
use Rattle.sja_serial.proofs.serial_run.SerialRun.run_idle_bits.Goals as goal

pub returns : goal.returns
returns g c = λ acts h.
    let s = c.self.inside in let now = c.quiet_bits.new in let setup = g.setup in
    let many = c.in-Ok.bits in let most = c.args.count in let ports = s.board.ports.items in
    let q = c.quiet_bits.ensures in let ok = c.in-Ok.ensures in
    let same = c.as_mut_slice.ensures.value in let view = c.self.view_is in
    let is : c.quiet_bits.result ≡ Ok many = search rules in
    let P : SerialValue → SerialValue → Type 0 = λ r n. TakesAtOnce setup acts r n most many in
    put_back same view P now.self s.drivers.items ports now.links _ (s.bits + many)
    (with_items_is s.links now.links (omega (arith, c.quiet_bits.auto.links, c.as_mut_slice.ensures.len)))
    (takes_at_once setup (run_now s.bus s.drivers.items ports c.as_mut_slice.result.now s.bits)
    (run_now now.self s.drivers.items ports now.links (s.bits + many)) acts
    (stands_there same view setup acts h) ok.right q.script q.starts q.steps q.nodes refl refl q.sames ok.kept
    most many ok.most ok.bits.0 ok.bits.1 refl
    (λ zero. q.items (is ∙ ap (λ (x : ℕ). Ok x) zero)) (λ zero. q.untold (is ∙ ap (λ (x : ℕ). Ok x) zero))
    ok.stretch)

pub unreachable-requires : goal.unreachable-requires
unreachable-requires g c =
    never_refused_there c.as_mut_slice.ensures.value c.self.view_is g.setup c.requires.0 c.requires.1.0
    c.requires.1.1 c.quiet_bits.new.self c.quiet_bits.new.links _ c.in-Err.ensures.reason
