use Rattle.std.proofs.Common.{◌≡◌, ◌+◌, inl, inr, arith}
use Rattle.std.specs.Prelude.{◌⊎◌}
use Rattle.std.proofs.lemmas.Bool.{cases_lt}
use Rattle.sja_serial.specs.Bits.TakesBits.{no_bit}
use Rattle.sja_serial.proofs.ManyBits.Ending.{ended_of}
use Rattle.sja_serial.proofs.serial_run.SerialRun.bits_until_told.Goals as goal

pub returns-then-most-eq0-clause-bits : goal.returns-then-most-eq0-clause-bits
returns-then-most-eq0-clause-bits g c = λ acts h. no_bit c.args.self.now

pub returns-clause-longest : goal.returns-clause-longest
returns-clause-longest g c = λ some. let left = c.bits_left.ensures.left in let most = c.at_most-most.ensures in
    let which : (c.at_most-most.result ≡ c.args.count) ⊎ (c.args.self.now.bits + c.at_most-most.result ≡ g.setup.bits) =
    elim (cases_lt c.args.count c.bits_left.result) [
      | inl fewer ↦ inl (omega (arith, most, fewer))
      | inr enough ↦ inr (omega (arith, most, enough, left))
    ] in
    ended_of c.requires c.at_most-most.result c.args.count which c.run_some_bits.ensures.bits
    c.run_some_bits.ensures.longest
