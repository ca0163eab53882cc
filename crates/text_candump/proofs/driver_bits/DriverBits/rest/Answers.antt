use Rattle.std.proofs.Common.{refl, inr}
use Rattle.text_candump.proofs.driver_bits.DriverBits.rest.Goals as goal

pub returns : goal.returns
returns c =
    inr (record { may = c.requires; short = c.rest-short.result; passed = refl; bits = c.rest-short.ensures })

pub rest-short-requires : goal.rest-short-requires
rest-short-requires c = c.requires.rests
