use Rattle.std.proofs.Common.{◌≡◌, ◌+◌, vec_len, arith}
use Rattle.std.proofs.lemmas.Grind.{common_steps}
use Rattle.sja_threads.proofs.drivers_and_ends.DriversAndEnds.of.Goals as goal

-- the end of one more driver
pub loop-worked-preserved : goal.loop-worked-preserved
loop-worked-preserved c =
    let many : vec_len c.push-in-loop-worked.new.self ≡ vec_len c.loop-worked.ends + 1 =
    let is = c.in_ok-push-2.ensures.len in omega (arith, is) in grind (arith, common_steps)
