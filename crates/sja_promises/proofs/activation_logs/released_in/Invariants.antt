use Rattle.std.proofs.Common.{◌≡◌, ◌++◌, drop}
use Rattle.sja_driver.specs.Logs.{released_of}
use Rattle.sja_promises.proofs.activation_logs.released_in.Given as goal

-- what was gathered, and the releases that are left, are the whole
abbrev pub invariant-loop-release : goal.invariant-loop-release
invariant-loop-release l = l.list.items ++ released_of
    (drop l.release-index l.releases) l.activation ≡ released_of l.releases l.activation
