use Rattle.std.proofs.Common.{◌≡◌, ◌<◌, ◌≤◌, ℕ, true, false, arith}
use Rattle.std.proofs.lemmas.Bool.{le-ltb, lt-ltb}
use Rattle.sja_driver.specs.StepRuns.{by_bytes}
use Rattle.sja_serial.specs.Serial.{all_acts}
use Rattle.sja_serial.proofs.serial_run.SerialRun.step.Goals as goal

pub version-requires : goal.version-requires
version-requires g c = (all_acts c.requires.0.0, c.requires.0.1.stands)

-- in which versions reads and writes are those of bytes
before_it : (version n : ℕ) → n ≡ version → n < 3 → by_bytes version ≡ false
before_it version n is few = le-ltb 2 version (omega (arith, is, few))

since_it : (version n : ℕ) → n ≡ version → 3 ≤ n → by_bytes version ≡ true
since_it version n is many = lt-ltb 2 version (omega (arith, is, many))

pub one_act-requires : goal.one_act-requires
one_act-requires g c = (
  c.requires.0,
  (
    c.requires.1,
    rw (before_it g.setup.version c.version.result c.version.ensures
        c.if-version-lt-FIRST_BY_BYTES.true) tt,
  ),
)

pub read-requires : goal.read-requires
read-requires g c = let past = c.if-version-lt-FIRST_BY_BYTES.false in
    (c.requires.0, (c.requires.1, since_it g.setup.version c.version.result c.version.ensures (omega (arith, past))))

pub write-requires : goal.write-requires
write-requires g c = let past = c.if-version-lt-FIRST_BY_BYTES.false in
    (c.requires.0, (c.requires.1, since_it g.setup.version c.version.result c.version.ensures (omega (arith, past))))

pub reach-requires : goal.reach-requires
reach-requires g c = let past = c.if-version-lt-FIRST_BY_BYTES.false in
    (c.requires.0, (c.requires.1, since_it g.setup.version c.version.result c.version.ensures (omega (arith, past))))
