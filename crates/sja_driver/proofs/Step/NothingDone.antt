-- A driver that did nothing yet.
use Rattle.std.proofs.Common.{◌≡◌, ℕ, zero, suc, false, List, [], ◌∷◌, ◌++◌, refl, ap, ◌∙◌}
use Rattle.std.specs.Prelude.{slice_index_or}
use Rattle.sja_link.specs.declared.driver_ledger.DriverLedger.{DriverLedger}
use Rattle.sja_driver.specs.declared.any_driver.AnyDriver.{AnyDriver}
use Rattle.sja_driver.specs.declared.any_driver.AnyDriver.TheVariants.{InReset, InActive}
use Rattle.sja_driver.specs.declared.release.Release.{Release}
use Rattle.sja_driver.specs.declared.work_log.WorkLog.{WorkLog}
use Rattle.sja_driver.specs.AnyDrivers.{is_out, held_of, off_of}
use Rattle.sja_driver.specs.Logs.{IsEmpty, releases_in, left_in, released_of, leaves}

nothing_held : (w : AnyDriver) → is_out w ≡ false → held_of w ≡ []
nothing_held (InReset d) e = refl
nothing_held (InActive d) e = absurd cc

pub nothing_known : (w : AnyDriver) → is_out w ≡ false → off_of w ≡ false
nothing_known (InReset d) e = refl
nothing_known (InActive d) e = absurd cc

no_leaves : (left : List DriverLedger) (held : List (List ℕ)) (a : ℕ) → left ≡ [] → held ≡ [] →
    slice_index_or (leaves left held) a [] ≡ []
no_leaves [] held zero l e = e
no_leaves [] held (suc a) l e = refl
no_leaves (x ∷ left) held a l e = absurd cc

-- a driver that did nothing released nothing, and has nothing to release
pub nothing_told : (w : AnyDriver) (log : WorkLog) (a : ℕ) → IsEmpty log → is_out w ≡ false →
    released_of (releases_in log) (suc a) ++ slice_index_or (leaves (left_in log) (held_of w)) a [] ≡ []
nothing_told w log a empty reset =
    ap (λ (r : List Release). released_of r (suc a) ++ slice_index_or (leaves (left_in log) (held_of w)) a [])
    empty.releases
    ∙ no_leaves (left_in log) (held_of w) a empty.left (nothing_held w reset)
