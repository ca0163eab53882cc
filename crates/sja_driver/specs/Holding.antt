-- What a node's links hold between its journal and its driver's acts (this project's own rule).
use Rattle.std.specs.Prelude.{◌≡◌, ◌<◌, ◌++◌, ℕ, suc, Bool, false, List, [], length, slice_index_or}
use Rattle.sja_journal.specs.declared.down.Down.{Down}
use Rattle.sja_journal.specs.declared.entry.Entry.{Entry}
use Rattle.sja_journal.specs.Accounts.{account}
use Rattle.sja_journal.specs.Lists.{Lists, messages}
use Rattle.sja_link.specs.Looking.{off_among}
use Rattle.sja_driver.specs.declared.any_driver.AnyDriver.{AnyDriver}
use Rattle.sja_driver.specs.declared.release.Release.{Release}
use Rattle.sja_driver.specs.declared.work_log.WorkLog.{WorkLog}
use Rattle.sja_driver.specs.AnyDrivers.{held_of, off_of}
use Rattle.sja_driver.specs.TypedActs.{TypedAct, given_in, acts_of}
use Rattle.sja_driver.specs.Logs.{Traces, releases_in, left_in, released_of, leaves}

-- the links of a node stand for the parts of its journal and for its driver's acts and releases: what came down was
-- released, or was left, or is held; bus-off is known where it came; and nothing came before its activation
pub record Holds {E : Type 0} (stands : E → ℕ → Lists → Type 0) (acts : List TypedAct) (releases : List Release)
    (left : List (List (List ℕ))) (ended : ℕ) (off : Bool) (j : List Entry) (end : E) : Type 0 where
  pub got : ℕ → List Down
  pub kept : (a : ℕ) → stands end (suc a)
      (account j (suc a) (record { got = got a; given = given_in (acts_of acts (suc a)) }))
  pub told : (a : ℕ) → messages (got a) ≡ released_of releases (suc a) ++ slice_index_or left a []
  pub off_is : off ≡ off_among false (got ended)
  pub later : (a : ℕ) → ended < a → got a ≡ []

-- the same by a driver and its log
abbrev pub HoldsBy : {E : Type 0} → (E → ℕ → Lists → Type 0) → List TypedAct → AnyDriver → WorkLog → List Entry → E →
    Type 0
HoldsBy stands acts driver log j end =
    Holds stands acts (releases_in log) (leaves (left_in log) (held_of driver)) (length (left_in log)) (off_of driver)
    j end

-- a driver did these acts more in this version: for all that it did before, and for all journals, its log and its
-- links went on with them
pub record Goes {E : Type 0} (stands : E → ℕ → Lists → Type 0) (version : ℕ) (was now : AnyDriver)
    (log log_now : WorkLog) (old new : E) (more : List TypedAct) : Type 0 where
  pub traces : (acts : List TypedAct) → Traces version was log acts → Traces version now log_now (acts ++ more)
  pub holds : (acts : List TypedAct) (j : List Entry) → Traces version was log acts →
      HoldsBy stands acts was log j old → HoldsBy stands (acts ++ more) now log_now j new
