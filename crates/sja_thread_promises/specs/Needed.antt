-- When a bit of a run in threads is due (this project's own rule).
use Rattle.std.specs.Prelude.{◌≡◌, ◌<◌, ◌≤◌, ◌⊎◌, ℕ, max, List, [], ◌∷◌, length}
use Rattle.sja_journal.specs.declared.entry.Entry.{Entry}
use Rattle.sja_journal.specs.Records.{record_of}
use Rattle.sja_rings.specs.declared.node_bus.NodeBus.{NodeBus}
use Rattle.sja_bus_rules.specs.Wire.{journal_at}
use Rattle.sja_log.specs.declared.end.End.{End}
use Rattle.sja_log.specs.declared.end.End.TheVariants.{Rest, Bits}
use Rattle.sja_log.specs.Log.{RunValue, journals_in}
use Rattle.sja_plan.specs.Plan.{PlanValue}
use Rattle.sja_steps.specs.declared.step.Step.{Step}
use Rattle.sja_steps.specs.declared.step.Step.TheVariants.{At}
use Rattle.sja_driver.specs.NodeRest.{IsAtRest, IsWorking}
use Rattle.sja_thread_promises.specs.Gathering.{Gathered}

-- ---- what drivers wait for

-- how many bits have to run for a step: none where it is no wait for a bit
abbrev pub bits_awaited : Step → ℕ
bits_awaited (At least) = least
bits_awaited other = 0

-- the most that a step of a script, or of one of several scripts, waits for
abbrev pub most_awaited : List Step → ℕ
most_awaited [] = 0
most_awaited (one ∷ steps) = max (bits_awaited one) (most_awaited steps)

abbrev pub last_awaited : List (List Step) → ℕ
last_awaited [] = 0
last_awaited (steps ∷ nodes) = max (most_awaited steps) (last_awaited nodes)

-- ---- bits

-- after so many bits of a run of this plan, whose bus has these ends of its links, one more was due: once the bus had
-- taken all that was shown fewer had run than are waited for, or some started node wasn't at rest
pub record IsBitDue (plan : PlanValue) (ends : List NodeBus) (bits : ℕ) (journals : List (List Entry)) : Type 0 where
  pub gathered : Gathered plan ends bits journals
  pub why : (bits < last_awaited plan.nodes)
      ⊎ ((node : ℕ) × (node < length journals) × IsWorking (record_of (journal_at gathered.fronts node)))

-- each of so many bits was due
abbrev pub AllDue : PlanValue → List NodeBus → ℕ → List (List Entry) → Type 0
AllDue plan ends bits journals = (i : ℕ) → i < bits → IsBitDue plan ends i journals

-- each node is at rest at the end of its journal
abbrev pub AllAtRest : List (List Entry) → Type 0
AllAtRest journals = (node : ℕ) → node < length journals → IsAtRest (record_of (journal_at journals node))

-- as many bits have run as are waited for, and all nodes are at rest; or the bits of the plan are spent, and one more
-- was due
abbrev pub EndsDuly : PlanValue → List NodeBus → End → ℕ → List (List Entry) → Type 0
EndsDuly plan ends end run journals =
    ((end ≡ Rest) × (last_awaited plan.nodes ≤ run) × AllAtRest journals)
    ⊎ ((end ≡ Bits) × (run ≡ plan.bits) × IsBitDue plan ends plan.bits journals)

-- of a run of a plan: before each bit the bus took all that its links showed. The bit was run only where some node
-- worked then, or where a step waits for it; and at its end all nodes are at rest and no step waits for a later bit, or
-- the bits are spent and one more was due
pub record IsNeeded (plan : PlanValue) (log : RunValue) : Type 0 where
  pub links : List NodeBus
  pub due : AllDue plan links log.bits (journals_in log)
  pub ends : EndsDuly plan links log.end log.bits (journals_in log)
