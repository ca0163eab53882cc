-- What is promised of an act of a run in one thread beside what its port says of it (this project's own rule).
use Rattle.std.specs.Prelude.{◌≢◌, ℕ, List}
use Rattle.sja_journal.specs.declared.entry.Entry.{Entry}
use Rattle.sja_steps.specs.declared.refusal.Refusal.TheVariants.{Closed}
use Rattle.sja_steps.specs.declared.step_answer.StepAnswer.TheVariants.{Refused}
use Rattle.sja_driver.specs.TypedActs.{TypedAct, FitsState, is_active, opened_by}
use Rattle.sja_driver.specs.Windows.{SeesIf}

-- of a driver of a node with this journal, which did others before: the act is answered as the driver's state has it,
-- it saw all that had been put by then, and it is none that waits and was given up
pub record IsPromised (version : ℕ) (j : List Entry) (before : List TypedAct) (d : TypedAct) : Type 0 where
  pub fits : FitsState version (is_active before) (opened_by before) d.step d.answer
  pub sees : SeesIf (is_active before) j before d
  pub patient : d.answer ≢ Refused Closed
