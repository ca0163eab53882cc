-- A driver in one thread with the bus (this project's own rule): what it gives is taken at once, and it sees all that
-- was put.
use Rattle.std.specs.Prelude.{◌≡◌, ◌≢◌, ℕ, List, []}
use Rattle.sja_journal.specs.declared.entry.Entry.{Entry}
use Rattle.lemmas.specs.Picking.{EachAfter}
use Rattle.sja_steps.specs.declared.refusal.Refusal.TheVariants.{Closed}
use Rattle.sja_steps.specs.declared.step_answer.StepAnswer.TheVariants.{Refused}
use Rattle.sja_driver.specs.TypedActs.{TypedAct, is_active}
use Rattle.sja_driver.specs.Carried.{carried}
use Rattle.sja_driver.specs.Timing.{given_when, taken_when}
use Rattle.sja_driver.specs.Windows.{SeesIf}
use Rattle.sja_driver.specs.Settings.{settings_of}
use Rattle.sja_driver.specs.Aborting.{AbortIsDue}

-- of a node with journal j, of whose driver these are the acts
pub record IsInTime (version : ℕ) (j : List Entry) (acts : List TypedAct) : Type 0 where
  -- each item was taken, after just the bits before its step
  pub when : (a : ℕ) → given_when acts a ≡ taken_when j a
  -- each step saw all that had been put by then in its activation
  pub sees : EachAfter (λ before (d : TypedAct). SeesIf (is_active before) j before d) [] acts
  -- a start and a request carry what writes and loads before them have set, a request its command's marks too
  pub carries : EachAfter (λ before (d : TypedAct). d.gave ≡ carried (settings_of version j before) d.step d.answer) []
      acts
  -- each abort was commanded
  pub aborts : EachAfter (AbortIsDue acts) [] j
  -- no step that waits was given up
  pub patient : EachAfter (λ before (d : TypedAct). d.answer ≢ Refused Closed) [] acts
