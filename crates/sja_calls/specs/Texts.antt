-- The texts that a program in C is given (this project's own rule).
use Rattle.std.specs.Prelude.{◌≡◌, ◌≢◌, ◌⊎◌, ◌+◌, ◌<◌, ◌≤◌, ◌++◌, ℕ, List, ◌∷◌, length, drop}
use Rattle.sja_calls.specs.declared.call_fault.CallFault.{CallFault}
use Rattle.sja_calls.specs.declared.call_fault.CallFault.TheVariants.{NoPlan, NoDocument, NoRoom, Endless, Memory}
use Rattle.sja_calls.specs.declared.state.State.{State}
use Rattle.sja_calls.specs.declared.state.State.TheVariants.{Going, Ended, Lost}
use Rattle.sja_driver.specs.StepRuns.{StepRun}
use Rattle.sja_promises.specs.Headline.{AreAccounts}
use Rattle.sja_log.specs.Log.{RunValue}
use Rattle.sja_promises.specs.Runs.{IsSerialRun}
use Rattle.sja_log.specs.declared.end.End.TheVariants.{Turns as TurnsDone}
use Rattle.sja_placed_strikes.specs.PlanRead.{IsRunPlan, IsReadFault}
use Rattle.sja_placed_strikes.specs.declared.place_fault.PlaceFault.TheVariants.{Memory as NoPlaceMemory}
use Rattle.sja_placed_strikes.specs.declared.place_fault.PlaceFault.TheVariants.{Run as PlaceRun}
use Rattle.sja_placed_strikes.specs.declared.read_fault.ReadFault.{ReadFault}
use Rattle.sja_placed_strikes.specs.declared.read_fault.ReadFault.TheVariants.{Plan as PlanRead, Place as Placed}
use Rattle.sja_plan.specs.Plan.{PlanValue}
use Rattle.sja_plan_reading.specs.declared.plan_fault.PlanFault.{PlanFault}
use Rattle.sja_plan_reading.specs.declared.plan_fault.PlanFault.TheVariants.{Memory as NoPlanMemory}
use Rattle.sja_plan_text.specs.HasTexts.{HasTexts}
use Rattle.sja_plan_text.specs.Written.{IsPlanText, IsTooLong}
use Rattle.text_report.specs.ReportLines.{report_text}
use Rattle.sja_serial.specs.Ending.{IsLogOf}
use Rattle.sja_session.specs.Sessions.{SessionValue, HasEnd, IsAt, IsEndless, written}

-- ---- texts and rooms

-- a text of so many bytes and a NUL stand at the beginning of a room, and the rest of it stays
abbrev pub Puts : List ℕ → List ℕ → List ℕ → ℕ → Type 0
Puts text was now count =
    (count ≡ length text) × (count < length was) × (now ≡ text ++ 0 ∷ drop (count + 1) was)

-- a text and a NUL don't fit into a room: they need so many bytes
abbrev pub LacksRoom : List ℕ → List ℕ → ℕ → Type 0
LacksRoom text room size = (length room ≤ length text) × (size ≡ length text + 1)

-- ---- how a session ends

-- its plan is what it wrote, and its log is that of a run of this plan, and of what its drivers did
pub record EndsAs (s : SessionValue) (plan : PlanValue) (log : RunValue) : Type 0 where
  pub wrote : plan ≡ written s
  pub own : (step_runs : List (List StepRun)) → IsAt s step_runs → IsLogOf plan s.run step_runs TurnsDone log
  pub run : IsSerialRun plan log
  pub accounts : AreAccounts log

-- a session that went on has ended, or there was no memory for its log; one without an end goes on as it was. One that
-- has ended stays as it is
abbrev pub EndsFrom : SessionValue → State → Type 0
EndsFrom r (Going s) = IsEndless r × (s ≡ r)
EndsFrom r (Ended plan log) = HasEnd r × EndsAs r plan log
EndsFrom r Lost = HasEnd r

abbrev pub Ends : State → State → Type 0
Ends (Going r) now = EndsFrom r now
Ends (Ended plan log) now = now ≡ Ended plan log
Ends Lost now = now ≡ Lost

-- ---- reports

-- the report of a log was put
abbrev pub PutsReport : State → List ℕ → List ℕ → ℕ → Type 0
PutsReport (Going r) was now count = ⊥
PutsReport (Ended plan log) was now count = Puts (report_text log) was now count
PutsReport Lost was now count = ⊥

-- why none was: it doesn't fit, or memory was refused; now, or where the session ended
abbrev pub IsNoReport : RunValue → List ℕ → CallFault → Type 0
IsNoReport log room (NoRoom size) = LacksRoom (report_text log) room size
IsNoReport log room Memory = Unit {0}
IsNoReport log room fault = ⊥

abbrev pub IsReportFault : State → List ℕ → CallFault → Type 0
IsReportFault (Going r) room fault = fault ≡ Endless
IsReportFault (Ended plan log) room fault = IsNoReport log room fault
IsReportFault Lost room fault = fault ≡ Memory

-- ---- plans

-- the text of a plan was put
abbrev pub PutsPlanOf : PlanValue → List ℕ → List ℕ → ℕ → Type 0
PutsPlanOf plan was now count = (document : List ℕ) × IsPlanText plan document × Puts document was now count

-- why none was: there is none, or it would be too long; it doesn't fit, which has one size; or memory was refused
abbrev pub HasNoDocument : PlanValue → Type 0
HasNoDocument plan = (¬ HasTexts plan) ⊎ IsTooLong plan

abbrev pub IsPlanFault : PlanValue → List ℕ → CallFault → Type 0
IsPlanFault plan room NoDocument = HasNoDocument plan
IsPlanFault plan room (NoRoom size) = (document : List ℕ) × IsPlanText plan document × LacksRoom document room size
IsPlanFault plan room Memory = Unit {0}
IsPlanFault plan room fault = ⊥

-- the plan of a session with an end, which is lost where there was no memory for its log
abbrev pub PutsPlan : State → List ℕ → List ℕ → ℕ → Type 0
PutsPlan (Going r) was now count = HasEnd r × PutsPlanOf (written r) was now count
PutsPlan (Ended plan log) was now count = PutsPlanOf plan was now count
PutsPlan Lost was now count = ⊥

abbrev pub IsNoPlanText : State → List ℕ → CallFault → Type 0
IsNoPlanText (Going r) room fault =
    (IsEndless r × (fault ≡ Endless)) ⊎ (HasEnd r × IsPlanFault (written r) room fault)
IsNoPlanText (Ended plan log) room fault = IsPlanFault plan room fault
IsNoPlanText Lost room fault = fault ≡ Memory

-- ---- plans that are run

-- the report of a run of the plan that these bytes are was put
abbrev pub PutsRun : List ℕ → List ℕ → List ℕ → ℕ → Type 0
PutsRun bytes was now count =
    (plan : PlanValue) × (log : RunValue) × IsRunPlan bytes plan × IsSerialRun plan log × AreAccounts log
    × Puts (report_text log) was now count

-- why there is no plan to run: memory was refused, or it is none
abbrev pub no_plan : ReadFault → CallFault
no_plan (PlanRead NoPlanMemory) = Memory
no_plan (PlanRead fault) = NoPlan
no_plan (Placed NoPlaceMemory) = Memory
no_plan (Placed (PlaceRun fault)) = Memory
no_plan (Placed fault) = NoPlan

-- why none was: the bytes are no plan, for this reason; the report doesn't fit; or memory was refused
abbrev pub IsNoRun : List ℕ → List ℕ → CallFault → Type 0
IsNoRun bytes room NoPlan = (fault : ReadFault) × IsReadFault bytes fault × (no_plan fault ≡ NoPlan)
IsNoRun bytes room (NoRoom size) =
    (plan : PlanValue) × (log : RunValue) × IsRunPlan bytes plan × IsSerialRun plan log
    × LacksRoom (report_text log) room size
IsNoRun bytes room Memory = Unit {0}
IsNoRun bytes room fault = ⊥
