-- What the calls of a program in C do, and why one isn't done (this project's own rule).
use Rattle.std.specs.Prelude.{◌≡◌, ◌≤◌, ◌<◌, ◌==◌, ◌%◌, ℕ, Bool, true, false, not, Option, None, List}
use Rattle.std.specs.Prelude.{length, map}
use Rattle.std.specs.List.{range_with_len}
use Rattle.sja_calls.specs.declared.call_fault.CallFault.{CallFault}
use Rattle.sja_calls.specs.declared.call_fault.CallFault.TheVariants.{Ended, NoAddress, NoByte, NoNode, NoBit, Past}
use Rattle.sja_calls.specs.declared.call_fault.CallFault.TheVariants.{StepsUsed, TurnsUsed, StrikesUsed, Memory}
use Rattle.sja_calls.specs.declared.state.State.{State}
use Rattle.sja_calls.specs.declared.state.State.TheVariants.{Going, Ended as HasLog, Lost}
use Rattle.sja_driver.specs.StepRuns.{StepRun}
use Rattle.sja_regs.specs.Bits.{is_set}
use Rattle.sja_serial.specs.Accounts.{AreAccountsNow}
use Rattle.sja_session.specs.ByAddress.{Reads, Writes, MayWrite, IsWriteFault as IsWriteFaultOf}
use Rattle.sja_session.specs.Lines.{AreLines, IsStill, Looks}
use Rattle.sja_session.specs.Running.{RunsBits, MayRun, LacksBusTurn}
use Rattle.sja_session.specs.Sessions.{SessionValue, IsAt}
use Rattle.sja_session.specs.Stepping.{MayStep, IsStepFault}
use Rattle.sja_session.specs.Striking.{IsStruck, MayStrike, IsStrikeFault as IsStrikeFaultOf}
use Rattle.sja_session.specs.Watching.{Watches}
use Rattle.sja_session.specs.declared.step_fault.StepFault.{StepFault}
use Rattle.sja_session.specs.declared.step_fault.StepFault.TheVariants.{NoNode as NoStepNode, StepsUsed as AllSteps}
use Rattle.sja_session.specs.declared.step_fault.StepFault.TheVariants.{TurnsUsed as AllTurns}
use Rattle.sja_session.specs.declared.strike_fault.StrikeFault.TheVariants.{NoNode as NoStruckNode}
use Rattle.sja_session.specs.declared.strike_fault.StrikeFault.TheVariants.{NoBit as NoStruckBit, Past as HasRun}
use Rattle.sja_session.specs.declared.strike_fault.StrikeFault.TheVariants.{StrikesUsed as AllStrikes}
use Rattle.sja_session.specs.declared.strike_fault.StrikeFault.TheVariants.{Memory as NoStrikeMemory}

-- ---- sessions that go on

-- one thing of a session that goes on, and another where it has ended
abbrev pub IfGoing : State → (SessionValue → Type 0) → Type 0 → Type 0
IfGoing (Going s) going over = going s
IfGoing (HasLog plan log) going over = over
IfGoing Lost going over = over

-- one thing of a session that goes on before and after; nothing else holds
abbrev pub GoesOn : State → State → (SessionValue → SessionValue → Type 0) → Type 0
GoesOn was now holds = IfGoing was (λ r. IfGoing now (λ s. holds r s) ⊥) ⊥

-- why a call of a session isn't done: it has ended, or goes on and this holds of it
abbrev pub IsRefusal : State → (SessionValue → CallFault → Type 0) → CallFault → Type 0
IsRefusal was why fault = IfGoing was (λ r. why r fault) (fault ≡ Ended)

-- ---- accesses

-- an address of a node was read as this value
abbrev pub ReadsOf : State → State → ℕ → ℕ → ℕ → Type 0
ReadsOf was now node address value =
    GoesOn was now (λ r s. (address ≤ 255) × MayStep r node
    × ((step_runs : List (List StepRun)) → IsAt r step_runs → Reads r s node address value step_runs))

-- why it wasn't: the first of these that holds
abbrev pub IsReadFault : ℕ → ℕ → SessionValue → CallFault → Type 0
IsReadFault node address r NoAddress = 255 < address
IsReadFault node address r NoNode = (address ≤ 255) × IsStepFault r node NoStepNode
IsReadFault node address r StepsUsed = (address ≤ 255) × IsStepFault r node AllSteps
IsReadFault node address r TurnsUsed = (address ≤ 255) × IsStepFault r node AllTurns
IsReadFault node address r fault = ⊥

-- a value was written to an address of a node
abbrev pub WritesOf : State → State → ℕ → ℕ → ℕ → Type 0
WritesOf was now node address value =
    GoesOn was now (λ r s. (address ≤ 255) × (value ≤ 255)
    × ((step_runs : List (List StepRun)) → IsAt r step_runs →
    MayWrite r node address value step_runs × Writes r s node address value step_runs))

-- why it wasn't: the first of these that holds
abbrev pub IsFaultOfWrite : ℕ → ℕ → ℕ → SessionValue → StepFault → Type 0
IsFaultOfWrite node address value r fault =
    (address ≤ 255) × (value ≤ 255)
    × ((step_runs : List (List StepRun)) → IsAt r step_runs → IsWriteFaultOf r node address value step_runs fault)

abbrev pub IsWriteFault : ℕ → ℕ → ℕ → SessionValue → CallFault → Type 0
IsWriteFault node address value r NoAddress = 255 < address
IsWriteFault node address value r NoByte = (address ≤ 255) × (255 < value)
IsWriteFault node address value r NoNode = IsFaultOfWrite node address value r NoStepNode
IsWriteFault node address value r StepsUsed = IsFaultOfWrite node address value r AllSteps
IsWriteFault node address value r TurnsUsed = IsFaultOfWrite node address value r AllTurns
IsWriteFault node address value r fault = ⊥

-- ---- bits

-- the nodes that a mask watches: node K where its bit K is 1; and whether it watches one
abbrev pub watched_in : ℕ → List Bool
watched_in mask = map (is_set mask) (range_with_len 0 8)

abbrev pub watches : ℕ → Bool
watches mask = not (mask % 256 == 0)

-- so many bits were run, of those that were asked for: where a node is watched, up to the first in which the line of
-- one rose, and else all of them or as many as were left
abbrev pub RunsBy : Bool → SessionValue → SessionValue → ℕ → ℕ → ℕ → Option ℕ → List (List StepRun) → Type 0
RunsBy true r s count mask run rose step_runs = Watches r s count (watched_in mask) run rose step_runs
RunsBy false r s count mask run rose step_runs = RunsBits r s count run step_runs × (rose ≡ None)

abbrev pub RunsOf : State → State → ℕ → ℕ → ℕ → Option ℕ → Type 0
RunsOf was now count mask run rose =
    GoesOn was now (λ r s. MayRun r count × ((step_runs : List (List StepRun)) → IsAt r step_runs →
    RunsBy (watches mask) r s count mask run rose step_runs))

-- why they weren't
abbrev pub IsRunFault : ℕ → SessionValue → CallFault → Type 0
IsRunFault count r TurnsUsed = LacksBusTurn r count
IsRunFault count r fault = ⊥

-- ---- lines and strikes

-- the line of a node was looked at, and nothing happened
abbrev pub LooksOf : State → State → ℕ → Bool → Type 0
LooksOf was now node line =
    GoesOn was now (λ r s. (node < length r.plan.nodes)
    × ((step_runs : List (List StepRun)) → IsAt r step_runs → Looks r s node line step_runs))

-- why it wasn't
abbrev pub IsLookFault : ℕ → SessionValue → CallFault → Type 0
IsLookFault node r NoNode = length r.plan.nodes ≤ node
IsLookFault node r fault = ⊥

-- the lines of all nodes were looked at, and nothing happened
abbrev pub LinesOf : State → State → ℕ → Type 0
LinesOf was now mask =
    GoesOn was now (λ r s. (step_runs : List (List StepRun)) → IsAt r step_runs →
    AreLines r step_runs mask × IsStill r s step_runs)

-- a session that goes on always tells them
abbrev pub IsLinesFault : SessionValue → CallFault → Type 0
IsLinesFault r fault = ⊥

-- a strike was taken
abbrev pub StrikesOf : State → State → ℕ → ℕ → Type 0
StrikesOf was now node bit =
    GoesOn was now (λ r s. MayStrike r node bit
    × ((step_runs : List (List StepRun)) → IsAt r step_runs → IsStruck r s node bit step_runs))

-- why it wasn't: the first of these that holds
abbrev pub IsStrikeFault : ℕ → ℕ → SessionValue → CallFault → Type 0
IsStrikeFault node bit r NoNode = IsStrikeFaultOf r node bit NoStruckNode
IsStrikeFault node bit r NoBit = IsStrikeFaultOf r node bit NoStruckBit
IsStrikeFault node bit r Past = IsStrikeFaultOf r node bit HasRun
IsStrikeFault node bit r StrikesUsed = IsStrikeFaultOf r node bit AllStrikes
IsStrikeFault node bit r Memory = IsStrikeFaultOf r node bit NoStrikeMemory
IsStrikeFault node bit r fault = ⊥

-- so many bits were run; and at this moment the messages of each driver are accounted for, in each activation that has
-- begun: where one goes on, what was released so far and what lies unread
abbrev pub IsNowOf : State → ℕ → Type 0
IsNowOf was now = IfGoing was (λ r. (now ≡ r.run.bits) × AreAccountsNow r.run) ⊥

-- a session that goes on always tells it
abbrev pub IsNowFault : SessionValue → CallFault → Type 0
IsNowFault r fault = ⊥
