-- Steps of a node that are done one after the other, what is left for more, and what a write answers (this project's
-- own rule).
use Rattle.std.specs.Prelude.{◌≡◌, ◌+◌, ℕ, List, Result, ⊤, IfErr, OnOk, OnErr, length}
use Rattle.sja_regs.specs.declared.registers.Registers.{Registers}
use Rattle.sja_steps.specs.declared.step.Step.{Step}
use Rattle.sja_steps.specs.declared.step_answer.StepAnswer.{StepAnswer}
use Rattle.sja_driver.specs.StepRuns.{StepRun}
use Rattle.sja_session.specs.declared.step_fault.StepFault.{StepFault}
use Rattle.sja_session.specs.ByAddress.{DoesSteps, MayDo, MayWrite, IsWriteFault, Writes, steps_of}
use Rattle.sja_session.specs.Sessions.{SessionValue, IsAt}

-- a session stands somewhere
abbrev pub Stands : SessionValue → Type 0
Stands s = (step_runs : List (List StepRun)) × IsAt s step_runs

-- these steps were done, and as many more may be as could before, but for these
pub record Does (was now : SessionValue) (node : ℕ) (steps : List Step) (step_runs : List (List StepRun)) : Type 0 where
  pub answers : List StepAnswer
  pub after : List (List StepRun)
  pub does : DoesSteps node was step_runs steps answers now after
  pub at : IsAt now after
  pub goes_on : (count : ℕ) → MayDo was node (count + length steps) → MayDo now node count

-- a write is these steps, by what the node's driver did before it
abbrev pub AreSteps : SessionValue → ℕ → ℕ → ℕ → List Step → Type 0
AreSteps s node address value steps =
    (step_runs : List (List StepRun)) → IsAt s step_runs → (p : Registers) →
    steps_of s node address value step_runs p ≡ steps

-- a write was done, and might be, by what the node's driver did before it; or this is why not, and nothing changed
abbrev pub AnswersWrite : SessionValue → SessionValue → ℕ → ℕ → ℕ → Result ⊤ StepFault → Type 0
AnswersWrite was now node address value result =
    OnOk result ((step_runs : List (List StepRun)) → IsAt was step_runs → Writes was now node address value step_runs)
    × OnOk result ((step_runs : List (List StepRun)) → IsAt was step_runs → MayWrite was node address value step_runs)
    × IfErr result (λ fault. (step_runs : List (List StepRun)) → IsAt was step_runs →
    IsWriteFault was node address value step_runs fault)
    × OnErr result (now ≡ was)
