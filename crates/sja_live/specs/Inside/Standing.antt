-- Where the session of a talk stands (this project's own rule), and that all that it wrote has a text.
use Rattle.std.specs.Prelude.{◌≤◌, List, All}
use Rattle.sja_driver.specs.StepRuns.{StepRun}
use Rattle.sja_live.specs.Answering.{Answers}
use Rattle.sja_live.specs.declared.live_answer.LiveAnswer.{LiveAnswer}
use Rattle.sja_live.specs.declared.live_command.LiveCommand.{LiveCommand}
use Rattle.sja_live.specs.declared.live_command.LiveCommand.TheVariants.{Step, End}
use Rattle.sja_plan.specs.Plan.{PlanValue}
use Rattle.sja_plan.specs.declared.turn.Turn.{Turn}
use Rattle.sja_plan.specs.declared.turn.Turn.TheVariants.{Bus, Rest, Node, All as AllSteps, Irq, Go}
use Rattle.sja_plan_text.specs.HasTexts.{HasStepText, HasStrikeText}
use Rattle.sja_session.specs.Sessions.{SessionValue, HasEnd, IsAt, written}

-- a turn of the bus has a bit at least
abbrev pub HasBits : Turn → Type 0
HasBits (Bus bits) = 1 ≤ bits
HasBits Rest = Unit {0}
HasBits (Node node steps) = Unit {0}
HasBits (AllSteps node) = Unit {0}
HasBits (Irq node bits) = Unit {0}
HasBits Go = Unit {0}

-- each step, turn and strike of a plan has a text, but for how large a turn is, which follows from where a session
-- stands that wrote it
pub record IsSpelled (p : PlanValue) : Type 0 where
  pub steps : All (λ steps. All (HasStepText p.version) steps) p.nodes
  pub turns : All HasBits p.turns
  pub strikes : All HasStrikeText p.strikes

-- a session stands where the drivers did these steps, and where it has an end, what it wrote has texts
pub record IsLiveAt (s : SessionValue) (step_runs : List (List StepRun)) : Type 0 where
  pub at : IsAt s step_runs
  pub spelled : HasEnd s → IsSpelled (written s)

-- it does, wherever that is
abbrev pub IsLive : SessionValue → Type 0
IsLive s = (step_runs : List (List StepRun)) × IsLiveAt s step_runs

-- what a command has a session write has a text in its version, and it isn't the end
abbrev pub IsWritable : SessionValue → LiveCommand → Type 0
IsWritable s (Step node one) = HasStepText s.plan.version one
IsWritable s End = ⊥
IsWritable s other = Unit {0}

-- a command is answered so, wherever the session stands
abbrev pub IsAnswered : SessionValue → SessionValue → LiveCommand → LiveAnswer → Type 0
IsAnswered was now command told =
    (step_runs : List (List StepRun)) → IsLiveAt was step_runs →
    (after : List (List StepRun)) × Answers was now step_runs command told after × IsLiveAt now after
