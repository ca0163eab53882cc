-- One turn of a plan in a run in one thread (this project's own rule).
use Rattle.std.specs.Prelude.{◌≡◌, Bool, true, List}
use Rattle.sja_plan.specs.Plan.{PlanValue}
use Rattle.sja_plan.specs.declared.turn.Turn.{Turn}
use Rattle.sja_plan.specs.declared.turn.Turn.TheVariants.{Bus, Rest, Node, All, Irq, Go}
use Rattle.sja_driver.specs.StepRuns.{StepRun}
use Rattle.sja_serial.specs.Bits.{TakesBusTurn, TakesRest}
use Rattle.sja_serial.specs.Ending.{setup_of}
use Rattle.sja_serial.specs.Inside.SerialProgress.{TakesTurn}
use Rattle.sja_serial.specs.Inside.Rounds.{TakesGo, TakesIrq, past_all}
use Rattle.sja_serial.specs.Serial.{SerialValue, all_acts}

-- one turn of the plan was taken, as a whole or until the bits were spent
abbrev pub TakesOne : PlanValue → List (List StepRun) → SerialValue → SerialValue → Turn → Bool → Type 0
TakesOne plan step_runs was now (Node node count) whole = TakesTurn plan was now node count step_runs × (whole ≡ true)
TakesOne plan step_runs was now (All node) whole =
    TakesTurn plan was now node (past_all plan node) step_runs × (whole ≡ true)
TakesOne plan step_runs was now (Bus count) whole =
    TakesBusTurn (setup_of plan) (all_acts step_runs) was now count whole
TakesOne plan step_runs was now Rest whole = TakesRest (setup_of plan) (all_acts step_runs) was now plan.bits whole
TakesOne plan step_runs was now (Irq node count) whole = TakesIrq (setup_of plan) step_runs node count was now whole
TakesOne plan step_runs was now Go whole = TakesGo plan step_runs was now whole
