-- A session that looked at an interrupt line.
use Rattle.std.proofs.Common.{◌≡◌, ◌<◌, ℕ, Bool, List, length, map, refl, sym, ap, ◌∙◌, subst}
use Rattle.std.specs.Prelude.{reverse, slice_index_or}
use Rattle.sja_bus_rules.specs.Wire.{journal_at}
use Rattle.sja_plan.specs.declared.turn.Turn.{Turn}
use Rattle.sja_plan.specs.Plan.{PlanValue}
use Rattle.sja_regs.specs.declared.registers.Registers.{Registers}
use Rattle.sja_regs.specs.InterruptLine.{is_line_active}
use Rattle.sja_steps.specs.declared.step.Step.{Step}
use Rattle.sja_driver.specs.StepRuns.{StepRun}
use Rattle.sja_driver.specs.TypedActs.{TypedAct, acts_at, is_active}
use Rattle.sja_driver.specs.LoggedDrivers.{kept_of}
use Rattle.sja_driver.specs.declared.logged_driver.LoggedDriver.{LoggedDriver}
use Rattle.sja_promises.specs.Registering.{seen_now}
use Rattle.sja_promises.specs.Turns.{Progress}
use Rattle.sja_serial.specs.Serial.{SerialValue, StandsBy, all_acts}
use Rattle.sja_serial.proofs.TypedActs.Parts.{all_at}
use Rattle.sja_session.specs.Lines.{Looks, line_by}
use Rattle.sja_session.specs.declared.session_room.SessionRoom.{SessionRoom}
use Rattle.sja_session.specs.Sessions.{session_of, setup_by, Took, start_of, IsAt}

module _ {room : SessionRoom} (plan : PlanValue) (was now : SerialValue) (steps : List (List Step)) (turns : List Turn)
    (bits : now.bits ≡ was.bits)
    (stands : (step_runs : List (List StepRun)) →
    StandsBy (setup_by (session_of room was plan steps turns)) was step_runs →
    StandsBy (setup_by (session_of room was plan steps turns)) now step_runs) where
  pub still_at : (step_runs : List (List StepRun)) → IsAt (session_of room was plan steps turns) step_runs →
      IsAt (session_of room now plan steps turns) step_runs
  still_at step_runs h = record {
    stands = stands step_runs h.stands;
    steps = h.steps;
    count = h.count;
    took = λ end. subst (λ (n : ℕ). Took step_runs (start_of (length plan.nodes)) (reverse turns)
        (let p : Progress = record { bits = n; done = map (λ (l : List StepRun). length l) step_runs } in p)) (sym bits)
        (h.took end);
  }

  pub looks : (node : ℕ) (line : Bool) (step_runs : List (List StepRun)) →
      IsAt (session_of room was plan steps turns) step_runs → now.bus ≡ was.bus → now.ports ≡ was.ports →
      ((m : ℕ) (d : LoggedDriver) → m < length steps →
      kept_of (slice_index_or now.drivers m d) ≡ kept_of (slice_index_or was.drivers m d)) →
      ((p : Registers) → line ≡ is_line_active (slice_index_or was.ports node p)
      (seen_now (is_active (acts_at (all_acts step_runs) node)) (journal_at was.bus.journals node)
      (acts_at (all_acts step_runs) node))) →
      Looks (session_of room was plan steps turns) (session_of room now plan steps turns) node line step_runs
  looks node line step_runs h bus ports kept is = record {
    is = λ p. is p ∙ ap (λ (l : List TypedAct). line_by (session_of room was plan steps turns) node l p)
        (all_at step_runs node);
    still = record {
      at = still_at step_runs h;
      bus = bus;
      bits = bits;
      ports = ports;
      kept = kept;
      room = refl;
      wrote = refl;
    };
  }
