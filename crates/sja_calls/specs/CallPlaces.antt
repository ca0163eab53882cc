-- What the calls of a program in C do that speak of places of a frame, and why one isn't done (this project's own
-- rule).
use Rattle.std.specs.Prelude.{◌≡◌, ◌≤◌, ◌<◌, ℕ, Bool, Option, Some, None, List, length}
use Rattle.sja_calls.specs.declared.call_fault.CallFault.{CallFault}
use Rattle.sja_calls.specs.declared.call_fault.CallFault.TheVariants.{NoPlace, NoNode, TurnsUsed}
use Rattle.sja_calls.specs.declared.state.State.{State}
use Rattle.sja_calls.specs.Calls.{IfGoing, GoesOn}
use Rattle.sja_calls.specs.PlaceNumbers.{number_if, place_of}
use Rattle.sja_driver.specs.StepRuns.{StepRun}
use Rattle.sja_plan.specs.declared.place.Place.{Place}
use Rattle.sja_serial.specs.SerialPlaces.{IsPlace}
use Rattle.sja_session.specs.SessionPlaces.{RunsTo, MayRunTo, IsPlaceRefusal}
use Rattle.sja_session.specs.Sessions.{SessionValue, IsAt}
use Rattle.sja_session.specs.declared.place_refusal.PlaceRefusal.TheVariants.{NoNode as NoSuchNode}
use Rattle.sja_session.specs.declared.place_refusal.PlaceRefusal.TheVariants.{TurnsUsed as AllTurns}
use Rattle.sja_bus_rules.specs.Wire.{journal_at}

-- ---- where a node is

-- by the cut of its record a node's next bit is at the place of this number, or at none
pub record IsAtPlace (s : SessionValue) (node number : ℕ) : Type 0 where
  pub there : node < length s.plan.nodes
  pub shown : Option Place
  pub is : IsPlace (journal_at s.run.bus.journals node) shown
  pub number_is : number ≡ number_if shown

abbrev pub IsAtPlaceOf : State → ℕ → ℕ → Type 0
IsAtPlaceOf was node number = IfGoing was (λ r. IsAtPlace r node number) ⊥

-- why it isn't told
abbrev pub IsPlaceFault : ℕ → SessionValue → CallFault → Type 0
IsPlaceFault node r NoNode = length r.plan.nodes ≤ node
IsPlaceFault node r fault = ⊥

-- ---- bits up to a place

-- the number is a place's, and bits were run up to it, or as many as were asked for or are left
pub record ComesTo (r s : SessionValue) (node number limit : ℕ) (there : Bool) : Type 0 where
  pub place : Place
  pub named : place_of number ≡ Some place
  pub may : MayRunTo r node limit
  pub run : ℕ
  pub runs : (step_runs : List (List StepRun)) → IsAt r step_runs → RunsTo r s node place limit run there step_runs

abbrev pub ComesToOf : State → State → ℕ → ℕ → ℕ → Bool → Type 0
ComesToOf was now node number limit there = GoesOn was now (λ r s. ComesTo r s node number limit there)

-- why no bit was run: the first of these that holds
abbrev pub IsToFault : ℕ → ℕ → ℕ → SessionValue → CallFault → Type 0
IsToFault node number limit r NoPlace = place_of number ≡ None
IsToFault node number limit r NoNode = IsPlaceRefusal r node limit NoSuchNode
IsToFault node number limit r TurnsUsed = IsPlaceRefusal r node limit AllTurns
IsToFault node number limit r fault = ⊥
