-- The turns of a plan that are taken one after another, from a list of them.
use Rattle.std.proofs.Common.{◌≡◌, ℕ, ◌+◌, ◌<◌, ◌≤◌, Bool, true, false, List, [], ◌∷◌, length, take, drop, sym, ap}
use Rattle.std.proofs.Common.{◌∙◌, append_assoc, arith}
use Rattle.std.specs.Prelude.{slice_index_or}
use Rattle.std.proofs.lemmas.List.{take_all}
use Rattle.sja_plan.specs.Plan.{PlanValue, NamesNode}
use Rattle.sja_plan.specs.declared.turn.Turn.{Turn}
use Rattle.sja_plan.specs.declared.turn.Turn.TheVariants.{Bus}
use Rattle.sja_log.specs.declared.end.End.TheVariants.{Turns as TurnsDone, Bits as BitsSpent}
use Rattle.sja_serial.specs.Inside.SerialProgress.{TakesTurns}
use Rattle.sja_serial.specs.Inside.Turning.{TakesOne}
use Rattle.sja_serial.specs.Serial.{SerialValue}
use Rattle.sja_serial.proofs.WholeRun.Coming.{HasCome, begin, come_at, come_one, whole_at, end_one, end_all}

-- the turn at this place of the list is one of the plan's
pub in_plan : {turns all : List Turn} → turns ≡ all → (i : ℕ) → i < length turns → i < length all
in_plan same i less = let l = ap (λ (ts : List Turn). length ts) same in omega (arith, l, less)

pub turn_is : {turns all : List Turn} → turns ≡ all → (i : ℕ) (d : Turn) →
    slice_index_or all i d ≡ slice_index_or turns i d
turn_is same i d = ap (λ (ts : List Turn). slice_index_or ts i d) (sym same)

-- it was taken: as a whole, or the bits are spent
module _ {plan : PlanValue} {turns : List Turn} (same : turns ≡ plan.turns) (i : ℕ) (less : i < length turns)
    {was : SerialValue} (now : SerialValue) (c : HasCome plan (take i plan.turns) [] was) (all : Bool)
    (taken : TakesOne plan c.step_runs was now (slice_index_or turns i (Bus 0)) all) where
  abbrev turn : Turn
  turn = slice_index_or turns i (Bus 0)

  pub come_next : NamesNode (length plan.nodes) turn → all ≡ true → HasCome plan (take (i + 1) plan.turns) [] now
  come_next names whole = come_at plan i (Bus 0) turn now (in_plan same i less) (turn_is same i (Bus 0))
      (come_one now turn all (begin turn c) names whole taken)

  pub end_next : NamesNode (length plan.nodes) turn → all ≡ false → TakesTurns plan now BitsSpent
  end_next names short = end_one now turn all (drop (i + 1) plan.turns) (begin turn c) names short taken
      (append_assoc (take i plan.turns) (turn ∷ []) (drop (i + 1) plan.turns)
      ∙ whole_at plan i (Bus 0) turn (in_plan same i less) (turn_is same i (Bus 0)))

-- all were taken
pub end_turns : {plan : PlanValue} {turns : List Turn} → turns ≡ plan.turns → (i : ℕ) (r : SerialValue) →
    length turns ≤ i → HasCome plan (take i plan.turns) [] r → TakesTurns plan r TurnsDone
end_turns {plan} same i r whole c = let l = ap (λ (ts : List Turn). length ts) same in
    end_all plan (take i plan.turns) r c (take_all i plan.turns (omega (arith, l, whole)))
