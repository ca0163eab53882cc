-- The turns that a session wrote have texts.
use Rattle.std.proofs.Common.{ℕ, ◌≤◌, Bool, true, false, List, [], ◌∷◌, length, reverse, All, sym, subst, arith}
use Rattle.std.specs.Prelude.{if◌then◌else◌}
use Rattle.std.proofs.lemmas.List.{reverse-append}
use Rattle.std.proofs.lemmas.List.Elements.{All-nil, All-cons, All-head, All-tail, All-push}
use Rattle.sja_driver.specs.StepRuns.{StepRun, step_runs_at}
use Rattle.sja_live.specs.Inside.Standing.{HasBits}
use Rattle.sja_promises.specs.Turns.{Progress}
use Rattle.sja_plan.specs.Plan.{NamesNode}
use Rattle.sja_plan_reading.specs.Words.{greatest}
use Rattle.sja_plan.specs.declared.turn.Turn.{Turn}
use Rattle.sja_plan.specs.declared.turn.Turn.TheVariants.{Bus, Rest, Node, All as AllSteps, Irq, Go}
use Rattle.sja_plan_text.specs.HasTexts.{HasTurnText}
use Rattle.sja_session.specs.Sessions.{Took}
use Rattle.sja_session.specs.Sessions.Took.{none, bus, node as of_node}
use Rattle.sja_session.specs.Turning.{enlarged, goes_on, on_latest, size_of, with_turn}

-- ---- turns

pub all_reversed : (P : Turn → Type 0) (turns : List Turn) → All P turns → All P (reverse turns)
all_reversed P [] all = All-nil P
all_reversed P (t ∷ turns) all =
    subst (All P) (sym (reverse-append (t ∷ []) turns))
    (All-push P (reverse turns) t (all_reversed P turns (All-tail P t turns all)) (All-head P t turns all))

enlarged_some : (u t : Turn) → HasBits u → HasBits (enlarged u (size_of t))
enlarged_some (Bus n) t h = let k = size_of t in omega (arith, h)
enlarged_some Rest t h = tt
enlarged_some (Node k n) t h = tt
enlarged_some (AllSteps k) t h = tt
enlarged_some (Irq k n) t h = tt
enlarged_some Go t h = tt

latest_some : (t : Turn) (turns : List Turn) → HasBits t → All HasBits turns → All HasBits (on_latest t turns)
latest_some t [] h all = All-cons HasBits t [] h (All-nil HasBits)
latest_some t (u ∷ earlier) h all = by (goes_on u t)
  where
    by : (b : Bool) → All HasBits (if b then enlarged u (size_of t) ∷ earlier else t ∷ u ∷ earlier)
    by true = All-cons HasBits (enlarged u (size_of t)) earlier
        (enlarged_some u t (All-head HasBits u earlier all)) (All-tail HasBits u earlier all)
    by false = All-cons HasBits t (u ∷ earlier) h all

pub turn_more : (turns : List Turn) (t : Turn) → HasBits t → All HasBits turns → All HasBits (with_turn turns t)
turn_more turns t h all =
    all_reversed HasBits (on_latest t (reverse turns))
    (latest_some t (reverse turns) h (all_reversed HasBits turns all))

-- ---- how large they are

-- turns have texts that led to where seven digits spell the bits and the steps
pub took_texts : {step_runs : List (List StepRun)} {first p : Progress} {turns : List Turn} (version nodes : ℕ) →
    Took step_runs first turns p → p.bits ≤ greatest → ((k : ℕ) → length (step_runs_at step_runs k) ≤ greatest) →
    nodes ≤ 8 → All HasBits turns → All (NamesNode nodes) turns →
    All (HasTurnText version) turns
took_texts version nodes none few each eight some named = All-nil (HasTurnText version)
took_texts version nodes (bus earlier p n took) few each eight some named =
    All-cons (HasTurnText version) (Bus n) earlier (All-head HasBits (Bus n) earlier some, omega (arith, few))
    (took_texts version nodes took (omega (arith, few)) each eight (All-tail HasBits (Bus n) earlier some)
    (All-tail (NamesNode nodes) (Bus n) earlier named))
took_texts version nodes (of_node earlier p k n took most at_once) few each eight some named =
    let there = All-head (NamesNode nodes) (Node k n) earlier named in let all = each k in
    All-cons (HasTurnText version) (Node k n) earlier (omega (arith, there, eight), omega (arith, most, all))
    (took_texts version nodes took few each eight (All-tail HasBits (Node k n) earlier some)
    (All-tail (NamesNode nodes) (Node k n) earlier named))
