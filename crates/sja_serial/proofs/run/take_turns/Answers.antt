use Rattle.std.proofs.Common.{rules, ◌≡◌, ℕ, List, [], true, false, arith}
use Rattle.sja_plan.specs.Plan.{PlanValue}
use Rattle.sja_plan.specs.declared.turn.Turn.{Turn}
use Rattle.sja_plan.specs.declared.turn.Turn.TheVariants.{Bus}
use Rattle.sja_log.specs.declared.end.End.{End}
use Rattle.sja_log.specs.declared.end.End.TheVariants.{Turns as TurnsDone, Rest as AtRest, Bits as BitsSpent}
use Rattle.sja_serial.specs.Inside.SerialProgress.{StandsIn, TakesTurns}
use Rattle.sja_serial.specs.Serial.{SerialValue}
use Rattle.sja_serial.proofs.WholeRun.Coming.{HasCome, come_first}
use Rattle.sja_serial.proofs.WholeRun.NextTurn.{come_next, end_next, end_turns}
use Rattle.sja_serial.proofs.run.take_turns.Goals as goal

-- it stands at the first steps of the plan
stands_in : {plan : PlanValue} {turns : List Turn} {r : SerialValue} (c : HasCome plan turns [] r) →
    StandsIn plan r c.step_runs
stands_in c = record { by = c.by; first = c.first }

pub loop-turn-init : goal.loop-turn-init
loop-turn-init c = come_first c.args.plan.now c.args.run.now c.requires.stands c.requires.bus

pub take_one-requires-clause-run : goal.take_one-requires-clause-run
take_one-requires-clause-run c = let inv = c.loop-turn.invariant in (inv.step_runs, stands_in inv)

pub take_one-requires-clause-names : goal.take_one-requires-clause-names
take_one-requires-clause-names c =
    c.turns-turn-items.ensures.there c.loop-turn.turn-index (Bus 0) c.loop-turn-test.true

pub loop-turn-preserved : goal.loop-turn-preserved
loop-turn-preserved c =
    let i = c.loop-turn.turn-index in let inv = c.loop-turn.invariant in let turns = c.turns-turn-items.ensures in
    let yes : c.take_one.result ≡ true = search rules in
    come_next turns.value i c.loop-turn-test.true c.take_one.new.run inv c.take_one.result
    (c.take_one.ensures inv.step_runs (stands_in inv)) (turns.there i (Bus 0) c.loop-turn-test.true) yes

-- a run whose bits are spent ends so, where that is what it says
abbrev number : End → ℕ
number TurnsDone = 0
number AtRest = 1
number BitsSpent = 2

spent : {plan : PlanValue} {r : SerialValue} {end : End} → number end ≡ 2 → TakesTurns plan r BitsSpent →
    TakesTurns plan r end
spent {end = TurnsDone} is t = absurd (omega (arith, is))
spent {end = AtRest} is t = absurd (omega (arith, is))
spent {end = BitsSpent} is t = t

pub returns-then-not-take_one : goal.returns-then-not-take_one
returns-then-not-take_one c =
    let inv = c.loop-turn.invariant in let no : c.take_one.result ≡ false = search rules in
    let turns = c.turns-turn-items.ensures in
    spent (omega arith) (end_next turns.value c.loop-turn.turn-index c.loop-turn-test.true
    c.take_one.new.run inv c.take_one.result (c.take_one.ensures inv.step_runs (stands_in inv))
    (turns.there c.loop-turn.turn-index (Bus 0) c.loop-turn-test.true) no)

pub returns : goal.returns
returns c = let t = c.loop-turn-test.false in
    end_turns c.turns-turn-items.ensures.value c.loop-turn.turn-index c.loop-turn.run (omega (arith, t))
    c.loop-turn.invariant
