use Rattle.std.proofs.Common.{rules, ◌≡◌, ℕ, ◌-◌, true, false, List, sym, subst, arith}
use Rattle.std.specs.Prelude.{not}
use Rattle.sja_driver.specs.StepRuns.{StepRun}
use Rattle.sja_serial.specs.Bits.{TakesBusTurn}
use Rattle.sja_serial.specs.Serial.{Setup, all_acts, setup_in}
use Rattle.sja_serial.proofs.AllNodes.Several.{at_own, from_own}
use Rattle.sja_serial.proofs.WholeRun.GoingOn.{bits_run}
use Rattle.sja_session.specs.Running.{RunsBits, MayRun}
use Rattle.sja_session.specs.Sessions.{SessionValue, HasEnd, IsAt, IsEndless, session_of, setup_by, plan_with}
use Rattle.sja_session.proofs.BitsDone.AfterBits.{turn_fits, session_now}
use Rattle.sja_session.proofs.BitsDone.BitsRun.{runs, turn_most}
use Rattle.sja_session.proofs.WrittenPlan.Noting.{end_of, noted_of, not_noted_of}
use Rattle.sja_session.proofs.WrittenPlan.OneMore.{listed}
use Rattle.sja_session.proofs.session.Session.bits.Goals.{After-bits}
use Rattle.sja_session.proofs.session.Session.bits.Goals as goal

-- the session as it was, and how many bits were run
abbrev was : After-bits → SessionValue
was c = session_of c.self.inside.room c.self.inside.run
    (plan_with c.self.inside.plan c.self.inside.bits c.self.inside.struck.items) (listed c.self.inside.steps.items)
    c.self.inside.turns.items

-- turns are taken down where it has an end
noted : (c : After-bits) → HasEnd (was c) → not c.is_endless.result ≡ true
noted c = noted_of c.is_endless.result (was c) c.args.self.now c.self.view_is c.is_endless.ensures.yes
    c.is_endless.ensures.no

with_end : (c : After-bits) → not c.is_endless.result ≡ true → HasEnd (was c)
with_end c = end_of c.is_endless.result (was c) c.args.self.now c.self.view_is c.is_endless.ensures.yes
    c.is_endless.ensures.no

not_noted : (c : After-bits) → IsEndless (was c) → not c.is_endless.result ≡ false
not_noted c = not_noted_of c.is_endless.result (was c) c.args.self.now c.self.view_is c.is_endless.ensures.yes
    c.is_endless.ensures.no

abbrev run : After-bits → ℕ
run c = c.bits.result - c.bits-before.result

run_is : (c : After-bits) → run c ≡ c.bus_turn.new.self.bits - c.self.inside.run.bits
run_is c = λ i. c.bits.ensures i - c.bits-before.ensures i

-- they were run from the step runs at which it stood
ran : (c : After-bits) (step_runs : List (List StepRun)) → IsAt (was c) step_runs →
    TakesBusTurn (setup_by (was c)) (all_acts step_runs) c.self.inside.run c.bus_turn.new.self c.args.count
    c.bus_turn.result
ran c step_runs h = from_own (λ (x : Setup). TakesBusTurn x (all_acts step_runs) c.self.inside.run c.bus_turn.new.self
    c.args.count
    c.bus_turn.result) h.stands.stands
    (c.bus_turn.ensures.turn (all_acts step_runs) (at_own h.stands.stands))

may : (c : After-bits) → MayRun (was c) c.args.count
may c = subst (λ (s : SessionValue). MayRun s c.args.count) (sym c.self.view_is)
    (c.lacks_bus_turn.ensures.no (search rules))

pub overflow_sub-run : goal.overflow_sub-run
overflow_sub-run c =
    let inv = c.self.invariant.0 in let t = c.bus_turn.ensures.turn (all_acts inv.step_runs)
    (at_own inv.at.stands.stands) in
    let b = bits_run (setup_in c.self.inside.run) (all_acts inv.step_runs) _ c.self.inside.run c.bus_turn.new.self
    t.run t.bits in
    let x = c.bits-before.ensures in let y = c.bits.ensures in omega (arith, b, x, y)

pub overflow_cast-run : goal.overflow_cast-run
overflow_cast-run c =
    let inv = c.self.invariant.0 in let t = c.bus_turn.ensures.turn (all_acts inv.step_runs)
    (at_own inv.at.stands.stands) in
    let b = bits_run (setup_in c.self.inside.run) (all_acts inv.step_runs) _ c.self.inside.run c.bus_turn.new.self
    t.run t.bits in
    let x = c.bits-before.ensures in let y = c.bits.ensures in let m = turn_most t in let f = c.ranges.count.fits in
    omega (arith, b, x, y, m, f)

pub bus_turn-requires : goal.bus_turn-requires
bus_turn-requires c = let inv = c.self.invariant.0 in (all_acts inv.step_runs, at_own inv.at.stands.stands)

pub note_bits-requires-clause-room : goal.note_bits-requires-clause-room
note_bits-requires-clause-room c = λ is. let inv = c.self.invariant.0 in let few = inv.few in let room = inv.room in
    omega (arith, few, room)

pub note_bits-requires-clause-fits : goal.note_bits-requires-clause-fits
note_bits-requires-clause-fits c = λ is.
    let at = (goal.at.note_bits-requires-clause-fits c).After-bits in
    turn_fits c.self.invariant.0 (ran at _ c.self.invariant.0.at).bits (run_is at) (with_end at is)

-- where some were run some were asked for
pub invariant_of-self : goal.invariant_of-self
invariant_of-self c =
    let at = (goal.at.invariant_of-self c).After-bits in let inv = c.self.invariant.0 in
    let note = c.note_bits.ensures in
    let most = (runs inv.at (ran at _ inv.at) (run_is at) c.note_bits.new.turns.items
    (λ end. note.turns (noted at end))).most in (
      session_now inv (ran at _ inv.at).bits (run_is at) (λ end. note.turns (noted at end))
          (λ endless. note.none (not_noted at endless)) note.capacity (may at) (λ some. omega (arith, some, most)),
      c.self.invariant.1,
    )

pub returns-clause-bits : goal.returns-clause-bits
returns-clause-bits c = λ step_runs h.
    let at = (goal.at.returns-clause-bits c).After-bits in let note = c.note_bits.ensures in
    let own = subst (λ (s : SessionValue). IsAt s step_runs) (sym c.self.view_is) h in
    let then = session_of c.self.inside.room c.bus_turn.new.self
    (plan_with c.self.inside.plan c.self.inside.bits c.self.inside.struck.items)
    (listed c.self.inside.steps.items) c.note_bits.new.turns.items in
    subst (λ (s : SessionValue). RunsBits s then c.args.count (run at) step_runs) c.self.view_is
    (runs own (ran at step_runs own) (run_is at) c.note_bits.new.turns.items (λ end. note.turns (noted at end)))
