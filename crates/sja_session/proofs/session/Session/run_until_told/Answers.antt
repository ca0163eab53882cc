use Rattle.std.proofs.Common.{◌≡◌, ◌<◌, ◌≤◌, ℕ, zero, suc, ◌-◌, true, false, List, sym, ap, ◌∙◌, subst, arith, inl}
use Rattle.std.proofs.Common.{inr}
use Rattle.std.specs.Prelude.{not, reverse}
use Rattle.std.proofs.lemmas.Bool.{cases_lt}
use Rattle.sja_plan.specs.Limits.{most_bits}
use Rattle.sja_plan.specs.declared.turn.Turn.{Turn}
use Rattle.sja_plan.specs.declared.turn.Turn.TheVariants.{Bus}
use Rattle.sja_driver.specs.StepRuns.{StepRun}
use Rattle.sja_serial.specs.Bits.{TakesBits}
use Rattle.sja_serial.specs.Serial.{Setup, SerialValue, all_acts, setup_in}
use Rattle.sja_driver.specs.TypedActs.{TypedAct}
use Rattle.sja_serial.specs.UntilTold.{NoneTold, TakesUntilTold}
use Rattle.sja_serial.proofs.AllNodes.Several.{at_own, from_own}
use Rattle.sja_serial.proofs.WholeRun.GoingOn.{bits_run}
use Rattle.sja_session.specs.Inside.UntilTold.{RunsUntilTold}
use Rattle.sja_session.specs.Running.{MayRun}
use Rattle.sja_session.specs.Sessions.{SessionValue, HasEnd, IsAt, IsEndless, session_of, setup_by, plan_with}
use Rattle.sja_session.specs.Inside.Written.{with_bits}
use Rattle.sja_session.specs.Turning.{goes_on_latest, with_turn}
use Rattle.sja_session.proofs.BitsDone.AfterBits.{turn_fits, session_now}
use Rattle.sja_session.proofs.WatchedBits.StillLines.{until_told}
use Rattle.sja_session.proofs.WrittenPlan.Turned.{bits_on_bits, latest_of}
use Rattle.sja_session.proofs.WrittenPlan.Noting.{end_of, noted_of, not_noted_of}
use Rattle.sja_session.proofs.WrittenPlan.OneMore.{listed}
use Rattle.sja_session.proofs.session.Session.run_until_told.Goals.{After-bits_until_told-run}
use Rattle.sja_session.proofs.session.Session.run_until_told.Goals as goal

run_is : (setup : Setup) (acts : List (List TypedAct)) (was now : SerialValue) (n : ℕ) →
    TakesBits setup acts (NoneTold was) was n now → n ≡ now.bits - was.bits
run_is setup acts was now n t = let b = bits_run setup acts _ was now n t in omega (arith, b)

-- the session as it was, and the bits from the step runs at which it stood
abbrev was : After-bits_until_told-run → SessionValue
was c = session_of c.self.inside.room c.self.inside.run
    (plan_with c.self.inside.plan c.self.inside.bits c.self.inside.struck.items) (listed c.self.inside.steps.items)
    c.self.inside.turns.items

-- turns are taken down where it has an end
noted : (c : After-bits_until_told-run) → HasEnd (was c) → not c.is_endless-noted.result ≡ true
noted c = noted_of c.is_endless-noted.result (was c) c.args.self.now c.self.view_is c.is_endless-noted.ensures.yes
    c.is_endless-noted.ensures.no

with_end : (c : After-bits_until_told-run) → not c.is_endless-noted.result ≡ true → HasEnd (was c)
with_end c = end_of c.is_endless-noted.result (was c) c.args.self.now c.self.view_is c.is_endless-noted.ensures.yes
    c.is_endless-noted.ensures.no

not_noted : (c : After-bits_until_told-run) → IsEndless (was c) → not c.is_endless-noted.result ≡ false
not_noted c = not_noted_of c.is_endless-noted.result (was c) c.args.self.now c.self.view_is
    c.is_endless-noted.ensures.yes
    c.is_endless-noted.ensures.no

told : (c : After-bits_until_told-run) (step_runs : List (List StepRun)) → IsAt (was c) step_runs →
    TakesUntilTold (setup_by (was c)) (all_acts step_runs) c.self.inside.run c.bits_until_told-run.result
    c.bits_until_told-run.new.self
told c step_runs h = from_own (λ (x : Setup). TakesUntilTold x (all_acts step_runs) c.self.inside.run
    c.bits_until_told-run.result
    c.bits_until_told-run.new.self) h.stands.stands
    (c.bits_until_told-run.ensures.bits (all_acts step_runs) (at_own h.stands.stands))

left_is : (c : After-bits_until_told-run) → c.self.inside.run.bits < (setup_in c.self.inside.run).bits
left_is c =
    let left = subst (λ (s : SessionValue). s.run.bits < s.plan.bits) (sym c.self.view_is) c.requires.left in
    let all = c.self.invariant.0.at.stands.stands.all_bits in omega (arith, left, all)

pub bits_until_told-run-requires : goal.bits_until_told-run-requires
bits_until_told-run-requires c = let inv = c.self.invariant.0 in (all_acts inv.step_runs, at_own inv.at.stands.stands)

pub note-requires-clause-room : goal.note-requires-clause-room
note-requires-clause-room c = λ is. let inv = c.self.invariant.0 in let few = inv.few in let room = inv.room in
    omega (arith, few, room)

pub note-requires-clause-fits : goal.note-requires-clause-fits
note-requires-clause-fits c = λ is.
    let inv = c.self.invariant.0 in
    let at = (goal.at.note-requires-clause-fits c).After-bits_until_told-run in let t = told at inv.step_runs inv.at in
    turn_fits inv t (run_is _ _ _ _ _ t) (with_end at is)

-- so many bits are some
down : (c : After-bits_until_told-run) (items turns : List Turn) (run : ℕ) → 1 ≤ run →
    items ≡ with_turn turns (Bus run) → items ≡ with_bits turns run
down c items turns zero some e = absurd (omega (arith, some))
down c items turns (suc n) some e = e

pub invariant_of-self : goal.invariant_of-self
invariant_of-self c =
    let inv = c.self.invariant.0 in let at = (goal.at.invariant_of-self c).After-bits_until_told-run in
    let t = told at inv.step_runs inv.at in let note = c.note.ensures in
    let may = subst (λ (s : SessionValue). MayRun s 1) (sym c.self.view_is) c.requires.may in
    let some = c.bits_until_told-run.ensures.some c.requires.some (left_is at) in (
      session_now inv t (run_is _ _ _ _ _ t)
          (λ end. down at _ _ _ some (note.turns (noted at end)))
          (λ endless. note.none (not_noted at endless)) note.capacity may (λ more. omega arith),
      c.self.invariant.1,
    )

pub returns-clause-ran : goal.returns-clause-ran
returns-clause-ran c = λ step_runs h.
    let s = c.self.inside in let run = c.bits_until_told-run.result in let now = c.bits_until_told-run.new.self in
    let own = subst (λ (x : SessionValue). IsAt x step_runs) (sym c.self.view_is) h in
    let at = (goal.at.returns-clause-ran c).After-bits_until_told-run in let note = c.note.ensures in
    subst (λ (x : SessionValue). RunsUntilTold x (session_of s.room now (plan_with s.plan s.bits s.struck.items)
    (listed s.steps.items)
    c.note.new.turns.items) run step_runs) c.self.view_is
    (until_told s.room (plan_with s.plan s.bits s.struck.items) (listed s.steps.items) s.turns.items step_runs s.run
    now run own
    (told at step_runs own) (c.bits_until_told-run.ensures.some c.requires.some (left_is at)) c.note.new.turns.items
    (λ end. note.turns (noted at end)))

-- a turn of the bus goes on with further bits
pub returns-clause-may : goal.returns-clause-may
returns-clause-may c =
    let at = (goal.at.returns-clause-may c).After-bits_until_told-run in
    let turns = c.self.inside.turns.items in let run = c.bits_until_told-run.result in
    let s = was at in elim (cases_lt (most_bits s.plan.version) s.plan.bits) [
      | inl endless ↦ inr (inl endless)
      | inr end ↦ inr (inr (inr (ap (λ (l : List Turn). goes_on_latest (reverse l) (Bus 1))
          (c.note.ensures.turns (noted at end))
          ∙ ap (λ (l : List Turn). goes_on_latest l (Bus 1)) (latest_of turns (Bus run))
          ∙ bits_on_bits (reverse turns) run 1)))
    ]
