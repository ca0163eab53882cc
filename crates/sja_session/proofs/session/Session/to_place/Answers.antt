use Rattle.std.proofs.Common.{rules, ◌≡◌, ℕ, true, false, List, length, sym, ap, subst, arith}
use Rattle.std.specs.Prelude.{not}
use Rattle.sja_driver.specs.StepRuns.{StepRun}
use Rattle.sja_serial.specs.SerialPlaces.{TakesTo}
use Rattle.sja_serial.specs.Serial.{Setup, all_acts}
use Rattle.sja_serial.proofs.AllNodes.Several.{at_own, from_own}
use Rattle.sja_session.specs.SessionPlaces.{RunsTo}
use Rattle.sja_session.specs.Running.{MayRun}
use Rattle.sja_session.specs.Sessions.{SessionValue, HasEnd, IsAt, IsEndless, session_of, setup_by, plan_with}
use Rattle.sja_session.proofs.BitsDone.AfterBits.{turn_fits, session_now}
use Rattle.sja_session.proofs.BitsDone.PlaceRun.{many_run, came_to}
use Rattle.sja_session.proofs.WrittenPlan.Noting.{end_of, noted_of, not_noted_of}
use Rattle.sja_session.proofs.WrittenPlan.OneMore.{listed}
use Rattle.sja_session.proofs.session.Session.to_place.Goals.{After-place_turn-bits}
use Rattle.sja_session.proofs.session.Session.to_place.Goals as goal

-- the session as it was
abbrev was : After-place_turn-bits → SessionValue
was c = session_of c.self.inside.room c.self.inside.run
    (plan_with c.self.inside.plan c.self.inside.bits c.self.inside.struck.items) (listed c.self.inside.steps.items)
    c.self.inside.turns.items

-- turns are taken down where it has an end
noted : (c : After-place_turn-bits) → HasEnd (was c) → not c.is_endless-noted.result ≡ true
noted c = noted_of c.is_endless-noted.result (was c) c.args.self.now c.self.view_is c.is_endless-noted.ensures.yes
    c.is_endless-noted.ensures.no

with_end : (c : After-place_turn-bits) → not c.is_endless-noted.result ≡ true → HasEnd (was c)
with_end c = end_of c.is_endless-noted.result (was c) c.args.self.now c.self.view_is c.is_endless-noted.ensures.yes
    c.is_endless-noted.ensures.no

not_noted : (c : After-place_turn-bits) → IsEndless (was c) → not c.is_endless-noted.result ≡ false
not_noted c = not_noted_of c.is_endless-noted.result (was c) c.args.self.now c.self.view_is
    c.is_endless-noted.ensures.yes
    c.is_endless-noted.ensures.no

-- the bits were run from the step runs at which it stood
takes : (c : After-place_turn-bits) (step_runs : List (List StepRun)) → IsAt (was c) step_runs →
    TakesTo (setup_by (was c)) (all_acts step_runs) c.args.node c.args.place c.args.limit (c.place_turn-bits.result.0)
    (c.place_turn-bits.result.1) c.self.inside.run c.place_turn-bits.new.self
takes c step_runs h = from_own (λ (x : Setup). TakesTo x (all_acts step_runs) c.args.node c.args.place c.args.limit
    (c.place_turn-bits.result.0) (c.place_turn-bits.result.1) c.self.inside.run c.place_turn-bits.new.self)
    h.stands.stands
    (c.place_turn-bits.ensures.to (all_acts step_runs) (at_own h.stands.stands))

may : (c : After-place_turn-bits) → MayRun (was c) c.args.limit
may c = subst (λ (s : SessionValue). MayRun s c.args.limit) (sym c.self.view_is)
    (c.lacks_bus_turn.ensures.no (search rules))

pub place_turn-bits-requires : goal.place_turn-bits-requires
place_turn-bits-requires c =
    let inv = c.self.invariant.0 in let near = c.if-from-nodes.false in let n = c.nodes.ensures.value in
    let count = inv.at.count in
    let all = inv.at.stands.stands.may.nodes in let steps = ap (λ (l : List ℕ). length l) inv.at.stands.stands.steps in
    ((all_acts inv.step_runs, at_own inv.at.stands.stands), omega (arith, near, n, count, all, steps))

pub note_bits-requires-clause-room : goal.note_bits-requires-clause-room
note_bits-requires-clause-room c = λ is. let inv = c.self.invariant.0 in let few = inv.few in let room = inv.room in
    omega (arith, few, room)

pub note_bits-requires-clause-fits : goal.note_bits-requires-clause-fits
note_bits-requires-clause-fits c = λ is.
    let at = (goal.at.note_bits-requires-clause-fits c).After-place_turn-bits in let inv = c.self.invariant.0 in
    let t = takes at inv.step_runs inv.at in turn_fits inv t.bits (many_run inv.at t) (with_end at is)

pub invariant_of-self : goal.invariant_of-self
invariant_of-self c =
    let at = (goal.at.invariant_of-self c).After-place_turn-bits in let note = c.note_bits.ensures in
    let inv = c.self.invariant.0 in let t = takes at inv.step_runs inv.at in (
      session_now inv t.bits (many_run inv.at t) (λ end. note.turns (noted at end))
          (λ endless. note.none (not_noted at endless)) note.capacity (may at)
          (λ some. let most = t.most in omega (arith, some, most)),
      c.self.invariant.1,
    )

pub returns-clause-runs : goal.returns-clause-runs
returns-clause-runs c = λ step_runs h.
    let at = (goal.at.returns-clause-runs c).After-place_turn-bits in let note = c.note_bits.ensures in
    let own = subst (λ (s : SessionValue). IsAt s step_runs) (sym c.self.view_is) h in
    let then = session_of c.self.inside.room c.place_turn-bits.new.self
    (plan_with c.self.inside.plan c.self.inside.bits c.self.inside.struck.items)
    (listed c.self.inside.steps.items) c.note_bits.new.turns.items in
    subst (λ (s : SessionValue). RunsTo s then c.args.node c.args.place c.args.limit (c.place_turn-bits.result.0)
    (c.place_turn-bits.result.1) step_runs)
    c.self.view_is
    (came_to own (takes at step_runs own) c.note_bits.new.turns.items (λ end. note.turns (noted at end)))
