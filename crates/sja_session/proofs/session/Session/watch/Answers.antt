use Rattle.std.proofs.Common.{rules, ◌≡◌, ◌≤◌, ◌&&◌, ℕ, Bool, true, false, List, length}
use Rattle.std.proofs.Common.{refl, sym, ◌∙◌, subst, arith, inr}
use Rattle.std.specs.Prelude.{slice_index_or}
use Rattle.can_frame.specs.Message.{bit}
use Rattle.sja_driver.specs.StepRuns.{StepRun}
use Rattle.sja_session.specs.Running.{MayRun}
use Rattle.sja_session.specs.Sessions.{SessionValue, IsAt}
use Rattle.sja_session.specs.Inside.Risen.{risen}
use Rattle.sja_session.specs.Watching.{rise}
use Rattle.sja_session.specs.Watching.NoneRose.{none as no_bit}
use Rattle.sja_session.proofs.WatchedBits.QuietBits.{line_still, may_one, may_still, nodes_same, quiet_at, quiet_bits}
use Rattle.sja_session.proofs.WatchedBits.Stretches.{none_rises, one_rises}
use Rattle.sja_session.proofs.session.Session.watch.Goals as goal

-- what rose is so now
is_now : (watched before now : Bool) → (watched && rise before now) ≡ true → bit now ≡ 1
is_now true false true h = refl
is_now true false false h = cc
is_now true true now h = cc
is_now false before now h = cc

place_now : (watched before now : List Bool) (k : ℕ) → risen watched before now k ≡ true →
    bit (slice_index_or now k false) ≡ 1
place_now watched before now k rose =
    is_now (slice_index_or watched k false) (slice_index_or before k false) (slice_index_or now k false) rose

pub loop-bits-init : goal.loop-bits-init
loop-bits-init c =
    let at = subst (λ (s : SessionValue). IsAt s c.self.invariant.0.step_runs) c.self.view_is c.self.invariant.0.at in
    let may : MayRun c.args.self.now c.args.count = c.lacks_bus_turn.ensures.no (search rules) in record {
      ran = λ step_runs h. no_bit (c.looks-before.ensures.still step_runs h);
      told = λ step_runs h k less few on. c.looks-before.ensures.lines step_runs h k less few on
          ∙ sym (line_still (c.looks-before.ensures.still step_runs h) k);
      may = λ some. may_still (c.looks-before.ensures.still c.self.invariant.0.step_runs at)
          (may_one c.args.self.now c.args.count some may);
      most = omega arith;
    }

pub returns-else-bits-self-clause-watches : goal.returns-else-bits-self-clause-watches
returns-else-bits-self-clause-watches c = λ step_runs h.
    let inv = c.loop-bits.invariant in let q = inv.ran step_runs h in let most = inv.most in
    let over = c.if-bits-self.false in let x = c.bits.ensures in
    let own : c.self-in-loop-bits.inside.bits ≤ c.self-in-loop-bits.inside.run.bits = omega (arith, over, x) in
    let spent = subst (λ (s : SessionValue). s.plan.bits ≤ s.run.bits) c.self-in-loop-bits.view_is own in
    let p = quiet_bits q in (q, most, inr (omega (arith, spent, p)))

-- `active` proves nothing here: by it a wrong body is refused with values
pub returns-in-Some-clause-watches : goal.returns-in-Some-clause-watches
returns-in-Some-clause-watches c = λ step_runs h.
    let inv = c.loop-bits.invariant in let q = inv.ran step_runs h in
    let u = c.run_until_told-bits.ensures.ran step_runs (quiet_at q) in
    let rose = c.in-Some.ensures in
    let active : bit (slice_index_or c.looks-now.result c.in-Some.node false) ≡ 1 =
    omega (arith, place_now _ _ _ c.in-Some.node rose.some.0) in
    let few = c.run_until_told-bits.ensures.most in let most = inv.most in (
      one_rises c.loop-bits.before c.looks-now.result h q u (inv.told step_runs h)
          (c.looks-now.ensures.lines step_runs u.bit.at) c.looks-now.new.self (c.looks-now.ensures.still step_runs
          u.bit.at)
          c.in-Some.node rose.some.1 rose.some.0 rose.first (c.looks-now.ensures.none c.in-Some.node),
      omega (arith, few, most),
    )

pub loop-bits-preserved : goal.loop-bits-preserved
loop-bits-preserved c =
    let inv = c.loop-bits.invariant in
    let most : length c.args.self.now.plan.nodes ≤ 8 =
    subst (λ (s : SessionValue). length s.plan.nodes ≤ 8) c.self.view_is c.limits.ensures.nodes.1 in
    let at = subst (λ (s : SessionValue). IsAt s c.self.invariant.0.step_runs) c.self.view_is c.self.invariant.0.at in
    let run = λ (step_runs : List (List StepRun)) (h : IsAt c.args.self.now step_runs).
    c.run_until_told-bits.ensures.ran step_runs (quiet_at (inv.ran step_runs h)) in
    let still = λ (step_runs : List (List StepRun)) (h : IsAt c.args.self.now step_runs).
    c.looks-now.ensures.still step_runs (run step_runs h).bit.at in record {
      ran = λ step_runs h. none_rises c.loop-bits.before c.looks-now.result h (inv.ran step_runs h) (run step_runs h)
          (inv.told step_runs h) (c.looks-now.ensures.lines step_runs (run step_runs h).bit.at) c.looks-now.new.self
          (still step_runs h) most c.in_default.ensures.none;
      told = λ step_runs h k less eight on.
          c.looks-now.ensures.lines step_runs (run step_runs h).bit.at k
          (let e = nodes_same h (run step_runs h).bit.at in omega (arith, e, less)) eight on
          ∙ sym (line_still (still step_runs h) k);
      may = λ some. may_still (still c.self.invariant.0.step_runs at) c.run_until_told-bits.ensures.may;
      most = let few = c.run_until_told-bits.ensures.most in let m = inv.most in omega (arith, few, m);
    }
