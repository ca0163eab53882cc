-- A session that took a strike more.
use Rattle.std.proofs.Common.{◌≡◌, ◌≤◌, ◌<◌, ℕ, List, [], ◌∷◌, ◌++◌, append-nil, append_assoc, ap, sym, ◌∙◌, subst}
use Rattle.std.proofs.Common.{arith, inl, inr}
use Rattle.sja_journal.specs.BoundedHistories.{HistoryValue}
use Rattle.sja_plan.specs.Limits.{most_bits}
use Rattle.sja_plan.specs.Plan.{PlanValue}
use Rattle.sja_plan.specs.Struck.{one_strike, struck_at}
use Rattle.sja_steps.specs.declared.strike.Strike.{Strike}
use Rattle.sja_driver.specs.StepRuns.{StepRun}
use Rattle.sja_serial.specs.Serial.{SerialValue, StandsBy}
use Rattle.sja_serial.specs.Striking.{struck_run, struck_setup}
use Rattle.sja_session.specs.Sessions.{SessionValue, IsAt, plan_with, setup_by}
use Rattle.sja_session.specs.Striking.{struck_session}
use Rattle.sja_session.specs.Inside.Written.{GoesBy}

-- it stands at the same steps
pub struck_at_them : (s : SessionValue) (node bit : ℕ) (now : SerialValue) (step_runs : List (List StepRun)) →
    now ≡ struck_run s.run (one_strike node bit) →
    StandsBy (struck_setup (setup_by s) (one_strike node bit)) now step_runs → IsAt s step_runs →
    IsAt (struck_session s node bit) step_runs
struck_at_them s node bit now step_runs e by h = record {
  stands = subst (λ (r : SerialValue). StandsBy (struck_setup (setup_by s) (one_strike node bit)) r step_runs) e by;
  steps = h.steps;
  count = h.count;
  took = h.took;
}

-- where it has an end it holds no strikes beside its plan
pub none_beside : (p : PlanValue) (bits : ℕ) (struck : HistoryValue Strike) → bits ≤ most_bits p.version →
    GoesBy p bits struck → struck.items ≡ []
none_beside p bits struck end (inl own) = own.1
none_beside p bits struck end (inr more) = let far = more.0 in absurd (omega (arith, end, far))

-- the plan with a strike more, of its own
pub struck_own : (p : PlanValue) (bits : ℕ) (struck : List Strike) (node bit : ℕ) → struck ≡ [] →
    plan_with (struck_at p node bit) bits struck ≡ struck_at (plan_with p bits struck) node bit
struck_own p bits struck node bit none = ap (λ (l : List Strike). let q : PlanValue =
    record p { bits = bits; strikes = l } in q)
    (ap (λ l. (p.strikes ++ one_strike node bit ∷ []) ++ l) none ∙ append-nil (p.strikes ++ one_strike node bit ∷ [])
    ∙ ap (λ l. l ++ one_strike node bit ∷ []) (sym (ap (λ l. p.strikes ++ l) none ∙ append-nil p.strikes)))

-- or beside it
pub struck_beside : (p : PlanValue) (bits : ℕ) (struck : List Strike) (node bit : ℕ) →
    plan_with p bits (struck ++ one_strike node bit ∷ []) ≡ struck_at (plan_with p bits struck) node bit
struck_beside p bits struck node bit = ap (λ (l : List Strike). let q : PlanValue =
    record p { bits = bits; strikes = l } in q) (sym (append_assoc p.strikes struck (one_strike node bit ∷ [])))

-- with a strike more of its own it goes by its plan still
pub still_goes : (p : PlanValue) (bits : ℕ) (struck : HistoryValue Strike) (node bit : ℕ) → bits ≤ most_bits p.version →
    GoesBy p bits struck → GoesBy (struck_at p node bit) bits struck
still_goes p bits struck node bit end (inl own) = inl own
still_goes p bits struck node bit end (inr more) = let far = more.0 in absurd (omega (arith, end, far))

-- and beside it, without an end
pub goes_beside : (p : PlanValue) (bits : ℕ) (struck more : HistoryValue Strike) → p.bits ≤ most_bits p.version →
    most_bits p.version < bits → more.room ≡ struck.room → GoesBy p bits struck → GoesBy p bits more
goes_beside p bits struck more few far same (inl own) = let e = own.0 in absurd (omega (arith, e, few, far))
goes_beside p bits struck more few far same (inr goes) = inr (goes.0, goes.1, same ∙ goes.2)

-- where it has an end its bits are its plan's
pub own_bits : (p : PlanValue) (bits : ℕ) (struck : HistoryValue Strike) → bits ≤ most_bits p.version →
    GoesBy p bits struck → bits ≡ p.bits
own_bits p bits struck end (inl own) = own.0
own_bits p bits struck end (inr more) = let far = more.0 in absurd (omega (arith, end, far))
