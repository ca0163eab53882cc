use Rattle.std.proofs.Common.{◌≡◌, ◌≤◌, ℕ, zero, suc, List, [], ◌∷◌, length, rules, refl, sym, ap, ◌∙◌, subst, arith}
use Rattle.sja_driver.specs.StepRuns.{StepRun, step_runs_at}
use Rattle.sja_serial.proofs.AllNodes.Several.{first_driver, many_steps}
use Rattle.sja_session.specs.Answering.{last_answer}
use Rattle.sja_session.specs.Sessions.{SessionValue, IsAt}
use Rattle.sja_session.proofs.StepsDone.Stepped.{last_answered}
use Rattle.sja_session.proofs.session.Session.answer.Goals as goal

past : (step_runs : List (List StepRun)) (k : ℕ) → length step_runs ≤ k → step_runs_at step_runs k ≡ []
past [] k far = refl
past (x ∷ xs) zero far = absurd (omega (arith, far))
past (x ∷ xs) (suc k) far = past xs k (omega (arith, far))

pub returns-then-place-nodes : goal.returns-then-place-nodes
returns-then-place-nodes c = λ step_runs h.
    let far = c.if-place-nodes.true in let n = c.nodes.ensures.value in
    let p : c.from-place.result ≡ c.args.node = search rules in
    let v = ap (λ (x : SessionValue). length x.plan.nodes) c.self.view_is in let d = many_steps h.stands in let e =
    h.count in
    sym (ap last_answer (past step_runs c.args.node (omega (arith, far, n, p, v, d, e))))

pub returns : goal.returns
returns c = λ step_runs h.
    let b = c.self.inside in
    let at = subst (λ (x : SessionValue). IsAt x step_runs) (sym c.self.view_is) h in
    let near = c.if-place-nodes.false in let n = c.nodes.ensures.value in let k = at.stands.stands.count.drivers in
    let e =
    at.count in
    let p : c.from-place.result ≡ c.args.node = search rules in
    let d = first_driver b.run.drivers (omega (arith, near, n, k, e)) in
    c.last_answer.ensures d
    ∙ last_answered _ b.run step_runs c.from-place.result d at.stands (omega (arith, near, n, e))
    ∙ ap (λ m. last_answer (step_runs_at step_runs m)) p
