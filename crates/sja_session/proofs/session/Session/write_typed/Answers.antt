use Rattle.std.proofs.Common.{rules, ◌≡◌, ◌+◌, ◌<◌, ◌++◌, ℕ, Bool, List, length, sym, ap, ◌∙◌, subst, arith}
use Rattle.std.specs.Prelude.{slice_index_or}
use Rattle.std.proofs.lemmas.List.{get_or_default, length-append}
use Rattle.std.proofs.lemmas.Result.{err_from_is_err_and}
use Rattle.sja_link.specs.NewLinks.{new_links}
use Rattle.sja_regs.specs.Registers.{at_power_on}
use Rattle.sja_steps.specs.declared.step.Step.{Step}
use Rattle.sja_driver.specs.declared.logged_driver.LoggedDriver.{LoggedDriver}
use Rattle.sja_driver.specs.StepRuns.{StepRun, step_runs_at, acts_in}
use Rattle.sja_driver.specs.AnyDrivers.{is_out}
use Rattle.sja_driver.specs.TypedActs.{is_active}
use Rattle.sja_driver.specs.LoggedDrivers.{IsLawful, driver_of}
use Rattle.sja_driver.specs.WriteLists.{listed, steps_in}
use Rattle.sja_driver.specs.Writes.{write_steps}
use Rattle.sja_serial.proofs.TypedActs.Parts.{all_at}
use Rattle.sja_session.specs.ByAddress.{DoesSteps, IsAccessFault, MayDo, steps_by}
use Rattle.sja_session.specs.Inside.Accessing.{AreSteps, Does}
use Rattle.sja_session.specs.Sessions.{SessionValue, IsAt}
use Rattle.sja_session.proofs.StepsDone.Accessing.{does_both, may_fewer}
use Rattle.sja_session.proofs.session.Session.write_typed.Goals.{After-steps_of_write-steps, After-do_if}
use Rattle.sja_session.proofs.session.Session.write_typed.Goals as goal

-- the write is these steps
are : (c : After-steps_of_write-steps) → c.args.node < length c.args.self.now.plan.nodes →
    AreSteps c.args.self.now c.args.node c.args.address c.args.value (steps_in c.steps_of_write-steps.result)
are c there = λ step_runs h p.
    let was = c.args.self.now in let node = c.args.node in
    let place : c.from-place.result ≡ node = search rules in
    let ports = ap (λ (s : SessionValue). s.run.ports) c.self.view_is in
    let drivers = ap (λ (s : SessionValue). s.run.drivers) c.self.view_is in
    let many : node < length was.steps = (let n = h.count in omega (arith, n, there)) in
    let near : node < length was.run.ports = let k = h.stands.stands.count.ports in omega (arith, k, many) in
    let port_is : c.port-port.result.now ≡ slice_index_or was.run.ports node p = c.port-port.ensures
    ∙ (λ i. slice_index_or (ports i) (place i) c.port-port.result.now)
    ∙ get_or_default was.run.ports node c.port-port.result.now p near in
    let out_is : is_out (driver_of c.driver.result.now) ≡ is_active (acts_in (step_runs_at step_runs node)) =
    ap (λ (d : LoggedDriver). is_out (driver_of d)) (c.driver.ensures
    ∙ (λ i. slice_index_or (drivers i) (place i) c.driver.result.now))
    ∙ sym (h.stands.stands.nodes node c.driver.result.now (at_power_on 1) (new_links node 0) many).traced.traces.out
    ∙ ap is_active (all_at step_runs node) in
    ap (λ (b : Bool). steps_by b (slice_index_or was.run.ports node p)
    (is_active (acts_in (step_runs_at step_runs node))) c.args.address c.args.value) c.requires.typed
    ∙ sym (c.steps_of_write-steps.ensures.are
    ∙ (λ i. write_steps (port_is i) (out_is i) c.args.address c.args.value))

-- the driver is one of a run, and so is lawful
pub steps_of_write-steps-requires : goal.steps_of_write-steps-requires
steps_of_write-steps-requires c =
    let inv = c.self.invariant.0 in let driver = c.driver.result.now in let node = c.args.node in
    let place : c.from-place.result ≡ node = search rules in
    let there : node < length c.args.self.now.plan.nodes = search rules in
    let nodes = ap (λ (s : SessionValue). length s.plan.nodes) c.self.view_is in let count = inv.at.count in
    let is : driver ≡ slice_index_or c.self.inside.run.drivers node driver =
    c.driver.ensures ∙ ap (λ (n : ℕ). slice_index_or c.self.inside.run.drivers n driver) place in
    subst (λ (d : LoggedDriver). IsLawful d) (sym is)
    (inv.at.stands.stands.nodes node driver (at_power_on 1) (new_links node 0)
    (omega (arith, count, nodes, there))).traced.lawful

-- ---- where they may not be done

pub returns-in_err-may_do : goal.returns-in_err-may_do
returns-in_err-may_do c =
    let told = err_from_is_err_and c.from_residual.result c.from_residual.ensures.1 in (
      search rules,
      search rules,
      rw (told.1, told.2) (λ step_runs h p.
          let at = (goal.at.returns-in_err-may_do c).After-steps_of_write-steps in
          let there : c.args.node < length c.args.self.now.plan.nodes = search rules in
          subst (λ (n : ℕ). IsAccessFault c.args.self.now c.args.node n c.in_err-may_do.field-0.0)
          (c.count_of.ensures ∙ ap (λ (l : List Step). length l) (sym (are at there step_runs h p)))
          c.in_err-may_do.ensures.err),
      search rules,
    )

-- ---- where they were done

-- the session as it was
abbrev was : After-do_if → SessionValue
was c = c.args.self.now

-- the steps of the write, as lists
abbrev one : After-do_if → List Step
one c = listed c.steps_of_write-steps.result.first

abbrev two : After-do_if → List Step
two c = listed c.steps_of_write-steps.result.second

abbrev three : After-do_if → List Step
three c = listed c.steps_of_write-steps.result.third

-- all of them may be done
may_all : (c : After-do_if) → MayDo (was c) c.args.node (length (two c) + length (three c) + length (one c))
may_all c =
    let n = length-append (one c) (two c ++ three c) in let k = length-append (two c) (three c) in
    let e : c.count_of.result ≡ length (two c) + length (three c) + length (one c) =
    omega (arith, c.count_of.ensures, n, k) in
    subst (MayDo (was c) c.args.node) e c.in_ok-may_do.ensures.ok

first : (c : After-do_if) (step_runs : List (List StepRun)) → IsAt (was c) step_runs →
    Does (was c) c.do_if.new.self c.args.node (one c) step_runs
first c step_runs at = c.do_if.ensures step_runs at

-- it stands somewhere
somewhere : (c : After-do_if) → IsAt (was c) c.self.invariant.0.step_runs
somewhere c = subst (λ (s : SessionValue). IsAt s c.self.invariant.0.step_runs) c.self.view_is c.self.invariant.0.at

pub do_if-requires-2-clause-may : goal.do_if-requires-2-clause-may
do_if-requires-2-clause-may c =
    let at = (goal.at.do_if-requires-2-clause-may c).After-do_if in
    may_fewer _ c.args.node (length (two at)) (length (three at))
    ((first at _ (somewhere at)).goes_on (length (two at) + length (three at)) (may_all at))

pub do_if-requires-3-clause-may : goal.do_if-requires-3-clause-may
do_if-requires-3-clause-may c =
    let at = (goal.at.do_if-requires-3-clause-may c).After-do_if in
    let d = first at _ (somewhere at) in
    let e : length (two at) + length (three at) ≡ length (three at) + length (two at) = omega arith in
    (c.do_if-2.ensures d.after d.at).goes_on (length (three at))
    (subst (MayDo c.do_if.new.self c.args.node) e
    (d.goes_on (length (two at) + length (three at)) (may_all at)))

pub returns : goal.returns
returns c = (
  (λ step_runs h.
      let at = (goal.at.returns c).After-do_if in let node = c.args.node in
      let d = first at step_runs h in
      let d2 = c.do_if-2.ensures d.after d.at in
      let d3 = c.do_if-3.ensures d2.after d2.at in
      let others = does_both c.do_if.new.self c.do_if-2.new.self c.do_if-3.new.self node (two at) (three at) d.after d2
      d3 in
      let whole = does_both (was at) c.do_if.new.self c.do_if-3.new.self node (one at) (two at ++ three at) step_runs d
      others in record {
        answers = whole.answers;
        after = whole.after;
        does = λ p. subst (λ (l : List Step).
            DoesSteps node (was at) step_runs l whole.answers c.do_if-3.new.self whole.after)
            (sym (are (goal.at.returns c).After-steps_of_write-steps (may_all at).there step_runs h p)) whole.does;
      }),
  (λ step_runs h p.
      let at = (goal.at.returns c).After-do_if in
      subst (λ (n : ℕ). MayDo c.args.self.now c.args.node n)
      (c.count_of.ensures ∙ ap (λ (l : List Step). length l)
      (sym (are (goal.at.returns c).After-steps_of_write-steps (may_all at).there step_runs h p)))
      c.in_ok-may_do.ensures.ok),
  search rules,
  search rules,
)
