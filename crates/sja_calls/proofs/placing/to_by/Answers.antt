use Rattle.std.proofs.Common.{◌≡◌, ◌∙◌, ℕ, List, sym, subst}
use Rattle.sja_driver.specs.StepRuns.{StepRun}
use Rattle.sja_session.specs.SessionPlaces.{RunsTo, MayRunTo}
use Rattle.sja_session.specs.Sessions.{IsAt}
use Rattle.sja_calls.proofs.placing.to_by.Goals as goal

pub returns-in-Ok-clause-runs : goal.returns-in-Ok-clause-runs
returns-in-Ok-clause-runs c =
    let was = c.args.session.now in let now = c.to_place.new.self in let limit = c.args.limit in
    let place = c.in-Some.place in let reached = c.in-Ok.reached in
    let same : c.in-Some-node_in.node ≡ c.args.node = c.in-Some-node_in.ensures.some in record {
      place = place;
      named = sym c.place_of.ensures ∙ c.in-Some.is;
      may = subst (λ (n : ℕ). MayRunTo was n limit) same c.in-Ok.ensures.may;
      run = reached.bits;
      runs = λ step_runs at. subst (λ (n : ℕ). RunsTo was now n place limit reached.bits reached.there step_runs) same
          (c.in-Ok.ensures.runs step_runs at);
    }
