use Rattle.std.proofs.Common.{ℕ, [], length, replicate, ap, ◌∙◌}
use Rattle.std.proofs.lemmas.List.{length-replicate}
use Rattle.sja_driver.specs.StepRuns.{most_acts}
use Rattle.sja_journal.specs.Sizes.{most_activations}
use Rattle.sja_plan.specs.Plan.{PlanValue}
use Rattle.sja_session.specs.Beginning.{endless_bits, endless_room}
use Rattle.sja_session.specs.Sessions.{run_version}
use Rattle.sja_session.specs.declared.session_room.SessionRoom.{SessionRoom}
use Rattle.sja_bus_rules.specs.Buses.{BusValue, new_bus}
use Rattle.sja_session.proofs.session.Session.endless.Goals as goal

-- the bus of a session that goes by this plan for so many bits
abbrev bus_by : PlanValue → SessionRoom → BusValue
bus_by plan room =
    new_bus plan.strikes endless_bits (length plan.nodes)
    (most_activations (run_version (record plan { bits = endless_bits })))
    (replicate (length plan.nodes) (most_acts plan.version room.steps))

pub returns-clause-bus : goal.returns-clause-bus
returns-clause-bus c =
    c.in_ok-over.ensures.bus ∙ (λ i. bus_by (c.in_ok-plan.ensures i) (c.endless.ensures i))
    ∙ ap (λ (n : ℕ). new_bus [] endless_bits n (most_activations 4) (replicate n (most_acts 4 endless_room.steps)))
    (length-replicate c.args.nodes [])
