use Rattle.std.proofs.Common.{rules, ◌≡◌, ◌≤◌, ◌^◌, ℕ, List, All, length, map, replicate, refl, sym, ap, ◌∙◌, subst}
use Rattle.std.proofs.Common.{arith}
use Rattle.std.proofs.lemmas.List.{length-map}
use Rattle.sja_link.specs.NewLinks.{AreNewLinks}
use Rattle.sja_journal.specs.Sizes.{most_activations}
use Rattle.sja_regs.specs.Registers.{at_power_on}
use Rattle.sja_promises.specs.NewDrivers.{AreNew}
use Rattle.sja_bus_rules.specs.Buses.{new_bus}
use Rattle.sja_driver.specs.StepRuns.{most_acts}
use Rattle.sja_serial.specs.Serial.{setup_with}
use Rattle.sja_serial.proofs.AllNodes.Newly.{stands_by_new}
use Rattle.sja_serial.proofs.WholeRun.Kept.{activations_most, acts_counted}
use Rattle.sja_serial.proofs.serial_run.SerialRun.made.Goals as goal

pub new-requires-2-clause-steps : goal.new-requires-2-clause-steps
new-requires-2-clause-steps c =
    let version = c.args.version in let asked = c.args.steps.items in
    let acts : c.in_ok-acts.acts.items ≡ map (most_acts version) asked =
    c.in_ok-acts.ensures ∙ ap (map (most_acts version)) c.as_slice.ensures.value in
    subst (λ (l : List ℕ). All (λ (n : ℕ). n ≤ 2 ^ 58) l) (sym acts)
    (acts_counted version asked c.requires.may.steps)

pub serial_links-requires : goal.serial_links-requires
serial_links-requires c =
    let most = activations_most c.args.version in let is = c.most_activations-starts.ensures in omega (arith, most, is)

pub returns-clause-stands : goal.returns-clause-stands
returns-clause-stands c = let steps = c.as_slice.ensures.value in
    let version = c.args.version in let asked = c.args.steps.items in
    let nodes : c.len-nodes.result ≡ length asked = search rules in
    let acts : c.in_ok-acts.acts.items ≡ map (most_acts version) asked =
    c.in_ok-acts.ensures ∙ ap (map (most_acts version)) steps in
    let drivers = c.in_ok-drivers.drivers.items in
    stands_by_new (setup_with version c.args.bits c.args.script asked) asked c.in_ok-bus.bus
    drivers c.in_ok-board.board.ports.items c.in_ok-links.links.items
    (record {
      bits = c.requires.may.bits;
      few = c.requires.may.nodes;
      nodes = length-map asked (most_acts version);
      plans = c.requires.version;
    })
    refl refl (c.in_ok-bus.ensures
    ∙ (λ i. new_bus c.args.script c.args.bits (length (acts i)) (c.most_activations-starts.ensures i) (acts i))
    ∙ ap (λ n. new_bus c.args.script c.args.bits n (most_activations version) (map (most_acts version) asked))
    (length-map asked (most_acts version)))
    (subst (λ (l : List ℕ). length drivers ≡ length l) c.as_slice-2.ensures.value c.in_ok-drivers.ensures.count)
    (subst (λ (l : List ℕ). AreNew version l (map (most_acts version) asked) (length l) drivers)
    c.as_slice-2.ensures.value
    (subst (λ (l : List ℕ). AreNew version c.as_slice-2.result.now l (length c.as_slice-2.result.now) drivers)
    (c.as_slice-3.ensures.value ∙ acts) c.in_ok-drivers.ensures.new))
    (subst (λ (n : ℕ). c.in_ok-board.board.ports.items ≡ replicate n (at_power_on version)) nodes
    c.in_ok-board.ensures)
    (subst (λ (m : ℕ). AreNewLinks (length asked) m c.in_ok-links.links.items) c.most_activations-starts.ensures
    (subst (λ (n : ℕ). AreNewLinks n c.most_activations-starts.result c.in_ok-links.links.items) nodes
    c.in_ok-links.ensures))
