use Rattle.std.proofs.Common.{rules, ◌≡◌, ◌∙◌, ◌≤◌, ℕ, pos, List, length, map, sym, ap, subst, arith}
use Rattle.std.specs.List.{AllZip}
use Rattle.std.proofs.lemmas.Slice.Zip.{AllZip-long}
use Rattle.sja_steps.specs.declared.step.Step.{Step}
use Rattle.sja_plan_reading.specs.StepTexts.{SaysStep}
use Rattle.sja_plan_reading.specs.TurnTexts.{SaysTurn}
use Rattle.sja_plan_reading.specs.Document.{DocumentValue}
use Rattle.sja_plan.specs.Limits.{most_bits, most_steps}
use Rattle.sja_plan_reading.specs.Checks.{HasVersion, HasNodes, HasFewSteps, BeforeTurnCount}
use Rattle.sja_plan_reading.specs.Inside.Views.{document_view}
use Rattle.sja_plan_reading.proofs.PlanLimits.WithinLimits.{few_read, name_nodes}
use Rattle.sja_plan.specs.Plan.{times_in}
use Rattle.sja_plan_reading.specs.PlacedTexts.{bits_in, placed_from}
use Rattle.sja_plan_reading.proofs.Parts.Items.{bits_are_few, bits_are_on, placed_are_on}
use Rattle.sja_plan_reading.proofs.PlanLimits.OfDocuments.{version_is, has_bits, has_steps}
use Rattle.sja_plan_reading.proofs.checks.judge.Goals as goal

pub of-requires : goal.of-requires
of-requires c =
    let (nodes, few) = c.in_ok-settings.ensures.counts in
    let count = AllZip-long _ _ _ c.in_ok-steps.ensures.ok in
    let turns = AllZip-long _ _ _ c.in_ok-turns.ensures.ok in
    let version = c.in_ok-settings.settings.version in
    let is = version_is (document_view c.args.document.now) version c.in_ok-settings.ensures.version.0 in
    let bits = c.in_ok-strikes.ensures ∙ ap bits_in c.as_slice.ensures.value in
    record {
      version = (c.in_ok-settings.ensures.version.1, c.in_ok-settings.ensures.version.2);
      bits = (c.in_ok-settings.ensures.bits.1, c.in_ok-settings.ensures.bits.2);
      nodes = (omega (arith, count, nodes.0), omega (arith, count, nodes.1));
      steps = few_read (most_steps version) _ (SaysStep version) _ _ (omega arith)
          c.in_ok-steps.ensures.ok (rw is at few);
      turn_count = omega (arith, turns, rw is at c.in_ok-turns.ensures.few);
      turns = rw count (name_nodes _ _ _ _ c.in_ok-turns.ensures.ok);
      strike_count =
          omega (
            arith,
            bits_are_few _ _ _ _ c.in_ok-items.ensures.ok,
            rw is at c.in_ok-items.ensures.few,
            ap times_in bits,
          );
      strikes = rw (count, bits) (bits_are_on _ _ _ _ c.in_ok-items.ensures.ok);
    }

pub returns-clause-ok : goal.returns-clause-ok
returns-clause-ok c =
    rw c.of.ensures (record {
      items = c.in_ok-items.items.items;
      strikes = c.in_ok-items.ensures.ok;
      at_bits = c.in_ok-strikes.ensures ∙ ap bits_in c.as_slice.ensures.value;
      at_places = c.in_ok-placed.ensures ∙ ap (placed_from 1) c.as_slice-2.ensures.value;
      strike_count = c.in_ok-items.ensures.few;
      others = record {
        version = c.in_ok-settings.ensures.version;
        bits = c.in_ok-settings.ensures.bits;
        node_count = c.in_ok-settings.ensures.counts.0;
        step_counts = c.in_ok-settings.ensures.counts.1;
        steps = c.in_ok-steps.ensures.ok;
        turn_count = c.in_ok-turns.ensures.few;
        turns = c.in_ok-turns.ensures.ok;
        strike_count = omega arith;
        strikes = tt;
      };
    })

pub returns-clause-there : goal.returns-clause-there
returns-clause-there c =
    let count = AllZip-long _ _ _ c.in_ok-steps.ensures.ok in
    let placed = c.in_ok-placed.ensures ∙ ap (placed_from 1) c.as_slice-2.ensures.value in
    rw (c.of.ensures, placed, count) (placed_are_on _ _ 1 _ _ c.in_ok-items.ensures.ok)

-- all checks before that of the turns pass
before_turns : (d : DocumentValue) (version bits : ℕ) (nodes : List (List Step)) →
    (d.version ≡ pos version) × (1 ≤ version) × (version ≤ 3) →
    (d.bits ≡ pos bits) × (1 ≤ bits) × (bits ≤ most_bits version) → HasNodes d × HasFewSteps d →
    AllZip (AllZip (SaysStep version)) d.nodes nodes → BeforeTurnCount d
before_turns d version bits nodes v b counts says =
    let is = version_is d version v.0 in
    let has_version : HasVersion d = (version, v.0, v.1, v.2) in (
      (((has_version, has_bits d version bits is b.0 b.1 b.2), counts.0), counts.1),
      has_steps d version nodes is says,
    )

pub returns-in_err-turns-clause-err : goal.returns-in_err-turns-clause-err
returns-in_err-turns-clause-err c =
    let before = before_turns (document_view c.args.document.now) c.in_ok-settings.settings.version
    c.in_ok-settings.settings.bits (map (λ steps. steps.items) c.in_ok-steps.steps.items)
    c.in_ok-settings.ensures.version c.in_ok-settings.ensures.bits c.in_ok-settings.ensures.counts
    c.in_ok-steps.ensures.ok in
    let fault = c.in_err-turns.ensures.err before in
    search rules

pub returns-in_err-items-clause-err : goal.returns-in_err-items-clause-err
returns-in_err-items-clause-err c =
    let before = before_turns (document_view c.args.document.now) c.in_ok-settings.settings.version
    c.in_ok-settings.settings.bits (map (λ steps. steps.items) c.in_ok-steps.steps.items)
    c.in_ok-settings.ensures.version c.in_ok-settings.ensures.bits c.in_ok-settings.ensures.counts
    c.in_ok-steps.ensures.ok in
    let d = document_view c.args.document.now in
    let version = c.in_ok-settings.settings.version in
    let said = subst (λ (v : ℕ). AllZip (SaysTurn v (length d.nodes)) d.turns c.in_ok-turns.turns.items)
    (sym (version_is d version c.in_ok-settings.ensures.version.0)) c.in_ok-turns.ensures.ok in
    let fault = c.in_err-items.ensures.err
    ((before, c.in_ok-turns.ensures.few), (c.in_ok-turns.turns.items, said)) in
    search rules
