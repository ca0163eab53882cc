use Rattle.std.proofs.Common.{rules, ◌≡◌, ◌≤◌, ℕ, List, ◌++◌, length, replicate, append-nil, refl, sym, ap, ◌∙◌}
use Rattle.std.proofs.Common.{subst, All, arith}
use Rattle.std.specs.Prelude.{◌^◌, [], slice_index_or}
use Rattle.std.proofs.lemmas.List.{length-replicate, get_or-replicate}
use Rattle.sja_plan.specs.Plan.{PlanValue}
use Rattle.sja_steps.specs.declared.strike.Strike.{Strike}
use Rattle.sja_journal.specs.Sizes.{most_activations}
use Rattle.sja_bus_rules.specs.Buses.{new_bus}
use Rattle.sja_session.specs.Sessions.{plan_with, run_version}
use Rattle.sja_session.proofs.Lifetime.Blank.{session_first, at_first, wrote_first, stands_made, bus_made}
use Rattle.sja_session.proofs.Lifetime.GoingBy.{bare_with, few_each, goes_first, one_bit, rules_first}
use Rattle.sja_session.proofs.Lifetime.Versions.{acts_as_plan}
use Rattle.sja_session.proofs.WrittenPlan.OneMore.{listed, rooms_of}
use Rattle.sja_session.proofs.session.Session.over.Goals.{In_ok-struck}
use Rattle.sja_session.proofs.session.Session.over.Goals as goal

-- the plan as the session goes by it
abbrev gone : In_ok-struck → PlanValue
gone c = plan_with c.args.plan c.args.bits c.in_ok-struck.struck.items

-- the script, and how many steps there is room for
script_is : (c : In_ok-struck) → c.of-script.result ≡ c.args.plan.strikes
script_is c = c.of-script.ensures ∙ c.in_ok-copied_strikes.ensures ∙ c.strikes.ensures.value

script_with : (c : In_ok-struck) → c.of-script.result ≡ (gone c).strikes
script_with c = script_is c ∙ sym (append-nil c.args.plan.strikes)
    ∙ ap (λ (l : List Strike). c.args.plan.strikes ++ l) (sym c.in_ok-struck.ensures.empty)

sizes_are : (c : In_ok-struck) → c.in_ok-rooms.rooms.items ≡ replicate (length c.args.plan.nodes) c.args.room.steps
sizes_are c = search rules

lists_are : (c : In_ok-struck) → listed c.in_ok-steps.steps.items ≡ replicate (length c.args.plan.nodes) []
lists_are c = c.in_ok-steps.ensures.lists ∙ ap (λ (n : ℕ). replicate n []) c.nodes-nodes.ensures.value

pub run_for-requires : goal.run_for-requires
run_for-requires c =
    let sizes : c.in_ok-rooms.rooms.items ≡ replicate (length c.args.plan.nodes) c.args.room.steps = search rules in
    let n = ap (λ (l : List ℕ). length l) sizes ∙ length-replicate (length c.args.plan.nodes) c.args.room.steps in
    let few = c.limits.ensures.nodes in let least = few.0 in let most = few.1 in
    let may = c.requires.may in record {
      may = record {
        nodes = (omega (arith, n, least), omega (arith, n, most));
        bits = (one_bit c.args.plan c.args.bits c.args.room may c.limits.ensures.bits.0, may.few);
        steps = subst (λ (l : List ℕ). All (λ (s : ℕ). s ≤ 2 ^ 56) l) (sym sizes)
            (few_each (length c.args.plan.nodes) c.args.room.steps may.counted);
      };
      rules = rules_first c.args.plan c.args.bits c.args.room may c.limits.ensures.bits.1;
    }

pub invariant_of-result : goal.invariant_of-result
invariant_of-result c =
    let at = (goal.at.invariant_of-result c).In_ok-struck in let big = c.in_ok-turns.ensures.exact in
    let plan = c.args.plan in let may = c.requires.may in (
      session_first c.args.room (bare_with plan c.args.bits c.in_ok-struck.struck.items c.requires.bare) (lists_are at)
          c.in_ok-turns.ensures.items
          (stands_made c.args.room (gone at) refl refl (script_with at) (sizes_are at)
          c.in_ok-run.ensures.stands)
          (bus_made c.args.room (gone at) refl refl (script_with at) (sizes_are at)
          c.in_ok-run.run' c.in_ok-run.ensures.bus)
          (rooms_of c.in_ok-steps.steps.items) _ may.counted
          (rules_first plan c.args.bits c.args.room may c.limits.ensures.bits.1) may.limits
          (λ node less. ap (λ (l : List ℕ). slice_index_or l node 0) c.in_ok-steps.ensures.room
          ∙ ap (λ (n : ℕ). slice_index_or (replicate n c.args.room.steps) node 0) c.nodes-nodes.ensures.value
          ∙ get_or-replicate (length plan.nodes) node c.args.room.steps 0 less) (omega (arith, big)),
      goes_first plan c.args.bits c.args.room c.in_ok-struck.struck may c.limits.ensures.bits.1
          c.in_ok-struck.ensures.empty (c.in_ok-struck.ensures.whole ∙ c.strikes_for.ensures),
    )

pub returns-clause-at : goal.returns-clause-at
returns-clause-at c =
    let at = (goal.at.returns-clause-at c).In_ok-struck in
    at_first c.args.room (bare_with c.args.plan c.args.bits c.in_ok-struck.struck.items c.requires.bare) (lists_are at)
    c.in_ok-turns.ensures.items
    (stands_made c.args.room (gone at) refl refl (script_with at) (sizes_are at)
    c.in_ok-run.ensures.stands)
    (bus_made c.args.room (gone at) refl refl (script_with at) (sizes_are at)
    c.in_ok-run.run' c.in_ok-run.ensures.bus)

pub returns-clause-bus : goal.returns-clause-bus
returns-clause-bus c =
    let at = (goal.at.returns-clause-bus c).In_ok-struck in let plan = c.args.plan in let bits = c.args.bits in
    let rules = rules_first plan bits c.args.room c.requires.may c.limits.ensures.bits.1 in
    bus_made c.args.room (record plan { bits = bits }) refl refl (script_is at) (sizes_are at)
    c.in_ok-run.run' c.in_ok-run.ensures.bus
    ∙ ap (λ (n : ℕ). new_bus plan.strikes bits (length plan.nodes)
    (most_activations (run_version (record plan { bits = bits }))) (replicate (length plan.nodes) n))
    (acts_as_plan (record plan { bits = bits }) rules c.args.room.steps)

pub returns-clause-plan : goal.returns-clause-plan
returns-clause-plan c =
    let at = (goal.at.returns-clause-plan c).In_ok-struck in
    wrote_first c.args.room (bare_with c.args.plan c.args.bits c.in_ok-struck.struck.items c.requires.bare)
    (lists_are at) c.in_ok-turns.ensures.items
    (stands_made c.args.room (gone at) refl refl (script_with at) (sizes_are at)
    c.in_ok-run.ensures.stands)
    (bus_made c.args.room (gone at) refl refl (script_with at) (sizes_are at)
    c.in_ok-run.run' c.in_ok-run.ensures.bus)
    ∙ ap (λ (l : List Strike). let p : PlanValue = record c.args.plan { bits = c.args.bits; strikes = l } in p)
    (ap (λ (l : List Strike). c.args.plan.strikes ++ l) c.in_ok-struck.ensures.empty
    ∙ append-nil c.args.plan.strikes)
