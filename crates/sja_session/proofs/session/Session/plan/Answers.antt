use Rattle.std.proofs.Common.{◌≡◌, ◌≤◌, ℕ, List, ◌++◌, Vec, Global, length, map, All, sym, ap, ◌∙◌}
use Rattle.std.proofs.Common.{subst, arith, append-nil}
use Rattle.std.specs.Prelude.{[]}
use Rattle.std.proofs.lemmas.List.{get_or_default, get_or-map, length-map}
use Rattle.sja_journal.specs.BoundedHistories.{KeepsAll, HistoryValue}
use Rattle.sja_plan.specs.declared.turn.Turn.{Turn}
use Rattle.sja_plan.specs.Growing.{plan_of}
use Rattle.sja_plan.specs.Limits.{most_bits, most_steps, most_turns, most_strikes}
use Rattle.sja_plan.specs.Plan.{NamesNode, IsStrikeOn, times_in}
use Rattle.sja_plan.proofs.PlanLimits.ByVersion.{steps_most}
use Rattle.sja_steps.specs.declared.step.Step.{Step}
use Rattle.sja_steps.specs.declared.strike.Strike.{Strike}
use Rattle.sja_session.specs.Sessions.{SessionValue, HasEnd, written}
use Rattle.sja_session.proofs.StruckOnce.{none_beside, own_bits}
use Rattle.sja_session.proofs.WrittenPlan.OneMore.{listed}
use Rattle.sja_session.proofs.WrittenPlan.Turned.{all_turns_named}
use Rattle.sja_session.proofs.session.Session.plan.Goals as goal

pub of-requires : goal.of-requires
of-requires c =
    let b = c.self.inside in let inv = c.self.invariant.0 in let limits = c.limits.ensures in
    let end = subst (λ (x : SessionValue). HasEnd x) (sym c.self.view_is)
    (c.is_endless.ensures.no c.if-is_endless.false) in
    let nodes = c.in_ok-nodes.ensures ∙ ap (λ (l : List (HistoryValue Step)). listed l) c.as_slice.ensures.value in
    let count = ap (λ (l : List (List Step)). length l) nodes ∙ inv.at.count in
    let turns = c.in_ok-turns.ensures ∙ c.as_slice-2.ensures.value in let strikes = c.in_ok-strikes.ensures in
    let version : b.plan.version ≡ c.version.result = sym c.version.ensures.value in record {
      version = (c.version.ensures.least, c.version.ensures.most);
      bits = (
        c.bits-bits.ensures.some,
        subst (λ (n : ℕ). c.bits-bits.result ≤ most_bits n) version c.bits-bits.ensures.few,
      );
      nodes = subst (λ n. (1 ≤ n) × (n ≤ 8)) (sym count) limits.nodes;
      steps = subst (λ (n : ℕ). All (λ (x : List Step). length x ≤ most_steps n)
          (map (λ (v : Vec Step Global). v.items) c.in_ok-nodes.nodes.items)) version
          (subst (λ (l : List (List Step)). All (λ (x : List Step). length x ≤ most_steps b.plan.version) l) (sym nodes)
          (λ k d less.
          let w = inv.done k (let n = inv.at.count in omega (arith, less, n)) in
          let few = inv.steps end in let same = ap (λ (l : List Step). length l)
          (get_or_default (listed b.steps.items) k [] d less) in omega (arith, w, few, same)));
      turn_count =
          let few : length b.turns.items ≤ most_turns b.plan.version =
          (let few = inv.few in let most = inv.most end in omega (arith, few, most)) in
          subst (λ (n : ℕ). length c.in_ok-turns.turns.items ≤ most_turns n) version
          (subst (λ (l : List Turn). length l ≤ most_turns b.plan.version) (sym turns) few);
      turns = subst (λ (l : List Turn). All (NamesNode
          (length (map (λ (v : Vec Step Global). v.items) c.in_ok-nodes.nodes.items))) l) (sym turns)
          (subst (λ n. All (NamesNode n) b.turns.items) (sym count)
          (all_turns_named (length b.plan.nodes) b.turns.items inv.names));
      strike_count = subst (λ (n : ℕ). times_in c.in_ok-strikes.strikes.items ≤ most_strikes n) version
          (subst (λ (l : List Strike). times_in l ≤ most_strikes b.plan.version) (sym strikes) c.strikes.ensures.few);
      strikes = subst (λ (l : List Strike). All (IsStrikeOn
          (length (map (λ (v : Vec Step Global). v.items) c.in_ok-nodes.nodes.items))) l) (sym strikes)
          (subst (λ n. All (IsStrikeOn n) c.strikes.result.now) (sym count) c.strikes.ensures.there);
    }

-- each list of steps was made for no more than it keeps
pub copied_steps-requires : goal.copied_steps-requires
copied_steps-requires c =
    let b = c.self.inside in let inv = c.self.invariant.0 in
    let end = subst (λ (x : SessionValue). HasEnd x) (sym c.self.view_is)
    (c.is_endless.ensures.no c.if-is_endless.false) in
    let count = length-map b.steps.items (λ (x : HistoryValue Step). x.items) in let nodes = inv.at.count in
    subst (λ (l : List (HistoryValue Step)). All (λ (x : HistoryValue Step). KeepsAll x.room) l)
    (sym c.as_slice.ensures.value)
    (λ k d less.
    let is = get_or-map (λ (x : HistoryValue Step). x.room) b.steps.items k d 0 less in
    let room = inv.places k (omega (arith, less, count, nodes)) in
    let few = inv.steps end in let all = steps_most b.plan.version in omega (arith, is, room, few, all))

-- in a session with an end the plan's bits and strikes are its own
pub returns-clause-plan : goal.returns-clause-plan
returns-clause-plan c =
    let b = c.self.inside in let goes = c.self.invariant.1 in
    let end = subst (λ (x : SessionValue). HasEnd x) (sym c.self.view_is)
    (c.is_endless.ensures.no c.if-is_endless.false) in
    let bits = c.bits-bits.ensures.value ∙ sym (own_bits b.plan b.bits b.struck end goes) in
    let nodes = c.in_ok-nodes.ensures ∙ ap (λ (l : List (HistoryValue Step)). listed l) c.as_slice.ensures.value in
    let turns = c.in_ok-turns.ensures ∙ c.as_slice-2.ensures.value in
    let strikes = c.in_ok-strikes.ensures ∙ c.strikes.ensures.value ∙ sym (append-nil b.plan.strikes)
    ∙ ap (λ (l : List Strike). b.plan.strikes ++ l) (sym (none_beside b.plan b.bits b.struck end goes)) in
    c.of.ensures
    ∙ (λ i. plan_of (c.version.ensures.value i) (bits i) (nodes i) (turns i) (strikes i))
    ∙ ap written c.self.view_is
