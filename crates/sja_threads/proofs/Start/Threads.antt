-- What the drivers' threads begin with, and what they hand back.
use Rattle.std.proofs.Common.{◌≡◌, ℕ, suc, ◌<◌, ◌≤◌, List, [], ◌∷◌, length, map, sym, ap, ◌∙◌, subst, arith}
use Rattle.std.specs.Prelude.{All, Some, slice_index_or}
use Rattle.lemmas.proofs.Lists.{some_of}
use Rattle.lemmas.specs.Related.{EachRelated}
use Rattle.sja_rings.specs.declared.node_bus.NodeBus.{NodeBus}
use Rattle.sja_rings.specs.declared.node_driver.NodeDriver.{NodeDriver}
use Rattle.sja_rings.specs.NodeRings.{NodeDriverLists, SameNodeDriver}
use Rattle.sja_regs.specs.DriverSettings.{SettingsValue, settings_in}
use Rattle.sja_regs.specs.Registers.{at_power_on}
use Rattle.sja_steps.specs.declared.step.Step.{Step}
use Rattle.sja_plan.specs.Plan.{PlanValue, steps_at}
use Rattle.sja_driver.specs.LoggedDrivers.{log_of}
use Rattle.sja_driver.specs.Logs.{HasRoom, KeepsLog, done_in, done_room}
use Rattle.sja_threads.specs.declared.thread_start.ThreadStart.{ThreadStart}
use Rattle.sja_threads.specs.declared.thread_promise.ThreadPromise.{ThreadPromise}
use Rattle.sja_threads.specs.declared.handover.Handover.{Handover}
use Rattle.sja_threads.specs.declared.port_lists.PortLists.{PortLists}
use Rattle.sja_threads.specs.Inside.Making.{IsMade, AreMade, AreListed}
use Rattle.sja_threads.specs.Inside.Names.{IsNamed}
use Rattle.sja_threads.proofs.Twin.Named.{get_placed}
use Rattle.sja_threads.specs.Inside.Promised.{IsFor, IsPromised}
use Rattle.sja_threads.specs.Working.{HasWorked}
use Rattle.sja_threads.specs.Inside.Started.{IsThreadStart, AreOrdered, HandsBack, Serves}

module _ {G : Type 0} (plan : PlanValue) where
  -- what was made for a node is what its thread may begin with
  start_of : (node : ℕ) (s : ThreadStart G) (bus : NodeBus) → node < length plan.nodes →
      IsMade plan node s bus → IsThreadStart plan s
  start_of node s bus few m = record {
    few = subst (λ (n : ℕ). n < length plan.nodes) (sym m.own) few;
    empty = m.empty;
    room = subst (λ (n : ℕ). HasRoom plan.version (length (steps_at plan n)) s.log) (sym m.own) m.room;
    steps = subst (λ (n : ℕ). length (steps_at plan n) ≤ done_room s.log) (sym m.own) m.steps;
    keeps = m.keeps;
    own = m.ends.own ∙ sym m.own;
    none = m.none;
  }

  -- the same of all
  pub all_starts : (starts : List (ThreadStart G)) (buses : List NodeBus) → length starts ≡ length plan.nodes →
      length buses ≡ length plan.nodes → AreMade plan (length plan.nodes) starts buses → All (IsThreadStart plan) starts
  all_starts starts buses many long made node s less =
      let few : node < length plan.nodes = omega (arith, less, many) in
      let b = some_of buses node (omega (arith, few, long)) in
      start_of node (slice_index_or starts node s) (slice_index_or buses node b) few (made node s b few)

  -- the same of all but the first
  pub starts_rest : (all rest : List (ThreadStart G)) (s : ThreadStart G) → all ≡ s ∷ rest →
      All (IsThreadStart plan) all → All (IsThreadStart plan) rest
  starts_rest all rest s is starts =
      let those : All (IsThreadStart plan) (s ∷ rest) =
      subst (λ (l : List (ThreadStart G)). All (IsThreadStart plan) l) is starts in
      λ k d less. those (suc k) d (omega (arith, less))

-- each thread's list of acts is that of its port
pub all_ordered : {G : Type 0} (plan : PlanValue) (starts : List (ThreadStart G)) (lists : List PortLists)
    (buses : List NodeBus) (names : List ℕ) (version : ℕ) → version ≡ plan.version →
    map (λ (l : PortLists). l.acts.name) lists ≡ names → length lists ≡ length plan.nodes →
    length starts ≡ length plan.nodes → length buses ≡ length plan.nodes →
    AreMade plan (length plan.nodes) starts buses → AreListed (length plan.nodes) starts lists →
    AreOrdered version names plan.version starts
all_ordered {G} plan starts lists buses names version same are many long count made listed = λ k s less.
    let few : k < length plan.nodes = omega (arith, less, long) in
    let within : k < length lists = omega (arith, few, many) in
    let l : PortLists = some_of lists k within in
    let b : NodeBus = some_of buses k (omega (arith, few, count)) in
    let start : ThreadStart G = slice_index_or starts k s in (
      sym same,
      subst (λ (n : List ℕ). IsNamed n start.node start.done.name) are
          (subst (λ (n : ℕ). IsNamed (map (λ (x : PortLists). x.acts.name) lists) n start.done.name)
          (sym (made k s b few).own)
          (get_placed (λ (x : PortLists). x.acts.name) lists k l within ∙ ap Some (listed k s l few))),
    )

-- the lists of all but the first
pub order_rest : {G : Type 0} (order_version : ℕ) (names : List ℕ) (version : ℕ) (all rest : List (ThreadStart G))
    (s : ThreadStart G) → all ≡ s ∷ rest → AreOrdered order_version names version all →
    AreOrdered order_version names version rest
order_rest {G} order_version names version all rest s is starts =
    let those : AreOrdered order_version names version (s ∷ rest) =
    subst (λ (l : List (ThreadStart G)). AreOrdered order_version names version l) is starts in
    λ k d less. those (suc k) d (omega (arith, less))

-- what a thread hands back that began with what is set after power-on
pub served_by : {G : Type 0} (plan : PlanValue) (s : ThreadStart G) (set : SettingsValue) (steps : List Step)
    (Lets : G → ℕ → ℕ → ℕ → Type 0) (w : Handover NodeDriver) → set ≡ settings_in (at_power_on plan.version) →
    steps ≡ steps_at plan s.node → SameNodeDriver s.end w.end → w.done.name ≡ s.done.name →
    HasWorked NodeDriverLists set s.node steps s.end w w.done.list →
    Lets s.gate s.node (length steps) (length (done_in (log_of w.driver))) → KeepsLog (log_of w.driver) →
    Serves Lets plan s w
served_by plan s set steps Lets w first are same named worked all keeps = record {
  same = same;
  worked =
      subst (λ (x : SettingsValue). HasWorked NodeDriverLists x s.node (steps_at plan s.node) s.end w
      w.done.list) first
      (subst (λ (l : List Step). HasWorked NodeDriverLists set s.node l s.end w w.done.list) are worked);
  named = named;
  keeps = keeps;
  all = subst (λ (l : List Step). Lets s.gate s.node (length l) (length (done_in (log_of w.driver)))) are all;
}

module _ {G : Type 0} (Lets : G → ℕ → ℕ → ℕ → Type 0) (plan : PlanValue) where
  -- a promise that was kept is what the thread that began so hands back
  kept_is : (s : ThreadStart G) (p : ThreadPromise G) (w : Handover NodeDriver) → IsFor plan s p →
      IsPromised Lets p w → Serves Lets plan s w
  kept_is s p w f k =
      subst (λ (n : ℕ). HandsBack (Lets s.gate) plan s.node s.end n w) f.same_name
      (subst (λ (d : NodeDriver). HandsBack (Lets s.gate) plan s.node d p.done.value.name w) f.same_end
      (subst (λ (x : G). HandsBack (Lets x) plan s.node p.end.value p.done.value.name w) f.same_gate
      (subst (λ (n : ℕ). HandsBack (Lets p.gate.value) plan n p.end.value p.done.value.name w) f.same_node
      (subst (λ (v : PlanValue). HandsBack (Lets p.gate.value) v p.node p.end.value p.done.value.name w)
      f.same_plan k))))

  pub all_kept : (starts : List (ThreadStart G)) (ps : List (ThreadPromise G)) (ws : List (Handover NodeDriver)) →
      EachRelated (IsFor plan) starts ps → EachRelated (IsPromised Lets) ps ws →
      EachRelated (Serves Lets plan) starts ws
  all_kept [] [] [] f k = tt
  all_kept [] [] (w ∷ ws) f k = absurd k
  all_kept [] (p ∷ ps) ws f k = absurd f
  all_kept (s ∷ starts) [] ws f k = absurd f
  all_kept (s ∷ starts) (p ∷ ps) [] f k = absurd k
  all_kept (s ∷ starts) (p ∷ ps) (w ∷ ws) f k = (kept_is s p w f.0 k.0, all_kept starts ps ws f.1 k.1)
