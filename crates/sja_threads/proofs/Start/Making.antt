-- What the threads of a run begin with, made one after another.
use Rattle.std.proofs.Common.{◌≡◌, ℕ, ◌+◌, ◌^◌, ◌<◌, ◌≤◌, Bool, true, false, List, [], ◌∷◌, ◌++◌, length, inl, inr}
use Rattle.std.proofs.Common.{sym, ap, ◌∙◌, subst, arith, nat_lt, if◌then◌else◌}
use Rattle.std.specs.Prelude.{slice_index_or}
use Rattle.std.proofs.lemmas.Bool.{cases_eq, lt-ltb}
use Rattle.std.proofs.lemmas.List.{get_or_append_left, get_or_push}
use Rattle.sja_journal.specs.Sizes.{most_activations}
use Rattle.sja_rings.specs.declared.node_bus.NodeBus.{NodeBus}
use Rattle.sja_plan.specs.Plan.{PlanValue, IsInLimits, steps_at}
use Rattle.sja_plan.proofs.PlanLimits.ByVersion.{steps_most}
use Rattle.sja_steps.specs.declared.step.Step.{Step}
use Rattle.sja_driver.specs.declared.work_log.WorkLog.{WorkLog}
use Rattle.sja_driver.specs.Logs.{HasRoom, IsEmpty, IsMadeFor, KeepsLog, done_room}
use Rattle.sja_threads.specs.declared.thread_start.ThreadStart.{ThreadStart}
use Rattle.sja_threads.specs.declared.port_lists.PortLists.{PortLists}
use Rattle.sja_threads.specs.Inside.Making.{AreNewEnds, IsMade, AreMade, AreListed}

-- what holds of the first so many elements of both lists, and of the next ones, which are the last, holds of one more
both_push : {A B : Type 0} (P : ℕ → A → B → Type 0) (count : ℕ) (xs : List A) (ys : List B) (x : A) (y : B) →
    length xs ≡ count → length ys ≡ count →
    ((n : ℕ) (u : A) (v : B) → n < count → P n (slice_index_or xs n u) (slice_index_or ys n v)) → P count x y →
    (n : ℕ) (u : A) (v : B) → n < count + 1 →
    P n (slice_index_or (xs ++ x ∷ []) n u) (slice_index_or (ys ++ y ∷ []) n v)
both_push {A} {B} P count xs ys x y many long so new n u v less = elim (cases_eq count n) [
  | inl last ↦
      subst (λ (a : A). P n a (slice_index_or (ys ++ y ∷ []) n v)) (sym (get_or_push xs x u n (many ∙ last)))
      (subst (λ (b : B). P n x b) (sym (get_or_push ys y v n (long ∙ last)))
      (subst (λ (k : ℕ). P k x y) last new))
  | inr other ↦
      let before : n < count = omega (arith, less, other) in
      subst (λ (a : A). P n a (slice_index_or (ys ++ y ∷ []) n v))
      (sym (get_or_append_left xs (x ∷ []) u n (omega (arith, before, many))))
      (subst (λ (b : B). P n (slice_index_or xs n u) b)
      (sym (get_or_append_left ys (y ∷ []) v n (omega (arith, before, long)))) (so n u v before))
]

-- the ends of one node's links more
pub made_push : {G : Type 0} (plan : PlanValue) (count : ℕ) (starts : List (ThreadStart G)) (buses : List NodeBus)
    (s : ThreadStart G) (b : NodeBus) → length starts ≡ count → length buses ≡ count →
    AreMade plan count starts buses → IsMade plan count s b →
    AreMade plan (count + 1) (starts ++ s ∷ []) (buses ++ b ∷ [])
made_push plan count starts buses s b many long so new =
    both_push (λ node x y. IsMade plan node x y) count starts buses s b many long so new

-- the lists of one port more
pub listed_push : {G : Type 0} (count : ℕ) (starts : List (ThreadStart G)) (lists : List PortLists)
    (s : ThreadStart G) (l : PortLists) → length starts ≡ count → length lists ≡ count →
    l.acts.name ≡ s.done.name → AreListed count starts lists →
    AreListed (count + 1) (starts ++ s ∷ []) (lists ++ l ∷ [])
listed_push count starts lists s l many long new so =
    both_push (λ node x y. y.acts.name ≡ x.done.name) count starts lists s l many long so new

-- a node of a plan has no more than 64 activations
few_activations : (version : ℕ) → version ≤ 3 → most_activations version ≤ 64
few_activations version few = by (nat_lt version 3) (nat_lt version 4) (lt-ltb version 4 (omega (arith, few)))
  where
    by : (first second : Bool) → second ≡ true →
        (if first then 8 else if second then 64 else 2 ^ 56) ≤ 64
    by true second is = omega arith
    by false true is = omega arith
    by false false is = absurd (let two : false ≡ true = is in cc)

-- a log that was made for the steps of a driver of a plan keeps all
pub short_log : (plan : PlanValue) (node version : ℕ) (log : WorkLog) (steps : List Step) → IsInLimits plan →
    version ≡ plan.version → node < length plan.nodes → steps ≡ steps_at plan node →
    IsMadeFor version (length steps) (length steps) log → KeepsLog log
short_log plan node version log steps limits same few are made =
    let long = ap (λ (l : List Step). length l) are in let own = limits.steps node [] few in
    let all = steps_most plan.version in let done = made.done in let releases = made.releases in
    let left = made.left in let most = limits.version.1 in
    let activations = few_activations version (omega (arith, same, most)) in record {
      done = omega (arith, long, own, all, done);
      releases = omega (arith, long, own, all, releases);
      left = omega (arith, left, activations);
    }

-- what the thread of a node begins with, as it was made
pub made_of : {G : Type 0} (plan : PlanValue) (node version : ℕ) (s : ThreadStart G) (bus : NodeBus)
    (steps : List Step) → s.node ≡ node → version ≡ plan.version → IsEmpty s.log → s.done.list ≡ [] →
    steps ≡ steps_at plan node → HasRoom version (length steps) s.log → length steps ≤ done_room s.log →
    KeepsLog s.log → AreNewEnds node bus s.end → IsMade plan node s bus
made_of plan node version s bus steps own same empty none are room fits keeps ends = record {
  own = own;
  empty = empty;
  room =
      subst (λ (v : ℕ). HasRoom v (length (steps_at plan node)) s.log) same
      (subst (λ (l : List Step). HasRoom version (length l) s.log) are room);
  steps = subst (λ (l : List Step). length l ≤ done_room s.log) are fits;
  keeps = keeps;
  none = none;
  ends = ends;
}
