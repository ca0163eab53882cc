-- Two runs of one node that have come to the same point, and a turn of the node in both.
use Rattle.std.proofs.Common.{◌≡◌, ◌<◌, ◌≤◌, ◌+◌, ◌⊎◌, ℕ, zero, suc, List, length, take, refl, sym, ap}
use Rattle.std.proofs.Common.{◌∙◌, subst, arith, inl, inr, take_at}
use Rattle.std.specs.Prelude.{slice_index_or}
use Rattle.std.proofs.lemmas.Bool.{cases_lt}
use Rattle.sja_journal.specs.declared.entry.Entry.{Entry}
use Rattle.sja_steps.specs.declared.step.Step.{Step}
use Rattle.sja_driver.specs.StepRuns.{StepRun, acts_in}
use Rattle.sja_promises.specs.Turns.{IsUnmet}
use Rattle.sja_laws.proofs.OneNode.Coming.{NextStepRun, next_step_run}
use Rattle.sja_laws.proofs.OneNode.Onward.{goes_on, steps_come}
use Rattle.sja_laws.proofs.OneNode.Stuck.{never_unmet}
use Rattle.sja_laws.proofs.OneNode.Together.{IsOfRun, Together, promised_now, promised_past, step_both, step_is}

abbrev pub turned : (version : ℕ) (whole : List Entry) (all : List StepRun) (other : List Entry) (others : List StepRun)
    (bits count : ℕ) → Together version whole all other others bits count →
    Together version other others whole all bits count
turned version whole all other others bits count t = record {
  entries = t.entries;
  steps = t.steps;
  kept = t.kept;
  port = t.port;
  past = t.past;
  one = t.two;
  two = t.one;
  bits_are = t.bits_are;
  count_is = t.count_is;
}

-- a run in which m steps more are done now, and then the driver is stuck where these are fewer than were asked for
pub record Turns (version : ℕ) (steps : List Step) (whole : List Entry) (all : List StepRun) (bits count most m : ℕ) :
    Type 0 where
  pub few : m ≤ most
  pub exist : count + m ≤ length all
  pub now : (i : ℕ) (a : StepRun) → i < m → (slice_index_or all (count + i) a).bits ≡ bits
  pub stuck : m < most → (length steps ≤ count + m)
      ⊎ ((d : Step) → IsUnmet version whole (acts_in (take (count + m) all)) bits
      (slice_index_or steps (count + m) d))

module _ (version : ℕ) (steps : List Step) (whole : List Entry) (all : List StepRun) (other : List Entry)
    (others : List StepRun) (run : IsOfRun version steps whole all) (too : IsOfRun version steps other others) where
  -- the second run does a step: so the first isn't stuck there
  not_stuck : (bits count : ℕ) (t : Together version whole all other others bits count) →
      NextStepRun version other others t.entries t.steps t.kept t.port →
      (length steps ≤ count) ⊎ ((d : Step) → IsUnmet version whole (acts_in (take count all)) bits
      (slice_index_or steps count d)) → ⊥
  not_stuck bits count t next (inl past) =
      let less = (step_is version steps other others too t.entries t.steps t.kept t.port next).less in
      let n = t.count_is in
      omega (arith, less, n, past)
  not_stuck bits count t next (inr unmet) =
      let s = next.step.step in
      let come = steps_come version whole all t.entries t.steps t.kept t.port t.one in
      let done : take count all ≡ t.steps =
      ap (λ l. take count l) come.is ∙ take_at t.steps come.more count t.count_is in
      let there : slice_index_or steps count s ≡ s =
      ap (λ n. slice_index_or steps n s) (sym t.count_is)
      ∙ (step_is version steps other others too t.entries t.steps t.kept t.port next).there s in
      let A : List StepRun → Type 0 = λ l. IsUnmet version whole (acts_in l) bits (slice_index_or steps count s) in
      let B : Step → Type 0 = λ x. IsUnmet version whole (acts_in t.steps) bits x in
      let C : ℕ → Type 0 = λ n. IsUnmet version whole (acts_in t.steps) n s in
      never_unmet version whole other t.entries t.steps t.kept t.port t.past
      (promised_past version steps other others too t.entries t.steps t.kept t.port next)
      (goes_on version whole all t.entries t.steps t.kept t.port t.one) next.entries next.port next.kept_now next.step
      next.is next.leads
      (promised_now version steps other others too t.entries t.steps t.kept t.port next
      (goes_on version other others t.entries t.steps t.kept t.port t.two)) (λ least is. next.bits) s refl
      (subst C (sym t.bits_are) (subst B there (subst A done (unmet s))))

module _ (version : ℕ) (steps : List Step) (whole : List Entry) (all : List StepRun) (other : List Entry)
    (others : List StepRun) (run : IsOfRun version steps whole all) (too : IsOfRun version steps other others)
    (bits count most m n : ℕ) (a : Turns version steps whole all bits count most m)
    (b : Turns version steps other others bits count most n) where
  step_one : (c : ℕ) (t : Together version whole all other others bits (count + c)) → c < m →
      NextStepRun version whole all t.entries t.steps t.kept t.port
  step_one c t less =
      let x = t.count_is in
      let e = a.exist in
      next_step_run version whole all t.entries t.steps t.kept t.port t.one (omega (arith, x, e, less))
      (λ d. ap (λ i. (slice_index_or all i d).bits) x ∙ a.now c d less ∙ sym t.bits_are)

  step_two : (c : ℕ) (t : Together version whole all other others bits (count + c)) → c < n →
      NextStepRun version other others t.entries t.steps t.kept t.port
  step_two c t less =
      let x = t.count_is in
      let e = b.exist in
      next_step_run version other others t.entries t.steps t.kept t.port t.two (omega (arith, x, e, less))
      (λ d. ap (λ i. (slice_index_or others i d).bits) x ∙ b.now c d less ∙ sym t.bits_are)

  -- so many steps of both
  several : (c : ℕ) → c ≤ m → c ≤ n → Together version whole all other others bits count →
      Together version whole all other others bits (count + c)
  several zero few less t =
      let e : count ≡ count + 0 = omega arith in
      subst (λ x. Together version whole all other others bits x) e t
  several (suc c) few less t =
      let h = several c (omega (arith, few)) (omega (arith, less)) t in
      let e : count + c + 1 ≡ count + suc c = omega arith in
      subst (λ x. Together version whole all other others bits x) e
      (step_both version steps whole all other others run too bits (count + c) h
      (step_one c h (omega (arith, few))) (step_two c h (omega (arith, less))))

  -- both do as many
  pub as_many : Together version whole all other others bits count → m ≡ n
  as_many t = elim (cases_lt m n) [
    | inl fewer ↦
        let h = several m (omega arith) (omega (arith, fewer)) t in
        let l = b.few in
        absurd (not_stuck version steps whole all other others run too bits (count + m) h (step_two m h fewer)
        (a.stuck (omega (arith, fewer, l))))
    | inr more ↦ elim (cases_lt n m) [
      | inl fewer ↦
          let h = several n (omega (arith, fewer)) (omega arith) t in
          let l = a.few in
          absurd (not_stuck version steps other others whole all too run bits (count + n)
          (turned version whole all other others bits (count + n) h) (step_one n h fewer)
          (b.stuck (omega (arith, fewer, l))))
      | inr less ↦ omega (arith, more, less)
    ]
  ]

  pub turn_both : Together version whole all other others bits count →
      Together version whole all other others bits (count + m)
  turn_both t =
      let same = as_many t in
      several m (omega arith) (omega (arith, same)) t
