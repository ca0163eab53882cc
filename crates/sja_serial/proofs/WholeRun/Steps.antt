-- The steps of a turn of a node, one after another.
use Rattle.std.proofs.Common.{◌≡◌, ◌≢◌, ℕ, ◌+◌, ◌-◌, ◌<◌, ◌≤◌, List, [], ◌∷◌, ◌++◌, length, map, take, refl, sym, ap}
use Rattle.std.proofs.Common.{◌∙◌}
use Rattle.std.proofs.Common.{subst, suc, append-nil, append_assoc, arith, inl, inr, take-suc}
use Rattle.std.specs.Prelude.{slice_index_or, slice_set}
use Rattle.std.proofs.lemmas.Bool.{cases_eq, cases_lt}
use Rattle.std.proofs.lemmas.List.{length-append, length-map, map-append, get_or-map, get_or-set_same, get_or-set_other}
use Rattle.std.proofs.lemmas.List.{set-get_or}
use Rattle.std.proofs.lemmas.List.{get_or_append_left, get_or-append_right, set-set}
use Rattle.sja_journal.specs.BitEntries.{HasMore}
use Rattle.sja_journal.specs.declared.entry.Entry.{Entry}
use Rattle.sja_driver.specs.StepRuns.{StepRun, step_runs_at, by_bytes, most_acts}
use Rattle.sja_plan.specs.Plan.{PlanValue, step_counts, steps_at}
use Rattle.sja_steps.specs.declared.step.Step.{Step}
use Rattle.sja_bus_rules.specs.Wire.{journal_at}
use Rattle.sja_serial.specs.Ending.{AreFirst, setup_of}
use Rattle.sja_serial.specs.Inside.SerialProgress.{CannotStep, StandsIn, TakesTurn}
use Rattle.sja_serial.specs.Serial.{SerialValue, StandsBy, most_steps}
use Rattle.sja_serial.proofs.AllNodes.Newly.{as_asked}
use Rattle.sja_serial.specs.Stepping.{with_step_runs}
use Rattle.sja_serial.proofs.AllNodes.Several.{more_both}

-- the steps that the plan has for a node are as many as are counted
pub room_is : (plan : PlanValue) (node : ℕ) → node < length plan.nodes →
    slice_index_or (step_counts plan) node 0 ≡ length (steps_at plan node)
room_is plan node less = get_or-map (λ (l : List Step). length l) plan.nodes node [] 0 less

-- and its run has room for them
pub room_left : (plan : PlanValue) (node : ℕ) → node < length plan.nodes →
    most_steps plan.version (slice_index_or (setup_of plan).steps node 0) ≡ length (steps_at plan node)
room_left plan node less =
    let many = length-map plan.nodes (λ (l : List Step). length l) in
    ap (most_steps plan.version) (get_or-map (most_acts plan.version) (step_counts plan) node 0 0
    (omega (arith, many, less))
    ∙ ap (most_acts plan.version) (room_is plan node less))
    ∙ as_asked (by_bytes plan.version) (length (steps_at plan node))

-- ---- steps more of one node

pub step_runs_twice : (step_runs : List (List StepRun)) (node : ℕ) (xs ys : List StepRun) → node < length step_runs →
    with_step_runs (with_step_runs step_runs node xs) node ys ≡ with_step_runs step_runs node (xs ++ ys)
step_runs_twice step_runs node xs ys there =
    ap (λ l. slice_set (with_step_runs step_runs node xs) node (l ++ ys))
    (get_or-set_same step_runs node (step_runs_at step_runs node ++ xs) [] there)
    ∙ set-set step_runs node (step_runs_at step_runs node ++ xs) ((step_runs_at step_runs node ++ xs) ++ ys)
    ∙ ap (slice_set step_runs node) (append_assoc (step_runs_at step_runs node) xs ys)

pub no_step_runs : (step_runs : List (List StepRun)) (node : ℕ) → with_step_runs step_runs node [] ≡ step_runs
no_step_runs step_runs node = ap (slice_set step_runs node) (append-nil (step_runs_at step_runs node))
    ∙ set-get_or step_runs node []

-- the next step, done after the first ones, makes one more of them
first_more : (steps : List Step) (done : List StepRun) (a : StepRun) (e : Step) → length done < length steps →
    a.step ≡ slice_index_or steps (length done) e → map (λ (x : StepRun). x.step) done ≡ take (length done) steps →
    map (λ (x : StepRun). x.step) (done ++ a ∷ []) ≡ take (length (done ++ a ∷ [])) steps
first_more steps done a e less is first =
    let long : length (done ++ a ∷ []) ≡ suc (length done) = length-append done (a ∷ []) ∙ omega arith in
    map-append (λ (x : StepRun). x.step) done (a ∷ []) ∙ ap (λ l. l ++ a.step ∷ []) first
    ∙ ap (λ s. take (length done) steps ++ s ∷ []) is ∙ sym (take-suc steps (length done) e less)
    ∙ ap (λ n. take n steps) (sym long)

-- the first steps of the plan are done, and the next one of a node
pub first_then : (plan : PlanValue) (node : ℕ) (step_runs : List (List StepRun)) (a : StepRun) (e : Step) →
    node < length step_runs → AreFirst plan step_runs →
    length (step_runs_at step_runs node) < length (steps_at plan node) →
    a.step ≡ slice_index_or (steps_at plan node) (length (step_runs_at step_runs node)) e →
    AreFirst plan (with_step_runs step_runs node (a ∷ []))
first_then plan node step_runs a e there first few is m less = elim (cases_eq node m) [
  | inl same ↦
      let P : ℕ → Type 0 = λ k. map (λ (x : StepRun). x.step) (step_runs_at (with_step_runs step_runs node (a ∷ [])) k)
      ≡ take (length (step_runs_at (with_step_runs step_runs node (a ∷ [])) k)) (steps_at plan k) in
      let here = get_or-set_same step_runs node (step_runs_at step_runs node ++ a ∷ []) [] there in
      subst P same (subst (λ (l : List StepRun). map (λ (x : StepRun). x.step) l ≡ take (length l) (steps_at plan node))
      (sym here) (first_more (steps_at plan node) (step_runs_at step_runs node) a e few is
      (first node (let s = same in omega (arith, s, less)))))
  | inr differ ↦
      subst (λ (l : List StepRun). map (λ (x : StepRun). x.step) l ≡ take (length l) (steps_at plan m))
      (sym (get_or-set_other step_runs node m (step_runs_at step_runs node ++ a ∷ []) [] (λ e. differ (sym e))))
      (first m less)
]

-- so many steps were done, and each other journal is as it was
pub record SoFar (plan : PlanValue) (r n : SerialValue) (node : ℕ) (step_runs : List (List StepRun)) (count : ℕ) :
    Type 0 where
  pub more : List StepRun
  pub stands : StandsIn plan n (with_step_runs step_runs node more)
  pub at_once : (i : ℕ) (a : StepRun) → i < length more → (slice_index_or more i a).bits ≡ r.bits
  pub bits : n.bits ≡ r.bits
  pub items : (m : ℕ) → m < length plan.nodes → HasMore (journal_at r.bus.journals m) (journal_at n.bus.journals m)
  pub others : (m : ℕ) → m < length plan.nodes → m ≢ node →
      journal_at n.bus.journals m ≡ journal_at r.bus.journals m
  pub many : length more ≡ count

pub so_far_none : (plan : PlanValue) (r : SerialValue) (node : ℕ) (step_runs : List (List StepRun)) →
    StandsIn plan r step_runs → SoFar plan r r node step_runs 0
so_far_none plan r node step_runs h = record {
  more = [];
  stands = subst (λ (l : List (List StepRun)). StandsIn plan r l) (sym (no_step_runs step_runs node)) h;
  at_once = λ i a less. absurd (omega (arith, less));
  bits = refl;
  items = λ m less. record { items = []; whole = sym (append-nil (journal_at r.bus.journals m)) };
  others = λ m less other. refl;
  many = refl;
}

module _ (plan : PlanValue) (r m : SerialValue) (node : ℕ) (step_runs : List (List StepRun))
    (there : node < length step_runs) {count : ℕ} (s : SoFar plan r m node step_runs count) where
  last_at : (a : StepRun) → a.bits ≡ m.bits → (i : ℕ) (d : StepRun) → i < length (s.more ++ a ∷ []) →
      (slice_index_or (s.more ++ a ∷ []) i d).bits ≡ r.bits
  last_at a at i d less = elim (cases_lt i (length s.more)) [
    | inl front ↦ ap (λ (x : StepRun). x.bits) (get_or_append_left s.more (a ∷ []) d i front) ∙ s.at_once i d front
    | inr back ↦
        let long = length-append s.more (a ∷ []) in
        let last : i - length s.more ≡ 0 = omega (arith, back, less, long) in
        ap (λ (x : StepRun). x.bits) (get_or-append_right s.more (a ∷ []) (length s.more) i d refl back
        ∙ ap (λ k. slice_index_or (a ∷ []) k d) last) ∙ at ∙ s.bits
  ]

  -- one more
  pub so_far_one : (n : SerialValue) (a : StepRun) →
      StandsBy (setup_of plan) n (with_step_runs (with_step_runs step_runs node s.more) node (a ∷ [])) →
      AreFirst plan (with_step_runs (with_step_runs step_runs node s.more) node (a ∷ [])) → a.bits ≡ m.bits →
      n.bits ≡ m.bits →
      ((k : ℕ) → k < length plan.nodes → HasMore (journal_at m.bus.journals k) (journal_at n.bus.journals k)) →
      ((k : ℕ) → k < length plan.nodes → k ≢ node →
      journal_at n.bus.journals k ≡ journal_at m.bus.journals k) → SoFar plan r n node step_runs (count + 1)
  so_far_one n a by first at bits items same =
      let l = length-append s.more (a ∷ []) in let k = s.many in
      record {
        more = s.more ++ a ∷ [];
        stands = subst (λ (x : List (List StepRun)). StandsIn plan n x)
            (step_runs_twice step_runs node s.more (a ∷ []) there) (record { by = by; first = first });
        at_once = last_at a at;
        bits = bits ∙ s.bits;
        items = λ k less. more_both (journal_at r.bus.journals k) (journal_at m.bus.journals k)
            (journal_at n.bus.journals k) (s.items k less) (items k less);
        others = λ k less other. same k less other ∙ s.others k less other;
        many = omega (arith, l, k);
      }

  -- a turn that ends since no further step is done
  pub turn_waits : (n : SerialValue) (most : ℕ) → count ≤ most →
      StandsBy (setup_of plan) n (with_step_runs step_runs node s.more) → n.bits ≡ m.bits →
      CannotStep plan n (with_step_runs step_runs node s.more) node →
      ((k : ℕ) → k < length plan.nodes → journal_at n.bus.journals k ≡ journal_at m.bus.journals k) →
      TakesTurn plan r n node most step_runs
  turn_waits n most few by bits stuck same = let k = s.many in
      record {
        more = s.more;
        stands = record { by = by; first = s.stands.first };
        at_once = s.at_once;
        bits = bits ∙ s.bits;
        items = λ k less. subst (λ (j : List Entry). HasMore (journal_at r.bus.journals k) j) (sym (same k less))
            (s.items k less);
        others = λ k less other. same k less ∙ s.others k less other;
        most = omega (arith, k, few);
        stuck = λ less. stuck;
      }

  -- or since none is left, or all were done
  pub turn_over : (most : ℕ) → count ≤ most →
      (count < most → CannotStep plan m (with_step_runs step_runs node s.more) node) →
      TakesTurn plan r m node most step_runs
  turn_over most few stuck = let k = s.many in
      record {
        more = s.more;
        stands = s.stands;
        at_once = s.at_once;
        bits = s.bits;
        items = s.items;
        others = s.others;
        most = omega (arith, k, few);
        stuck = λ less. stuck (omega (arith, k, less));
      }
