-- A list of lists, and one with one more element.
use Rattle.std.proofs.Common.{◌≡◌, ◌≢◌, ℕ, zero, suc, ◌<◌, List, [], ◌∷◌, ◌++◌, length, map, refl, sym, ap}
use Rattle.std.proofs.Common.{◌∙◌, arith}
use Rattle.std.proofs.lemmas.List.{length-map, length-set, get_or-set_same, get_or-set_other, map-append}
use Rattle.std.specs.Prelude.{slice_index_or, slice_set}
use Rattle.sja_journal.specs.BoundedHistories.{HistoryValue}
use Rattle.sja_driver.specs.StepRuns.{StepRun, step_runs_at}
use Rattle.sja_steps.specs.declared.step.Step.{Step}
use Rattle.sja_serial.specs.Stepping.{with_step_runs}
use Rattle.sja_session.specs.Sessions.{steps_in}
use Rattle.sja_session.specs.Writing.{with_more}

-- what is in lists that may forget, and for how much they were made
abbrev pub listed : {A : Type 0} → List (HistoryValue A) → List (List A)
listed {A} lists = map (λ (list : HistoryValue A). list.items) lists

abbrev pub rooms_of : {A : Type 0} → List (HistoryValue A) → List ℕ
rooms_of {A} lists = map (λ (list : HistoryValue A). list.room) lists

pub more_set : {A B : Type 0} (f : A → List B) (xs : List A) (node : ℕ) (old new : A) (b : B) →
    old ≡ slice_index_or xs node old → node < length xs → f new ≡ f old ++ b ∷ [] →
    map f (slice_set xs node new) ≡ with_more (map f xs) node b
more_set f [] node old new b is less e = absurd (omega (arith, less))
more_set f (x ∷ xs) zero old new b is less e = ap (λ l. l ∷ map f xs) (e ∙ ap (λ y. f y ++ b ∷ []) is)
more_set f (x ∷ xs) (suc node) old new b is less e =
    ap (λ l. f x ∷ l) (more_set f xs node old new b is (omega (arith, less)) e)

pub same_set : {A B : Type 0} (g : A → B) (xs : List A) (node : ℕ) (old new : A) →
    old ≡ slice_index_or xs node old → node < length xs → g new ≡ g old →
    map g (slice_set xs node new) ≡ map g xs
same_set g [] node old new is less e = absurd (omega (arith, less))
same_set g (x ∷ xs) zero old new is less e = ap (λ y. y ∷ map g xs) (e ∙ ap g is)
same_set g (x ∷ xs) (suc node) old new is less e =
    ap (λ l. g x ∷ l) (same_set g xs node old new is (omega (arith, less)) e)

-- ---- what is in it

pub more_same : {A : Type 0} (lists : List (List A)) (node : ℕ) (x : A) → node < length lists →
    slice_index_or (with_more lists node x) node [] ≡ slice_index_or lists node [] ++ x ∷ []
more_same lists node x less = get_or-set_same lists node (slice_index_or lists node [] ++ x ∷ []) [] less

pub more_other : {A : Type 0} (lists : List (List A)) (node m : ℕ) (x : A) → m ≢ node →
    slice_index_or (with_more lists node x) m [] ≡ slice_index_or lists m []
more_other lists node m x differ = get_or-set_other lists node m (slice_index_or lists node [] ++ x ∷ []) [] differ

pub more_long : {A : Type 0} (lists : List (List A)) (node : ℕ) (x : A) → length (with_more lists node x) ≡ length lists
more_long lists node x = length-set lists node (slice_index_or lists node [] ++ x ∷ [])

-- ---- the steps that are written

-- those of a node with one step more
pub steps_more : (step_runs : List (List StepRun)) (node : ℕ) (a : StepRun) → node < length step_runs →
    steps_in (with_step_runs step_runs node (a ∷ [])) ≡ with_more (steps_in step_runs) node a.step
steps_more [] node a less = absurd (omega (arith, less))
steps_more (x ∷ step_runs) zero a less =
    ap (λ l. l ∷ steps_in step_runs) (map-append (λ (e : StepRun). e.step) x (a ∷ []))
steps_more (x ∷ step_runs) (suc node) a less =
    ap (λ l. map (λ (e : StepRun). e.step) x ∷ l) (steps_more step_runs node a (omega (arith, less)))

-- as many are written as were done
pub steps_many : (steps : List (List Step)) (step_runs : List (List StepRun)) (node : ℕ) → steps_in step_runs ≡ steps →
    length (slice_index_or steps node []) ≡ length (step_runs_at step_runs node)
steps_many steps step_runs node is = ap (λ (l : List (List Step)). length (slice_index_or l node [])) (sym is)
    ∙ by step_runs node
  where
    by : (l : List (List StepRun)) (k : ℕ) → length (slice_index_or (steps_in l) k []) ≡ length (step_runs_at l k)
    by [] k = refl
    by (x ∷ l) zero = length-map x (λ (a : StepRun). a.step)
    by (x ∷ l) (suc k) = by l k
