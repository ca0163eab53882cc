-- Where a session stands after a step or bits: its turns led there.
use Rattle.std.proofs.Common.{◌≡◌, ℕ, zero, suc, ◌+◌, ◌<◌, ◌≤◌, List, [], ◌∷◌, ◌++◌, length, map, replicate, refl, sym}
use Rattle.std.proofs.Common.{ap, ◌∙◌, subst, append-nil, append_assoc, arith, inl, inr}
use Rattle.std.specs.Prelude.{reverse, set, slice_index, slice_index_or}
use Rattle.std.proofs.lemmas.Bool.{cases_eq}
use Rattle.std.proofs.lemmas.List.{length-append, get_or_append_left, get_or-set_same}
use Rattle.std.proofs.lemmas.List.{get_or-set_other, reverse-append, reverse-reverse}
use Rattle.sja_journal.specs.declared.entry.Entry.{Entry}
use Rattle.sja_plan.specs.declared.turn.Turn.{Turn}
use Rattle.sja_plan.specs.declared.turn.Turn.TheVariants.{Bus, Node}
use Rattle.sja_plan.specs.Plan.{PlanValue}
use Rattle.sja_driver.specs.StepRuns.{StepRun, step_runs_at}
use Rattle.sja_log.specs.declared.end.End.{End}
use Rattle.sja_log.specs.declared.end.End.TheVariants.{Turns as TurnsDone}
use Rattle.sja_promises.specs.Turns.{Progress, DoesSteps, RunsTo, with_bits, with_steps, steps_done}
use Rattle.sja_promises.specs.Turns.RunsTo.{all_done, bus as runs_bus, node as runs_node}
use Rattle.sja_serial.specs.Ending.{progress}
use Rattle.sja_serial.specs.Serial.{SerialValue}
use Rattle.sja_serial.proofs.WholeRun.Coming.{no_lengths}
use Rattle.sja_serial.proofs.WholeRun.GoingOn.{run_acts_of, length_at, lengths_set}
use Rattle.sja_serial.specs.Stepping.{with_step_runs}
use Rattle.sja_session.specs.Sessions.{Took, start_of}
use Rattle.sja_session.specs.Sessions.Took.{none, bus, node}

-- ---- steps more

-- of each node the steps begin with these
abbrev pub Begins : List (List StepRun) → List (List StepRun) → Type 0
Begins step_runs all = (k : ℕ) → (rest : List StepRun) × (step_runs_at all k ≡ step_runs_at step_runs k ++ rest)

begins_more : (step_runs : List (List StepRun)) (k : ℕ) (more : List StepRun) → k < length step_runs →
    Begins step_runs (with_step_runs step_runs k more)
begins_more step_runs k more there m = elim (cases_eq k m) [
  | inl e ↦ (
    more,
    subst (λ (x : ℕ). step_runs_at (with_step_runs step_runs k more) x ≡ step_runs_at step_runs x ++ more) e
        (get_or-set_same step_runs k (step_runs_at step_runs k ++ more) [] there),
  )
  | inr differ ↦ (
    [],
    get_or-set_other step_runs k m (step_runs_at step_runs k ++ more) [] (λ e. differ (sym e))
        ∙ sym (append-nil (step_runs_at step_runs m)),
  )
]

took_more : (step_runs all : List (List StepRun)) (first : Progress) (turns : List Turn) (p : Progress) →
    Begins step_runs all → Took step_runs first turns p → Took all first turns p
took_more step_runs all first turns p go none = none
took_more step_runs all first turns p go (bus earlier at n h) =
    bus earlier at n (took_more step_runs all first earlier at go h)
took_more step_runs all first turns p go (node earlier at k n h exist now) =
    let g = go k in let many = ap (λ l. length l) g.1 in let both = length-append (step_runs_at step_runs k) g.0 in
    node earlier at k n (took_more step_runs all first earlier at go h) (omega (arith, exist, many, both))
    (λ i d less. ap (λ (x : StepRun). x.bits) (ap (λ l. slice_index_or l (steps_done at k + i) d) g.1
    ∙ get_or_append_left (step_runs_at step_runs k) g.0 d (steps_done at k + i) (omega (arith, exist, less)))
    ∙ now i d less)

-- ---- one turn more

-- a step more of a node
pub took_step : (step_runs : List (List StepRun)) (first : Progress) (turns : List Turn) (was now : SerialValue) (k : ℕ)
    (d : StepRun) → k < length step_runs → d.bits ≡ was.bits → now.bits ≡ was.bits →
    Took step_runs first turns (progress was step_runs) →
    Took (with_step_runs step_runs k (d ∷ [])) first (Node k 1 ∷ turns) (progress now (with_step_runs step_runs k
    (d ∷ [])))
took_step step_runs first turns was now k d there when same h =
    subst (λ (p : Progress). Took (with_step_runs step_runs k (d ∷ [])) first (Node k 1 ∷ turns) p) (sym on)
    (node turns (progress was step_runs) k 1
    (took_more step_runs (with_step_runs step_runs k (d ∷ [])) first turns (progress was step_runs)
    (begins_more step_runs k (d ∷ []) there) h) (omega (arith, n, many, both)) at)
  where
    here : step_runs_at (with_step_runs step_runs k (d ∷ [])) k ≡ step_runs_at step_runs k ++ d ∷ []
    here = get_or-set_same step_runs k (step_runs_at step_runs k ++ d ∷ []) [] there

    n : slice_index (map (λ (l : List StepRun). length l) step_runs) k ≡ length (step_runs_at step_runs k)
    n = length_at step_runs k

    many : length (step_runs_at (with_step_runs step_runs k (d ∷ [])) k) ≡ length (step_runs_at step_runs k ++ d ∷ [])
    many = ap (λ l. length l) here

    both : length (step_runs_at step_runs k ++ d ∷ []) ≡ length (step_runs_at step_runs k) + 1
    both = length-append (step_runs_at step_runs k) (d ∷ [])

    last : (xs : List StepRun) (m : ℕ) (e : StepRun) → m ≡ length xs → slice_index_or (xs ++ d ∷ []) m e ≡ d
    last [] zero e is = refl
    last [] (suc m) e is = absurd (omega (arith, is))
    last (x ∷ xs) zero e is = absurd (omega (arith, is))
    last (x ∷ xs) (suc m) e is = last xs m e (omega (arith, is))

    at : (i : ℕ) (e : StepRun) → i < 1 → (slice_index_or (step_runs_at (with_step_runs step_runs k (d ∷ [])) k)
        (slice_index (map (λ (l : List StepRun). length l) step_runs) k + i) e).bits ≡ was.bits
    at i e less = ap (λ (x : StepRun). x.bits)
        (ap (λ l. slice_index_or l (slice_index (map (λ (l : List StepRun). length l) step_runs) k + i) e) here
        ∙ last (step_runs_at step_runs k) (slice_index (map (λ (l : List StepRun). length l) step_runs) k + i) e
        (omega (arith, n, less))) ∙ when

    on : progress now (with_step_runs step_runs k (d ∷ [])) ≡ with_steps (progress was step_runs) k 1
    on =
        let whole : length (step_runs_at step_runs k ++ d ∷ []) ≡ slice_index (map (λ (l : List StepRun). length l)
        step_runs) k + 1 =
        omega (arith, n, both) in
        let done : map (λ (l : List StepRun). length l) (with_step_runs step_runs k (d ∷ [])) ≡ set
        (map (λ (l : List StepRun). length l) step_runs) k (slice_index (map (λ (l : List StepRun). length l)
        step_runs) k
        + 1) =
        sym (lengths_set step_runs k (step_runs_at step_runs k ++ d ∷ []))
        ∙ ap (λ m. set (map (λ (l : List StepRun). length l) step_runs) k m) whole in
        λ i. let p : Progress = record { bits = same i; done = done i } in p

-- bits more
pub took_bits : (step_runs : List (List StepRun)) (first : Progress) (turns : List Turn) (was now : SerialValue)
    (n : ℕ) →
    now.bits ≡ was.bits + n → Took step_runs first turns (progress was step_runs) →
    Took step_runs first (Bus n ∷ turns) (progress now step_runs)
took_bits step_runs first turns was now n is h =
    subst (λ (p : Progress). Took step_runs first (Bus n ∷ turns) p) on (bus turns (progress was step_runs) n h)
  where
    on : with_bits (progress was step_runs) n ≡ progress now step_runs
    on = ap (λ b. let p : Progress = record { bits = b; done = map (λ (l : List StepRun). length l) step_runs } in p)
        (sym is)

-- nothing more
pub took_same : (step_runs : List (List StepRun)) (first : Progress) (turns : List Turn) (was now : SerialValue) →
    now.bits ≡ was.bits → Took step_runs first turns (progress was step_runs) →
    Took step_runs first turns (progress now step_runs)
took_same step_runs first turns was now is h = subst (λ (p : Progress). Took step_runs first turns p)
    (ap (λ b. let p : Progress = record { bits = b; done = map (λ (l : List StepRun). length l) step_runs } in p)
    (sym is)) h

-- ---- all turns

pub turned : (t : Turn) (earlier later : List Turn) → reverse (t ∷ earlier) ++ later ≡ reverse earlier ++ (t ∷ later)
turned t earlier later = ap (λ l. l ++ later) (reverse-append (t ∷ []) earlier)
    ∙ append_assoc (reverse earlier) (t ∷ []) later

-- what follows from where the turns led follows, with them, from the first point
runs_through : (plan : PlanValue) (journals : List (List Entry)) (step_runs : List (List StepRun)) (first : Progress)
    (turns : List Turn) (p : Progress) → Took step_runs first turns p → p.bits ≤ plan.bits →
    (later : List Turn) (q : Progress) (end : End) → RunsTo (run_acts_of plan journals step_runs) p later q end →
    RunsTo (run_acts_of plan journals step_runs) first (reverse turns ++ later) q end
runs_through plan journals step_runs first turns p none few later q end follows = follows
runs_through plan journals step_runs first turns p (bus earlier at n h) few later q end follows =
    subst (λ (l : List Turn). RunsTo (run_acts_of plan journals step_runs) first l q end)
    (sym (turned (Bus n) earlier later))
    (runs_through plan journals step_runs first earlier at h (omega (arith, few)) (Bus n ∷ later) q end
    (runs_bus at q n later end few follows))
runs_through plan journals step_runs first turns p (node earlier at k n h exist now) few later q end follows =
    subst (λ (l : List Turn). RunsTo (run_acts_of plan journals step_runs) first l q end)
    (sym (turned (Node k n) earlier later))
    (runs_through plan journals step_runs first earlier at h few (Node k n ∷ later) q end
    (runs_node at q k n n later end does follows))
  where
    does : DoesSteps (run_acts_of plan journals step_runs) at k n n
    does = record {
      most = omega arith;
      exist = exist;
      now = now;
      stuck = λ less. absurd (omega (arith, less));
    }

-- the turns in order
pub runs_all : (plan : PlanValue) (journals : List (List Entry)) (step_runs : List (List StepRun)) (first : Progress)
    (turns : List Turn) (p : Progress) → Took step_runs first (reverse turns) p → p.bits ≤ plan.bits →
    RunsTo (run_acts_of plan journals step_runs) first turns p TurnsDone
runs_all plan journals step_runs first turns p h few =
    subst (λ (l : List Turn). RunsTo (run_acts_of plan journals step_runs) first l p TurnsDone)
    (append-nil (reverse (reverse turns)) ∙ reverse-reverse turns)
    (runs_through plan journals step_runs first (reverse turns) p h few [] p TurnsDone (all_done p))

-- ---- at the beginning

pub took_none : (nodes : ℕ) (r : SerialValue) → r.bits ≡ 0 →
    Took (replicate nodes []) (start_of nodes) [] (progress r (replicate nodes []))
took_none nodes r is = subst (λ (p : Progress). Took (replicate nodes []) (start_of nodes) [] p) (sym on) none
  where
    on : progress r (replicate nodes []) ≡ start_of nodes
    on = λ i. let p : Progress = record { bits = is i; done = no_lengths nodes i } in p
