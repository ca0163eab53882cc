-- Turns with one more, and where they led.
use Rattle.std.proofs.Common.{◌≡◌, ℕ, ◌+◌, ◌-◌, ◌<◌, ◌≤◌, Bool, true, false, List, [], ◌∷◌, length}
use Rattle.std.proofs.Common.{refl, sym, ap, ◌∙◌, subst, All, arith, inl, inr}
use Rattle.std.specs.Prelude.{◌⊎◌, if◌then◌else◌, reverse, set, slice_index_or}
use Rattle.std.proofs.lemmas.Bool.{cases_lt, eqb-true}
use Rattle.std.proofs.lemmas.List.{length-set, length-reverse, get_or-set_same, reverse-append, reverse-reverse}
use Rattle.std.proofs.lemmas.List.{set-set}
use Rattle.std.proofs.lemmas.List.Elements.{All-push}
use Rattle.sja_plan.specs.declared.turn.Turn.{Turn}
use Rattle.sja_plan.specs.declared.turn.Turn.TheVariants.{Bus, Rest, Node, All as AllSteps, Irq, Go}
use Rattle.sja_plan.specs.Plan.{NamesNode}
use Rattle.sja_driver.specs.StepRuns.{StepRun, step_runs_at}
use Rattle.sja_promises.specs.Turns.{Progress, with_bits, with_steps, steps_done}
use Rattle.sja_session.specs.Sessions.{Took, AreNamed}
use Rattle.sja_session.specs.Sessions.Took.{none, bus, node}
use Rattle.sja_session.specs.Turning.{goes_on, size_of, enlarged, on_latest, with_turn, goes_on_latest, latest_size}

-- latest first, the turns with one more are those before it with the turn on the latest
pub latest_of : (turns : List Turn) (t : Turn) → reverse (with_turn turns t) ≡ on_latest t (reverse turns)
latest_of turns t = reverse-reverse (on_latest t (reverse turns))

-- ---- how many there are, and whose they are

pub by_choice : (P : List Turn → Type 0) (b : Bool) (xs ys : List Turn) → (b ≡ true → P xs) → (b ≡ false → P ys) →
    P (if b then xs else ys)
by_choice P true xs ys goes stays = goes refl
by_choice P false xs ys goes stays = stays refl

few_latest : (most : ℕ) (t : Turn) (l : List Turn) → (length l < most) ⊎ (goes_on_latest l t ≡ true) → length l ≤ most →
    length (on_latest t l) ≤ most
few_latest most t [] (inl less) few = omega (arith, less)
few_latest most t [] (inr goes) few = absurd cc
few_latest most t (u ∷ earlier) left few = by_choice (λ l. length l ≤ most) (goes_on u t) (enlarged u (size_of t) ∷
    earlier)
    (t ∷ u ∷ earlier) (λ goes. omega (arith, few)) (λ stays. new left stays)
  where
    new : (length (u ∷ earlier) < most) ⊎ (goes_on u t ≡ true) → goes_on u t ≡ false →
        length (t ∷ u ∷ earlier) ≤ most
    new (inl less) stays = omega (arith, less)
    new (inr goes) stays = absurd cc

-- a session whose turns have one more has few still
pub few_turns : (most : ℕ) (t : Turn) (turns : List Turn) → (length turns < most) ⊎ (goes_on_latest (reverse turns) t ≡
    true) →
    length turns ≤ most → length (with_turn turns t) ≤ most
few_turns most t turns left few =
    let n = length-reverse turns in let m = length-reverse (on_latest t (reverse turns)) in
    let f = few_latest most t (reverse turns) (by left) (omega (arith, n, few)) in omega (arith, m, f)
  where
    by : (length turns < most) ⊎ (goes_on_latest (reverse turns) t ≡ true) →
        (length (reverse turns) < most) ⊎ (goes_on_latest (reverse turns) t ≡ true)
    by (inl less) = let n = length-reverse turns in inl (omega (arith, n, less))
    by (inr goes) = inr goes

named_enlarged : (nodes : ℕ) (u : Turn) (m : ℕ) → NamesNode nodes u → NamesNode nodes (enlarged u m)
named_enlarged nodes (Bus n) m h = tt
named_enlarged nodes (Node k n) m h = h
named_enlarged nodes Rest m h = tt
named_enlarged nodes (AllSteps k) m h = h
named_enlarged nodes (Irq k n) m h = h
named_enlarged nodes Go m h = tt

named_latest : (nodes : ℕ) (t : Turn) (l : List Turn) → NamesNode nodes t → AreNamed nodes l →
    AreNamed nodes (on_latest t l)
named_latest nodes t [] one h = (one, tt)
named_latest nodes t (u ∷ earlier) one h = by_choice (AreNamed nodes) (goes_on u t)
    (enlarged u (size_of t) ∷ earlier) (t ∷ u ∷ earlier) (λ goes. (named_enlarged nodes u (size_of t) h.0, h.1))
    (λ stays. (one, h))

pub named_turns : (nodes : ℕ) (t : Turn) (turns : List Turn) → NamesNode nodes t → AreNamed nodes (reverse turns) →
    AreNamed nodes (reverse (with_turn turns t))
named_turns nodes t turns one h =
    subst (AreNamed nodes) (sym (latest_of turns t)) (named_latest nodes t (reverse turns) one h)

-- in their order, each is of a node that is there
all_named : (nodes : ℕ) (l : List Turn) → AreNamed nodes l → All (NamesNode nodes) (reverse l)
all_named nodes [] h = λ k d less. absurd (omega (arith, less))
all_named nodes (t ∷ l) h = subst (All (NamesNode nodes)) (sym (reverse-append (t ∷ []) l))
    (All-push (NamesNode nodes) (reverse l) t (all_named nodes l h.1) h.0)

pub all_turns_named : (nodes : ℕ) (turns : List Turn) → AreNamed nodes (reverse turns) → All (NamesNode nodes) turns
all_turns_named nodes turns h =
    subst (All (NamesNode nodes)) (reverse-reverse turns) (all_named nodes (reverse turns) h)

-- whether bits go on hangs on no number
pub bits_go_on : (l : List Turn) (n m : ℕ) → goes_on_latest l (Bus n) ≡ goes_on_latest l (Bus m)
bits_go_on [] n m = refl
bits_go_on (Bus x ∷ l) n m = refl
bits_go_on (Node k x ∷ l) n m = refl
bits_go_on (Rest ∷ l) n m = refl
bits_go_on (AllSteps k ∷ l) n m = refl
bits_go_on (Irq k x ∷ l) n m = refl
bits_go_on (Go ∷ l) n m = refl

-- and they go on with bits
pub bits_on_bits : (l : List Turn) (n m : ℕ) → goes_on_latest (on_latest (Bus n) l) (Bus m) ≡ true
bits_on_bits [] n m = refl
bits_on_bits (Bus x ∷ l) n m = refl
bits_on_bits (Node k x ∷ l) n m = refl
bits_on_bits (Rest ∷ l) n m = refl
bits_on_bits (AllSteps k ∷ l) n m = refl
bits_on_bits (Irq k x ∷ l) n m = refl
bits_on_bits (Go ∷ l) n m = refl

-- so that bits twice are all at once
all_latest : (l : List Turn) (n m : ℕ) → on_latest (Bus m) (on_latest (Bus n) l) ≡ on_latest (Bus (n + m)) l
all_latest [] n m = refl
all_latest (Bus x ∷ l) n m = let e : x + n + m ≡ x + (n + m) = omega arith in ap (λ y. Bus y ∷ l) e
all_latest (Node k x ∷ l) n m = refl
all_latest (Rest ∷ l) n m = refl
all_latest (AllSteps k ∷ l) n m = refl
all_latest (Irq k x ∷ l) n m = refl
all_latest (Go ∷ l) n m = refl

pub bits_twice : (turns : List Turn) (n m : ℕ) →
    with_turn (with_turn turns (Bus n)) (Bus m) ≡ with_turn turns (Bus (n + m))
bits_twice turns n m =
    ap (λ l. reverse (on_latest (Bus m) l)) (latest_of turns (Bus n)) ∙ ap reverse (all_latest (reverse turns) n m)

-- ---- where they led

-- the last turn, by what it was
abbrev Ends : List (List StepRun) → Progress → List Turn → Progress → Type 0
Ends step_runs first [] p = Unit {0}
Ends step_runs first (Bus n ∷ earlier) p = (q : Progress) × Took step_runs first earlier q × (p ≡ with_bits q n)
Ends step_runs first (Node k n ∷ earlier) p = (q : Progress) × Took step_runs first earlier q
    × (steps_done q k + n ≤ length (step_runs_at step_runs k))
    × ((i : ℕ) (d : StepRun) → i < n → (slice_index_or (step_runs_at step_runs k) (steps_done q k + i) d).bits ≡ q.bits)
    × (p ≡ with_steps q k n)
Ends step_runs first (Rest ∷ earlier) p = ⊥
Ends step_runs first (AllSteps k ∷ earlier) p = ⊥
Ends step_runs first (Irq k n ∷ earlier) p = ⊥
Ends step_runs first (Go ∷ earlier) p = ⊥

ends : (step_runs : List (List StepRun)) (first : Progress) (l : List Turn) (p : Progress) → Took step_runs first l p →
    Ends step_runs first l p
ends step_runs first l p none = tt
ends step_runs first l p (bus earlier q n h) = (q, h, refl)
ends step_runs first l p (node earlier q k n h exist now) = (q, h, exist, now, refl)

-- a turn of the bus that goes on
more_bits : (step_runs : List (List StepRun)) (first : Progress) (earlier : List Turn) (p : Progress) (n m : ℕ) →
    Took step_runs first (Bus m ∷ Bus n ∷ earlier) p → Took step_runs first (Bus (n + m) ∷ earlier) p
more_bits step_runs first earlier p n m h =
    let x = ends step_runs first (Bus m ∷ Bus n ∷ earlier) p h in
    let y = ends step_runs first (Bus n ∷ earlier) x.0 x.1 in
    let sum : y.0.bits + n + m ≡ y.0.bits + (n + m) = omega arith in
    let both : with_bits (with_bits y.0 n) m ≡ with_bits y.0 (n + m) = ap (λ b. let q : Progress =
    record { bits = b; done = y.0.done } in q) sum in
    subst (λ (q : Progress). Took step_runs first (Bus (n + m) ∷ earlier) q)
    (sym (x.2 ∙ ap (λ q. with_bits q m) y.2 ∙ both)) (bus earlier y.0 (n + m) y.1)

-- a turn of a node that goes on
more_steps : (step_runs : List (List StepRun)) (first : Progress) (earlier : List Turn) (p : Progress) (k n m : ℕ) →
    k < length p.done → Took step_runs first (Node k m ∷ Node k n ∷ earlier) p →
    Took step_runs first (Node k (n + m) ∷ earlier) p
more_steps step_runs first earlier p k n m there h =
    let x = ends step_runs first (Node k m ∷ Node k n ∷ earlier) p h in
    let y = ends step_runs first (Node k n ∷ earlier) x.0 x.1 in
    joined x.0 y.0 x.2 x.3 x.4 y.1 y.2 y.3 y.4
  where
    joined : (mid q : Progress) → steps_done mid k + m ≤ length (step_runs_at step_runs k) →
        ((i : ℕ) (d : StepRun) → i < m → (slice_index_or (step_runs_at step_runs k) (steps_done mid k + i) d).bits ≡
        mid.bits) →
        p ≡ with_steps mid k m → Took step_runs first earlier q → steps_done q k + n ≤ length
        (step_runs_at step_runs k) →
        ((i : ℕ) (d : StepRun) → i < n → (slice_index_or (step_runs_at step_runs k) (steps_done q k + i) d).bits ≡
        q.bits) →
        mid ≡ with_steps q k n → Took step_runs first (Node k (n + m) ∷ earlier) p
    joined mid q exist now to took exist_before now_before from =
        subst (λ (z : Progress). Took step_runs first (Node k (n + m) ∷ earlier) z) (sym whole)
        (node earlier q k (n + m) took (omega (arith, exist, so_far)) at)
      where
        inside : k < length q.done
        inside =
            let a = ap (λ (z : Progress). length z.done) to in let b = length-set mid.done k (steps_done mid k + m) in
            let c = ap (λ (z : Progress). length z.done) from in let d = length-set q.done k (steps_done q k + n) in
            omega (arith, there, a, b, c, d)

        so_far : steps_done mid k ≡ steps_done q k + n
        so_far = ap (λ (z : Progress). steps_done z k) from
            ∙ get_or-set_same q.done k (steps_done q k + n) 0 inside

        whole : p ≡ with_steps q k (n + m)
        whole =
            let sum : steps_done mid k + m ≡ steps_done q k + (n + m) = let s = so_far in omega (arith, s) in
            let done : set mid.done k (steps_done mid k + m) ≡ set q.done k (steps_done q k + (n + m)) =
            ap (λ (z : Progress). set z.done k (steps_done mid k + m)) from
            ∙ set-set q.done k (steps_done q k + n) (steps_done mid k + m)
            ∙ ap (λ s. set q.done k s) sum in
            let bits : mid.bits ≡ q.bits = ap (λ (z : Progress). z.bits) from in
            to ∙ (λ i. let z : Progress = record { bits = bits i; done = done i } in z)

        at : (i : ℕ) (d : StepRun) → i < n + m →
            (slice_index_or (step_runs_at step_runs k) (steps_done q k + i) d).bits ≡ q.bits
        at i d less = elim (cases_lt i n) [
          | inl few ↦ now_before i d few
          | inr more ↦
              let s = so_far in
              let place : steps_done q k + i ≡ steps_done mid k + (i - n) = omega (arith, s, more) in
              ap (λ j. (slice_index_or (step_runs_at step_runs k) j d).bits) place
              ∙ now (i - n) d (omega (arith, less, more)) ∙ ap (λ (z : Progress). z.bits) from
        ]

joins : (step_runs : List (List StepRun)) (first : Progress) (t u : Turn) (earlier : List Turn) (p : Progress) →
    ((k n : ℕ) → t ≡ Node k n → k < length p.done) → goes_on u t ≡ true → Took step_runs first (t ∷ u ∷ earlier) p →
    Took step_runs first (enlarged u (size_of t) ∷ earlier) p
joins step_runs first (Bus m) (Bus n) earlier p there goes h = more_bits step_runs first earlier p n m h
joins step_runs first (Node k m) (Node j n) earlier p there goes h =
    let e = eqb-true j k goes in
    subst (λ x. Took step_runs first (Node x (n + m) ∷ earlier) p) (sym e)
    (more_steps step_runs first earlier p k n m (there k m refl)
    (subst (λ x. Took step_runs first (Node k m ∷ Node x n ∷ earlier) p) e h))
joins step_runs first (Node k m) (Bus n) earlier p there goes h = absurd cc
joins step_runs first (Node k m) Rest earlier p there goes h = absurd cc
joins step_runs first (Node k m) (AllSteps j) earlier p there goes h = absurd cc
joins step_runs first (Node k m) (Irq j n) earlier p there goes h = absurd cc
joins step_runs first (Node k m) Go earlier p there goes h = absurd cc
joins step_runs first (Bus m) (Node j n) earlier p there goes h = absurd cc
joins step_runs first (Bus m) Rest earlier p there goes h = absurd cc
joins step_runs first (Bus m) (AllSteps j) earlier p there goes h = absurd cc
joins step_runs first (Bus m) (Irq j n) earlier p there goes h = absurd cc
joins step_runs first (Bus m) Go earlier p there goes h = absurd cc
joins step_runs first Rest u earlier p there goes h = absurd (ends step_runs first (Rest ∷ u ∷ earlier) p h)
joins step_runs first (AllSteps k) u earlier p there goes h =
    absurd (ends step_runs first (AllSteps k ∷ u ∷ earlier) p h)
joins step_runs first (Irq k m) u earlier p there goes h = absurd (ends step_runs first (Irq k m ∷ u ∷ earlier) p h)
joins step_runs first Go u earlier p there goes h = absurd (ends step_runs first (Go ∷ u ∷ earlier) p h)

took_latest : (step_runs : List (List StepRun)) (first : Progress) (t : Turn) (l : List Turn) (p : Progress) →
    ((k n : ℕ) → t ≡ Node k n → k < length p.done) → Took step_runs first (t ∷ l) p →
    Took step_runs first (on_latest t l) p
took_latest step_runs first t [] p there h = h
took_latest step_runs first t (u ∷ earlier) p there h = by_choice (λ l. Took step_runs first l p) (goes_on u t)
    (enlarged u (size_of t) ∷ earlier) (t ∷ u ∷ earlier) (λ goes. joins step_runs first t u earlier p there goes h)
    (λ stays. h)

-- turns that led to a point with one more behind them led there too where that one goes on with the last
pub took_turn : (step_runs : List (List StepRun)) (first : Progress) (t : Turn) (turns : List Turn) (p : Progress) →
    ((k n : ℕ) → t ≡ Node k n → k < length p.done) → Took step_runs first (t ∷ reverse turns) p →
    Took step_runs first (reverse (with_turn turns t)) p
took_turn step_runs first t turns p there h = subst (λ (l : List Turn). Took step_runs first l p)
    (sym (latest_of turns t))
    (took_latest step_runs first t (reverse turns) p there h)

-- ---- how large they are

-- the last turn has no more bits than were run, and no more steps than were done
pub latest_few : (step_runs : List (List StepRun)) (first : Progress) (l : List Turn) (p : Progress) (most : ℕ) →
    p.bits ≤ most → ((k : ℕ) → length (step_runs_at step_runs k) ≤ most) → Took step_runs first l p →
    latest_size l ≤ most
latest_few step_runs first [] p most bits steps h = omega arith
latest_few step_runs first (Bus n ∷ earlier) p most bits steps h =
    let x = ends step_runs first (Bus n ∷ earlier) p h in
    let e = ap (λ (q : Progress). q.bits) x.2 in omega (arith, e, bits)
latest_few step_runs first (Node k n ∷ earlier) p most bits steps h =
    let x = ends step_runs first (Node k n ∷ earlier) p h in let e = x.2 in let s = steps k in omega (arith, e, s)
latest_few step_runs first (Rest ∷ earlier) p most bits steps h = omega arith
latest_few step_runs first (AllSteps k ∷ earlier) p most bits steps h = omega arith
latest_few step_runs first (Irq k n ∷ earlier) p most bits steps h = omega arith
latest_few step_runs first (Go ∷ earlier) p most bits steps h = omega arith
