-- Stuffing, over lists that have their newest level first.
use Rattle.std.proofs.Common.{◌≡◌, ◌≢◌, ◌+◌, ◌*◌, ◌<◌, ◌≤◌, inl, inr, ℕ, if◌then◌else◌, nat_le}
use Rattle.std.proofs.Common.{List, [], ◌∷◌, ◌++◌, reverse, length, refl, ap, sym, subst, ◌∙◌, arith}
use Rattle.std.proofs.lemmas.Bool.{cases_lt, le-leb, lt-leb}
use Rattle.std.proofs.lemmas.List.{reverse-reverse, length_push}
use Rattle.can_levels.specs.declared.level.Level.{Level}
use Rattle.can_levels.specs.declared.level.Level.TheVariants.{Dominant, Recessive}
use Rattle.can_levels.specs.Digits.{opposite}
use Rattle.can_levels.specs.Stuffing.{EndsInEqual, HasNoSixEqual, IsUnstuffed, Stuffed}
use Rattle.can_levels.specs.Stuffing.IsUnstuffed.{nothing, kept, dropped}
use Rattle.lemmas.proofs.Lists.{reverse-cons, reverse-push}
use Rattle.can_levels.proofs.Runs.{run, run-same, run-other, IsShort, ends_in_run, run_ends, short_from, no_six_from}

-- past without each level whose five predecessors are equal; both have the newest level first
abbrev pub unstuffed : List Level → List Level
unstuffed [] = []
unstuffed (x ∷ past) = if nat_le 5 (run past) then unstuffed past else x ∷ unstuffed past

-- a level after fewer than five equal ones is kept
pub unstuffed-kept : (x : Level) (past : List Level) → run past < 5 → unstuffed (x ∷ past) ≡ x ∷ unstuffed past
unstuffed-kept x past h = rw (lt-leb 5 (run past) h) refl

-- a level after five equal ones is left out
pub unstuffed-dropped : (x : Level) (past : List Level) → 5 ≤ run past → unstuffed (x ∷ past) ≡ unstuffed past
unstuffed-dropped x past h = rw (le-leb 5 (run past) h) refl

-- a list that doesn't end in five equal levels
not_full : (s : List Level) → (EndsInEqual 5 s → ⊥) → run (reverse s) < 5
not_full s h =
    elim (cases_lt (run (reverse s)) 5) [
      | inl few ↦ few
      | inr many ↦ absurd (h (subst (EndsInEqual 5) (reverse-reverse s) (run_ends 5 (reverse s) many)))
    ]

-- a list that ends in five equal levels
full : (s : List Level) → EndsInEqual 5 s → 5 ≤ run (reverse s)
full s h = ends_in_run 4 (reverse s) (subst (EndsInEqual 5) (sym (reverse-reverse s)) h)

-- the relation gives the list
pub unstuffed_by : {w s : List Level} → IsUnstuffed w s → unstuffed (reverse s) ≡ reverse w
unstuffed_by nothing = refl
unstuffed_by (kept {w = w} {s = s} x rest few v t) =
    rw (t, reverse-push s x, unstuffed-kept x (reverse s) (not_full s few), unstuffed_by rest, v, reverse-push w x) refl
unstuffed_by (dropped {s = s} x rest five t) =
    rw (t, reverse-push s x, unstuffed-dropped x (reverse s) (full s five)) (unstuffed_by rest)

-- the list stands in the relation
pub is_unstuffed : (past : List Level) → IsUnstuffed (reverse (unstuffed past)) (reverse past)
is_unstuffed [] = nothing
is_unstuffed (x ∷ past) =
    elim (cases_lt (run past) 5) [
      | inl few ↦
          kept x (is_unstuffed past) (λ five. let many = ends_in_run 4 past five in omega arith)
          (ap reverse (unstuffed-kept x past few) ∙ reverse-cons x (unstuffed past)) (reverse-cons x past)
      | inr many ↦
          let P : List Level → Type 0 = λ l. IsUnstuffed (reverse l) (reverse (x ∷ past)) in
          subst P (sym (unstuffed-dropped x past many))
          (dropped x (is_unstuffed past) (run_ends 5 past many) (reverse-cons x past))
    ]

-- a list is without its stuff bits in one way
pub IsUnstuffed-unique : (w v s : List Level) → IsUnstuffed w s → IsUnstuffed v s → w ≡ v
IsUnstuffed-unique w v s hw hv =
    sym (reverse-reverse w) ∙ ap reverse (sym (unstuffed_by hw) ∙ unstuffed_by hv) ∙ reverse-reverse v

-- what stuffing means for the list with its newest level first
pub record IsStuffed (w past : List Level) : Type 0 where
  pub short : IsShort past
  pub closed : run past < 5
  pub unstuffs : unstuffed past ≡ reverse w

pub stuffed_from : (w s : List Level) → IsStuffed w (reverse s) → Stuffed w s
stuffed_from w s h =
    let P : List Level → Type 0 = λ l. HasNoSixEqual l in
    let Q : List Level → Type 0 = λ l. IsUnstuffed w l in
    let R : List Level → Type 0 = λ v. IsUnstuffed v (reverse (reverse s)) in
    record {
      no_six = subst P (reverse-reverse s) (no_six_from (reverse s) h.short);
      closed = λ five. let many = full s five in let few = h.closed in omega arith;
      unstuffed =
          subst Q (reverse-reverse s) (subst R (ap reverse h.unstuffs ∙ reverse-reverse w) (is_unstuffed (reverse s)));
    }

pub stuffed_to : (w s : List Level) → Stuffed w s → IsStuffed w (reverse s)
stuffed_to w s h =
    let P : List Level → Type 0 = λ l. HasNoSixEqual l in
    record {
      short = short_from (reverse s) (subst P (sym (reverse-reverse s)) h.no_six);
      closed = not_full s h.closed;
      unstuffs = unstuffed_by h.unstuffed;
    }

-- a stuffed list is the stuffing of one list
pub Stuffed-unique : (w v s : List Level) → Stuffed w s → Stuffed v s → w ≡ v
Stuffed-unique w v s hw hv = IsUnstuffed-unique w v s hw.unstuffed hv.unstuffed

-- the other level is another one
pub opposite-other : (x : Level) → opposite x ≢ x
opposite-other Dominant h = cc
opposite-other Recessive h = cc

-- another level is the opposite one
pub other-opposite : (x y : Level) → x ≢ y → x ≡ opposite y
other-opposite Dominant Dominant h = absurd (h refl)
other-opposite Dominant Recessive h = refl
other-opposite Recessive Dominant h = refl
other-opposite Recessive Recessive h = absurd (h refl)

-- a list is led by n levels like this one
abbrev pub Leads : Level → ℕ → List Level → Type 0
Leads x n [] = n ≡ 0
Leads x n (y ∷ past) = (x ≡ y) × (n ≡ run (y ∷ past))

-- s is w with its stuff bits so far, and it ends in n levels like this one
pub record Stands (w s : List Level) (x : Level) (n : ℕ) : Type 0 where
  pub short : IsShort (reverse s)
  pub unstuffs : unstuffed (reverse s) ≡ reverse w
  pub leads : Leads x n (reverse s)
  pub few : 4 * length s + n ≤ 5 * length w

-- the run of a list is what leads it
pub run-leads : (x : Level) (n : ℕ) (past : List Level) → Leads x n past → run past ≡ n
run-leads x n [] h = sym h
run-leads x n (y ∷ past) h = sym h.1

-- a level like the last one
pub lead-same : (x : Level) (n : ℕ) (past : List Level) → Leads x n past → run (x ∷ past) ≡ n + 1
lead-same x n [] h = omega (arith, h)
lead-same x n (y ∷ past) h = ap (λ z. run (z ∷ y ∷ past)) h.0 ∙ run-same y past ∙ omega (arith, h.1)

-- another level
pub lead-other : (x y : Level) (n : ℕ) (past : List Level) → Leads x n past → y ≢ x → run (y ∷ past) ≡ 1
lead-other x y n [] h other = refl
lead-other x y n (z ∷ past) h other = run-other y z past (λ e. other (e ∙ sym h.0))

-- a level more, kept
stands_kept : (w s : List Level) (x y : Level) (n m : ℕ) → Stands w s x n → n < 5 → run (y ∷ reverse s) ≡ m →
    m ≤ n + 1 → Stands (w ++ y ∷ []) (s ++ y ∷ []) y m
stands_kept w s x y n m h small counted most =
    let turned : reverse (s ++ y ∷ []) ≡ y ∷ reverse s = reverse-push s y in
    let few = h.few in
    let open_run : run (reverse s) < 5 = rw (run-leads x n (reverse s) h.leads) small in
    let P : List Level → Type 0 = λ l. IsShort l in
    let Q : List Level → Type 0 = λ l. Leads y m l in
    record {
      short = subst P (sym turned) (omega arith, h.short);
      unstuffs =
          ap unstuffed turned ∙ unstuffed-kept y (reverse s) open_run ∙ ap (λ l. y ∷ l) h.unstuffs
          ∙ sym (reverse-push w y);
      leads = subst Q (sym turned) (refl, sym counted);
      few = omega (arith, length_push s y, length_push w y);
    }

-- a level like the last one
pub Stands-same : (w s : List Level) (x : Level) (n : ℕ) → Stands w s x n → n < 5 →
    Stands (w ++ x ∷ []) (s ++ x ∷ []) x (n + 1)
Stands-same w s x n h small = stands_kept w s x x n (n + 1) h small (lead-same x n (reverse s) h.leads) (omega arith)

-- another level
pub Stands-other : (w s : List Level) (x y : Level) (n : ℕ) → Stands w s x n → n < 5 → y ≢ x →
    Stands (w ++ y ∷ []) (s ++ y ∷ []) y 1
Stands-other w s x y n h small other =
    stands_kept w s x y n 1 h small (lead-other x y n (reverse s) h.leads other) (omega arith)

-- a stuff bit after five equal levels
pub Stands-stuffed : (w s : List Level) (x : Level) → Stands w s x 5 → Stands w (s ++ opposite x ∷ []) (opposite x) 1
Stands-stuffed w s x h =
    let turned : reverse (s ++ opposite x ∷ []) ≡ opposite x ∷ reverse s = reverse-push s (opposite x) in
    let few = h.few in
    let one = lead-other x (opposite x) 5 (reverse s) h.leads (opposite-other x) in
    let P : List Level → Type 0 = λ l. IsShort l in
    let Q : List Level → Type 0 = λ l. Leads (opposite x) 1 l in
    record {
      short = subst P (sym turned) (omega arith, h.short);
      unstuffs =
          ap unstuffed turned ∙ unstuffed-dropped (opposite x) (reverse s)
          (rw (run-leads x 5 (reverse s) h.leads) (omega arith)) ∙ h.unstuffs;
      leads = subst Q (sym turned) (refl, sym one);
      few = omega (arith, length_push s (opposite x));
    }

-- at the end
pub Stands-closed : (w s : List Level) (x : Level) (n : ℕ) → Stands w s x n → n < 5 → Stuffed w s
Stands-closed w s x n h small =
    stuffed_from w s (record {
      short = h.short;
      closed = rw (run-leads x n (reverse s) h.leads) small;
      unstuffs = h.unstuffs;
    })
