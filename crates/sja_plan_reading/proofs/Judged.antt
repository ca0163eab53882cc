-- Definitions sorted by their first keys, run after run.
use Rattle.std.proofs.Common.{◌≡◌, ℕ, ◌+◌, ◌<◌, Bool, true, false, not, List, [], ◌∷◌, ◌++◌}
use Rattle.std.proofs.Common.{take, drop, length, Ordering, Less, Equal, Greater, nat_cmp}
use Rattle.std.proofs.Common.{refl, sym, ap, subst, ◌∙◌, inl, inr, arith, append-nil, Result, Ok, Err}
use Rattle.std.proofs.Common.{OnOk, ◌-◌}
use Rattle.std.proofs.lemmas.Grind.{common_steps}
use Rattle.std.specs.Ordering.{is_lt, is_eq, ordering_reverse}
use Rattle.std.specs.Cmp.Lexicographic.{slice_cmp}
use Rattle.std.specs.List.{slice_index_or}
use Rattle.std.specs.List.Sorted.{IsSortedBy}
use Rattle.std.proofs.lemmas.Bool.{cases_Bool, false≢true}
use Rattle.std.proofs.lemmas.Cmp.{nat_list_cmp_total}
use Rattle.std.proofs.lemmas.List.{map-append, get_or-drop, get_or_default}
use Rattle.std.proofs.Math.Seq.{take-add}
use Rattle.toml.specs.Data.{same_key}
use Rattle.toml.proofs.NodeLaws.{same_key-self}
use Rattle.sja_plan_reading.specs.Words.{Text}
use Rattle.sja_plan_reading.specs.Inside.Items.{Item, first_of, at_first}
use Rattle.sja_plan_reading.specs.Inside.Judging.{split}
use Rattle.sja_plan_reading.specs.Inside.Definitions.{item_of, items_of, is_before, FirstsAre, KeySplits, Splits}
use Rattle.sja_plan_reading.specs.declared.tables.definition.Definition.{Definition}
use Rattle.sja_plan_reading.proofs.ByKey.{same_is}
use Rattle.sja_plan_reading.proofs.SortedItems.{firsts_at}

pub firsts_both : (p : Text → Bool) (is js : List Item) → FirstsAre p is → FirstsAre p js → FirstsAre p (is ++ js)
firsts_both p [] js a b = b
firsts_both p (i ∷ is) js a b = (a.0, firsts_both p is js a.1 b)

pub firsts_weaker : (p q : Text → Bool) → ((t : Text) → p t ≡ true → q t ≡ true) → (is : List Item) → FirstsAre p is →
    FirstsAre q is
firsts_weaker p q weaker [] all = tt
firsts_weaker p q weaker (i ∷ is) all = (weaker (first_of i) all.0, firsts_weaker p q weaker is all.1)

pub at_first_append : (k : Text) (is js : List Item) → at_first k (is ++ js) ≡ at_first k is ++ at_first k js
at_first_append k [] js = refl
at_first_append k (i ∷ is) js =
    elim (cases_Bool (same_key k (first_of i))) [
      | inl same ↦ rw (same, at_first_append k is js)
      | inr other ↦ rw (other, at_first_append k is js)
    ]

-- of none, of all
at_first_none : (k : Text) (is : List Item) → FirstsAre (λ t. not (same_key k t)) is → at_first k is ≡ []
at_first_none k [] none = refl
at_first_none k (i ∷ is) none =
    elim (cases_Bool (same_key k (first_of i))) [
      | inl same ↦ absurd (false≢true (rw same at none.0))
      | inr other ↦ rw other (at_first_none k is none.1)
    ]

at_first_all : (k : Text) (is : List Item) → FirstsAre (same_key k) is → at_first k is ≡ is
at_first_all k [] all = refl
at_first_all k (i ∷ is) all = rw (all.0, at_first_all k is all.1)

-- a text before another is another one
before_other : (k t : Text) → is_lt (slice_cmp nat_cmp t k) ≡ true → not (same_key k t) ≡ true
before_other k t before =
    elim (cases_Bool (same_key k t)) [
      | inl same ↦ absurd (false≢true (sym (self_before t) ∙ rw (same_is k t same) at before))
      | inr other ↦ rw other
    ]
  where
    by_tie : (r : Ordering) → is_eq r ≡ true → is_lt r ≡ false
    by_tie Less e = absurd (false≢true e)
    by_tie Equal e = refl
    by_tie Greater e = refl

    self_before : (t : Text) → is_lt (slice_cmp nat_cmp t t) ≡ false
    self_before t = by_tie (slice_cmp nat_cmp t t) (same_key-self t)

-- those of a key, of which a run stands behind those of lesser keys
pub front_of_run : (done run rest : List Item) (f : Text) → FirstsAre (λ t. is_lt (slice_cmp nat_cmp t f)) done →
    FirstsAre (same_key f) run → at_first f (done ++ (run ++ rest)) ≡ run ++ at_first f rest
front_of_run done run rest f before all =
    let none : at_first f done ≡ [] = at_first_none f done (firsts_weaker (λ t. is_lt (slice_cmp nat_cmp t f))
    (λ t. not (same_key f t)) (before_other f) done before) in
    at_first_append f done (run ++ rest) ∙ rw (none, at_first_append f run rest, at_first_all f run all)

-- behind those of lesser keys, which split, those of one key that split
pub keys_more : (done run : List Item) (f : Text) → FirstsAre (λ t. is_lt (slice_cmp nat_cmp t f)) done →
    FirstsAre (same_key f) run → ((k : Text) → KeySplits done k) → Splits run → (k : Text) → KeySplits (done ++ run) k
keys_more done run f before all each splits k =
    elim (cases_Bool (same_key k f)) [
      | inl same ↦
          let is : k ≡ f = same_is k f same in
          let none : at_first f done ≡ [] = at_first_none f done (firsts_weaker (λ t. is_lt (slice_cmp nat_cmp t f))
          (λ t. not (same_key f t)) (before_other f) done before) in
          let here : at_first k (done ++ run) ≡ run =
          rw is (at_first_append f done run ∙ rw (none, at_first_all f run all)) in
          subst Splits (sym here) splits
      | inr other ↦
          let apart : (t : Text) → same_key f t ≡ true → not (same_key k t) ≡ true =
          λ t is. rw (← same_is f t is, other) in
          let none : at_first k run ≡ [] = at_first_none k run (firsts_weaker (same_key f) (λ t. not (same_key k t))
          apart run all) in
          let here : at_first k (done ++ run) ≡ at_first k done =
          at_first_append k done run ∙ ap (λ l. at_first k done ++ l) none ∙ append-nil (at_first k done) in
          subst Splits (sym here) (each k)
    ]

-- the key behind a run is greater, in what is sorted
pub next_greater : (f g : Text) → is_lt (slice_cmp nat_cmp g f) ≡ false → same_key f g ≡ false →
    is_lt (slice_cmp nat_cmp f g) ≡ true
next_greater f g sorted other = by_order (slice_cmp nat_cmp f g) (sym (ap is_lt (nat_list_cmp_total.antisymm g f))
    ∙ sorted) other
  where
    by_order : (r : Ordering) → is_lt (ordering_reverse r) ≡ false → is_eq r ≡ false → is_lt r ≡ true
    by_order Less a b = refl
    by_order Equal a b = absurd (false≢true (sym b))
    by_order Greater a b = absurd (false≢true (sym a))

less_is : (k l : Text) → is_lt (slice_cmp nat_cmp k l) ≡ true → slice_cmp nat_cmp k l ≡ Less
less_is k l before = by_order (slice_cmp nat_cmp k l) before
  where
    by_order : (r : Ordering) → is_lt r ≡ true → r ≡ Less
    by_order Less e = refl
    by_order Equal e = absurd (false≢true e)
    by_order Greater e = absurd (false≢true e)

pub before_trans : (k l m : Text) → is_lt (slice_cmp nat_cmp k l) ≡ true → is_lt (slice_cmp nat_cmp l m) ≡ true →
    is_lt (slice_cmp nat_cmp k m) ≡ true
before_trans k l m a b = ap is_lt (nat_list_cmp_total.trans k l m (less_is k l a) (less_is l m b))

-- all before the key of a run, and those of it, are before a greater key
pub all_before : (done run : List Item) (f g : Text) → FirstsAre (λ t. is_lt (slice_cmp nat_cmp t f)) done →
    FirstsAre (same_key f) run → is_lt (slice_cmp nat_cmp f g) ≡ true → FirstsAre (λ t. is_lt (slice_cmp nat_cmp t g))
    (done ++ run)
all_before done run f g before all greater =
    let p : Text → Bool = λ t. is_lt (slice_cmp nat_cmp t g) in
    firsts_both p done run (firsts_weaker (λ t. is_lt (slice_cmp nat_cmp t f)) p (λ t b. before_trans t f g b greater)
    done before)
    (firsts_weaker (same_key f) p (λ t is. rw (← same_is f t is) greater) run all)

-- the runs so far with one more
pub keys_step : (ts : List Text) (ys : List Definition) (at n : ℕ) (d : Definition) →
    ((k : Text) → KeySplits (items_of ts (take at ys)) k) →
    FirstsAre (λ t. is_lt (slice_cmp nat_cmp t (first_of (item_of ts (slice_index_or ys at d))))) (items_of ts
    (take at ys)) →
    FirstsAre (same_key (first_of (item_of ts (slice_index_or ys at d)))) (items_of ts (take n (drop at ys))) →
    Splits (items_of ts (take n (drop at ys))) → (k : Text) → KeySplits (items_of ts (take (at + n) ys)) k
keys_step ts ys at n d each before same splits k =
    let f = first_of (item_of ts (slice_index_or ys at d)) in
    let whole : items_of ts (take (at + n) ys) ≡ items_of ts (take at ys) ++ items_of ts (take n (drop at ys)) =
    ap (items_of ts) (take-add at n ys) ∙ map-append (item_of ts) (take at ys) (take n (drop at ys)) in
    subst (λ is. KeySplits is k) (sym whole) (keys_more (items_of ts (take at ys)) (items_of ts (take n (drop at ys)))
    f before same each splits k)

pub before_step : (ts : List Text) (ys : List Definition) (at n : ℕ) (d : Definition) → 0 < n → at + n < length ys →
    FirstsAre (λ t. is_lt (slice_cmp nat_cmp t (first_of (item_of ts (slice_index_or ys at d))))) (items_of ts
    (take at ys)) →
    FirstsAre (same_key (first_of (item_of ts (slice_index_or ys at d)))) (items_of ts (take n (drop at ys))) →
    same_key (first_of (item_of ts (slice_index_or ys at d))) (first_of (item_of ts (slice_index_or ys (at + n) d))) ≡
    false →
    IsSortedBy (is_before ts) ys →
    FirstsAre (λ t. is_lt (slice_cmp nat_cmp t (first_of (item_of ts (slice_index_or ys (at + n) d))))) (items_of ts
    (take (at + n) ys))
before_step ts ys at n d some within before same other sorted =
    let f = first_of (item_of ts (slice_index_or ys at d)) in
    let g = first_of (item_of ts (slice_index_or ys (at + n) d)) in
    let last = firsts_at ts (same_key f) (drop at ys) n (n - 1) d (omega arith) (grind (arith, common_steps)) same in
    let last_is : f ≡ first_of (item_of ts (slice_index_or ys (at + (n - 1)) d)) =
    same_is f (first_of (item_of ts (slice_index_or (drop at ys) (n - 1) d))) last
    ∙ ap (λ e. first_of (item_of ts e)) (get_or-drop at ys (n - 1) d) in
    let by_one : (at + (n - 1)) + 1 ≡ at + n = omega arith in
    let rises : is_before ts (slice_index_or ys (at + n) d) (slice_index_or ys (at + (n - 1)) d) ≡ false =
    subst (λ j. is_before ts (slice_index_or ys j d) (slice_index_or ys (at + (n - 1)) d) ≡ false) by_one
    (sorted (at + (n - 1)) d (omega arith) (omega arith)) in
    let greater = next_greater f g (rw last_is rises) other in
    let whole : items_of ts (take (at + n) ys) ≡ items_of ts (take at ys) ++ items_of ts (take n (drop at ys)) =
    ap (items_of ts) (take-add at n ys) ∙ map-append (item_of ts) (take at ys) (take n (drop at ys)) in
    subst (FirstsAre (λ t. is_lt (slice_cmp nat_cmp t g))) (sym whole) (all_before (items_of ts (take at ys))
    (items_of ts (take n (drop at ys))) f g before same greater)

-- what is said of the rest of a list by its first element, of the list by the element at that place
pub same_at : (ts : List Text) (ys : List Definition) (at n : ℕ) (d : Definition) →
    FirstsAre (same_key (first_of (item_of ts (slice_index_or (drop at ys) 0 d)))) (items_of ts (take n (drop at ys))) →
    FirstsAre (same_key (first_of (item_of ts (slice_index_or ys at d)))) (items_of ts (take n (drop at ys)))
same_at ts ys at n d same =
    subst (λ e. FirstsAre (same_key (first_of (item_of ts e))) (items_of ts (take n (drop at ys))))
    (get_or-drop at ys 0 d ∙ ap (λ j. slice_index_or ys j d) (omega arith)) same

pub other_at : (ts : List Text) (ys : List Definition) (at n : ℕ) (d : Definition) →
    same_key (first_of (item_of ts (slice_index_or (drop at ys) 0 d))) (first_of (item_of ts (slice_index_or
    (drop at ys) n d))) ≡ false →
    same_key (first_of (item_of ts (slice_index_or ys at d))) (first_of (item_of ts (slice_index_or ys (at + n) d))) ≡
    false
other_at ts ys at n d other =
    let zero_is : slice_index_or (drop at ys) 0 d ≡ slice_index_or ys at d =
    get_or-drop at ys 0 d ∙ ap (λ j. slice_index_or ys j d) (omega arith) in
    subst (λ e. same_key (first_of (item_of ts e)) (first_of (item_of ts (slice_index_or ys (at + n) d))) ≡ false)
    zero_is
    (subst (λ e. same_key (first_of (item_of ts (slice_index_or (drop at ys) 0 d))) (first_of (item_of ts e)) ≡ false)
    (get_or-drop at ys n d) other)

pub on_ok : {T E : Type 0} {P Q : Type 0} (r : Result T E) → (P → Q) → OnOk r P → OnOk r Q
on_ok (Ok x) f h = f h
on_ok (Err e) f h = tt

pub same_texts : (a b f g : Text) → a ≡ f → b ≡ g → same_key a b ≡ true → same_key f g ≡ true
same_texts a b f g is is_too same = rw (← is, ← is_too) same

pub by_default : (ds : List Definition) (i : ℕ) (d e : Definition) → i < length ds →
    slice_index_or ds i d ≡ slice_index_or ds i e
by_default ds i d e within = get_or_default ds i d e within
