-- Whether definitions go together doesn't hang on their values.
use Rattle.std.proofs.Common.{◌≡◌, List, [], ◌∷◌, ◌++◌, map, Option, Some, None, option_map}
use Rattle.std.proofs.Common.{refl, sym, ap, subst, ◌∙◌, inl, inr}
use Rattle.std.proofs.lemmas.List.{map-append}
use Rattle.std.proofs.lemmas.Bool.{cases_Bool}
use Rattle.std.proofs.lemmas.Option.{none-some, same_Some}
use Rattle.toml.specs.Data.{same_key}
use Rattle.toml.specs.Tables.{Definition, key_value, std_table, array_table}
use Rattle.sja_plan_reading.specs.Words.{Text}
use Rattle.sja_plan_reading.specs.Inside.Items.{Item, first_of, at_first}
use Rattle.sja_plan_reading.specs.Inside.Judging.{next, comes, ends, below, kept_below, is_array, is_double, what_of}
use Rattle.sja_plan_reading.specs.Inside.Judging.{fresh}
use Rattle.sja_plan_reading.specs.Inside.Judging.{split}
use Rattle.sja_plan_reading.specs.Inside.Definitions.{bare, bare_what, AreGood, AllAreGood, KeySplits}
use Rattle.sja_plan_reading.specs.declared.tables.state.State.{State}
use Rattle.sja_plan_reading.specs.declared.tables.state.State.TheVariants.{Absent}
use Rattle.sja_plan_reading.proofs.ByKey.{cases_option}
use Rattle.sja_plan_reading.proofs.OneKey.{AllGood}
use Rattle.sja_plan_reading.proofs.GoodItems.{good_of_splits}

what_bare : (what : Definition) → what_of (bare_what what) ≡ what_of what
what_bare (key_value d) = refl
what_bare std_table = refl
what_bare array_table = refl

next_by : (path dots : List Text) (last : Text) (what : Definition) (s : State) →
    let i : Item = record { path = path; dots = dots; last = last; what = what } in next s (bare i) ≡ next s i
next_by (k ∷ path) dots last what s = refl
next_by [] (k ∷ dots) last what s = refl
next_by [] [] last what s = rw (what_bare what)

comes_by : (path dots : List Text) (last : Text) (what : Definition) →
    let i : Item = record { path = path; dots = dots; last = last; what = what } in comes (bare i) ≡ comes i
comes_by (k ∷ path) dots last what = refl
comes_by [] (k ∷ dots) last what = refl
comes_by [] [] last what = what_bare what

pub comes_bare : (i : Item) → comes (bare i) ≡ comes i
comes_bare i = comes_by i.path i.dots i.last i.what

next_bare : (s : State) (i : Item) → next s (bare i) ≡ next s i
next_bare s i = next_by i.path i.dots i.last i.what s

below_by : (path dots : List Text) (last : Text) (what : Definition) →
    let i : Item = record { path = path; dots = dots; last = last; what = what } in below (bare i) ≡ bare (below i)
below_by (k ∷ path) dots last what = refl
below_by [] (k ∷ dots) last what = refl
below_by [] [] last what = refl

pub below_bare : (i : Item) → below (bare i) ≡ bare (below i)
below_bare i = below_by i.path i.dots i.last i.what

array_bare : (i : Item) → is_array (bare i) ≡ is_array i
array_bare i = ap is_double (what_bare i.what)

fresh_bare : (what : Definition) (inner : List Item) → fresh (what_of (bare_what what)) (map bare inner) ≡ map bare
    (fresh (what_of what) inner)
fresh_bare (key_value d) inner = refl
fresh_bare std_table inner = refl
fresh_bare array_table inner = refl

kept_bare : (i : Item) (inner : List Item) → kept_below (bare i) (map bare inner) ≡ map bare (kept_below i inner)
kept_bare i inner = fresh_bare i.what inner

first_by : (path dots : List Text) (last : Text) (what : Definition) →
    let i : Item = record { path = path; dots = dots; last = last; what = what } in first_of (bare i) ≡ first_of i
first_by (k ∷ path) dots last what = refl
first_by [] (k ∷ dots) last what = refl
first_by [] [] last what = refl

pub first_bare : (i : Item) → first_of (bare i) ≡ first_of i
first_bare i = first_by i.path i.dots i.last i.what

pub at_first_bare : (k : Text) (is : List Item) → at_first k (map bare is) ≡ map bare (at_first k is)
at_first_bare k [] = refl
at_first_bare k (i ∷ is) =
    elim (cases_Bool (same_key k (first_of i))) [
      | inl same ↦ rw (first_bare i, same, at_first_bare k is)
      | inr other ↦ rw (first_bare i, other, at_first_bare k is)
    ]

map_once : (inner : List Item) (o : Option (List (List Item))) →
    option_map (λ gs. map bare inner ∷ gs) (option_map (map (map bare)) o) ≡ option_map (map (map bare))
    (option_map (λ gs. inner ∷ gs) o)
map_once inner None = refl
map_once inner (Some gs) = refl

pub split_bare : (is : List Item) (s : State) (inner : List Item) →
    split s (map bare inner) (map bare is) ≡ option_map (map (map bare)) (split s inner is)
split_bare [] s inner = refl
split_bare (i ∷ is) s inner =
    elim (cases_option (next s i)) [
      | inl none ↦ rw (next_bare s i, none)
      | inr found ↦
          let (t, is_some) = found in
          elim (cases_Bool (ends i)) [
            | inl last ↦ elim (cases_Bool (is_array i)) [
              | inl array ↦
                  rw (
                    next_bare s i,
                    is_some,
                    last,
                    array_bare i,
                    array,
                    kept_bare i inner,
                    split_bare is t
                        (kept_below i inner),
                  )
                  (map_once inner (split t (kept_below i inner) is))
              | inr other ↦
                  rw (
                    next_bare s i,
                    is_some,
                    last,
                    array_bare i,
                    other,
                    kept_bare i inner,
                    split_bare is t
                        (kept_below i inner),
                  )
            ]
            | inr through ↦
                let pushed : map bare inner ++ bare (below i) ∷ [] ≡ map bare (inner ++ below i ∷ []) =
                sym (map-append bare inner (below i ∷ [])) in
                rw (next_bare s i, is_some, through, below_bare i, pushed, split_bare is t (inner ++ below i ∷ []))
          ]
    ]

all_good_of : (gs : List (List Item)) → AllAreGood (map (map bare) gs) → AllGood gs
all_good_of [] good = tt
all_good_of (g ∷ gs) good = (good.0 g refl, all_good_of gs good.1)

-- where for each first key the states follow each other and those below go together, all do, whatever the values are
pub good_of_keys : (bs : List Item) → ((k : Text) → KeySplits bs k) → AreGood bs
good_of_keys bs each is is_bare =
    good_of_splits is (λ k.
    let (gs, is_split, good) = each k in
    let whole : split Absent [] (map bare (at_first k is)) ≡ Some gs =
    ap (split Absent []) (sym (at_first_bare k is) ∙ ap (at_first k) is_bare) ∙ is_split in
    let mapped : option_map (map (map bare)) (split Absent [] (at_first k is)) ≡ Some gs =
    sym (split_bare (at_first k is) Absent []) ∙ whole in
    elim (cases_option (split Absent [] (at_first k is))) [
      | inl none ↦ absurd (none-some gs (rw none at mapped))
      | inr found ↦
          let (hs, is_hs) = found in
          let same : map (map bare) hs ≡ gs = same_Some _ _ (rw is_hs at mapped) in
          (hs, is_hs, all_good_of hs (subst AllAreGood (sym same) good))
    ])
