-- Those of one key go through where the states follow each other and those below go together.
use Rattle.std.proofs.Common.{◌≡◌, true, false, List, [], ◌∷◌, ◌++◌, Option, Some, None, option_map}
use Rattle.std.proofs.Common.{option_and_then, refl, sym, ap, ◌∙◌, inl, inr}
use Rattle.std.proofs.lemmas.Bool.{cases_Bool, false≢true}
use Rattle.std.proofs.lemmas.Option.{none-some, same_Some}
use Rattle.toml.specs.Data.{no_items, push_item, table}
use Rattle.toml.specs.Tables.{Node, Nodes, no_nodes, open_table, open_array, value, implicit, dotted, header, close}
use Rattle.toml.specs.Tables.{Definition, key_value, std_table, array_table, along_header}
use Rattle.sja_plan_reading.specs.Words.{Text}
use Rattle.sja_plan_reading.specs.Inside.Items.{Item, apply, run, step, steps}
use Rattle.sja_plan_reading.specs.Inside.Judging.{next, ends, below, Holds, kept_below, is_array, is_double, what_of}
use Rattle.sja_plan_reading.specs.Inside.Judging.{fresh}
use Rattle.sja_plan_reading.specs.Inside.Judging.{IsGood, split}
use Rattle.sja_plan_reading.proofs.ByKey.{cases_option}
use Rattle.sja_plan_reading.proofs.RefusedItems.{refused}
use Rattle.sja_plan_reading.specs.declared.tables.state.State.{State}
use Rattle.sja_plan_reading.specs.declared.tables.state.State.TheVariants.{Absent, Value, Implicit, Dotted, Header}
use Rattle.sja_plan_reading.specs.declared.tables.state.State.TheVariants.{Array}

behind_all : (o : Option Nodes) → option_and_then (λ x. Some x) o ≡ o
behind_all None = refl
behind_all (Some x) = refl

more_step : (is : List Item) (j : Item) (o : Option Nodes) →
    ((x : Nodes) → run (is ++ j ∷ []) x ≡ option_and_then (apply j) (run is x)) →
    option_and_then (run (is ++ j ∷ [])) o ≡ option_and_then (apply j) (option_and_then (run is) o)
more_step is j None later = refl
more_step is j (Some x) later = later x

-- one more behind others
pub run_more : (is : List Item) (j : Item) (ns : Nodes) → run (is ++ j ∷ []) ns ≡ option_and_then (apply j) (run is ns)
run_more [] j ns = behind_all (apply j ns)
run_more (i ∷ is) j ns = more_step is j (apply i ns) (λ x. run_more is j x)

-- one that ends at the key makes of it what the state says
abbrev pub Makes : Item → State → List Item → Option Node → Type 0
Makes i t inner o = (x : Node) × (step i o ≡ Some x) × Holds t inner (Some x)

ended_by : (last : Text) (what : Definition) (s t : State) (inner : List Item) (o : Option Node) →
    let i : Item = record { path = []; dots = []; last = last; what = what } in
    Holds s inner o → next s i ≡ Some t → Makes i t (kept_below i inner) o
ended_by last (key_value d) Absent t inner o h is = rw (← same_Some _ _ is) (value d, rw h.1, (h.0, d, refl))
ended_by last (key_value d) Value t inner o h is = absurd (none-some _ is)
ended_by last (key_value d) Implicit t inner o h is = absurd (none-some _ is)
ended_by last (key_value d) Dotted t inner o h is = absurd (none-some _ is)
ended_by last (key_value d) Header t inner o h is = absurd (none-some _ is)
ended_by last (key_value d) Array t inner o h is = absurd (none-some _ is)
ended_by last std_table Absent t inner o h is =
    rw (← same_Some _ _ is) (open_table header no_nodes, rw h.1, (no_nodes, rw h.0, refl))
ended_by last std_table Value t inner o h is = absurd (none-some _ is)
ended_by last std_table Implicit t inner o h is =
    rw (← same_Some _ _ is) (open_table header h.0, rw h.2, (h.0, h.1, refl))
ended_by last std_table Dotted t inner o h is = absurd (none-some _ is)
ended_by last std_table Header t inner o h is = absurd (none-some _ is)
ended_by last std_table Array t inner o h is = absurd (none-some _ is)
ended_by last array_table Absent t inner o h is =
    rw (← same_Some _ _ is) (open_array no_items no_nodes, rw h.1, (no_items, no_nodes, refl, refl))
ended_by last array_table Value t inner o h is = absurd (none-some _ is)
ended_by last array_table Implicit t inner o h is = absurd (none-some _ is)
ended_by last array_table Dotted t inner o h is = absurd (none-some _ is)
ended_by last array_table Header t inner o h is = absurd (none-some _ is)
ended_by last array_table Array t inner o h is =
    let items = push_item h.0 (table (close h.1)) in
    rw (← same_Some _ _ is) (open_array items no_nodes, rw h.3, (items, no_nodes, refl, refl))

ended_at : (path dots : List Text) (last : Text) (what : Definition) (s t : State) (inner : List Item)
    (o : Option Node) → let i : Item = record { path = path; dots = dots; last = last; what = what } in
    ends i ≡ true → Holds s inner o → next s i ≡ Some t → Makes i t (kept_below i inner) o
ended_at (k ∷ path) dots last what s t inner o e h is = absurd (false≢true e)
ended_at [] (k ∷ dots) last what s t inner o e h is = absurd (false≢true e)
ended_at [] [] last what s t inner o e h is = ended_by last what s t inner o h is

-- those below and one more, where those below made these nodes
last_is : (inner : List Item) (ns : Nodes) (j : Item) → run inner no_nodes ≡ Some ns →
    run (inner ++ j ∷ []) no_nodes ≡ apply j ns
last_is inner ns j is = run_more inner j no_nodes ∙ ap (option_and_then (apply j)) is

none_is : (inner : List Item) (j : Item) → inner ≡ [] → run (inner ++ j ∷ []) no_nodes ≡ apply j no_nodes
none_is inner j is = rw is (behind_all (apply j no_nodes))

-- one that passes through makes of it a table of what those below make with it
abbrev pub Passes : Item → State → List Item → Option Node → Type 0
Passes i t inner o =
    (w : Nodes → Node) × (step i o ≡ option_map w (run (inner ++ below i ∷ []) no_nodes))
    × ((new : Nodes) → run (inner ++ below i ∷ []) no_nodes ≡ Some new →
    Holds t (inner ++ below i ∷ []) (Some (w new)))

passed_at : (path dots : List Text) (last : Text) (what : Definition) (s t : State) (inner : List Item)
    (o : Option Node) → let i : Item = record { path = path; dots = dots; last = last; what = what } in
    ends i ≡ false → Holds s inner o → next s i ≡ Some t → Passes i t inner o
unfolding along_header
passed_at (k ∷ path) dots last what Absent t inner o e h is =
    rw (← same_Some _ _ is) (open_table implicit, rw (h.1, none_is inner _ h.0), λ new made. (new, made, refl))
passed_at (k ∷ path) dots last what Value t inner o e h is = absurd (none-some _ is)
passed_at (k ∷ path) dots last what Implicit t inner o e h is =
    rw (← same_Some _ _ is) (open_table implicit, rw (h.2, last_is inner h.0 _ h.1), λ new made. (new, made, refl))
passed_at (k ∷ path) dots last what Dotted t inner o e h is =
    rw (← same_Some _ _ is) (open_table dotted, rw (h.2, last_is inner h.0 _ h.1), λ new made. (new, made, refl))
passed_at (k ∷ path) dots last what Header t inner o e h is =
    rw (← same_Some _ _ is) (open_table header, rw (h.2, last_is inner h.0 _ h.1), λ new made. (new, made, refl))
passed_at (k ∷ path) dots last what Array t inner o e h is =
    rw (← same_Some _ _ is)
    (open_array h.0, rw (h.3, last_is inner h.1 _ h.2), λ new made. (h.0, new, made, refl))
passed_at [] (k ∷ dots) last what Absent t inner o e h is =
    rw (← same_Some _ _ is) (open_table dotted, rw (h.1, none_is inner _ h.0), λ new made. (new, made, refl))
passed_at [] (k ∷ dots) last what Value t inner o e h is = absurd (none-some _ is)
passed_at [] (k ∷ dots) last what Implicit t inner o e h is =
    rw (← same_Some _ _ is) (open_table dotted, rw (h.2, last_is inner h.0 _ h.1), λ new made. (new, made, refl))
passed_at [] (k ∷ dots) last what Dotted t inner o e h is =
    rw (← same_Some _ _ is) (open_table dotted, rw (h.2, last_is inner h.0 _ h.1), λ new made. (new, made, refl))
passed_at [] (k ∷ dots) last what Header t inner o e h is = absurd (none-some _ is)
passed_at [] (k ∷ dots) last what Array t inner o e h is = absurd (none-some _ is)
passed_at [] [] last what s t inner o e h is = absurd (false≢true (sym e))

-- what a key holds, those below made
good_below : (s : State) (inner : List Item) (o : Option Node) → Holds s inner o → IsGood inner
good_below Absent inner o h = (no_nodes, rw h.0)
good_below Value inner o h = (no_nodes, rw h.0)
good_below Implicit inner o h = (h.0, h.1)
good_below Dotted inner o h = (h.0, h.1)
good_below Header inner o h = (h.0, h.1)
good_below Array inner o h = (h.1, h.2)

-- of those that go together the first do
good_front : (inner : List Item) (j : Item) → IsGood (inner ++ j ∷ []) → IsGood inner
good_front inner j good =
    elim (cases_option (run inner no_nodes)) [
      | inl none ↦
          absurd (none-some good.0 (sym (run_more inner j no_nodes ∙ ap (option_and_then (apply j)) none) ∙ good.1))
      | inr found ↦ found
    ]

-- all these go together, each for itself
abbrev pub AllGood : List (List Item) → Type 0
AllGood [] = Unit {0}
AllGood (g ∷ gs) = IsGood g × AllGood gs

-- where those of a key go through, the states follow each other, and those below go together
pub split_of : (is : List Item) (s : State) (inner : List Item) (o e : Option Node) → Holds s inner o →
    steps is o ≡ Some e → (gs : List (List Item)) × (split s inner is ≡ Some gs) × AllGood gs
split_of [] s inner o e h goes = (inner ∷ [], refl, (good_below s inner o h, tt))
split_of (i ∷ is) s inner o e h goes =
    elim (cases_option (next s i)) [
      | inl none ↦ absurd (none-some e (rw (refused i s inner o h none) at goes))
      | inr found ↦
          let (t, is_some) = found in
          elim (cases_Bool (ends i)) [
            | inl last ↦
                let made = ended_at i.path i.dots i.last i.what s t inner o last h is_some in
                let more = split_of is t (kept_below i inner) (Some made.0) e made.2 (rw made.1 at goes) in
                elim (cases_Bool (is_array i)) [
                  | inl array ↦ (
                    inner ∷ more.0,
                    rw (is_some, last, array, more.1),
                    (good_below s inner o h, more.2),
                  )
                  | inr other ↦ (more.0, rw (is_some, last, other, more.1), more.2)
                ]
            | inr through ↦
                let (w, stepped, holds) = passed_at i.path i.dots i.last i.what s t inner o through h is_some in
                elim (cases_option (run (inner ++ below i ∷ []) no_nodes)) [
                  | inl none ↦ absurd (none-some e (rw (stepped, none) at goes))
                  | inr made ↦
                      let (new, is_new) = made in
                      let more = split_of is t (inner ++ below i ∷ []) (Some (w new)) e (holds new is_new)
                      (rw (stepped, is_new) at goes) in
                      (more.0, rw (is_some, through, more.1), more.2)
                ]
          ]
    ]

pub not_fresh : (i : Item) (inner : List Item) → is_array i ≡ false → kept_below i inner ≡ inner
not_fresh i inner other = by_what i.what other
  where
    by_what : (what : Definition) → is_double (what_of what) ≡ false → fresh (what_of what) inner ≡ inner
    by_what (key_value d) e = refl
    by_what std_table e = refl
    by_what array_table e = absurd (false≢true (sym e))

-- where the states follow each other, and those of the first list to come go together, so do those below so far
first_good : (is : List Item) (s : State) (inner : List Item) (gs : List (List Item)) → split s inner is ≡ Some gs →
    AllGood gs → IsGood inner
first_good [] s inner gs is_split good = (rw (← same_Some _ _ is_split) at good).0
first_good (i ∷ is) s inner gs is_split good =
    elim (cases_option (next s i)) [
      | inl none ↦ absurd (none-some gs (rw none at is_split))
      | inr found ↦
          let (t, is_some) = found in
          elim (cases_Bool (ends i)) [
            | inl last ↦ elim (cases_Bool (is_array i)) [
              | inl array ↦ elim (cases_option (split t (kept_below i inner) is)) [
                | inl none ↦ absurd (none-some gs (rw (is_some, last, array, none) at is_split))
                | inr more ↦
                    (rw (← same_Some (inner ∷ more.0) gs (rw (is_some, last, array, more.1) at is_split)) at good).0
              ]
              | inr other ↦
                  let kept : kept_below i inner ≡ inner = not_fresh i inner other in
                  first_good is t inner gs (rw (is_some, last, other, kept) at is_split) good
            ]
            | inr through ↦
                good_front inner (below i)
                (first_good is t (inner ++ below i ∷ []) gs (rw (is_some, through) at is_split) good)
          ]
    ]

-- where the states follow each other, and those below go together, those of a key go through
pub goes_of : (is : List Item) (s : State) (inner : List Item) (o : Option Node) (gs : List (List Item)) →
    Holds s inner o → split s inner is ≡ Some gs → AllGood gs → (e : Option Node) × (steps is o ≡ Some e)
goes_of [] s inner o gs h is_split good = (o, refl)
goes_of (i ∷ is) s inner o gs h is_split good =
    elim (cases_option (next s i)) [
      | inl none ↦ absurd (none-some gs (rw none at is_split))
      | inr found ↦
          let (t, is_some) = found in
          elim (cases_Bool (ends i)) [
            | inl last ↦
                let made = ended_at i.path i.dots i.last i.what s t inner o last h is_some in
                elim (cases_Bool (is_array i)) [
                  | inl array ↦ elim (cases_option (split t (kept_below i inner) is)) [
                    | inl none ↦ absurd (none-some gs (rw (is_some, last, array, none) at is_split))
                    | inr more ↦
                        let all = (rw (← same_Some (inner ∷ more.0) gs (rw (is_some, last, array, more.1) at is_split))
                        at good).1 in
                        let later = goes_of is t (kept_below i inner) (Some made.0) more.0 made.2 more.1 all in
                        (later.0, rw made.1 later.1)
                  ]
                  | inr other ↦
                      let later = goes_of is t (kept_below i inner) (Some made.0) gs made.2
                      (rw (is_some, last, other) at is_split) good in
                      (later.0, rw made.1 later.1)
                ]
            | inr through ↦
                let (w, stepped, holds) = passed_at i.path i.dots i.last i.what s t inner o through h is_some in
                let rest = rw (is_some, through) at is_split in
                let new = first_good is t (inner ++ below i ∷ []) gs rest good in
                let later = goes_of is t (inner ++ below i ∷ []) (Some (w new.0)) gs (holds new.0 new.1) rest good in
                (later.0, rw (stepped, new.1) later.1)
          ]
    ]
