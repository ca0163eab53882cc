-- Where the definitions of one key don't go together, none do.
use Rattle.std.proofs.Common.{◌≡◌, ℕ, ◌+◌, List, [], ◌∷◌, ◌++◌, map, length, take, drop, Option, Some, None, nat_cmp}
use Rattle.std.proofs.Common.{refl, sym, ap, subst, ◌∙◌, inl, inr, arith}
use Rattle.std.specs.Ordering.{is_lt}
use Rattle.std.specs.Cmp.Lexicographic.{slice_cmp}
use Rattle.std.specs.List.{slice_index_or}
use Rattle.std.proofs.lemmas.List.{map-append, take-append-drop}
use Rattle.std.proofs.lemmas.Option.{none-some, same_Some}
use Rattle.toml.specs.Data.{same_key}
use Rattle.toml.specs.Tables.{Node, no_nodes}
use Rattle.sja_plan_reading.specs.Words.{Text}
use Rattle.sja_plan_reading.specs.Inside.Items.{Item, at_first, step, steps}
use Rattle.sja_plan_reading.specs.Inside.Judging.{split}
use Rattle.sja_plan_reading.specs.Inside.Definitions.{bare, item_of, items_of, FirstsAre, AreBad, HasBad, SplitsBad}
use Rattle.sja_plan_reading.specs.declared.tables.definition.Definition as code
use Rattle.sja_plan_reading.specs.declared.tables.state.State.{State}
use Rattle.sja_plan_reading.specs.declared.tables.state.State.TheVariants.{Absent}
use Rattle.sja_plan_reading.proofs.BareItems.{at_first_bare, split_bare}
use Rattle.sja_plan_reading.proofs.ByKey.{cases_option, each_goes}
use Rattle.sja_plan_reading.proofs.Judged.{front_of_run}
use Rattle.sja_plan_reading.proofs.OneKey.{AllGood, split_of}
use Rattle.sja_plan_reading.proofs.OneRun.{SplitsSo}

steps_front : (a b : List Item) (o e : Option Node) → steps (a ++ b) o ≡ Some e →
    (m : Option Node) × (steps a o ≡ Some m)
steps_front [] b o e goes = (o, refl)
steps_front (i ∷ a) b o e goes =
    elim (cases_option (step i o)) [
      | inl none ↦ absurd (none-some e (rw none at goes))
      | inr found ↦
          let more = steps_front a b (Some found.0) e (rw found.1 at goes) in
          (more.0, rw found.1 more.1)
    ]

not_good : (gs : List (List Item)) → HasBad (map (map bare) gs) → AllGood gs → ⊥
not_good [] bad good = bad
not_good (g ∷ gs) (inl here) good = here g refl good.0
not_good (g ∷ gs) (inr later) good = not_good gs later good.1

-- the front of definitions, whose front without values is this
record Front (is a : List Item) : Type 0 where
  js : List Item
  ls : List Item
  whole : is ≡ js ++ ls
  same : map bare js ≡ a

front_bare : (is a b : List Item) → map bare is ≡ a ++ b → Front is a
front_bare is [] b same = record { js = []; ls = is; whole = refl; same = refl }
front_bare [] (x ∷ a) b same = let long = ap length same in absurd (omega arith)
front_bare (i ∷ is) (x ∷ a) b same =
    let more = front_bare is a b (ap (drop 1) same) in
    let here : bare i ≡ x = ap (λ l. slice_index_or l 0 x) same in
    record {
      js = i ∷ more.js;
      ls = more.ls;
      whole = ap (λ l. i ∷ l) more.whole;
      same = ap (λ y. y ∷ map bare more.js) here ∙ ap (λ l. x ∷ l) more.same;
    }

-- where those of a key begin with some that don't follow each other, or don't go together below, none go together
pub key_refused : (bs run rest : List Item) (k : Text) → at_first k bs ≡ run ++ rest → SplitsBad run → AreBad bs
key_refused bs run rest k front bad is is_bare good =
    let goes = each_goes is no_nodes good.0 good.1 k in
    let whole : map bare (at_first k is) ≡ run ++ rest =
    sym (at_first_bare k is) ∙ ap (at_first k) is_bare ∙ front in
    let f = front_bare (at_first k is) run rest whole in
    let stepped = steps_front f.js f.ls None goes.0 (rw f.whole at goes.1) in
    let (gs, is_split, all) = split_of f.js Absent [] None stepped.0 (refl, refl) stepped.1 in
    let bare_split : split Absent [] run ≡ Some (map (map bare) gs) =
    ap (split Absent []) (sym f.same) ∙ split_bare f.js Absent [] ∙ rw is_split in
    not_good gs (bad (map (map bare) gs) bare_split) all

-- the run of a key in what is sorted
pub run_refused : (ts : List Text) (ds ys : List code.Definition) (at n : ℕ) (f : Text) →
    at_first f (items_of ts ys) ≡ at_first f (items_of ts ds) →
    FirstsAre (λ t. is_lt (slice_cmp nat_cmp t f)) (items_of ts (take at ys)) →
    FirstsAre (same_key f) (items_of ts (take n (drop at ys))) → SplitsBad (items_of ts (take n (drop at ys))) →
    AreBad (items_of ts ds)
run_refused ts ds ys at n f stable before same bad =
    let parts : items_of ts ys ≡ items_of ts (take at ys) ++ (items_of ts (take n (drop at ys))
    ++ items_of ts (drop n (drop at ys))) =
    ap (items_of ts) (sym (take-append-drop at ys)) ∙ map-append (item_of ts) (take at ys) (drop at ys)
    ∙ ap (λ l. items_of ts (take at ys) ++ l) (ap (items_of ts) (sym (take-append-drop n (drop at ys)))
    ∙ map-append (item_of ts) (take n (drop at ys)) (drop n (drop at ys))) in
    let rest = items_of ts (drop n (drop at ys)) in
    key_refused (items_of ts ds) (items_of ts (take n (drop at ys))) (at_first f rest) f
    (sym stable ∙ ap (at_first f) parts
    ∙ front_of_run (items_of ts (take at ys)) (items_of ts (take n (drop at ys))) rest f before same) bad

has_bad_at : (done : List (List Item)) (inner : List Item) (gs : List (List Item)) → AreBad inner →
    HasBad ((done ++ inner ∷ []) ++ gs)
has_bad_at [] inner gs bad = inl bad
has_bad_at (g ∷ done) inner gs bad = inr (has_bad_at done inner gs bad)

-- those below that don't go together
pub below_refused : (all : List Item) (done : List (List Item)) (s : State) (inner rest inner_next : List Item) →
    SplitsSo all (done ++ inner ∷ []) s inner_next rest → AreBad inner → SplitsBad all
below_refused all done s inner rest inner_next so bad gs is_split =
    elim (cases_option (split s inner_next rest)) [
      | inl none ↦
          let refused : split Absent [] all ≡ None = so ∙ rw none in
          absurd (none-some gs (sym refused ∙ is_split))
      | inr found ↦
          let whole : split Absent [] all ≡ Some ((done ++ inner ∷ []) ++ found.0) = so ∙ rw found.1 in
          subst HasBad (same_Some _ _ (sym whole ∙ is_split)) (has_bad_at done inner found.0 bad)
    ]

last_bad : (done : List (List Item)) (inner : List Item) → AreBad inner → HasBad (done ++ inner ∷ [])
last_bad [] inner bad = inl bad
last_bad (g ∷ done) inner bad = inr (last_bad done inner bad)

pub last_refused : (all : List Item) (done : List (List Item)) (s : State) (inner : List Item) →
    SplitsSo all done s inner [] → AreBad inner → SplitsBad all
last_refused all done s inner so bad gs is_split =
    subst HasBad (same_Some (done ++ inner ∷ []) gs (sym so ∙ is_split)) (last_bad done inner bad)
