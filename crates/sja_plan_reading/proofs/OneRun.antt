-- Definitions of one key, one after another, and a definition alone.
use Rattle.std.proofs.Common.{set}
use Rattle.std.proofs.Common.{◌≡◌, ℕ, ◌<◌, true, false, List, [], ◌∷◌, ◌++◌, map, length, take, drop, ◌+◌, ◌-◌}
use Rattle.std.proofs.Common.{◌≤◌, Option, Some, None, option_map}
use Rattle.std.proofs.Common.{refl, sym, ap, ◌∙◌, arith}
use Rattle.std.proofs.lemmas.List.{append_assoc, drop-drop, drop_at, at_drop_more, take_more_set, map_push}
use Rattle.std.specs.List.{slice_index_or}
use Rattle.std.proofs.lemmas.Bool.{false≢true}
use Rattle.std.proofs.lemmas.Grind.{drop_more_same}
use Rattle.toml.specs.Tables.{Nodes, no_nodes, Edit, Definition, key_value, std_table, array_table, along_header}
use Rattle.toml.specs.Tables.{along_dots, at_key, insert, new_node}
use Rattle.toml.specs.Tables.{open_table, implicit, dotted}
use Rattle.sja_plan_reading.specs.Words.{Text}
use Rattle.sja_plan_reading.specs.Inside.Items.{Item, run}
use Rattle.sja_plan_reading.specs.Inside.Judging.{next, ends, below, is_array, is_double, what_of, fresh, IsGood}
use Rattle.sja_plan_reading.specs.Inside.Judging.{split}
use Rattle.sja_plan_reading.specs.Inside.Definitions.{bare, AreGood, AllAreGood, Splits, item_of, items_of}
use Rattle.sja_plan_reading.specs.declared.tables.definition.Definition as code
use Rattle.sja_plan_reading.specs.declared.tables.state.State.{State}
use Rattle.sja_plan_reading.specs.declared.tables.state.State.TheVariants.{Absent}
use Rattle.sja_plan_reading.proofs.OneKey.{not_fresh}

along_new : (path : List Text) (e : Edit) (n : Nodes) → e no_nodes ≡ Some n →
    (m : Nodes) × (along_header path e no_nodes ≡ Some m)
unfolding along_header
along_new [] e n is = (n, is)
along_new (k ∷ path) e n is = let (m, made) = along_new path e n is in (
  insert k (open_table implicit m) no_nodes,
  rw made,
)

dots_new : (dots : List Text) (e : Edit) (n : Nodes) → e no_nodes ≡ Some n →
    (m : Nodes) × (along_dots dots e no_nodes ≡ Some m)
unfolding along_dots
dots_new [] e n is = (n, is)
dots_new (k ∷ dots) e n is = let (m, made) = dots_new dots e n is in (insert k (open_table dotted m) no_nodes, rw made)

key_new : (k : Text) (what : Definition) → at_key k what no_nodes ≡ Some (insert k (new_node what) no_nodes)
unfolding at_key
key_new k what = refl

-- a definition alone goes through
one_goes : (i : Item) → (m : Nodes) × (run (i ∷ []) no_nodes ≡ Some m)
one_goes i =
    let below = dots_new i.dots (at_key i.last i.what) _ (key_new i.last i.what) in
    let (m, made) = along_new i.path (along_dots i.dots (at_key i.last i.what)) below.0 below.1 in
    (m, rw made)

-- and so do none
few_bare : (is bs : List Item) → map bare is ≡ bs → length bs < 2 → IsGood is
few_bare [] bs same few = (no_nodes, refl)
few_bare (i ∷ []) bs same few = one_goes i
few_bare (i ∷ j ∷ is) bs same few = let long = ap length same in absurd (omega arith)

pub few_good : (bs : List Item) → length bs < 2 → AreGood bs
few_good bs few is same = few_bare is bs same few

-- the definitions of a key up to one, and from it on
abbrev pub SplitsSo : List Item → List (List Item) → State → List Item → List Item → Type 0
SplitsSo all done s inner rest = split Absent [] all ≡ option_map (λ gs. done ++ gs) (split s inner rest)

pub pass_one : (all : List Item) (done : List (List Item)) (s t : State) (inner : List Item) (i : Item)
    (rest : List Item) →
    SplitsSo all done s inner (i ∷ rest) → next s i ≡ Some t → ends i ≡ false →
    SplitsSo all done t (inner ++ below i ∷ []) rest
pass_one all done s t inner i rest so is_next through = so ∙ rw (is_next, through)

pub end_one : (all : List Item) (done : List (List Item)) (s t : State) (inner : List Item) (i : Item)
    (rest : List Item) →
    SplitsSo all done s inner (i ∷ rest) → next s i ≡ Some t → ends i ≡ true → is_array i ≡ false →
    SplitsSo all done t inner rest
end_one all done s t inner i rest so is_next last other = so ∙ rw (is_next, last, other, not_fresh i inner other)

fresh_array : (what : Definition) (inner : List Item) → is_double (what_of what) ≡ true →
    fresh (what_of what) inner ≡ []
fresh_array (key_value d) inner e = absurd (false≢true e)
fresh_array std_table inner e = absurd (false≢true e)
fresh_array array_table inner e = refl

map_again : (done : List (List Item)) (inner : List Item) (o : Option (List (List Item))) →
    option_map (λ gs. done ++ gs) (option_map (λ gs. inner ∷ gs) o) ≡ option_map (λ gs. (done ++ inner ∷ []) ++ gs) o
map_again done inner None = refl
map_again done inner (Some gs) = ap (λ l. Some l) (sym (append_assoc done (inner ∷ []) gs))

pub begin_one : (all : List Item) (done : List (List Item)) (s t : State) (inner : List Item) (i : Item)
    (rest : List Item) →
    SplitsSo all done s inner (i ∷ rest) → next s i ≡ Some t → ends i ≡ true → is_array i ≡ true →
    SplitsSo all (done ++ inner ∷ []) t [] rest
begin_one all done s t inner i rest so is_next last array =
    so ∙ rw (is_next, last, array, fresh_array i.what inner array) (map_again done inner (split t [] rest))

pub good_push : (done : List (List Item)) (inner : List Item) → AllAreGood done → AreGood inner →
    AllAreGood (done ++ inner ∷ [])
good_push [] inner all good = (good, tt)
good_push (g ∷ done) inner all good = (all.0, good_push done inner all.1 good)

-- all are split, with those below the key that came last
pub splits_end : (all : List Item) (done : List (List Item)) (s : State) (inner : List Item) →
    SplitsSo all done s inner [] →
    AllAreGood done → AreGood inner → Splits all
splits_end all done s inner so good last = (done ++ inner ∷ [], so, good_push done inner good last)

-- the next of a run, of which those from a place on are as they were at first
pub tail_step : (run first : List code.Definition) (at : ℕ) → drop at run ≡ drop at first →
    drop (at + 1) run ≡ drop (at + 1) first
tail_step run first at rest = drop_more_same run first at rest

pub run_next : (ts : List Text) (run first : List code.Definition) (at : ℕ) (d : code.Definition) → at < length run →
    drop at run ≡ drop at first →
    items_of ts (drop at first) ≡ item_of ts (slice_index_or run at d) ∷ items_of ts (drop (at + 1) first)
run_next ts run first at d within rest =
    ap (items_of ts) (sym rest) ∙ at_drop_more (items_of ts) run at d within
    ∙ ap (λ ds. item_of ts (slice_index_or run at d) ∷ items_of ts ds) (tail_step run first at rest)

-- those below the key, with one more
pub kept_push : (ts : List Text) (run : List code.Definition) (kept : ℕ) (x : code.Definition) (b : Item) →
    kept < length run →
    item_of ts x ≡ b → items_of ts (take (kept + 1) (set run kept x)) ≡ items_of ts (take kept run) ++ b ∷ []
kept_push ts run kept x b within is =
    ap (items_of ts) (take_more_set run kept x within) ∙ map_push (item_of ts) (take kept run) x
    ∙ ap (λ i. items_of ts (take kept run) ++ i ∷ []) is

-- behind others in place of the first
pub behind_new : (new run : List code.Definition) (kept n : ℕ) → length new ≡ kept → kept ≤ n → kept ≤ length run →
    drop n (new ++ drop kept run) ≡ drop n run
behind_new new run kept n long within fits =
    let m = n - kept in
    let n_is : n ≡ kept + m = omega arith in
    ap (λ k. drop k (new ++ drop kept run)) n_is ∙ sym (drop-drop m kept (new ++ drop kept run))
    ∙ ap (drop m) (drop_at new (drop kept run) kept long) ∙ drop-drop m kept run ∙ ap (λ k. drop k run) (sym n_is)
