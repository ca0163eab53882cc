-- A document with a definition that no plan has is misshapen.
use Rattle.std.proofs.Common.{◌≡◌, ℕ, zero, suc, ℤ, pos, negsuc, ◌==◌, Bool, true, false, ◌||◌, List, [], ◌∷◌}
use Rattle.std.proofs.Common.{map, length, ◌<◌, Some, option_map, refl, sym, ap, subst, ◌∙◌, inl, inr, ◌⊎◌, codes}
use Rattle.std.proofs.Common.{arith}
use Rattle.std.specs.List.{list_any, slice_index_or}
use Rattle.std.specs.Str.{bytes_eq}
use Rattle.std.proofs.lemmas.Bool.{cases_Bool, false≢true}
use Rattle.std.proofs.lemmas.Option.{none-some}
use Rattle.toml.specs.Data.{Data, Members, get_member}
use Rattle.toml.specs.Tables.{Node, Nodes, no_nodes, close, close_node, get_node}
use Rattle.sja_plan_reading.specs.Words.{Text}
use Rattle.sja_plan_reading.specs.Document.{plan_keys, newer_keys, IsMisshapen}
use Rattle.sja_plan_reading.specs.Inside.Items.{Item, apply, run, first_of, step}
use Rattle.sja_plan_reading.specs.Inside.Judging.{below}
use Rattle.sja_plan_reading.specs.Inside.Definitions.{bare, item_of, items_of, AreGood}
use Rattle.sja_plan_reading.specs.Inside.Reading.{IsRead}
use Rattle.sja_plan_reading.specs.Inside.Rooms.{items_in}
use Rattle.sja_plan_reading.specs.Inside.Strange.{all_keys, is_nodes, IsStrangeIn, IsStrangeItem, HasStrange, IsStrange}
use Rattle.sja_plan_reading.specs.Inside.Values.{IsOddPair, HasOddPair}
use Rattle.sja_plan_reading.specs.declared.tables.definition.Definition.{Definition}
use Rattle.sja_plan_reading.specs.declared.tables.room.Room.{Room}
use Rattle.sja_plan_reading.proofs.BareItems.{first_bare, comes_bare, below_bare}
use Rattle.sja_plan_reading.proofs.ByKey.{cases_option}
use Rattle.sja_plan_reading.proofs.ClosedKeys.{close_get, each_known}
use Rattle.sja_plan_reading.proofs.Kept.{apply_makes, run_keeps}
use Rattle.sja_plan_reading.proofs.OddNodes.{Wrong, wrong_stays, wrong_made}
use Rattle.sja_plan_reading.proofs.OddPairs.{pair_made}
use Rattle.sja_plan_reading.proofs.OddPlans.{wrong_misshapen}

-- the keys of a plan of a version are among those of all
or_front : (a b : Bool) → a || b ≡ false → a ≡ false
or_front true b e = absurd (false≢true (sym e))
or_front false b e = refl

or_back : (a b : Bool) → a || b ≡ false → b ≡ false
or_back true b e = absurd (false≢true (sym e))
or_back false b e = e

none_of : (p : Text → Bool) (a b c d e f : Text) (rest : List Text) → list_any p (a ∷ b ∷ c ∷ d ∷ e ∷ f ∷ []) ≡ false →
    (rest ≡ []) ⊎ (rest ≡ f ∷ []) → list_any p (a ∷ b ∷ c ∷ d ∷ e ∷ rest) ≡ false
none_of p a b c d e f rest none which =
    let n0 = or_front (p a) _ none in
    let r0 = or_back (p a) _ none in
    let n1 = or_front (p b) _ r0 in
    let r1 = or_back (p b) _ r0 in
    let n2 = or_front (p c) _ r1 in
    let r2 = or_back (p c) _ r1 in
    let n3 = or_front (p d) _ r2 in
    let r3 = or_back (p d) _ r2 in
    let n4 = or_front (p e) _ r3 in
    let r4 = or_back (p e) _ r3 in
    elim which [
      | inl is ↦ rw (is, n0, n1, n2, n3, n4)
      | inr is ↦ rw (is, n0, n1, n2, n3, n4) r4
    ]

newer_are : (version : ℤ) → (newer_keys version ≡ []) ⊎ (newer_keys version ≡ codes "strikes" ∷ [])
newer_are (pos n) =
    elim (cases_Bool (n == 3)) [
      | inl same ↦ inr (rw same)
      | inr other ↦ inl (rw other)
    ]
newer_are (negsuc n) = inl refl

not_known : (k : Text) → list_any (λ a. bytes_eq a k) all_keys ≡ false → (version : ℤ) →
    list_any (λ a. bytes_eq a k) (plan_keys version) ≡ false
not_known k none version =
    none_of (λ a. bytes_eq a k) (codes "version") (codes "bits") (codes "node") (codes "turns") (codes "faults")
    (codes "strikes")
    (newer_keys version) none (newer_are version)

misshapen : (ms : Members) (k : Text) (d : Data) → get_member k ms ≡ Some d →
    list_any (λ a. bytes_eq a k) all_keys ≡ false →
    IsMisshapen ms
misshapen ms k d is none value shape =
    false≢true (sym (not_known k none value.version) ∙ each_known (plan_keys value.version) ms k d is shape.known)

-- a definition that no plan has
unknown_here : (i : Item) (is : List Item) (ns next end : Nodes) → apply i ns ≡ Some next → run is next ≡ Some end →
    list_any (λ known. bytes_eq known (first_of i)) all_keys ≡ false → IsMisshapen (close end)
unknown_here i is ns next end goes later unknown =
    let k = first_of i in
    let (x, held, _) = run_keeps (λ y. Unit {0}) (λ j y z e u. tt) is next end k later
    (apply_makes (λ y. Unit {0}) i ns next goes (λ y e. tt)) in
    misshapen (close end) k (close_node x) (close_get k end x held) unknown

wrong_here : (i : Item) (is : List Item) (ns next end : Nodes) → apply i ns ≡ Some next → run is next ≡ Some end →
    ((y : Node) → step i (get_node (first_of i) ns) ≡ Some y → Wrong (is_nodes (first_of i)) y) →
    IsMisshapen (close end)
wrong_here i is ns next end goes later makes =
    let k = first_of i in
    let node = is_nodes k in
    let (x, held, wrong) = run_keeps (Wrong node) (wrong_stays node) is next end k later
    (apply_makes (Wrong node) i ns next goes makes) in
    elim (cases_Bool (list_any (λ known. bytes_eq known k) all_keys)) [
      | inl known ↦ wrong_misshapen (close end) k x (close_get k end x held) wrong known
      | inr unknown ↦ misshapen (close end) k (close_node x) (close_get k end x held) unknown
    ]

strange_here : (i : Item) (is : List Item) (ns next end : Nodes) → apply i ns ≡ Some next → run is next ≡ Some end →
    IsStrangeItem i ⊎ IsOddPair i → IsMisshapen (close end)
strange_here i is ns next end goes later (inl (inl unknown)) = unknown_here i is ns next end goes later unknown
strange_here i is ns next end goes later (inl (inr odd)) =
    wrong_here i is ns next end goes later (wrong_made i (get_node (first_of i) ns) odd)
strange_here i is ns next end goes later (inr odd) =
    wrong_here i is ns next end goes later (pair_made i (get_node (first_of i) ns) odd)

run_strange : (is : List Item) (ns end : Nodes) → run is ns ≡ Some end → HasStrange is ⊎ HasOddPair is →
    IsMisshapen (close end)
run_strange [] ns end goes (inl found) = absurd found
run_strange [] ns end goes (inr found) = absurd found
run_strange (i ∷ is) ns end goes found =
    elim (cases_option (apply i ns)) [
      | inl none ↦ absurd (none-some end (rw none at goes))
      | inr made ↦
          let (next, is_next) = made in
          let later = rw is_next at goes in
          elim found [
            | inl (inl here) ↦ strange_here i is ns next end is_next later (inl here)
            | inl (inr behind) ↦ run_strange is next end later (inl behind)
            | inr (inl here) ↦ strange_here i is ns next end is_next later (inr here)
            | inr (inr behind) ↦ run_strange is next end later (inr behind)
          ]
    ]

in_bare : (i : Item) → IsStrangeIn (bare i) → IsStrangeIn i
in_bare i (inl unknown) = inl (rw (first_bare i) at unknown)
in_bare i (inr odd) = inr (rw (comes_bare i) at odd)

one_bare : (i : Item) → IsStrangeItem (bare i) → IsStrangeItem i
one_bare i (inl unknown) = inl (rw (first_bare i) at unknown)
one_bare i (inr (inl odd)) = inr (inl (rw (first_bare i, comes_bare i) at odd))
one_bare i (inr (inr (node, through, strange))) =
    inr (inr (rw (first_bare i) at node, through, in_bare (below i) (rw (below_bare i) at strange)))

strange_bare : (is : List Item) → HasStrange (map bare is) → HasStrange is
strange_bare [] found = found
strange_bare (i ∷ is) (inl here) = inl (one_bare i here)
strange_bare (i ∷ is) (inr later) = inr (strange_bare is later)

-- what was read, with a definition that no plan has, where its definitions go together
pub strange_is : (text : List ℕ) (room : Room) → IsRead text room →
    HasStrange (items_in room) ⊎ (room.odd ≡ true) → AreGood (items_in room) → IsStrange text
strange_is text room (is, same, reads, odd) found good =
    let (ns, goes) = good is same in
    let off : HasStrange is ⊎ HasOddPair is = elim found [
      | inl keys ↦ inl (strange_bare is (subst HasStrange (sym same) keys))
      | inr values ↦ inr (odd values)
    ] in (
      close ns,
      reads ∙ ap (option_map close) goes,
      run_strange is no_nodes ns goes off,
    )

-- a definition that was looked at
pub strange_at : (ts : List Text) (ds : List Definition) (i : ℕ) (d : Definition) → i < length ds →
    IsStrangeItem (item_of ts (slice_index_or ds i d)) → HasStrange (items_of ts ds)
strange_at ts [] i d within here = absurd (omega arith)
strange_at ts (e ∷ ds) zero d within here = inl here
strange_at ts (e ∷ ds) (suc i) d within here = inr (strange_at ts ds i d (omega arith) here)
