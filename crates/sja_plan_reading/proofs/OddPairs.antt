-- What a pair with a value that no plan has there makes of its key.
use Rattle.std.proofs.Common.{◌≡◌, true, false, List, [], ◌∷◌, ◌++◌, Option, Some, None, sym, subst, inl, inr, ◌⊎◌}
use Rattle.std.proofs.lemmas.Bool.{false≢true}
use Rattle.std.proofs.lemmas.Option.{none-some, same_Some}
use Rattle.toml.specs.Data.{Data}
use Rattle.toml.specs.Tables.{Node, Nodes, value, open_table, open_array, implicit, dotted, header, key_value}
use Rattle.toml.specs.Tables.{get_node}
use Rattle.sja_plan_reading.specs.Words.{Text}
use Rattle.sja_plan_reading.specs.Inside.Items.{Item, first_of, apply, step}
use Rattle.sja_plan_reading.specs.Inside.Judging.{ends, below}
use Rattle.sja_plan_reading.specs.Inside.Strange.{is_nodes}
use Rattle.sja_plan_reading.specs.Inside.Values.{IsOddValue, IsOddAt, IsOddPair, HasOddPair}
use Rattle.sja_plan_reading.proofs.Kept.{apply_makes}
use Rattle.sja_plan_reading.proofs.OddKeys.{Odd, made}
use Rattle.sja_plan_reading.proofs.OddNodes.{OddNode, Wrong, in_holds}

-- at its own key the value stands
value_by : (last : Text) (d : Data) (o : Option Node) (y : Node) →
    let i : Item = record { path = []; dots = []; last = last; what = key_value d } in
    step i o ≡ Some y → value d ≡ y
value_by last d None y goes = same_Some _ y goes
value_by last d (Some (value e)) y goes = absurd (none-some y goes)
value_by last d (Some (open_table header ns)) y goes = absurd (none-some y goes)
value_by last d (Some (open_table implicit ns)) y goes = absurd (none-some y goes)
value_by last d (Some (open_table dotted ns)) y goes = absurd (none-some y goes)
value_by last d (Some (open_array done ns)) y goes = absurd (none-some y goes)

ends_by : (path dots : List Text) (last : Text) (d : Data) (o : Option Node) (y : Node) →
    let i : Item = record { path = path; dots = dots; last = last; what = key_value d } in
    ends i ≡ true → step i o ≡ Some y → value d ≡ y
ends_by (k ∷ path) dots last d o y over goes = absurd (false≢true over)
ends_by [] (k ∷ dots) last d o y over goes = absurd (false≢true over)
ends_by [] [] last d o y over goes = value_by last d o y goes

-- and in a node's table
node_by : (path dots : List Text) (last : Text) (d : Data) (o : Option Node) (y : Node) →
    let i : Item = record { path = path; dots = dots; last = last; what = key_value d } in
    ends i ≡ false → ends (below i) ≡ true → IsOddValue d → step i o ≡ Some y → OddNode y
node_by (k ∷ path) dots last d None y through over odd goes = rw (← (made (open_table implicit) _ y goes).2) tt
node_by (k ∷ path) dots last d (Some (value e)) y through over odd goes = absurd (none-some y goes)
node_by (k ∷ path) dots last d (Some (open_table origin ns)) y through over odd goes =
    rw (← (made (open_table origin) _ y goes).2) tt
node_by (k ∷ path) dots last d (Some (open_array done ns)) y through over odd goes =
    let (end, inner, is) = made (open_array done) _ y goes in
    let i : Item = record { path = path; dots = dots; last = last; what = key_value d } in
    rw (← is) (inr (in_holds (first_of i) end (apply_makes Odd i ns end inner
    (λ z e. rw (← ends_by path dots last d (get_node (first_of i) ns) z over e) odd))))
node_by [] (k ∷ dots) last d None y through over odd goes = rw (← (made (open_table dotted) _ y goes).2) tt
node_by [] (k ∷ dots) last d (Some (value e)) y through over odd goes = absurd (none-some y goes)
node_by [] (k ∷ dots) last d (Some (open_table header ns)) y through over odd goes = absurd (none-some y goes)
node_by [] (k ∷ dots) last d (Some (open_table implicit ns)) y through over odd goes =
    rw (← (made (open_table dotted) _ y goes).2) tt
node_by [] (k ∷ dots) last d (Some (open_table dotted ns)) y through over odd goes =
    rw (← (made (open_table dotted) _ y goes).2) tt
node_by [] (k ∷ dots) last d (Some (open_array done ns)) y through over odd goes = absurd (none-some y goes)
node_by [] [] last d o y through over odd goes = absurd (false≢true (sym through))

pub pair_made : (i : Item) (o : Option Node) → IsOddPair i → (y : Node) → step i o ≡ Some y →
    Wrong (is_nodes (first_of i)) y
pair_made i o (d, what_is, place) y goes =
    let stepped = subst (λ w. step (record { path = i.path; dots = i.dots; last = i.last; what = w }) o ≡ Some y)
    what_is goes in
    elim place [
      | inl (inl (over, other), odd) ↦ rw (other, ← ends_by i.path i.dots i.last d o y over stepped) odd
      | inr ((over, node), none) ↦ rw (node, ← ends_by i.path i.dots i.last d o y over stepped) none
      | inl (inr (through, node, over), odd) ↦
          let over_below = subst (λ w. ends (below (record {
            path = i.path;
            dots = i.dots;
            last = i.last;
            what = w;
          })) ≡ true) what_is over in
          rw node (node_by i.path i.dots i.last d o y through over_below odd stepped)
    ]

-- where a pair stands doesn't hang on its value
pub odd_by : (path dots : List Text) (last : Text) (d e x : Data) →
    IsOddAt (record { path = path; dots = dots; last = last; what = key_value d }) x →
    IsOddAt (record { path = path; dots = dots; last = last; what = key_value e }) x
odd_by (k ∷ path) dots last d e x h = h
odd_by [] (k ∷ dots) last d e x h = h
odd_by [] [] last d e x h = h

-- one more, or one among those that were there
pub odd_more : (is : List Item) (i : Item) → HasOddPair is ⊎ IsOddPair i → HasOddPair (is ++ i ∷ [])
odd_more [] i (inl none) = absurd none
odd_more [] i (inr here) = inl here
odd_more (j ∷ is) i (inl (inl here)) = inl here
odd_more (j ∷ is) i (inl (inr later)) = inr (odd_more is i (inl later))
odd_more (j ∷ is) i (inr last) = inr (odd_more is i (inr last))
