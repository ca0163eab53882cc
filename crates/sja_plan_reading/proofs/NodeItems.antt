-- A list of which one item is no table of a node is no list of nodes.
use Rattle.std.proofs.Common.{◌≡◌, ℕ, zero, suc, ◌-◌, ◌<◌, ◌==◌, true, false, List, [], ◌∷◌, Some, None, drop}
use Rattle.std.proofs.Common.{length}
use Rattle.std.proofs.Common.{refl, sym, ap, subst, ◌∙◌, inl, inr, arith}
use Rattle.std.proofs.lemmas.Bool.{cases_Bool, false≢true}
use Rattle.std.proofs.lemmas.Bool.Decides.{nat_tests}
use Rattle.std.proofs.lemmas.Option.{none-some, same_Some}
use Rattle.toml_parser.specs.Lexical.{Read, first, skip_blank}
use Rattle.toml_parser.specs.Numbers.{unquoted}
use Rattle.toml_parser.specs.declared.scalar.Scalar.{Scalar}
use Rattle.toml_parser.specs.declared.scalar.Scalar.TheVariants.{Boolean, Integer, Float, Datetime}
use Rattle.toml_parser.specs.Strings.{Key, recursion_limit, starts_string, quoted}
use Rattle.toml.specs.Data.{Data, string, array, table, Items, no_items, Members, push_item, as_table, as_array}
use Rattle.toml.specs.Tables.{Nodes, no_nodes}
use Rattle.toml.specs.Parse.{val, items, members, keyval, key_equals, after_element, atom, scalar_data}
use Rattle.toml.proofs.Turns.{items_more, items_bad, items_bad_end, members_end, members_more, members_bad}
use Rattle.toml.proofs.Turns.{members_bad_put, members_bad_end, keyval_ok, keyval_no_value, val_atom, val_open_array}
use Rattle.toml.proofs.Turns.{val_open_table}
use Rattle.sja_plan_reading.specs.Document.{all_of, node_of, nodes_in}
use Rattle.sja_plan_reading.specs.Inside.Items.{apply}
use Rattle.sja_plan_reading.specs.Inside.Rooms.{pair_item}
use Rattle.sja_plan_reading.specs.Inside.Strange.{IsStrangeIn}
use Rattle.sja_plan_reading.specs.Inside.Values.{Begins}
use Rattle.sja_plan_reading.proofs.ByKey.{cases_option}
use Rattle.sja_plan_reading.proofs.FlatValues.{read_made, items_refused, less_one}
use Rattle.sja_plan_reading.proofs.Lists.{last_refused}
use Rattle.sja_plan_reading.proofs.OddNodes.{OddIn, in_keeps, in_makes, table_refused}
use Rattle.sja_plan_reading.proofs.ReadMembers.{put_is}

-- an item that is no node
abbrev pub IsNone : List ℕ → Type 0
IsNone text = (d : Data) (rest : List ℕ) → val (recursion_limit - 1) text ≡ Some (d, rest) → node_of d ≡ None

module _ (val : List ℕ → Read Data) where
  -- of a list it refuses all
  item_refused : (m : ℕ) (found : Items) (text : List ℕ) (ds : Items) (rest : List ℕ) → 0 < m →
      (first (skip_blank text) == 93) ≡ false → items val m found text ≡ Some (ds, rest) →
      ((d : Data) (after : List ℕ) → val (skip_blank text) ≡ Some (d, after) → node_of d ≡ None) →
      all_of node_of ds ≡ None
  item_refused m found text ds rest some other goes none =
      elim (cases_option (val (skip_blank text))) [
        | inl bad ↦ absurd (none-some (ds, rest) (sym (items_bad val m found text some other bad) ∙ goes))
        | inr ((d, after), read) ↦ elim (cases_option (after_element 93 after)) [
          | inl bad ↦
              absurd (none-some (ds, rest) (sym (items_bad_end val m found text d after some other read bad) ∙ goes))
          | inr (next, ends) ↦
              items_refused node_of val (m - 1) (push_item found d) next ds rest
              (sym (items_more val m found text d after next some other read ends) ∙ goes)
              (last_refused node_of found d (none d after read))
        ]
      ]

  -- a table that no node has is none behind more pairs
  members_refused : (m : ℕ) (found : Nodes) (text : List ℕ) (ms : Members) (rest : List ℕ) →
      members val m found text ≡ Some (ms, rest) → OddIn found → node_of (table ms) ≡ None
  unfolding members
  members_refused zero found text ms rest goes odd = absurd (none-some (ms, rest) goes)
  members_refused (suc n) found text ms rest goes odd =
      elim (cases_Bool (first (skip_blank text) == 125)) [
        | inl closing ↦
            let same = same_Some _ _ (sym (members_end val (suc n) found text (omega arith) closing) ∙ goes) in
            rw (← ap (λ p. p.0) same) (table_refused found odd)
        | inr other ↦ elim (cases_option (keyval val (skip_blank text))) [
          | inl bad ↦
              absurd (none-some (ms, rest) (sym (members_bad val (suc n) found text (omega arith) other bad) ∙ goes))
          | inr (((k, d), after), read) ↦ elim (cases_option (apply (pair_item [] k d) found)) [
            | inl bad ↦
                absurd (none-some (ms, rest) (sym (members_bad_put val (suc n) found text k d after (omega arith)
                other read (put_is k d found ∙ bad)) ∙ goes))
            | inr (more, is_more) ↦ elim (cases_option (after_element 125 after)) [
              | inl bad ↦
                  absurd (none-some (ms, rest) (sym (members_bad_end val (suc n) found more text k d after
                  (omega arith) other read (put_is k d found ∙ is_more) bad) ∙ goes))
              | inr (next, ends) ↦
                  members_refused n more next ms rest
                  (subst (λ m. members val m more next ≡ Some (ms, rest)) (less_one n)
                  (sym (members_more val (suc n) found more text k d after next (omega arith) other read
                  (put_is k d found ∙ is_more) ends) ∙ goes))
                  (in_keeps (pair_item [] k d) found more is_more odd)
            ]
          ]
        ]
      ]

  -- nor is one whose first key is another than that of the steps
  first_refused : (m : ℕ) (text value : List ℕ) (k : Key) (ms : Members) (rest : List ℕ) → 0 < m →
      (first (skip_blank text) == 125) ≡ false → key_equals (skip_blank text) ≡ Some (k, value) →
      ((d : Data) → IsStrangeIn (pair_item [] k d)) → members val m no_nodes text ≡ Some (ms, rest) →
      node_of (table ms) ≡ None
  first_refused m text value k ms rest some other key strange goes =
      elim (cases_option (val value)) [
        | inl bad ↦
            absurd (none-some (ms, rest) (sym (members_bad val m no_nodes text some other
            (keyval_no_value val _ value k key bad)) ∙ goes))
        | inr ((d, after), value_read) ↦
            let read = keyval_ok val (skip_blank text) value after k d key value_read in
            elim (cases_option (apply (pair_item [] k d) no_nodes)) [
              | inl bad ↦
                  absurd (none-some (ms, rest) (sym (members_bad_put val m no_nodes text k d after some other read
                  (put_is k d no_nodes ∙ bad)) ∙ goes))
              | inr (more, is_more) ↦ elim (cases_option (after_element 125 after)) [
                | inl bad ↦
                    absurd (none-some (ms, rest) (sym (members_bad_end val m no_nodes more text k d after some other
                    read (put_is k d no_nodes ∙ is_more) bad) ∙ goes))
                | inr (next, ends) ↦
                    members_refused (m - 1) more next ms rest
                    (sym (members_more val m no_nodes more text k d after next some other read
                    (put_is k d no_nodes ∙ is_more) ends) ∙ goes)
                    (in_makes (pair_item [] k d) no_nodes more is_more (strange d))
              ]
            ]
      ]

scalar_none : (s : Scalar) → (as_table (scalar_data s) ≡ None) × (as_array (scalar_data s) ≡ None)
scalar_none (Boolean b) = (refl, refl)
scalar_none (Integer z) = (refl, refl)
scalar_none (Float x) = (refl, refl)
scalar_none (Datetime t) = (refl, refl)

-- a text or a scalar is no table and no list
atom_none : (text : List ℕ) (d : Data) (rest : List ℕ) → atom text ≡ Some (d, rest) →
    (as_table d ≡ None) × (as_array d ≡ None)
unfolding atom
atom_none text d rest read =
    elim (cases_Bool (starts_string text)) [
      | inl begins ↦
          let (s, _, is) = read_made string (quoted text) d rest (rw begins at read) in
          rw (← is) (refl, refl)
      | inr other ↦
          let (s, _, is) = read_made scalar_data (unquoted text) d rest (rw other at read) in
          rw (← is) (scalar_none s)
    ]

-- what begins with no bracket is no list
pub no_list : (text : List ℕ) → (first text == 91) ≡ false → Begins (λ d. nodes_in d ≡ None) text
no_list text other d rest read =
    elim (cases_Bool (first text == 123)) [
      | inl opens ↦
          let (ms, _, is) = read_made table _ d rest (sym (val_open_table recursion_limit text (omega arith) other
          opens) ∙ read) in
          rw (← is) refl
      | inr another ↦
          let none = atom_none text d rest (sym (val_atom recursion_limit text other another) ∙ read) in
          rw none.1 refl
    ]

-- nor is one with such an item
pub list_refused : (text : List ℕ) (m : ℕ) (found : Items) (rest : List ℕ) → (first text == 91) ≡ true → 0 < m →
    items (val (recursion_limit - 1)) (length text) no_items (drop 1 text)
    ≡ items (val (recursion_limit - 1)) m found rest → (first (skip_blank rest) == 93) ≡ false →
    IsNone (skip_blank rest) → Begins (λ d. nodes_in d ≡ None) text
list_refused text m found rest opens some loop other none d after read =
    let (ds, in_list, is) = read_made array _ d after (sym (val_open_array recursion_limit text (omega arith) opens)
    ∙ read) in
    rw (← is) (item_refused (val (recursion_limit - 1)) m found rest ds after some other (sym loop ∙ in_list) none)

-- what begins with no brace is no node
pub no_table : (text : List ℕ) → (first text == 123) ≡ false → IsNone text
no_table text other d rest read =
    elim (cases_Bool (first text == 91)) [
      | inl opens ↦
          let (ds, _, is) = read_made array _ d rest (sym (val_open_array (recursion_limit - 1) text (omega arith)
          opens) ∙ read) in
          rw (← is) refl
      | inr another ↦
          let none = atom_none text d rest (sym (val_atom (recursion_limit - 1) text another other) ∙ read) in
          rw none.0 refl
    ]

some_first : (text : List ℕ) → (first text == 123) ≡ true → (0 < length text) × ((first text == 91) ≡ false)
some_first [] opens = absurd (false≢true opens)
some_first (c ∷ cs) opens = (omega arith, grind (arith, nat_tests))

-- nor is a table without a key
pub no_key : (text : List ℕ) → (first text == 123) ≡ true → (first (skip_blank (drop 1 text)) == 125) ≡ true →
    IsNone text
no_key text opens closing d rest read =
    let (some, other) = some_first text opens in
    let (ms, in_table, is) = read_made table _ d rest (sym (val_open_table (recursion_limit - 1) text (omega arith)
    other opens) ∙ read) in
    let same = same_Some _ _ (sym (members_end (val (recursion_limit - 1 - 1)) (length text) no_nodes (drop 1 text)
    some closing) ∙ in_table) in
    rw (← is, ← ap (λ p. p.0) same) refl

-- nor is one with another first key
pub other_key : (text value : List ℕ) (k : Key) → (first text == 123) ≡ true →
    (first (skip_blank (drop 1 text)) == 125) ≡ false → key_equals (skip_blank (drop 1 text)) ≡ Some (k, value) →
    ((d : Data) → IsStrangeIn (pair_item [] k d)) → IsNone text
other_key text value k opens more key strange d rest read =
    let (some, other) = some_first text opens in
    let (ms, in_table, is) = read_made table _ d rest (sym (val_open_table (recursion_limit - 1) text (omega arith)
    other opens) ∙ read) in
    rw (← is) (first_refused (val (recursion_limit - 1 - 1)) (length text) (drop 1 text) value k ms rest some more key
    strange in_table)
