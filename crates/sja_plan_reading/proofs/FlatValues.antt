-- A value that isn't read with one list alone, and no table, is no text, no list of texts and no number.
use Rattle.std.proofs.Common.{◌≡◌, ℕ, zero, suc, ◌==◌, Bool, true, false, not, List, Option, Some, None, drop, length}
use Rattle.std.proofs.Common.{◌-◌, refl, sym, ap, subst, ◌∙◌, inl, inr, arith, ◌||◌}
use Rattle.std.proofs.lemmas.Bool.{cases_Bool, false≢true}
use Rattle.std.proofs.lemmas.Option.{none-some, same_Some}
use Rattle.toml_parser.specs.Lexical.{Read, first, skip_blank}
use Rattle.toml_parser.specs.Strings.{recursion_limit}
use Rattle.toml.specs.Data.{Data, string, array, table, Items, no_items, push_item, as_str, as_integer}
use Rattle.toml.specs.Tables.{no_nodes}
use Rattle.toml.specs.Parse.{val, items, members, after_element, read_map}
use Rattle.toml.proofs.Turns.{items_end, items_more, items_bad, items_bad_end, val_atom, val_array, val_table}
use Rattle.toml.proofs.Turns.{val_open_array, val_open_table, val_deep}
use Rattle.sja_plan_reading.specs.Document.{all_of, texts_of, texts_in}
use Rattle.sja_plan_reading.specs.Inside.Values.{IsOddValue}
use Rattle.sja_plan_reading.proofs.ByKey.{cases_option}
use Rattle.sja_plan_reading.proofs.Lists.{last_refused, front_refused}

pub not_true : (b : Bool) → not b ≡ true → b ≡ false
not_true true e = absurd (false≢true e)
not_true false e = refl

pub read_made : {A B : Type 0} (f : A → B) (o : Read A) (b : B) (rest : List ℕ) → read_map f o ≡ Some (b, rest) →
    (a : A) × (o ≡ Some (a, rest)) × (f a ≡ b)
read_made f None b rest e = absurd (none-some (b, rest) e)
read_made f (Some (a, r)) b rest e =
    let same = same_Some (f a, r) (b, rest) e in
    (a, ap (λ r2. Some (a, r2)) (ap (λ p. p.1) same), ap (λ p. p.0) same)

pub less_one : (n : ℕ) → suc n - 1 ≡ n
less_one n = omega arith

-- what is refused of the items so far is refused of all
module _ {X : Type 0} (f : Data → Option X) (val : List ℕ → Read Data) where
  pub items_refused : (n : ℕ) (found : Items) (text : List ℕ) (ds : Items) (rest : List ℕ) →
      items val n found text ≡ Some (ds, rest) → all_of f found ≡ None → all_of f ds ≡ None
  unfolding items
  items_refused zero found text ds rest goes none = absurd (none-some (ds, rest) goes)
  items_refused (suc n) found text ds rest goes none =
      elim (cases_Bool (first (skip_blank text) == 93)) [
        | inl closing ↦
            let same = same_Some _ _ (sym (items_end val (suc n) found text (omega arith) closing) ∙ goes) in
            rw (← ap (λ p. p.0) same) none
        | inr other ↦ elim (cases_option (val (skip_blank text))) [
          | inl bad ↦
              absurd (none-some (ds, rest) (sym (items_bad val (suc n) found text (omega arith) other bad) ∙ goes))
          | inr ((d, after), read) ↦ elim (cases_option (after_element 93 after)) [
            | inl bad ↦
                absurd (none-some (ds, rest) (sym (items_bad_end val (suc n) found text d after (omega arith) other
                read bad) ∙ goes))
            | inr (next, ends) ↦
                items_refused n (push_item found d) next ds rest
                (subst (λ m. items val m (push_item found d) next ≡ Some (ds, rest)) (less_one n)
                (sym (items_more val (suc n) found text d after next (omega arith) other read ends) ∙ goes))
                (front_refused f found d none)
          ]
        ]
      ]

-- a text is read with no depth
text_here : (depth : ℕ) (text s rest : List ℕ) → val depth text ≡ Some (string s, rest) →
    val 0 text ≡ Some (string s, rest)
text_here zero text s rest read = read
text_here (suc depth) text s rest read =
    elim (cases_Bool (first text == 91)) [
      | inl opens ↦
          let (ds, _, is) = read_made array _ (string s) rest (sym (val_array depth text opens) ∙ read) in
          absurd (none-some s (ap as_str is))
      | inr other ↦ elim (cases_Bool (first text == 123)) [
        | inl opens ↦
            let (ms, _, is) = read_made table _ (string s) rest (sym (val_table depth text other opens) ∙ read) in
            absurd (none-some s (ap as_str is))
        | inr another ↦ val_atom 0 text other another ∙ sym (val_atom (suc depth) text other another) ∙ read
      ]
    ]

is_text : (d : Data) (s : List ℕ) → as_str d ≡ Some s → d ≡ string s
is_text (string t) s is = ap string (same_Some t s is)
is_text d s is = absurd (none-some s is)

-- a list of texts is read with no depth for its items
items_flat : (depth n : ℕ) (found : Items) (text : List ℕ) (ds : Items) (rest : List ℕ) (ts : List (List ℕ)) →
    items (val depth) n found text ≡ Some (ds, rest) → texts_of ds ≡ Some ts →
    items (val 0) n found text ≡ Some (ds, rest)
unfolding items
items_flat depth zero found text ds rest ts goes texts = absurd (none-some (ds, rest) goes)
items_flat depth (suc n) found text ds rest ts goes texts =
    elim (cases_Bool (first (skip_blank text) == 93)) [
      | inl closing ↦
          items_end (val 0) (suc n) found text (omega arith) closing
          ∙ sym (items_end (val depth) (suc n) found text (omega arith) closing) ∙ goes
      | inr other ↦ elim (cases_option (val depth (skip_blank text))) [
        | inl bad ↦
            absurd (none-some (ds, rest) (sym (items_bad (val depth) (suc n) found text (omega arith) other bad)
            ∙ goes))
        | inr ((d, after), read) ↦ elim (cases_option (after_element 93 after)) [
          | inl bad ↦
              absurd (none-some (ds, rest) (sym (items_bad_end (val depth) (suc n) found text d after (omega arith)
              other read bad) ∙ goes))
          | inr (next, ends) ↦
              let goes_on = subst (λ m. items (val depth) m (push_item found d) next ≡ Some (ds, rest)) (less_one n)
              (sym (items_more (val depth) (suc n) found text d after next (omega arith) other read ends) ∙ goes) in
              elim (cases_option (as_str d)) [
                | inl none ↦
                    absurd (none-some ts (sym (items_refused as_str (val depth) n (push_item found d) next ds rest
                    goes_on (last_refused as_str found d none)) ∙ texts))
                | inr (s, is) ↦
                    let d_is = is_text d s is in
                    let shallow : val 0 (skip_blank text) ≡ Some (d, after) =
                    rw d_is (text_here depth (skip_blank text) s after (rw d_is at read)) in
                    items_more (val 0) (suc n) found text d after next (omega arith) other shallow ends
                    ∙ subst (λ m. items (val 0) m (push_item found d) next ≡ Some (ds, rest)) (sym (less_one n))
                    (items_flat depth n (push_item found d) next ds rest ts goes_on texts)
              ]
        ]
      ]
    ]

read_none : {A B : Type 0} (f : A → B) (o : Read A) → read_map f o ≡ None → o ≡ None
read_none f None e = refl
read_none f (Some (a, r)) e = absurd (none-some (f a, r) (sym e))

-- a table is none of these
pub table_is_odd : (text : List ℕ) (d : Data) (rest : List ℕ) → val recursion_limit text ≡ Some (d, rest) →
    (first text == 91) ≡ false → (first text == 123) ≡ true → IsOddValue d
table_is_odd text d rest read other opens =
    let (ms, _, is) = read_made table _ d rest (sym (val_open_table recursion_limit text (omega arith) other opens)
    ∙ read) in
    rw (← is) (refl, refl)

-- nor is what isn't read with one list alone
pub deep_is_odd : (text : List ℕ) (d : Data) (rest : List ℕ) → val recursion_limit text ≡ Some (d, rest) →
    val 1 text ≡ None → IsOddValue d
deep_is_odd text d rest read none =
    elim (cases_Bool (first text == 91)) [
      | inl opens ↦
          let (ds, in_list, is) = read_made array _ d rest (sym (val_open_array recursion_limit text (omega arith)
          opens) ∙ read) in
          let shallow : items (val 0) (length text) no_items (drop 1 text) ≡ None =
          read_none array _ (sym (val_array 0 text opens) ∙ none) in
          elim (cases_option (texts_of ds)) [
            | inl bad ↦ rw (← is) (bad, refl)
            | inr (ts, texts) ↦
                absurd (none-some (ds, rest) (sym shallow ∙ items_flat _ (length text) no_items (drop 1 text) ds rest
                ts in_list texts))
          ]
      | inr other ↦ elim (cases_Bool (first text == 123)) [
        | inl opens ↦ table_is_odd text d rest read other opens
        | inr another ↦
            absurd (none-some (d, rest) (sym (sym (val_atom 1 text other another) ∙ none)
            ∙ sym (val_atom recursion_limit text other another) ∙ read))
      ]
    ]
