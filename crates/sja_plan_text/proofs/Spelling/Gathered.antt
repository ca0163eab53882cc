-- Names that are gone over one by one, and joined.
use Rattle.std.proofs.Common.{◌≡◌, ◌≢◌, ◌==◌, ◌<◌, ◌+◌, ◌/◌, ◌%◌, ◌∙◌, ℕ, true, false, List, [], ◌∷◌, ◌++◌}
use Rattle.std.proofs.Common.{length, map, drop, get_or, refl, sym, ap, append_assoc, Bor}
use Rattle.std.specs.List.{join_by, join_with_byte}
use Rattle.std.proofs.lemmas.Bool.{ne_eqb}
use Rattle.std.proofs.lemmas.List.{append-nil, drop_more}
use Rattle.sja_plan_reading.specs.Words.{Text}
use Rattle.sja_plan_text.specs.Names.{set_names}

abbrev pub texts : List (Bor Text) → List Text
texts names = map (λ name. name.now) names

module _ (names : List (Bor Text)) (i v : ℕ) (done all : List Text) where
  -- the bit of the name at the place is set
  pub one_set : (d : Bor Text) → i < length names → v % 2 ≡ 1 →
      all ≡ done ++ set_names (texts (drop i names)) v →
      all ≡ (done ++ (get_or names i d).now ∷ []) ++ set_names (texts (drop (i + 1) names)) (v / 2)
  one_set d within is so_far =
      let odd : (v % 2 == 1) ≡ true = rw is refl in
      let more : set_names (texts (drop i names)) v
      ≡ (get_or names i d).now ∷ set_names (texts (drop (i + 1) names)) (v / 2) =
      rw (drop_more names i d within, odd) refl in
      so_far ∙ ap (λ l. done ++ l) more ∙ sym (append_assoc done ((get_or names i d).now ∷ []) _)

  -- it isn't
  pub none_set : (d : Bor Text) → i < length names → v % 2 ≢ 1 →
      all ≡ done ++ set_names (texts (drop i names)) v →
      all ≡ done ++ set_names (texts (drop (i + 1) names)) (v / 2)
  none_set d within not so_far =
      let even : (v % 2 == 1) ≡ false = ne_eqb (v % 2) 1 not in
      let more : set_names (texts (drop i names)) v ≡ set_names (texts (drop (i + 1) names)) (v / 2) =
      rw (drop_more names i d within, even) refl in
      so_far ∙ ap (λ l. done ++ l) more

-- texts with a bar between two
pub joined_by_bars : (names : List (Bor Text)) →
    join_by (λ (name : Bor Text). name.now) (124 ∷ []) names ≡ join_with_byte 124 (texts names)
joined_by_bars [] = refl
joined_by_bars (x ∷ []) = append-nil x.now
joined_by_bars (x ∷ y ∷ ys) = ap (λ l. x.now ++ 124 ∷ l) (joined_by_bars (y ∷ ys))
