-- A list has one first bad text at most, and none where each text says something.
use Rattle.std.proofs.Common.{◌≡◌, ◌∙◌, ◌+◌, ℕ, suc, List, [], ◌∷◌, ◌++◌, length, refl, sym, ap, subst}
use Rattle.std.specs.List.{AllZip}
use Rattle.sja_plan_reading.specs.Words.{Text}
use Rattle.sja_plan_reading.specs.Texts.{IsFirstBad, IsFirstBadIn}

-- a list with a bad element in it says nothing
no_values : {X A : Type 0} (Says : X → A → Type 0) (before after : List X) (x : X) (values : List A) →
    ((a : A) → ¬ Says x a) →
    AllZip Says (before ++ x ∷ after) values → ⊥
no_values Says [] after x [] bad z = absurd z
no_values Says [] after x (a ∷ values) bad z = bad a z.0
no_values Says (y ∷ before) after x [] bad z = absurd z
no_values Says (y ∷ before) after x (a ∷ values) bad z = no_values Says before after x values bad z.1

-- of two first bad elements of a list neither stands before the other
record Same {X : Type 0} (before other : List X) (x y : X) : Type 0 where
  place : length before ≡ length other
  element : x ≡ y

same_place : {X A : Type 0} (Says : X → A → Type 0) (b c after rest : List X) (x y : X) (v w : List A) →
    b ++ x ∷ after ≡ c ++ y ∷ rest →
    AllZip Says b v → AllZip Says c w → ((a : A) → ¬ Says x a) → ((a : A) → ¬ Says y a) → Same b c x y
same_place Says [] [] after rest x y v w e g h bad worse = record { place = refl; element = cc }
same_place Says [] (z ∷ c) after rest x y v [] e g h bad worse = absurd h
same_place Says [] (z ∷ c) after rest x y v (a ∷ w) e g h bad worse =
    let is : z ≡ x = cc in absurd (bad a (subst (λ q. Says q a) is h.0))
same_place Says (z ∷ b) c after rest x y [] w e g h bad worse = absurd g
same_place Says (z ∷ b) [] after rest x y (a ∷ v) w e g h bad worse =
    let is : z ≡ y = cc in absurd (worse a (subst (λ q. Says q a) is g.0))
same_place Says (z ∷ b) (q ∷ c) after rest x y (a ∷ v) [] e g h bad worse = absurd h
same_place Says (z ∷ b) (q ∷ c) after rest x y (a ∷ v) (o ∷ w) e g h bad worse =
    let tails : b ++ x ∷ after ≡ c ++ y ∷ rest = cc in
    let same = same_place Says b c after rest x y v w tails g.1 h.1 bad worse in
    record { place = ap suc same.place; element = same.element }

-- a list with a first bad text says nothing
pub bad_says_nothing : {A : Type 0} (Says : Text → A → Type 0) (texts : List Text) (number : ℕ) →
    IsFirstBad Says texts number →
    (values : List A) → ¬ AllZip Says texts values
bad_says_nothing Says texts number h values z =
    no_values Says h.before h.after h.text values h.bad (subst (λ l. AllZip Says l values) h.whole z)

-- nor do lists with one
pub bad_lists_say_nothing : {A : Type 0} (Says : Text → A → Type 0) (lists : List (List Text)) (list number : ℕ) →
    IsFirstBadIn Says lists list number →
    (values : List (List A)) → ¬ AllZip (AllZip Says) lists values
bad_lists_say_nothing Says lists list number h values z =
    no_values (AllZip Says) h.before h.after h.texts values (bad_says_nothing Says h.texts number h.bad)
    (subst (λ l. AllZip (AllZip Says) l values) h.whole z)

-- the first bad text has one number
pub one_bad : {A : Type 0} (Says : Text → A → Type 0) (texts : List Text) (n m : ℕ) → IsFirstBad Says texts n →
    IsFirstBad Says texts m → n ≡ m
one_bad Says texts n m h k =
    let same = same_place Says h.before k.before h.after k.after h.text k.text h.values k.values (sym h.whole ∙ k.whole)
    h.good k.good h.bad k.bad in
    h.number_is ∙ ap (λ i. i + 1) same.place ∙ sym k.number_is

-- where lists have a first bad text
pub record SameNumbers (list other n m : ℕ) : Type 0 where
  pub list_is : list ≡ other
  pub number_is : n ≡ m

pub one_bad_in : {A : Type 0} (Says : Text → A → Type 0) (lists : List (List Text)) (list other n m : ℕ) →
    IsFirstBadIn Says lists list n →
    IsFirstBadIn Says lists other m → SameNumbers list other n m
one_bad_in Says lists list other n m h k =
    let same = same_place (AllZip Says) h.before k.before h.after k.after h.texts k.texts h.values k.values
    (sym h.whole ∙ k.whole) h.good k.good
    (bad_says_nothing Says h.texts n h.bad) (bad_says_nothing Says k.texts m k.bad) in
    record {
      list_is = h.list_is ∙ same.place ∙ sym k.list_is;
      number_is = one_bad Says k.texts n m (subst (λ t. IsFirstBad Says t n) same.element h.bad) k.bad;
    }
