-- The first text of a list, and of lists, that says nothing (this project's own rule).
use Rattle.std.specs.Prelude.{◌≡◌, ◌+◌, ℕ, List, ◌∷◌, ◌++◌, length}
use Rattle.std.specs.List.{AllZip}
use Rattle.sja_plan_reading.specs.Words.{Text}

-- the text of this number, counted from 1, is the first that says no value: each one before it says one
pub record IsFirstBad {A : Type 0} (Says : Text → A → Type 0) (texts : List Text) (number : ℕ) : Type 0 where
  pub before : List Text
  pub text : Text
  pub after : List Text
  pub whole : texts ≡ before ++ text ∷ after
  pub number_is : number ≡ length before + 1
  pub values : List A
  pub good : AllZip Says before values
  pub bad : (x : A) → ¬ Says text x

-- the first such text of several lists: the list's number, counted from 0, and the text's number in it, counted from 1
pub record IsFirstBadIn {A : Type 0} (Says : Text → A → Type 0) (lists : List (List Text))
    (list number : ℕ) : Type 0 where
  pub before : List (List Text)
  pub texts : List Text
  pub after : List (List Text)
  pub whole : lists ≡ before ++ texts ∷ after
  pub list_is : list ≡ length before
  pub values : List (List A)
  pub good : AllZip (AllZip Says) before values
  pub bad : IsFirstBad Says texts number
