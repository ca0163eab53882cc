-- What a contract sees of a list of which the oldest items may be dropped (this project's own rule).
use Rattle.std.specs.Prelude.{◌≡◌, ◌≤◌, ℕ, List, [], ◌∷◌, ◌++◌, refl}
use Rattle.std.specs.Coded.{Coded, code_by, coded×, coded_ℕ, coded_list}

-- all its items, oldest first, those that were dropped too, and how many it was made for
pub record HistoryValue (T : Type 0) : Type 0 where
  pub items : List T
  pub room : ℕ

-- it is stored as the pair of both
abbrev pub history_code : {T : Type 0} → Coded T → Coded (HistoryValue T)
history_code {T} code =
    code_by (List T × ℕ) (coded× (coded_list code) coded_ℕ) (λ l. (l.items, l.room))
    (λ p. record { items = p.0; room = p.1 }) (λ _. refl)

-- a list that was made for so many items has dropped none
abbrev pub KeepsAll : ℕ → Type 0
KeepsAll room = room ≤ 1099511627776

-- an item is the last of these
pub record IsLast {T : Type 0} (items : List T) (item : T) : Type 0 where
  pub before : List T
  pub whole : items ≡ before ++ item ∷ []
