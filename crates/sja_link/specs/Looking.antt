-- What the driver's ledger does at its end (this project's own rule).
use Rattle.std.specs.Prelude.{◌≡◌, ◌⊎◌, ◌≤◌, ℕ, Bool, true, false, List, [], ◌∷◌, ◌++◌, length}
use Rattle.std.specs.Prelude.{Result, Err, OnOk, OnErr, IfOk}
use Rattle.sja_journal.specs.declared.down.Down.{Down}
use Rattle.sja_journal.specs.declared.down.Down.TheVariants.{Message, Off}
use Rattle.sja_link.specs.declared.release_fault.ReleaseFault.{ReleaseFault}
use Rattle.sja_link.specs.declared.release_fault.ReleaseFault.TheVariants.{Stopped, Empty, Busy}
use Rattle.sja_journal.specs.declared.up.Up.TheVariants.{Credit}
use Rattle.sja_journal.specs.Lists.{Lists, with_given, messages}

-- with several items got
abbrev pub with_gots : Lists → List Down → Lists
with_gots l xs = record l { got = l.got ++ xs }

-- bus-off was known before, or is among these
abbrev pub off_among : Bool → List Down → Bool
off_among off [] = off
off_among off (Message m ∷ xs) = off_among off xs
off_among off (Off ∷ xs) = off_among true xs

-- some items were got: their messages follow those held, and bus-off is known if it is among them
pub record Pulls {E : Type 0} (stands : E → Lists → Type 0) (old new : E) (held now_held : List (List ℕ))
    (off now_off : Bool) : Type 0 where
  pub got : List Down
  pub lists : (l : Lists) → stands old l → stands new (with_gots l got)
  pub told : now_held ≡ held ++ messages got
  pub off_is : now_off ≡ off_among off got

-- 1 where it is true
abbrev pub one_if : Bool → ℕ
one_if true = 1
one_if false = 0

-- all that the end shows was taken in: bus-off is known, or 22 messages are held, or the end shows nothing
abbrev pub IsTaken : {E : Type 0} → (E → Type 0) → E → Bool → List (List ℕ) → Type 0
IsTaken dry end off held = (off ≡ true) ⊎ ((22 ≤ length held) ⊎ dry end)

-- all that the end showed was taken in, and then, at the same end, the first message held was released: its credit was
-- given
pub record Releases {E : Type 0} (alike : E → E → Type 0) (stands : E → Lists → Type 0) (dry : E → Type 0)
    (old new : E) (held now_held : List (List ℕ)) (off now_off : Bool) (m : List ℕ) : Type 0 where
  pub at : E
  pub same : alike old at
  pub pulls : Pulls stands old at held (m ∷ now_held) off now_off
  pub all : IsTaken dry at now_off (m ∷ now_held)
  pub given : (l : Lists) → stands at l → stands new (with_given l (Credit (length m)))

-- all that the end showed was taken in, and then, at the same end, a credit came back
pub record Refuses {E : Type 0} (alike : E → E → Type 0) (stands : E → Lists → Type 0) (dry full : E → Type 0)
    (old : E) (now_off : Bool) (now_held : List (List ℕ)) : Type 0 where
  pub at : E
  pub same : alike old at
  pub got : List Down
  pub lists : (l : Lists) → stands old l → stands at (with_gots l got)
  pub all : IsTaken dry at now_off now_held
  pub some : 1 ≤ length now_held
  pub is_full : full at

-- a release was tried, and answered the message that it released, or why there was none
pub record TriesRelease {E : Type 0} (alike : E → E → Type 0) (stands : E → Lists → Type 0) (dry full : E → Type 0)
    (old new : E) (held now_held : List (List ℕ)) (off now_off : Bool) (result : Result (List ℕ) ReleaseFault)
    : Type 0 where
  pub ok : IfOk result (λ m. Releases alike stands dry old new held now_held off now_off m)
  pub on : OnOk result (now_off ≡ false)
  pub err : OnErr result (Pulls stands old new held now_held off now_off)
  pub stopped : result ≡ Err Stopped → now_off ≡ true
  pub empty : result ≡ Err Empty → (now_off ≡ false) × (now_held ≡ []) × dry new
  pub busy : result ≡ Err Busy → (now_off ≡ false) × Refuses alike stands dry full old now_off now_held

-- of the messages got these were released, and these are held
abbrev pub Holds : List Down → List (List ℕ) → List (List ℕ) → Type 0
Holds got released held = messages got ≡ released ++ held
