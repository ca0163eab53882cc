-- Events that are written one after another.
use Rattle.std.specs.Prelude.{◌≡◌, ◌||◌, ℕ, Bool, true, false, List, [], ◌∷◌, ◌++◌, codes, decimal, string_bytes}
use Rattle.text_trace.specs.TraceText.{behind, joined, told_line}
use Rattle.text_trace.specs.declared.remarks.Remarks.{Remarks}

-- what stands before an event, where one was written before it, and else
abbrev pub separator : Bool → List ℕ
separator true = codes "; "
separator false = []

-- events, where one was written before them, and else
abbrev pub said_after : Bool → List (List ℕ) → List ℕ
said_after true events = behind events
said_after false events = joined events

-- whether there is an event
abbrev pub is_any : List (List ℕ) → Bool
is_any [] = false
is_any (e ∷ es) = true

-- these events came behind what was there
pub record Tells (old new : Remarks) (events : List (List ℕ)) : Type 0 where
  pub text : string_bytes new.text ≡ string_bytes old.text ++ said_after old.begun events
  pub begun : new.begun ≡ (old.begun || is_any events)

-- what a line begins with
abbrev pub line_opening : ℕ → ℕ → List ℕ
line_opening bit node = (((codes "bit " ++ decimal bit) ++ codes " node ") ++ decimal node) ++ codes ": "

-- the line of a bit of which something is told, and else none
abbrev pub line_if : Bool → ℕ → ℕ → List ℕ → List ℕ
line_if true bit node told = told_line bit node told
line_if false bit node told = []
