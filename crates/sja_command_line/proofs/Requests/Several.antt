-- What `arbitrate` asks for, by the number of its messages.
use Rattle.std.proofs.Common.{◌≡◌, ◌<◌, ◌≤◌, ◌⊎◌, List, Option, Some, None, length, refl, sym, arith, inl, inr}
use Rattle.std.proofs.lemmas.Bool.{lt-ltb, le-ltb, le-leb, lt-leb, and_left, and_right, and_from, cond-true, cond-false}
use Rattle.clap.specs.Words.{Text}
use Rattle.sja_command_line.specs.Requests.{arbitrate}
use Rattle.sja_command_line.specs.Commands.{arbitrate_in}

-- no message
pub nothing_asked : (given : Option (List Text)) → given ≡ None → None ≡ arbitrate_in given
nothing_asked None is = refl
nothing_asked (Some messages) is = cc

-- too few or too many of them
pub not_asked : (given : Option (List Text)) (messages : List Text) → given ≡ Some messages → (length messages ≡ 0)
    ⊎ (8 < length messages) →
    None ≡ arbitrate_in given
not_asked given messages is (inl few) =
    rw is (sym (cond-false _ _ _ (and_left _ _ (le-ltb 0 (length messages) (omega arith)))))
not_asked given messages is (inr many) =
    rw is (sym (cond-false _ _ _ (and_right _ _ (lt-leb (length messages) 8 many))))

-- one to eight of them
pub arbitrate_asked : (given : Option (List Text)) (messages : List Text) → given ≡ Some messages →
    0 < length messages → length messages ≤ 8 →
    Some (arbitrate messages) ≡ arbitrate_in given
arbitrate_asked given messages is some few =
    rw is (sym (cond-true _ _ _ (and_from _ _ (lt-ltb 0 (length messages) some) (le-leb (length messages) 8 few))))
