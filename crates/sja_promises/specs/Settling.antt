-- How an activation stands at the end of a run, whatever its link is (this project's own rule).
use Rattle.std.specs.Prelude.{◌≡◌, ◌+◌, ◌<◌, ◌++◌, ℕ, List, length, slice_index_or}
use Rattle.sja_journal.specs.declared.down.Down.{Down}
use Rattle.sja_journal.specs.declared.entry.Entry.{Entry}
use Rattle.sja_journal.specs.Lists.{messages}
use Rattle.sja_journal.specs.Parts.{part}
use Rattle.sja_journal.specs.Carried.{put_of, taken_of}
use Rattle.sja_journal.specs.Accounts.{Account}
use Rattle.sja_link.specs.Looking.{Holds}
use Rattle.sja_log.specs.Log.{ActivationValue, NodeValue}

-- of activation a of a node with journal j
pub record IsSettled (j : List Entry) (a : ℕ) (act : ActivationValue) : Type 0 where
  -- what the driver got and gave, what lies on the link still, and what the driver holds
  pub driver : Account
  pub down : List Down
  pub held : List (List ℕ)
  -- what was put is what the driver got and what lies there, and all that it gave was taken
  pub put : put_of (part j a) ≡ driver.got ++ down
  pub given : driver.given ≡ taken_of (part j a)
  -- of the messages that it got it released these, and holds those
  pub holds : Holds driver.got act.released held
  -- what it left unread is what it holds and what lies there
  pub unread : act.unread ≡ held ++ messages down

-- each activation of a node
abbrev pub AreSettled : NodeValue → Type 0
AreSettled node = (a : ℕ) (d : ActivationValue) → a < length node.activations →
    IsSettled node.journal (a + 1) (slice_index_or node.activations a d)
