-- The headline, of one activation of one node (this project's own rule). What a driver released, followed by what it
-- left unread, is, in order and each once, the frames that its controller validly received and its filter passed, less
-- those marked overrun; and a frame is marked overrun exactly where it is longer than 64 less the bytes stored and not
-- yet collected back.
use Rattle.std.specs.Prelude.{◌≡◌, ◌+◌, ◌<◌, ℕ, Some, List, [], ◌∷◌, ◌++◌, length, slice_index_or}
use Rattle.can_node_rules.specs.declared.config.Config.{Config}
use Rattle.sja_journal.specs.NodeWords.{FinishedPiece, IsCut, received}
use Rattle.sja_journal.specs.declared.up.Up.TheVariants.{Start}
use Rattle.sja_journal.specs.declared.entry.Entry.{Entry}
use Rattle.sja_journal.specs.declared.entry.Entry.TheVariants.{Up as Item}
use Rattle.sja_journal.specs.Parts.{part}
use Rattle.sja_journal.specs.Records.{record_of}
use Rattle.sja_journal.specs.Judged.{judged_in, kept}
use Rattle.lemmas.specs.Picking.{Picks, EachAfter}
use Rattle.sja_journal.specs.Verdicts.{IsAccepted, IsOn, IsDue}
use Rattle.sja_log.specs.Log.{ActivationValue, NodeValue, RunValue}

-- of activation a of a node with journal j, by these pieces of the node's record
pub record Headline (found : List FinishedPiece) (j : List Entry) (a : ℕ) (act : ActivationValue) : Type 0 where
  -- the activation's part of the journal begins with its start, which has the filter
  pub config : Config
  pub rest : List Entry
  pub opens : part j a ≡ Item (Start config) ∷ rest
  -- of the frames that were validly received, those of this activation that its filter passes were judged, in order and
  -- each once: each verdict is on the frame's message, after just the bits up to the one that made the frame valid
  pub judged : Picks (IsAccepted a (Some config.filter)) IsOn (received found) (judged_in j a)
  -- each verdict stands right after a bit, and marks a message overrun exactly where it is longer than 64 less the
  -- bytes stored and not yet collected back
  pub due : EachAfter IsDue [] (part j a)
  -- what was released, followed by what was left unread, is what was judged, less what was marked overrun
  pub told : act.released ++ act.unread ≡ kept (judged_in j a)

-- of a node: its record has a cut, and by every cut of it the headline holds of each activation
pub record IsAccount (node : NodeValue) : Type 0 where
  pub found : List FinishedPiece
  pub cut : IsCut (record_of node.journal) found
  pub headline : (others : List FinishedPiece) (a : ℕ) (d : ActivationValue) → IsCut (record_of node.journal) others →
      a < length node.activations → Headline others node.journal (a + 1) (slice_index_or node.activations a d)

-- of a log: the headline holds of each activation of each of its nodes. What the driver of a node released in it,
-- followed by what it left unread, is, in order and each once, the frames that its controller validly received and its
-- filter passed, less those marked overrun
abbrev pub AreAccounts : RunValue → Type 0
AreAccounts log = (k : ℕ) (d : NodeValue) → k < length log.nodes → IsAccount (slice_index_or log.nodes k d)
