-- What the bus knows of one controller.
use Rattle.std.specs.Prelude.{◌≡◌, ◌≤◌, ◌^◌, ℕ, suc, Bool, Option, Some, None, List, [], ◌∷◌, ◌++◌}
use Rattle.can_frame.specs.Frame.{FrameValue}
use Rattle.can_frame.specs.Filter.{Passes}
use Rattle.can_frame.specs.Message.{message}
use Rattle.can_frame.specs.declared.filter.Filter.{Filter}
use Rattle.can_levels.specs.declared.level.Level.{Level}
use Rattle.can_node.specs.Stands.{DrivesNext}
use Rattle.sja_journal.specs.declared.verdict.Verdict.{Verdict}
use Rattle.sja_journal.specs.declared.entry.Entry.{Entry}
use Rattle.sja_journal.specs.declared.entry.Entry.TheVariants.{Bit}
use Rattle.sja_journal.specs.Parts.{part}
use Rattle.sja_journal.specs.Free.{IsFree}
use Rattle.sja_journal.specs.Verdicts.{IsDue, entry_of}
use Rattle.sja_link.specs.BusLedgers.{link_of, free_in}
use Rattle.sja_bus_rules.specs.Telling.{is_overrun}
use Rattle.sja_bus.specs.declared.bus_node.BusNode.{BusNode}
use Rattle.sja_bus.specs.Inside.Following.{Follows, FollowsBit, Reads}

-- with an entry the free bytes change so
abbrev pub Pays : ℕ → ℕ → Entry → Type 0
Pays free left e = (p : List Entry) → IsFree p free → IsFree (p ++ e ∷ []) left

-- its node follows its journal, and the bus knows the activation that it reads
pub record IsSound (s : BusNode) : Type 0 where
  pub follows : Follows s.node s.journal.entries
  pub reads : Reads s.node s.journal.entries s.ended s.activity (free_in s.ledger)

-- the same where an entry is still to be written of which the ledger already knows
pub record IsOwed (s : BusNode) (e : Entry) : Type 0 where
  pub free : ℕ
  pub pays : Pays free (free_in s.ledger) e
  pub follows : Follows s.node s.journal.entries
  pub reads : Reads s.node s.journal.entries s.ended s.activity free

-- the ledger is that of the activation that is read, and no more have ended than the journal has reserved entries,
-- 2^63 at most
pub record IsBusNode (s : BusNode) : Type 0 where
  pub own : (link_of s.ledger).activation ≡ suc s.ended
  pub few : s.ended ≤ s.journal.room.all
  pub most : s.journal.room.all ≤ 2 ^ 63

-- between two calls: it knows also the level that its node drives next
pub record IsReady (s : BusNode) : Type 0 where
  pub sound : IsSound s
  pub bus_node : IsBusNode s
  pub drives : DrivesNext s.node s.drives

-- what is to be judged of a received frame: its message, where it passes the filter
abbrev pub IsPassing : Filter → Option FrameValue → Option (List ℕ) → Type 0
IsPassing filter None out = out ≡ None
IsPassing filter (Some f) None = Passes filter f → ⊥
IsPassing filter (Some f) (Some m) = Passes filter f × (m ≡ message f)

-- a journal with a bit more, and a verdict on this message that is due: whether the message found no room
pub record IsJudged (j : List Entry) (driven seen : Level) (a : ℕ) (m : List ℕ) (overrun : Bool) (after : List Entry) :
    Type 0 where
  pub verdict : Verdict
  pub overrun_is : overrun ≡ is_overrun (Some (verdict, m))
  pub whole : after ≡ (j ++ Bit driven seen ∷ []) ++ entry_of verdict m ∷ []
  pub due : IsDue (part (j ++ Bit driven seen ∷ []) a) (entry_of verdict m)

-- the same node after a bit, before bus-off is written
pub record IsMid (s : BusNode) (went : Bool) : Type 0 where
  pub follows : FollowsBit s.node s.journal.entries went
  pub reads : Reads s.node s.journal.entries s.ended s.activity (free_in s.ledger)
