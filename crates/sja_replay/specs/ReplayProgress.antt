-- How far a replay has come in a journal (this project's own rule).
use Rattle.std.specs.Prelude.{◌≡◌, ◌≤◌, ℕ, suc, Bool, true, false, List, [], ◌++◌, length}
use Rattle.sja_journal.specs.declared.entry.Entry.{Entry}
use Rattle.sja_replay.specs.declared.bit_event.BitEvent.{BitEvent}
use Rattle.sja_replay.specs.declared.replay.Replay.{Replay}
use Rattle.sja_replay.specs.Happened.{Happened}
use Rattle.sja_replay.specs.Replaying.{left_of, IsAt}

-- the replay of this journal has told these bit events, and whatever is told of the rest, comes behind them
pub record CameTo (journal : List Entry) (r : Replay) (hs : List BitEvent) : Type 0 where
  pub before : List Entry
  pub at : IsAt r before
  pub leads : (more : List BitEvent) → Happened before (left_of r) more → Happened [] journal (hs ++ more)

-- after so many bits a replay has told as many bit events of a journal; or it is over, and has told all there are
abbrev pub HasCome : Bool → List Entry → ℕ → Replay → List BitEvent → Type 0
HasCome false journal bits r hs = CameTo journal r hs × (length hs ≡ bits)
HasCome true journal bits r hs = Happened [] journal hs × (length hs ≤ bits)

-- how much is left of its journal at most
abbrev pub left_in : Bool → Replay → ℕ
left_in true r = 0
left_in false r = suc (length (left_of r))
