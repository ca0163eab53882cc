-- How a replay goes from entry to entry.
use Rattle.std.specs.Prelude.{⊤, ◌≡◌, ◌||◌, ◌<◌, ◌+◌, ◌^◌, Bool, true, false, Option, Some, None}
use Rattle.std.specs.Prelude.{Result, Ok, Err, List, [], ◌∷◌, ◌++◌}
use Rattle.can_frame.specs.Frame.{FrameValue}
use Rattle.can_levels.specs.declared.level.Level.{Level}
use Rattle.can_node_rules.specs.declared.bit_events.BitEvents.{BitEvents}
use Rattle.sja_journal.specs.declared.entry.Entry.{Entry}
use Rattle.sja_journal.specs.declared.entry.Entry.TheVariants.{Bit}
use Rattle.sja_journal.specs.Free.{IsFree}
use Rattle.sja_journal.specs.Places.{place_of}
use Rattle.sja_replay.specs.declared.reception.Reception.{Reception}
use Rattle.sja_replay.specs.declared.bit_event.BitEvent.{BitEvent}
use Rattle.sja_replay.specs.declared.misfit.Misfit.{Misfit}
use Rattle.sja_replay.specs.declared.replay.Replay.{Replay}
use Rattle.sja_replay.specs.Closing.{Judges, HasReception, Closes, off_if}
use Rattle.sja_replay.specs.Happened.{IsUntold}
use Rattle.sja_replay.specs.BitEvent.{Brings}
use Rattle.sja_replay.specs.Replaying.{left_of, IsAt, AreTaken}
use Rattle.sja_replay.specs.Taking.{IsTaken, last_part}

-- nothing is left where there is no entry to be looked at
abbrev pub HasLooked : Replay → Type 0
HasLooked r = r.ahead ≡ None → r.entries ≡ []

-- the same node, after as many bits, and right after an abort or not
pub record IsSame (old new : Replay) : Type 0 where
  pub node : new.node ≡ old.node
  pub bits : new.bits ≡ old.bits
  pub aborted : new.aborted ≡ old.aborted

-- the entry that was looked at is given, and the next one is looked at
pub record IsTakenFrom (old new : Replay) (result : Option Entry) : Type 0 where
  pub same : IsSame old new
  pub off : new.off ≡ old.off
  pub free : new.free ≡ old.free
  pub given : result ≡ old.ahead
  pub left : left_of new ≡ old.entries
  pub looked : HasLooked new

-- an entry that is no bit was taken, or can't come there
pub record Enters (old new : Replay) (e : Entry) (may : Bool) : Type 0 where
  pub ahead : new.ahead ≡ old.ahead
  pub entries : new.entries ≡ old.entries
  pub taken : may ≡ true → (before : List Entry) → IsAt old before → IsTaken before e × IsAt new (before ++ e ∷ [])
  pub refused : may ≡ false → (before : List Entry) → IsAt old before → IsTaken before e → ⊥

-- the entry of a verdict was taken, or none is there
pub record IsJudged (old new : Replay) (p : List Entry) (reception : Reception) : Type 0 where
  pub verdict : List Entry
  pub judges : Judges p (left_of old) reception verdict
  pub whole : left_of old ≡ verdict ++ left_of new
  pub free : IsFree (p ++ verdict) new.free
  pub same : IsSame old new
  pub off : new.off ≡ old.off
  pub looked : HasLooked new

-- after any part with these bytes free: so it is, or the verdict isn't one that belongs there
abbrev pub JudgesNext : Replay → Replay → Result Reception Misfit → Type 0
JudgesNext old new (Ok reception) = (p : List Entry) → IsFree p old.free → HasLooked old → IsJudged old new p reception
JudgesNext old new (Err misfit) =
    (p : List Entry) → IsFree p old.free → HasLooked old → (reception : Reception) (verdict : List Entry) →
    Judges p (left_of old) reception verdict → ⊥

-- bus-off was taken, or it isn't there
abbrev pub GoesOff : Replay → Replay → Result ⊤ Misfit → Type 0
GoesOff old new (Ok done) = (HasLooked old → (left_of old ≡ off_if true ++ left_of new) × HasLooked new)
    × IsSame old new × (new.off ≡ true) × (new.free ≡ old.free)
GoesOff old new (Err misfit) = HasLooked old → (left : List Entry) → left_of old ≡ off_if true ++ left → ⊥

-- the verdict on the frame that a bit brought was taken, if there is one
pub record IsVerdictTaken (old new : Replay) (p : List Entry) (frame : Option FrameValue)
    (reception : Option Reception) :
    Type 0 where
  pub verdict : List Entry
  pub has : HasReception p frame (left_of old) reception verdict
  pub whole : left_of old ≡ verdict ++ left_of new
  pub free : IsFree (p ++ verdict) new.free
  pub same : IsSame old new
  pub off : new.off ≡ old.off
  pub looked : HasLooked new

abbrev pub FindsVerdict : Replay → Replay → BitEvents → Result (Option Reception) Misfit → Type 0
FindsVerdict old new e (Ok reception) =
    (p : List Entry) → IsFree p old.free → HasLooked old → IsVerdictTaken old new p e.received reception
FindsVerdict old new e (Err misfit) =
    (p : List Entry) → IsFree p old.free → HasLooked old → (reception : Option Reception) (brought left : List Entry) →
    Closes p e (left_of old) reception brought left → ⊥

-- the entries that a bit brought were taken
pub record IsClosed (old new : Replay) (p : List Entry) (e : BitEvents) (reception : Option Reception) : Type 0 where
  pub brought : List Entry
  pub closes : Closes p e (left_of old) reception brought (left_of new)
  pub free : IsFree (p ++ brought) new.free
  pub off : new.off ≡ (e.went_off || old.off)
  pub same : IsSame old new
  pub looked : HasLooked new

abbrev pub ClosesNext : Replay → Replay → BitEvents → Result (Option Reception) Misfit → Type 0
ClosesNext old new e (Ok reception) = (p : List Entry) → IsFree p old.free → HasLooked old →
    IsClosed old new p e reception
ClosesNext old new e (Err misfit) =
    (p : List Entry) → IsFree p old.free → HasLooked old → (reception : Option Reception) (brought left : List Entry) →
    Closes p e (left_of old) reception brought left → ⊥

-- a bit with what it brought
pub record IsBrought (old new : Replay) (before : List Entry) (driven seen : Level) (h : BitEvent) : Type 0 where
  pub few : (place_of before).bits + 1 < 2 ^ 32
  pub brings : Brings before driven seen h
  pub brought : List Entry
  pub closes : Closes (last_part (before ++ Bit driven seen ∷ [])) h.events (left_of old) h.reception brought
      (left_of new)
  pub at : IsAt new ((before ++ Bit driven seen ∷ []) ++ brought)

abbrev pub BringsNext : Replay → Replay → Level → Level → Option BitEvent → Type 0
BringsNext old new driven seen (Some h) =
    (before : List Entry) → IsAt old before → IsBrought old new before driven seen h
BringsNext old new driven seen None =
    (before : List Entry) → IsAt old before → IsUntold before driven seen (left_of old)

-- the replay went on past these entries between two bits
pub record IsPast (old new : Replay) (before : List Entry) : Type 0 where
  pub between : List Entry
  pub taken : AreTaken before between
  pub left : left_of old ≡ between ++ left_of new
  pub at : IsAt new (before ++ between)
