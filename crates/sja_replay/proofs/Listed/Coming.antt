-- How far a replay has come in a journal, with a bit event more.
use Rattle.std.proofs.Common.{◌≡◌, List, [], ◌∷◌, ◌++◌, sym, subst, append-nil, append_assoc}
use Rattle.sja_journal.specs.declared.entry.Entry.{Entry}
use Rattle.sja_replay.specs.declared.bit_event.BitEvent.{BitEvent}
use Rattle.sja_replay.specs.declared.replay.Replay.{Replay}
use Rattle.sja_replay.specs.ReplayProgress.{CameTo}
use Rattle.sja_replay.specs.Happened.{Happened}
use Rattle.sja_replay.specs.Replaying.{left_of, IsAt, GoesOn}

-- before the first entry
pub came_first : (j : List Entry) (r : Replay) → IsAt r [] → left_of r ≡ j → CameTo j r []
came_first j r at left = record {
  before = [];
  at = at;
  leads = λ more x. (let P : List Entry → Type 0 = λ l. Happened [] l more in subst P left x);
}

-- with a bit event more
pub came_by : (j : List Entry) (old new : Replay) (h : BitEvent) (hs : List BitEvent) → (c : CameTo j old hs) →
    GoesOn old new c.before (h ∷ []) → CameTo j new (hs ++ h ∷ [])
came_by j old new h hs c g = record {
  before = g.now;
  at = g.at;
  leads = λ more x.
      (let P : List BitEvent → Type 0 = λ l. Happened [] j l in
      subst P (sym (append_assoc hs (h ∷ []) more)) (c.leads (h ∷ more) (g.leads more x)));
}

pub came_on : (j : List Entry) (old new : Replay) (h : BitEvent) (hs : List BitEvent) → CameTo j old hs →
    ((before : List Entry) → IsAt old before → GoesOn old new before (h ∷ [])) → CameTo j new (hs ++ h ∷ [])
came_on j old new h hs c goes = came_by j old new h hs c (goes c.before c.at)

pub came_all : (j : List Entry) (r : Replay) (hs : List BitEvent) → CameTo j r hs →
    ((before : List Entry) → IsAt r before → Happened before (left_of r) []) → Happened [] j hs
came_all j r hs c none =
    let P : List BitEvent → Type 0 = λ l. Happened [] j l in
    subst P (append-nil hs) (c.leads [] (none c.before c.at))
