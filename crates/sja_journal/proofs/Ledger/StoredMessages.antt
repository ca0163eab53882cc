-- What is stored is a message.
use Rattle.std.proofs.Common.{ℕ, Bool, true, false, List, [], ◌∷◌, ◌++◌, subst}
use Rattle.std.specs.Prelude.{if◌then◌else◌}
use Rattle.can_frame.specs.Message.{IsMessage}
use Rattle.sja_journal.specs.NodeWords.{ReceivedFrame}
use Rattle.sja_journal.specs.declared.entry.Entry.{Entry}
use Rattle.sja_journal.specs.Carried.{stored_of}
use Rattle.sja_journal.specs.Judged.{Judged, judged_in, kept}
use Rattle.sja_journal.specs.Parts.{part}
use Rattle.lemmas.specs.Picking.{Picks}
use Rattle.lemmas.specs.Picking.Picks.{nothing, picked, left}
use Rattle.sja_journal.specs.Records.{record_of}
use Rattle.sja_journal.specs.Verdicts.{IsOn, IsLawful}
use Rattle.sja_journal.proofs.Ledger.Judging.{kept_stored}
use Rattle.can_node_rules.proofs.Requests.FramesReceived.{AreFrames, all_frames}

-- each of them is
abbrev pub AreMessages : List (List ℕ) → Type 0
AreMessages [] = Unit {0}
AreMessages (m ∷ ms) = IsMessage m × AreMessages ms

real_kept : (b : Bool) (m : List ℕ) (ms : List (List ℕ)) → IsMessage m → AreMessages ms →
    AreMessages ((if b then [] else m ∷ []) ++ ms)
real_kept true m ms is h = h
real_kept false m ms is h = (is, h)

-- a verdict is on the message of a frame
judged_real : {P : ReceivedFrame → Type 0} (frames : List ReceivedFrame) (vs : List Judged) → Picks P IsOn frames vs →
    AreFrames frames → AreMessages (kept vs)
judged_real frames vs nothing are = tt
judged_real frames vs (picked {ys = ys} x y p on more) are =
    real_kept y.overrun y.bytes (kept ys) (x.frame, are.0, on.bytes) (judged_real _ ys more are.1)
judged_real frames vs (left x p more) are = judged_real _ vs more are.1

pub stored_real : (j : List Entry) (a : ℕ) → IsLawful j → AreMessages (stored_of (part j a))
stored_real j a lawful =
    subst (λ (l : List (List ℕ)). AreMessages l) (kept_stored j a)
    (judged_real _ (judged_in j a) ((lawful.verdicts lawful.found lawful.cut).are a)
    (all_frames (record_of j) lawful.found lawful.cut))
