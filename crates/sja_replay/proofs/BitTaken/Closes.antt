-- All entries that a bit brought, taken or not there.
use Rattle.std.proofs.Common.{◌≡◌, ◌||◌, ℕ, true, false, Option, Some, None, Ok, List, [], ◌∷◌, ◌++◌}
use Rattle.std.proofs.Common.{refl, sym, ap, ◌∙◌, subst, append-nil, append_assoc}
use Rattle.can_frame.specs.Frame.{FrameValue}
use Rattle.can_node_rules.specs.declared.bit_events.BitEvents.{BitEvents}
use Rattle.sja_journal.specs.declared.entry.Entry.{Entry}
use Rattle.sja_journal.specs.declared.entry.Entry.TheVariants.{Off}
use Rattle.sja_journal.specs.Free.{IsFree}
use Rattle.sja_journal.proofs.Ledger.Freeing.{free_same}
use Rattle.sja_replay.specs.declared.reception.Reception.{Reception}
use Rattle.sja_replay.specs.declared.replay.Replay.{Replay}
use Rattle.sja_replay.specs.Closing.{HasReception, off_if}
use Rattle.sja_replay.specs.Inside.Walking.{HasLooked, IsJudged, IsVerdictTaken, GoesOff, IsClosed}
use Rattle.sja_replay.specs.Replaying.{left_of}

-- ---- the verdict, if there is one

pub with_frame : (old new : Replay) (p : List Entry) (frame : Option FrameValue) (f : FrameValue)
    (reception : Reception) →
    frame ≡ Some f → IsJudged old new p reception → IsVerdictTaken old new p frame (Some reception)
with_frame old new p frame f reception is h =
    let P : Option FrameValue → Type 0 = λ o. HasReception p o (left_of old) (Some reception) h.verdict in record {
      verdict = h.verdict;
      has = subst P (sym is) (reception, refl, h.judges);
      whole = h.whole;
      free = h.free;
      same = h.same;
      off = h.off;
      looked = h.looked;
    }

pub without_frame : (r : Replay) (p : List Entry) (frame : Option FrameValue) → frame ≡ None → IsFree p r.free →
    HasLooked r → IsVerdictTaken r r p frame None
without_frame r p frame is free looked =
    let P : Option FrameValue → Type 0 = λ o. HasReception p o (left_of r) None [] in
    let Q : List Entry → Type 0 = λ l. IsFree l r.free in record {
      verdict = [];
      has = subst P (sym is) (refl, refl);
      whole = refl;
      free = subst Q (sym (append-nil p)) free;
      same = record { node = refl; bits = refl; aborted = refl };
      off = refl;
      looked = looked;
    }

-- ---- bus-off, if it comes

pub closed_on : (old new : Replay) (p : List Entry) (e : BitEvents) (reception : Option Reception) →
    e.went_off ≡ false →
    IsVerdictTaken old new p e.received reception → IsClosed old new p e reception
closed_on old new p e reception on h =
    let b : h.verdict ≡ h.verdict ++ off_if e.went_off =
    sym (append-nil h.verdict) ∙ ap (λ o. h.verdict ++ off_if o) (sym on) in record {
      brought = h.verdict;
      closes = record { verdict = h.verdict; has = h.has; are = b; whole = h.whole };
      free = h.free;
      off = h.off ∙ ap (λ o. o || old.off) (sym on);
      same = h.same;
      looked = h.looked;
    }

pub closed_off : (old mid new : Replay) (p : List Entry) (e : BitEvents) (reception : Option Reception) →
    e.went_off ≡ true →
    IsVerdictTaken old mid p e.received reception → GoesOff mid new (Ok tt) → IsClosed old new p e reception
closed_off old mid new p e reception off h g =
    let left = g.0 h.looked in
    let brought : List Entry = h.verdict ++ Off ∷ [] in
    let P : List Entry → Type 0 = λ l. IsFree l new.free in
    let Q : ℕ → Type 0 = λ n. IsFree ((p ++ h.verdict) ++ Off ∷ []) n in record {
      brought = brought;
      closes = record {
        verdict = h.verdict;
        has = h.has;
        are = ap (λ o. h.verdict ++ off_if o) (sym off);
        whole = h.whole ∙ ap (λ l. h.verdict ++ l) left.0
            ∙ sym (append_assoc h.verdict (Off ∷ []) (left_of new));
      };
      free = subst P (append_assoc p h.verdict (Off ∷ []))
          (subst Q (sym g.3) (free_same (p ++ h.verdict) Off mid.free refl refl h.free));
      off = g.2 ∙ ap (λ o. o || old.off) (sym off);
      same = record {
        node = g.1.node ∙ h.same.node;
        bits = g.1.bits ∙ h.same.bits;
        aborted = g.1.aborted ∙ h.same.aborted;
      };
      looked = left.1;
    }
