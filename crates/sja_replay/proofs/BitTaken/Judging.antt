-- The entries that a bit brought, taken one after another.
use Rattle.std.proofs.Common.{◌≡◌, ℕ, ◌+◌, ◌-◌, ◌<◌, ◌≤◌, Option, Some}
use Rattle.std.proofs.Common.{List, [], ◌∷◌, length, refl, sym, ap, ◌∙◌, subst, arith}
use Rattle.sja_journal.specs.declared.entry.Entry.{Entry}
use Rattle.sja_journal.specs.declared.entry.Entry.TheVariants.{Stored as StoredEntry}
use Rattle.sja_journal.specs.declared.entry.Entry.TheVariants.{Overrun as OverrunEntry}
use Rattle.sja_journal.specs.Free.{IsFree, free_of}
use Rattle.sja_journal.proofs.Ledger.Freeing.{free_is, free_push}
use Rattle.sja_replay.specs.declared.reception.Reception.{Reception}
use Rattle.sja_replay.specs.declared.reception.Reception.TheVariants.{Stored, Overrun}
use Rattle.sja_replay.specs.declared.replay.Replay.{Replay}
use Rattle.sja_replay.specs.Closing.{Judges}
use Rattle.sja_replay.specs.Inside.Walking.{IsSame, IsTakenFrom, IsJudged}
use Rattle.sja_replay.specs.Replaying.{with_ahead, left_of}
use Rattle.sja_replay.proofs.BitTaken.Walks.{took_left}

-- what is judged, where this entry is the next one
judges_at : (p : List Entry) (r : Replay) (e : Entry) (reception : Reception) (verdict : List Entry) →
    r.ahead ≡ Some e →
    Judges p (e ∷ r.entries) reception verdict → Judges p (left_of r) reception verdict
judges_at p r e reception verdict is h =
    let P : Option Entry → Type 0 = λ a. Judges p (with_ahead a r.entries) reception verdict in subst P (sym is) h

-- ---- a message that was stored; mid is the replay with the bytes taken, before the entry is
pub stored : (old mid new : Replay) (result : Option Entry) (m : List ℕ) (p : List Entry) →
    old.ahead ≡ Some (StoredEntry m) →
    length m ≤ old.free → IsFree p old.free → IsSame old mid → mid.off ≡ old.off → mid.ahead ≡ old.ahead →
    mid.entries ≡ old.entries → mid.free ≡ old.free - length m → IsTakenFrom mid new result →
    IsJudged old new p Stored
stored old mid new result m p is fits free same off ahead entries less t =
    let e : Entry = StoredEntry m in
    let n = free_is p old.free free in
    let left : left_of old ≡ left_of mid =
    ap (λ a. with_ahead a old.entries) (sym ahead) ∙ ap (with_ahead mid.ahead) (sym entries) in
    let step : new.free + length m ≡ old.free = (let a = t.free in omega (arith, a, less, fits)) in
    record {
      verdict = e ∷ [];
      judges = judges_at p old e Stored (e ∷ []) is (refl, refl, omega (arith, n, fits));
      whole = left ∙ took_left mid new result e t (t.given ∙ ahead ∙ is);
      free = free_push p e old.free new.free free (omega (arith, step));
      same = record {
        node = t.same.node ∙ same.node;
        bits = t.same.bits ∙ same.bits;
        aborted = t.same.aborted ∙ same.aborted;
      };
      off = t.off ∙ off;
      looked = t.looked;
    }

-- ---- a message that was overrun

pub overrun : (old new : Replay) (result : Option Entry) (m : List ℕ) (bytes free : ℕ) (p : List Entry) →
    old.ahead ≡ Some (OverrunEntry m) →
    bytes ≡ length m → old.free < length m → IsFree p old.free → IsTakenFrom old new result → free ≡ old.free →
    IsJudged old new p (Overrun bytes free)
overrun old new result m bytes free p is long beyond h t same =
    let e : Entry = OverrunEntry m in
    let n : old.free ≡ free_of p = free_is p old.free h in
    let told : Overrun bytes free ≡ Overrun (length m) (free_of p) =
    ap (λ b. Overrun b free) long ∙ ap (Overrun (length m)) (same ∙ n) in
    record {
      verdict = e ∷ [];
      judges = judges_at p old e (Overrun bytes free) (e ∷ []) is (told, refl, omega (arith, n, beyond));
      whole = took_left old new result e t (t.given ∙ is);
      free = (let a = t.free in free_push p e old.free new.free h (omega (arith, a)));
      same = t.same;
      off = t.off;
      looked = t.looked;
    }
