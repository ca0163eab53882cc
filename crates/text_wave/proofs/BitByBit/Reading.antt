-- A node's numbers are read bit by bit.
use Rattle.std.proofs.Common.{◌≡◌, ℕ, ◌<◌, ◌≤◌, suc, Bool, true, false, Some, None, List, [], ◌∷◌, ◌++◌, length}
use Rattle.std.proofs.Common.{refl, sym, ap, ◌∙◌, subst, arith}
use Rattle.std.proofs.lemmas.List.{length-append}
use Rattle.sja_journal.specs.declared.entry.Entry.{Entry}
use Rattle.sja_replay.specs.declared.bit_event.BitEvent.{BitEvent}
use Rattle.sja_replay.specs.ReplayProgress.{HasCome, left_in}
use Rattle.sja_replay.specs.Happened.{Happened}
use Rattle.sja_replay.specs.Replaying.{left_of, IsAt, GoesOn}
use Rattle.sja_replay.proofs.Listed.Coming.{came_on, came_all}
use Rattle.text_wave.specs.declared.meter.Meter.{Meter}
use Rattle.text_wave.specs.Views.{view_in}
use Rattle.text_wave.specs.Inside.Meters.{gauges_of, IsReading, ReadsOn, IsFinishing, ReadsAll}
use Rattle.text_wave.proofs.BitByBit.ViewsIn.{view_front, view_next, view_after, view_past}

-- ---- a meter goes on

-- nothing is left
pub over_on : (old new : Meter) → old.over ≡ true → new.over ≡ true → new.showed ≡ old.shows →
    new.shows ≡ old.after → new.after ≡ old.after → ReadsOn old new
over_on old new over still showed shows kept = record {
  showed = showed;
  fewer = λ not_over reading. cc;
  reads = λ journal bits told has.
      (let P : Bool → Type 0 = λ b. HasCome b journal bits old.replay told in
      let Q : Bool → Type 0 = λ b. HasCome b journal (suc bits) new.replay told in
      let c = subst P over has.come in
      let few = c.1 in
      record {
        told = told;
        has = record { come = subst Q (sym still) (c.0, omega (arith, few)); after = kept ∙ has.after };
        shows = shows ∙ has.after ∙ ap gauges_of (sym (view_past None told bits few));
        same = λ i less. refl;
      });
}

-- the next bit
pub bit_on : (old new : Meter) (h : BitEvent) → old.over ≡ false → new.over ≡ false → new.showed ≡ old.shows →
    new.shows ≡ gauges_of (Some h.before) → new.after ≡ gauges_of (Some h.after) →
    ((before : List Entry) → IsAt old.replay before → GoesOn old.replay new.replay before (h ∷ [])) → ReadsOn old new
bit_on old new h begun still showed shows after goes = record {
  showed = showed;
  fewer = λ not_over reading.
      (let P : Bool → Type 0 = λ b. HasCome b reading.journal reading.bits old.replay reading.told in
      let Q : Bool → Type 0 = λ b. left_in new.over new.replay < left_in b old.replay in
      let R : Bool → Type 0 = λ b. left_in b new.replay < left_in false old.replay in
      let c = subst P begun reading.has.come in
      let few = (goes (c.0).before (c.0).at).fewer in
      subst Q (sym begun) (subst R (sym still) (omega (arith, few))));
  reads = λ journal bits told has.
      (let P : Bool → Type 0 = λ b. HasCome b journal bits old.replay told in
      let c = subst P begun has.come in
      let all = told ++ h ∷ [] in
      let Q : Bool → Type 0 = λ b. HasCome b journal (suc bits) new.replay all in
      let many = c.1 in
      let long = length-append told (h ∷ []) in
      record {
        told = all;
        has = record {
          come = subst Q (sym still)
              (came_on journal old.replay new.replay h told c.0 goes, omega (arith, many, long));
          after = after ∙ ap gauges_of (sym (view_after None told h));
        };
        shows = shows ∙ ap gauges_of (sym (view_next None told h))
            ∙ ap (λ (n : ℕ). gauges_of (view_in n all)) many;
        same = λ i less. view_front None told (h ∷ []) i (omega (arith, many, less));
      });
}

-- there is none
pub none_on : (old new : Meter) → old.over ≡ false → new.over ≡ true → new.showed ≡ old.shows →
    new.shows ≡ old.after → new.after ≡ old.after →
    ((before : List Entry) → IsAt old.replay before → Happened before (left_of old.replay) []) → ReadsOn old new
none_on old new begun ends showed shows kept left = record {
  showed = showed;
  fewer = λ not_over reading.
      (let Q : Bool → Type 0 = λ b. left_in new.over new.replay < left_in b old.replay in
      let R : Bool → Type 0 = λ b. left_in b new.replay < left_in false old.replay in
      subst Q (sym begun) (subst R (sym ends) (omega arith)));
  reads = λ journal bits told has.
      (let P : Bool → Type 0 = λ b. HasCome b journal bits old.replay told in
      let Q : Bool → Type 0 = λ b. HasCome b journal (suc bits) new.replay told in
      let c = subst P begun has.come in
      let many = c.1 in
      let few : length told ≤ bits = omega (arith, many) in
      record {
        told = told;
        has = record {
          come = subst Q (sym ends) (came_all journal old.replay told c.0 left, omega (arith, many));
          after = kept ∙ has.after;
        };
        shows = shows ∙ has.after ∙ ap gauges_of (sym (view_past None told bits few));
        same = λ i less. refl;
      });
}

-- ---- a meter goes on to the end

on_reading : (old new : Meter) → ReadsOn old new → IsReading old → IsReading new
on_reading old new on r =
    let more = on.reads r.journal r.bits r.told r.has in
    record { journal = r.journal; bits = suc r.bits; told = more.told; has = more.has }

pub finish_first : (m : Meter) → IsReading m → IsFinishing m m
finish_first m r = record {
  reading = r;
  reads = λ journal bits told has.
      record { now = bits; told = told; has = has; further = omega arith; same = λ i less. refl };
}

pub finish_next : (first old new : Meter) → IsFinishing first old → ReadsOn old new → IsFinishing first new
finish_next first old new f on = record {
  reading = on_reading old new on f.reading;
  reads = λ journal bits told has.
      (let t = f.reads journal bits told has in
      let next = on.reads journal t.now t.told t.has in
      let far = t.further in
      record {
        now = suc t.now;
        told = next.told;
        has = next.has;
        further = omega (arith, far);
        same = λ i less. next.same i (omega (arith, far, less)) ∙ t.same i less;
      });
}

pub finish_last : (first old : Meter) → IsFinishing first old → old.over ≡ true → ReadsAll first old
finish_last first old f over = λ journal bits told has.
    let t = f.reads journal bits told has in
    let P : Bool → Type 0 = λ b. HasCome b journal t.now old.replay t.told in
    let c = subst P over t.has.come in
    record { told = t.told; are = c.0; same = t.same }
