-- The bits of a node are told one after another.
use Rattle.std.proofs.Common.{◌≡◌, ℕ, ◌+◌, ◌<◌, zero, suc, Bool, true, false, Option, Some, None, IfSome}
use Rattle.std.proofs.Common.{List, [], ◌∷◌, ◌++◌, length, refl, sym, ap, ◌∙◌, subst, arith}
use Rattle.std.specs.Prelude.{slice_get}
use Rattle.std.proofs.lemmas.List.{length-append}
use Rattle.std.proofs.lemmas.Option.{slice_get_past}
use Rattle.can_node_rules.proofs.Contending.FieldLevels.{get-append_left, get-append_right}
use Rattle.sja_journal.specs.declared.entry.Entry.{Entry}
use Rattle.sja_replay.specs.declared.bit_event.BitEvent.{BitEvent}
use Rattle.sja_replay.specs.declared.short_bit.ShortBit.{ShortBit}
use Rattle.sja_replay.specs.Happened.{Happened}
use Rattle.sja_replay.specs.Replaying.{left_of, IsAt, GoesOn}
use Rattle.sja_replay.specs.Short.{PassesBit}
use Rattle.sja_replay.specs.ReplayProgress.{HasCome, left_in}
use Rattle.sja_replay.proofs.Listed.Coming.{came_by, came_on, came_all}
use Rattle.text_trace.specs.declared.node_bits.NodeBits.{NodeBits}
use Rattle.text_trace.specs.Telling.{IsUnderway, HaveSame, bit_before, TellsOn, TellsAll}
use Rattle.text_trace.specs.Inside.Finishing.{IsFinishing}
use Rattle.text_trace.specs.Hands.{HandGoesOn}

-- ---- one more behind others

pub get_last : (hs : List BitEvent) (h : BitEvent) → slice_get (hs ++ h ∷ []) (length hs) ≡ Some h
get_last hs h = get-append_right hs (h ∷ []) (length hs) (length hs) 0 refl (omega arith)

-- the bit before one is that of the same bit events
pub before_same : (bits : ℕ) (old new : List BitEvent) → HaveSame bits old new →
    bit_before bits new ≡ bit_before bits old
before_same zero old new same = refl
before_same (suc bit) old new same = same bit (omega arith)

-- ---- a bit more

-- nothing is left
pub over_on : (old new : NodeBits) → old.over ≡ true → new.over ≡ true → new.bit ≡ None → TellsOn old new
over_on old new over still none = record {
  fewer = λ not_over underway. cc;
  tells = λ journal bits told come.
      (let P : Bool → Type 0 = λ b. HasCome b journal bits old.replay told in
      let Q : Bool → Type 0 = λ b. HasCome b journal (suc bits) new.replay told in
      let c = subst P over come in
      let few = c.1 in
      let bit = none ∙ sym (slice_get_past told bits few) in
      record {
        told = told;
        come = (subst Q (sym still) (c.0, omega (arith, few)), bit);
        bit = bit;
        same = λ i h. refl;
      });
}

-- the next bit
pub bit_on : (old new : NodeBits) (h : BitEvent) → old.over ≡ false → new.over ≡ false → new.bit ≡ Some h →
    ((before : List Entry) → IsAt old.replay before → GoesOn old.replay new.replay before (h ∷ [])) →
    TellsOn old new
bit_on old new h begun still some goes = record {
  fewer = λ not_over underway.
      (let P : Bool → Type 0 = λ b. HasCome b underway.journal underway.bits old.replay underway.told in
      let Q : Bool → Type 0 = λ b. left_in new.over new.replay < left_in b old.replay in
      let R : Bool → Type 0 = λ b. left_in b new.replay < left_in false old.replay in
      let c = subst P begun underway.come in
      let few = (goes (c.0).before (c.0).at).fewer in
      subst Q (sym begun) (subst R (sym still) (omega (arith, few))));
  tells = λ journal bits told come.
      (let P : Bool → Type 0 = λ b. HasCome b journal bits old.replay told in
      let c = subst P begun come in
      let all = told ++ h ∷ [] in
      let Q : Bool → Type 0 = λ b. HasCome b journal (suc bits) new.replay all in
      let many = c.1 in
      let long = length-append told (h ∷ []) in
      let bit = some ∙ sym (get_last told h) ∙ ap (λ (n : ℕ). slice_get all n) many in
      record {
        told = all;
        come = (
          subst Q (sym still) (came_on journal old.replay new.replay h told c.0 goes, omega (arith, many, long)),
          bit,
        );
        bit = bit;
        same = λ i less. get-append_left told (h ∷ []) i (omega (arith, many, less));
      });
}

-- there is none
pub none_on : (old new : NodeBits) → old.over ≡ false → new.over ≡ true → new.bit ≡ None →
    ((before : List Entry) → IsAt old.replay before → Happened before (left_of old.replay) []) →
    TellsOn old new
none_on old new begun ends none left = record {
  fewer = λ not_over underway.
      (let Q : Bool → Type 0 = λ b. left_in new.over new.replay < left_in b old.replay in
      let R : Bool → Type 0 = λ b. left_in b new.replay < left_in false old.replay in
      subst Q (sym begun) (subst R (sym ends) (omega arith)));
  tells = λ journal bits told come.
      (let P : Bool → Type 0 = λ b. HasCome b journal bits old.replay told in
      let Q : Bool → Type 0 = λ b. HasCome b journal (suc bits) new.replay told in
      let c = subst P begun come in
      let many = c.1 in
      let bit = none ∙ sym (slice_get_past told bits (omega (arith, many))) in
      record {
        told = told;
        come = (subst Q (sym ends) (came_all journal old.replay told c.0 left, omega (arith, many)), bit);
        bit = bit;
        same = λ i less. refl;
      });
}

-- a bit that was passed, in short
short_on : (old new : NodeBits) (q : ShortBit) → old.over ≡ false → new.over ≡ false →
    ((before : List Entry) → IsAt old.replay before → PassesBit old.replay new.replay before q) →
    HandGoesOn old new (Some q)
short_on old new q begun still passes = λ journal bits told come.
    (let P : Bool → Type 0 = λ b. HasCome b journal bits old.replay told in
    let c = subst P begun come in
    let p = passes (c.0).before (c.0).at in
    let all = told ++ p.happened ∷ [] in
    let Q : Bool → Type 0 = λ b. HasCome b journal (suc bits) new.replay all in
    let many = c.1 in
    let long = length-append told (p.happened ∷ []) in
    record {
      told = all;
      come = subst Q (sym still)
          (came_by journal old.replay new.replay p.happened told c.0 p.goes, omega (arith, many, long));
      hand = record {
        happened = p.happened;
        is = sym (ap (λ (n : ℕ). slice_get all n) many) ∙ get_last told p.happened;
        short = p.short;
      };
      same = λ i less. get-append_left told (p.happened ∷ []) i (omega (arith, many, less));
    })

pub passed_on : (old new : NodeBits) (r : Option ShortBit) → old.over ≡ false → new.over ≡ false →
    IfSome r (λ q. (before : List Entry) → IsAt old.replay before → PassesBit old.replay new.replay before q) →
    IfSome r (λ q. HandGoesOn old new (Some q))
passed_on old new None begun still passes = tt
passed_on old new (Some q) begun still passes = short_on old new q begun still passes

-- or in full
pub hand_on : (old new : NodeBits) (short : Option ShortBit) → short ≡ None → TellsOn old new →
    HandGoesOn old new short
hand_on old new (Some q) none on = cc
hand_on old new None none on = λ journal bits told come.
    (let more = on.tells journal bits told come in
    record { told = more.told; come = more.come.0; hand = sym more.bit; same = more.same })

-- ---- to the end

on_underway : (old new : NodeBits) → TellsOn old new → IsUnderway old → IsUnderway new
on_underway old new on u =
    let more = on.tells u.journal u.bits u.told u.come in
    record { journal = u.journal; bits = suc u.bits; told = more.told; come = more.come.0 }

pub finish_first : (b : NodeBits) → IsUnderway b → IsFinishing b b
finish_first b u = record {
  underway = u;
  tells = λ journal bits told come.
      (let none : bits ≡ bits + 0 = omega arith in
      let P : ℕ → Type 0 = λ n. HasCome b.over journal n b.replay told in
      record { more = 0; told = told; come = subst P none come; same = λ i less. refl });
}

pub finish_next : (first old new : NodeBits) → IsFinishing first old → TellsOn old new → IsFinishing first new
finish_next first old new f on = record {
  underway = on_underway old new on f.underway;
  tells = λ journal bits told come.
      (let t = f.tells journal bits told come in
      let next = on.tells journal (bits + t.more) t.told t.come in
      let one : suc (bits + t.more) ≡ bits + suc t.more = omega arith in
      let P : ℕ → Type 0 = λ n. HasCome new.over journal n new.replay next.told in
      record {
        more = suc t.more;
        told = next.told;
        come = subst P one next.come.0;
        same = λ i less. next.same i (omega (arith, less)) ∙ t.same i less;
      });
}

pub finish_last : (first old : NodeBits) → IsFinishing first old → old.over ≡ true → TellsAll first old
finish_last first old f over = record {
  tells = λ journal bits told come.
      (let t = f.tells journal bits told come in
      let P : Bool → Type 0 = λ b. HasCome b journal (bits + t.more) old.replay t.told in
      let c = subst P over t.come in record { told = t.told; are = c.0; same = t.same });
}
