-- A bit that was passed in short: what a node shows before and after it.
use Rattle.std.proofs.Common.{◌≡◌, ℕ, ◌<◌, suc, Bool, false, Option, Some, None, List, [], ◌∷◌, ◌++◌}
use Rattle.std.proofs.Common.{if◌then◌else◌, refl, sym, ap, ap₂, ◌∙◌, subst, append-nil, arith}
use Rattle.std.proofs.lemmas.List.{length-append}
use Rattle.can_node_rules.specs.declared.bit_events.BitEvents.{BitEvents}
use Rattle.can_node_rules.specs.declared.counters.Counters.{Counters}
use Rattle.can_node_rules.specs.declared.flag_kind.FlagKind.{FlagKind}
use Rattle.can_node_rules.specs.declared.phase.Phase.{Phase}
use Rattle.can_node_rules.specs.declared.phase.Phase.TheVariants.{Reset, Waiting, Idle, Frame, Flag, Delimiter}
use Rattle.can_node_rules.specs.declared.phase.Phase.TheVariants.{Intermission, Suspension}
use Rattle.can_node_rules.specs.NextBit.{now_in}
use Rattle.can_node.specs.NextField.{ShowsFlag}
use Rattle.can_node_rules.specs.Outcomes.{entries_of}
use Rattle.can_node_rules.proofs.OneCut.SameCuts.{same_now}
use Rattle.sja_journal.specs.NodeWords.{NodeEntry, NodeTook, NodeWentOff, FinishedPiece, IsCut}
use Rattle.sja_journal.specs.declared.entry.Entry.{Entry}
use Rattle.sja_journal.specs.declared.entry.Entry.TheVariants.{Bit}
use Rattle.sja_journal.specs.Records.{record_of}
use Rattle.sja_journal.proofs.JournalEntries.Entering.{record_push}
use Rattle.sja_replay.specs.declared.reception.Reception.{Reception}
use Rattle.sja_replay.specs.declared.bit_event.BitEvent.{BitEvent}
use Rattle.sja_replay.specs.declared.replay.Replay.{Replay}
use Rattle.sja_replay.specs.declared.short_bit.ShortBit.{ShortBit}
use Rattle.sja_replay.specs.Closing.{HasReception, off_if}
use Rattle.sja_replay.specs.ReplayProgress.{HasCome, left_in}
use Rattle.sja_replay.specs.BitEvent.{bit_of}
use Rattle.sja_replay.specs.Replaying.{IsAt}
use Rattle.sja_replay.specs.Short.{PassesBit}
use Rattle.sja_replay.proofs.Listed.Coming.{came_by}
use Rattle.text_wave.specs.declared.meter.Meter.{Meter}
use Rattle.text_wave.specs.Views.{view_in, phase_code}
use Rattle.text_wave.specs.Inside.Meters.{gauges_of, gauges_by, ReadsOn}
use Rattle.text_wave.proofs.BitByBit.ViewsIn.{view_front, view_next, view_after}

-- ---- the flag after it

-- two cuts of one record have one flag
flag_by : (entries others : List NodeEntry) (found more : List FinishedPiece) (h : IsCut entries found)
    (k : IsCut others more) → entries ≡ others → (now_in h).flag ≡ (now_in k).flag
flag_by entries others found more h k same =
    let P : List NodeEntry → Type 0 = λ l. (c : IsCut l more) → (now_in h).flag ≡ (now_in c).flag in
    subst P same (λ c. ap (λ x. x.flag) (same_now entries found more h c)) k

-- without a frame there is no verdict
no_verdict : (p : List Entry) (f : Option _) (rest : List Entry) (reception : Option Reception) (verdict : List Entry) →
    HasReception p f rest reception verdict → f ≡ None → verdict ≡ []
no_verdict p None rest reception verdict has none = has.1
no_verdict p (Some f) rest reception verdict has none = absurd cc

module _ (old new : Replay) (before : List Entry) (q : ShortBit) (p : PassesBit old new before q) where
  abbrev h : BitEvent
  h = p.happened

  abbrev j : List Entry
  j = before ++ p.tells.between

  -- the bit brought no entry
  brought_none : p.tells.brought ≡ []
  brought_none =
      let c = p.tells.closes in
      c.are
      ∙ ap₂ (λ v (o : Bool). v ++ off_if o)
      (no_verdict _ h.events.received _ h.reception c.verdict c.has (ap (λ (e : BitEvents). e.received) p.short.told))
      (ap (λ (e : BitEvents). e.went_off) p.short.told)

  pub flag_after : (f : FlagKind) → ShowsFlag new.node f → h.after.flag ≡ f
  flag_after f shows =
      let t = p.tells in
      let b = bit_of t.driven t.seen in
      let whole = (j ++ Bit t.driven t.seen ∷ []) ++ t.brought in
      let is : record_of whole ≡ record_of j ++ entries_of b h.events =
      ap (λ l. record_of ((j ++ Bit t.driven t.seen ∷ []) ++ l)) brought_none
      ∙ ap record_of (append-nil (j ++ Bit t.driven t.seen ∷ [])) ∙ record_push j (Bit t.driven t.seen)
      ∙ sym (ap (λ (o : Bool). record_of j ++ (if o then NodeTook b ∷ NodeWentOff ∷ [] else NodeTook b ∷ []))
      (ap (λ (e : BitEvents). e.went_off) p.short.told)) in
      t.brings.after.flag
      ∙ flag_by _ _ _ _ t.brings.with_bit t.at.stands.cut (sym is)
      ∙ sym (shows _ t.at.found t.at.stands)

  -- what the numbers show
  pub before_short : gauges_of (Some h.before) ≡ gauges_by q.counters q.phase q.flag
  before_short =
      ap (λ (c : Counters). gauges_by c h.before.phase h.before.flag) p.short.counters
      ∙ ap₂ (λ (s : Phase) (f : FlagKind). gauges_by q.counters s f) p.short.phase p.short.flag

  pub after_short : (f : FlagKind) → phase_code q.phase h.after.flag ≡ phase_code q.phase f →
      gauges_by q.counters q.phase f ≡ gauges_of (Some h.after)
  after_short f same = sym (
      ap₂ (λ (c : Counters) (s : Phase). gauges_by c s h.after.flag) p.short.counters_stay p.short.phase_stays
      ∙ ap (λ (n : ℕ). record { tec = q.counters.tec; rec = q.counters.rec; phase = n }) same)

-- outside flags none is shown
pub other_code : (p : Phase) (f g : FlagKind) → (p ≡ Flag → ⊥) → phase_code p f ≡ phase_code p g
other_code Reset f g other = refl
other_code Waiting f g other = refl
other_code Idle f g other = refl
other_code Frame f g other = refl
other_code Flag f g other = absurd (other refl)
other_code Delimiter f g other = refl
other_code Intermission f g other = refl
other_code Suspension f g other = refl

-- ---- a meter goes on past it

pub short_on : (old new : Meter) (q : ShortBit) → old.over ≡ false → new.over ≡ false → new.showed ≡ old.shows →
    new.shows ≡ gauges_by q.counters q.phase q.flag →
    (passes : (before : List Entry) → IsAt old.replay before → PassesBit old.replay new.replay before q) →
    ((before : List Entry) (p : PassesBit old.replay new.replay before q) →
    new.after ≡ gauges_of (Some p.happened.after)) →
    ReadsOn old new
short_on old new q begun still showed shows passes after = record {
  showed = showed;
  fewer = λ not_over reading.
      (let P : Bool → Type 0 = λ b. HasCome b reading.journal reading.bits old.replay reading.told in
      let Q : Bool → Type 0 = λ b. left_in new.over new.replay < left_in b old.replay in
      let R : Bool → Type 0 = λ b. left_in b new.replay < left_in false old.replay in
      let c = subst P begun reading.has.come in
      let few = (passes (c.0).before (c.0).at).goes.fewer in
      subst Q (sym begun) (subst R (sym still) (omega (arith, few))));
  reads = λ journal bits told has.
      (let P : Bool → Type 0 = λ b. HasCome b journal bits old.replay told in
      let c = subst P begun has.come in
      let p = passes (c.0).before (c.0).at in
      let h = p.happened in
      let all = told ++ h ∷ [] in
      let Q : Bool → Type 0 = λ b. HasCome b journal (suc bits) new.replay all in
      let many = c.1 in
      let long = length-append told (h ∷ []) in
      record {
        told = all;
        has = record {
          come = subst Q (sym still)
              (came_by journal old.replay new.replay h told c.0 p.goes, omega (arith, many, long));
          after = after (c.0).before p ∙ ap gauges_of (sym (view_after None told h));
        };
        shows = shows ∙ sym (before_short old.replay new.replay (c.0).before q p)
            ∙ ap gauges_of (sym (view_next None told h))
            ∙ ap (λ (n : ℕ). gauges_of (view_in n all)) many;
        same = λ i less. view_front None told (h ∷ []) i (omega (arith, many, less));
      });
}
