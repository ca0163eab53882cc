-- A bit of a journal brings one bit event, beside the reception of a frame.
use Rattle.std.proofs.Common.{◌≡◌, not, Bool, List, [], ◌∷◌, ◌++◌, refl, sym, ap, ◌∙◌, subst, if◌then◌else◌}
use Rattle.std.proofs.lemmas.List.{append_cancel_left}
use Rattle.can_levels.specs.declared.level.Level.{Level}
use Rattle.can_node_rules.specs.declared.bit_events.BitEvents.{BitEvents}
use Rattle.can_node_rules.specs.Context.{ContextValue, is_transmitter}
use Rattle.can_node_rules.specs.Events.{Step, events_of}
use Rattle.can_node_rules.specs.NextBit.{now_in, open_bits}
use Rattle.can_node_rules.specs.Outcomes.{closed_by, entries_of}
use Rattle.can_node_rules.proofs.OneCut.CutOnce.{cut_once}
use Rattle.can_node_rules.proofs.CutRecords.BusOff.{went_once}
use Rattle.can_node_rules.proofs.CutRecords.Events.{events_alike, finish_alike}
use Rattle.sja_journal.specs.NodeWords.{NodeBit, NodeEntry, NodeTook, NodeWentOff, FinishedPiece, IsCut, none_yet}
use Rattle.sja_journal.specs.NodeWords.{counted}
use Rattle.sja_journal.specs.declared.entry.Entry.{Entry}
use Rattle.sja_journal.specs.Records.{record_of}
use Rattle.sja_replay.specs.declared.bit_event.BitEvent.{BitEvent}
use Rattle.sja_replay.specs.BitEvent.{Brings, bit_of}
use Rattle.can_node_rules.proofs.OneCut.SameCuts.{same_now, same_place, same_bits}
use Rattle.sja_replay.proofs.Once.Views.{view_once}

-- the role by cuts of two records that are one
pub role_same : (entries again : List NodeEntry) (found others : List FinishedPiece) (h : IsCut entries found)
    (k : IsCut again others) → entries ≡ again →
    not (is_transmitter (now_in h).role) ≡ not (is_transmitter (now_in k).role)
role_same entries again found others h k same =
    let P : List NodeEntry → Type 0 = λ n. (c : IsCut n others) →
    not (is_transmitter (now_in h).role) ≡ not (is_transmitter (now_in c).role) in
    subst P same (λ c. ap (λ (o : ContextValue). not (is_transmitter o.role)) (same_now entries found others h c)) k

-- all of two bit events but the reception
pub record AreAlike (h k : BitEvent) : Type 0 where
  pub bit : h.bit ≡ k.bit
  pub driven : h.driven ≡ k.driven
  pub seen : h.seen ≡ k.seen
  pub aborted : h.aborted ≡ k.aborted
  pub before : h.before ≡ k.before
  pub events : h.events ≡ k.events
  pub after : h.after ≡ k.after

-- what a bit after this journal told, by a cut of its record, and a cut of the record with the bit
pub record Tells (j : List Entry) (driven seen : Level) (e : BitEvents) : Type 0 where
  pub found : List FinishedPiece
  pub cut : IsCut (record_of j) found
  pub step : Step
  pub told : e ≡ events_of step (now_in cut) cut.place (open_bits cut) (bit_of driven seen)
  pub with_bit : IsCut (record_of j ++ entries_of (bit_of driven seen) e)
      (found ++ closed_by (counted none_yet (record_of j ++ NodeTook (bit_of driven seen) ∷ [])) step)
  pub role : e.receiving ≡ not (is_transmitter (now_in with_bit).role)

pub tells : (j : List Entry) (driven seen : Level) (x : BitEvent) → Brings j driven seen x →
    Tells j driven seen x.events
tells j driven seen x h = record {
  found = h.found;
  cut = h.cut;
  step = h.step;
  told = h.events;
  with_bit = h.with_bit;
  role = h.role;
}

module _ (j : List Entry) (driven seen : Level) (e f : BitEvents) (h : Tells j driven seen e)
    (k : Tells j driven seen f) where
  abbrev pub r : List NodeEntry
  r = record_of j

  abbrev pub b : NodeBit
  b = bit_of driven seen

  found_same : h.found ≡ k.found
  found_same = cut_once r h.found k.found h.cut k.cut

  -- the record with the bit
  pub with_same : r ++ entries_of b e ≡ r ++ entries_of b f
  with_same = ap (λ (o : Bool). r ++ (if o then NodeTook b ∷ NodeWentOff ∷ [] else NodeTook b ∷ []))
      (went_once r b e f _ _ h.with_bit k.with_bit)

  -- the piece that it finished
  pieces_same : closed_by (counted none_yet (r ++ NodeTook b ∷ [])) h.step
      ≡ closed_by (counted none_yet (r ++ NodeTook b ∷ [])) k.step
  pieces_same =
      let n = counted none_yet (r ++ NodeTook b ∷ []) in
      let P : List NodeEntry → Type 0 = λ l. IsCut l (h.found ++ closed_by n h.step) in
      let once : h.found ++ closed_by n h.step ≡ k.found ++ closed_by n k.step =
      cut_once (r ++ entries_of b f) (h.found ++ closed_by n h.step) (k.found ++ closed_by n k.step)
      (subst P with_same h.with_bit) k.with_bit in
      append_cancel_left k.found (closed_by n h.step) (closed_by n k.step)
      (ap (λ l. l ++ closed_by n h.step) (sym found_same) ∙ once)

  -- what it told, by the second cut
  told_by : e ≡ events_of h.step (now_in k.cut) k.cut.place (open_bits k.cut) b
  told_by =
      let now = same_now r h.found k.found h.cut k.cut in
      let place = same_place r h.found k.found h.cut k.cut in
      let bits = same_bits r h.found k.found h.cut k.cut in
      h.told ∙ (λ i. events_of h.step (now i) (place i) (bits i) b)

  pub events_once : e ≡ f
  events_once =
      let n = counted none_yet (r ++ NodeTook b ∷ []) in
      let same : e.receiving ≡ f.receiving =
      h.role ∙ role_same (r ++ entries_of b e) (r ++ entries_of b f) _ _ h.with_bit k.with_bit with_same ∙ sym k.role in
      let role = ap (λ (x : BitEvents). x.receiving) (sym told_by) ∙ same
      ∙ ap (λ (x : BitEvents). x.receiving) k.told in
      told_by ∙ events_alike h.step k.step (now_in k.cut) k.cut.place (open_bits k.cut) b
      (finish_alike n h.step k.step pieces_same) role ∙ sym k.told

pub brings_once : (j : List Entry) (driven seen : Level) (x y : BitEvent) → Brings j driven seen x →
    Brings j driven seen y → AreAlike x y
brings_once j driven seen x y h k =
    let r = record_of j in
    let a = tells j driven seen x h in
    let c = tells j driven seen y k in record {
      bit = h.bit ∙ sym k.bit;
      driven = h.levels.0 ∙ sym k.levels.0;
      seen = h.levels.1 ∙ sym k.levels.1;
      aborted = h.aborted ∙ sym k.aborted;
      before = view_once r r h.found k.found h.cut k.cut x.before y.before refl h.before k.before;
      events = events_once j driven seen x.events y.events a c;
      after = view_once (r ++ entries_of (bit_of driven seen) x.events) (r ++ entries_of (bit_of driven seen) y.events)
          _ _ h.with_bit k.with_bit x.after y.after (with_same j driven seen x.events y.events a c) h.after k.after;
    }
