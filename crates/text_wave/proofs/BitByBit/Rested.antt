-- Bits in which nothing changes of any node: probes go on past them one behind the other, and nothing is written.
use Rattle.std.proofs.Common.{◌≡◌, ℕ, zero, suc, ◌+◌, ◌<◌, ◌≤◌, Bool, true, false, if◌then◌else◌, List, [], ◌∷◌}
use Rattle.std.proofs.Common.{◌++◌, drop, codes, length, refl, sym, ap, ap₂, ◌∙◌, subst, append-nil, arith}
use Rattle.std.proofs.Common.{append_assoc, decimal, eq-eqb, inl, inr, get_or}
use Rattle.std.specs.Prelude.{slice_index_or}
use Rattle.std.proofs.lemmas.Bool.{cases_lt}
use Rattle.std.proofs.lemmas.List.{get_or_default as or_same}
use Rattle.can_levels.specs.declared.level.Level.TheVariants.{Dominant, Recessive}
use Rattle.can_levels.specs.Fields.{is_recessive}
use Rattle.can_node_rules.specs.Context.{is_held}
use Rattle.can_node_rules.specs.NextBit.{now_in, rests_in}
use Rattle.can_node_rules.specs.declared.counters.Counters.{Counters}
use Rattle.can_node_rules.specs.declared.flag_kind.FlagKind.{FlagKind}
use Rattle.can_node_rules.specs.declared.phase.Phase.{Phase}
use Rattle.can_node_rules.specs.declared.phase.Phase.TheVariants.{Reset, Waiting, Idle, Frame, Flag, Delimiter}
use Rattle.can_node_rules.specs.declared.phase.Phase.TheVariants.{Intermission, Suspension}
use Rattle.lemmas.specs.Related.{EachRelated}
use Rattle.sja_journal.specs.declared.entry.Entry.{Entry}
use Rattle.sja_journal.specs.declared.entry.Entry.TheVariants.{Bit, Up as Item, Abort, Stored, Overrun, Off}
use Rattle.sja_journal.specs.RestBits.{rest_bit, rest_before}
use Rattle.sja_replay.specs.declared.replay.Replay.{Replay}
use Rattle.sja_replay.specs.declared.short_bit.ShortBit.{ShortBit}
use Rattle.sja_replay.specs.ReplayProgress.{HasCome}
use Rattle.sja_replay.specs.Replaying.{IsAt}
use Rattle.sja_replay.specs.ReplayRest.{rested}
use Rattle.sja_replay.specs.Short.{PassesBit}
use Rattle.text_report.specs.ReportLines.{numbered}
use Rattle.text_report.proofs.WrittenLines.Written.{two_texts}
use Rattle.can_levels.specs.BusLevel.{wired}
use Rattle.text_wave.specs.declared.cursor.Cursor.{Cursor}
use Rattle.text_wave.specs.declared.gauges.Gauges.{Gauges}
use Rattle.text_wave.specs.declared.probe.Probe.{Probe}
use Rattle.text_wave.specs.declared.signals.Signals.{Signals}
use Rattle.text_wave.specs.Views.{phase_code}
use Rattle.text_wave.specs.WaveText.{change, number_line, number_change}
use Rattle.text_wave.specs.Wires.{differ}
use Rattle.text_wave.specs.Inside.Changes.{level_changes, number_changes, node_changes, driven_before, driven_now}
use Rattle.text_wave.specs.Inside.Changes.{seen_changes, state_changes, changes_on, all_changes}
use Rattle.text_wave.specs.Inside.Cursors.{advanced}
use Rattle.text_wave.specs.Inside.Meters.{gauges_by, IsReading}
use Rattle.text_wave.specs.Inside.Probes.{GoesOn, AreReading}
use Rattle.text_wave.specs.Inside.WaveRest.{rested_cursor, ProbeRests, ProbeRested, AllRest}
use Rattle.text_wave.proofs.BitByBit.Short.{after_short, short_on}

-- ---- one node: what its journal says

-- the next entry is a bit at rest
next_rest : (i : ℕ) (es : List Entry) → i < rest_before es → drop i es ≡ rest_bit ∷ drop (suc i) es
next_rest zero (Bit Recessive Recessive ∷ es) few = refl
next_rest (suc i) (Bit Recessive Recessive ∷ es) few = next_rest i es (omega (arith, few))
next_rest i [] few = absurd (omega (arith, few))
next_rest i (Bit Recessive Dominant ∷ es) few = absurd (omega (arith, few))
next_rest i (Bit Dominant seen ∷ es) few = absurd (omega (arith, few))
next_rest i (Item u ∷ es) few = absurd (omega (arith, few))
next_rest i (Abort ∷ es) few = absurd (omega (arith, few))
next_rest i (Stored m ∷ es) few = absurd (omega (arith, few))
next_rest i (Overrun m ∷ es) few = absurd (omega (arith, few))
next_rest i (Off ∷ es) few = absurd (omega (arith, few))

abbrev cursor_of : List Entry → Signals → Signals → Cursor
cursor_of es showed shows = record { entries = es; showed = showed; shows = shows }

cursor_on : (es : List Entry) (i : ℕ) (b s : Signals) → i < rest_before es → s.driven ≡ Recessive →
    s.seen ≡ Recessive → cursor_of (drop (suc i) es) s s ≡ advanced (cursor_of (drop i es) b s)
cursor_on es i b s few driven seen =
    let same : record s { driven = Recessive; seen = Recessive } ≡ s =
    λ k. record s { driven = sym driven k; seen = sym seen k } in
    sym (ap (λ (l : List Entry). advanced (cursor_of l b s)) (next_rest i es few)
    ∙ ap (λ (x : Signals). cursor_of (drop (suc i) es) s x) same)

-- ---- one node: its numbers

rested_none : (r : Replay) → rested 0 r ≡ r
rested_none r = let same : r.bits + 0 ≡ r.bits = omega arith in ap (λ b. record r { bits = b }) same

gauges_alike : (c d : Counters) (p r : Phase) (f g : FlagKind) → c.tec ≡ d.tec → c.rec ≡ d.rec → p ≡ r → f ≡ g →
    gauges_by c p f ≡ gauges_by d r g
gauges_alike c d p r f g tec rec phase flag =
    let code = ap₂ phase_code phase flag in λ i. record { tec = tec i; rec = rec i; phase = code i }

-- at rest no flag is under way
calm_code : (p : Phase) (held : Bool) (f g : FlagKind) → rests_in p held ≡ true → phase_code p f ≡ phase_code p g
calm_code Reset held f g rests = refl
calm_code Waiting held f g rests = refl
calm_code Idle held f g rests = refl
calm_code Frame held f g rests = refl
calm_code Flag held f g rests = absurd cc
calm_code Delimiter held f g rests = refl
calm_code Intermission held f g rests = refl
calm_code Suspension held f g rests = refl

-- ---- one node

-- it rests for fewer bits too
probe_fewer : (n m : ℕ) (p : Probe) → ProbeRests n p → m ≤ n → ProbeRests m p
probe_fewer n m p w few =
    let c = w.cursor.bits in let bits = w.meter.rests.bits in let fits = w.meter.rests.few in
    record {
      cursor = record { driven = w.cursor.driven; seen = w.cursor.seen; bits = omega (arith, c, few) };
      meter = record {
        under = w.meter.under;
        rests = record {
          awaits = w.meter.rests.awaits;
          bits = omega (arith, bits, few);
          few = omega (arith, fits, few);
        };
        alike = w.meter.alike;
      };
    }

-- so does each of several up to one of them
pub probe_at : (n m : ℕ) (ps : List Probe) (i : ℕ) (one : Probe) → one ≡ get_or ps i one → m ≤ n →
    ((k : ℕ) (p : Probe) → k < i → ProbeRests n (slice_index_or ps k p)) → ProbeRests m one →
    (k : ℕ) (p : Probe) → k < i + 1 → k < length ps → ProbeRests m (slice_index_or ps k p)
probe_at n m ps i one is few before here k p less within = elim (cases_lt k i) [
  | inl earlier ↦ probe_fewer n m (slice_index_or ps k p) (before k p earlier) few
  | inr later ↦
      let same : k ≡ i = omega (arith, less, later) in
      subst (λ (o : Probe). ProbeRests m o)
      (is ∙ ap (λ j. get_or ps j one) (sym same) ∙ or_same ps k one p within) here
]

module _ (n : ℕ) (old new : Probe) (h : ProbeRested n old new) where
  -- the probe after so many of the bits
  abbrev pub state : ℕ → Probe
  state zero = old
  state (suc i) = record {
    cursor = rested_cursor (suc i) old.cursor;
    meter = record {
      replay = rested (suc i) old.meter.replay;
      over = old.meter.over;
      showed = old.meter.shows;
      shows = old.meter.shows;
      after = old.meter.shows;
    };
  }

  abbrev q : ShortBit
  q = h.meter.short

  module _ (w : ProbeRests n old) (u : IsReading old.meter) where
    shows_same : old.meter.shows ≡ gauges_by q.counters q.phase q.flag
    shows_same =
        let P : Bool → Type 0 = λ b. HasCome b u.journal u.bits old.meter.replay u.told in
        let at = (subst P w.meter.under u.has.come).0.at in
        let a = w.meter.alike in
        let one = a.looks.counters _ at.found at.stands in
        let other = h.meter.looks.counters _ at.found at.stands in
        a.shows
        ∙ gauges_alike a.bit.counters q.counters a.bit.phase q.phase a.bit.flag q.flag (one.0 ∙ sym other.0)
        (one.1 ∙ sym other.1)
        (a.looks.phase _ at.found at.stands ∙ sym (h.meter.looks.phase _ at.found at.stands))
        (a.looks.flag _ at.found at.stands ∙ sym (h.meter.looks.flag _ at.found at.stands))

    code_same : (f : FlagKind) → phase_code q.phase f ≡ phase_code q.phase q.flag
    code_same f =
        let P : Bool → Type 0 = λ b. HasCome b u.journal u.bits old.meter.replay u.told in
        let at = (subst P w.meter.under u.has.come).0.at in
        let held = is_held (now_in at.stands.cut).held in
        calm_code q.phase held f q.flag
        (ap (λ p. rests_in p held) (h.meter.looks.phase _ at.found at.stands)
        ∙ sym (w.meter.rests.awaits.rests _ at.found at.stands))

    goes : (i : ℕ) → i < n → GoesOn (state i) (state (suc i))
    goes zero early =
        let c = w.cursor in let bits = c.bits in
        record {
          cursor = cursor_on old.cursor.entries 0 old.cursor.showed old.cursor.shows (omega (arith, early, bits))
              c.driven c.seen;
          meter = short_on old.meter (state 1).meter q w.meter.under w.meter.under refl shows_same first
              (λ before p. shows_same ∙ after_short old.meter.replay (rested 1 old.meter.replay) before q p q.flag
              (code_same p.happened.after.flag));
        }
      where
        first : (before : List Entry) → IsAt old.meter.replay before →
            PassesBit old.meter.replay (rested 1 old.meter.replay) before q
        first before at =
            let r = old.meter.replay in
            let is = rested_none r in
            subst (λ (x : Replay). PassesBit x (rested 1 r) before q) is
            (h.meter.passes 0 before early (subst (λ (x : Replay). IsAt x before) (sym is) at))
    goes (suc i) early =
        let c = w.cursor in let bits = c.bits in
        record {
          cursor = cursor_on old.cursor.entries (suc i) old.cursor.shows old.cursor.shows (omega (arith, early, bits))
              c.driven c.seen;
          meter = short_on (state (suc i)).meter (state (suc (suc i))).meter q w.meter.under w.meter.under refl
              shows_same (λ before at. h.meter.passes (suc i) before early at)
              (λ before p. shows_same
              ∙ after_short (rested (suc i) old.meter.replay) (rested (suc (suc i)) old.meter.replay) before q p q.flag
              (code_same p.happened.after.flag));
        }

-- after all of them it is the other one
is_last : (n : ℕ) (old new : Probe) (h : ProbeRested n old new) → 1 ≤ n → state n old new h n ≡ new
is_last zero old new h some = absurd (omega (arith, some))
is_last (suc m) old new h some =
    let k = h.meter in
    λ i. record {
      cursor = sym h.cursor i;
      meter = record {
        replay = sym k.replay i;
        over = sym k.over i;
        showed = sym k.showed i;
        shows = sym k.shows i;
        after = sym k.after i;
      };
    }

-- ---- all nodes

abbrev pub states : (n i : ℕ) (ps qs : List Probe) → EachRelated (ProbeRested n) ps qs → List Probe
states n i [] [] r = []
states n i [] (u ∷ us) r = absurd r
states n i (t ∷ ts) [] r = absurd r
states n i (t ∷ ts) (u ∷ us) r = state n t u r.0 i ∷ states n i ts us r.1

pub states_first : (n : ℕ) (ts us : List Probe) (r : EachRelated (ProbeRested n) ts us) → states n 0 ts us r ≡ ts
states_first n [] [] r = refl
states_first n [] (u ∷ us) r = absurd r
states_first n (t ∷ ts) [] r = absurd r
states_first n (t ∷ ts) (u ∷ us) r = ap (λ l. t ∷ l) (states_first n ts us r.1)

pub states_last : (n : ℕ) (ts us : List Probe) (r : EachRelated (ProbeRested n) ts us) → 1 ≤ n →
    states n n ts us r ≡ us
states_last n [] [] r some = refl
states_last n [] (u ∷ us) r some = absurd r
states_last n (t ∷ ts) [] r some = absurd r
states_last n (t ∷ ts) (u ∷ us) r some =
    ap₂ (λ x l. x ∷ l) (is_last n t u r.0 some) (states_last n ts us r.1 some)

pub states_go : (n i : ℕ) (ts us : List Probe) (r : EachRelated (ProbeRested n) ts us) → i < n → AllRest n ts →
    AreReading ts → EachRelated GoesOn (states n i ts us r) (states n (suc i) ts us r)
states_go n i [] [] r early all reading = tt
states_go n i [] (u ∷ us) r early all reading = absurd r
states_go n i (t ∷ ts) [] r early all reading = absurd r
states_go n i (t ∷ ts) (u ∷ us) r early all reading = (
  goes n t u r.0 (all 0 t (omega arith)) reading.0 i early,
  states_go n i ts us r.1 early (λ k d less. all (suc k) d (omega (arith, less))) reading.1,
)

-- ---- nothing changes

none_both : (a b : List ℕ) → a ≡ [] → b ≡ [] → a ++ b ≡ []
none_both a b none nor = ap₂ (λ x y. x ++ y) none nor

change_none : (code : List ℕ) (b : Bool) → change code b b ≡ []
change_none code true = refl
change_none code false = refl

number_none : (code : List ℕ) (k : ℕ) → number_change code k k ≡ []
number_none code k = ap (λ (b : Bool). if b then [] else number_line code k) (eq-eqb k k refl)

-- where two values are the same
change_same : (code : List ℕ) (b c : Bool) → b ≡ c → change code b c ≡ []
change_same code b c same = sym (ap (change code b) same) ∙ change_none code b

number_same : (code : List ℕ) (k m : ℕ) → k ≡ m → number_change code k m ≡ []
number_same code k m same = sym (ap (number_change code k) same) ∙ number_none code k

states_none : (n : ℕ) (old new : Signals) → old.active ≡ new.active → old.off ≡ new.off → old.stored ≡ new.stored →
    old.overrun ≡ new.overrun → state_changes n old new ≡ []
states_none n old new active off stored overrun =
    none_both _ _ (none_both _ _ (none_both _ _
    (change_same (codes "a" ++ decimal n) old.active new.active active)
    (change_same (codes "f" ++ decimal n) old.off new.off off))
    (change_same (codes "m" ++ decimal n) old.stored new.stored stored))
    (change_same (codes "o" ++ decimal n) old.overrun new.overrun overrun)

-- the levels stand before the others
behind_levels : (x a f m o : List ℕ) → x ++ (((a ++ f) ++ m) ++ o) ≡ (((x ++ a) ++ f) ++ m) ++ o
behind_levels x a f m o =
    sym (append_assoc x ((a ++ f) ++ m) o)
    ∙ ap (λ l. l ++ o) (sym (append_assoc x (a ++ f) m) ∙ ap (λ l. l ++ m) (sym (append_assoc x a f)))

pub level_texts : (old t1 t2 : List ℕ) (n : ℕ) (was is : Signals) → t1 ≡ old ++ seen_changes n was is →
    t2 ≡ t1 ++ state_changes n was is → t2 ≡ old ++ level_changes n was is
level_texts old t1 t2 n was is seen states =
    two_texts old t1 t2 (seen_changes n was is) (state_changes n was is) seen states
    ∙ ap (λ l. old ++ l) (behind_levels (seen_changes n was is)
    (change (codes "a" ++ decimal n) was.active is.active) (change (codes "f" ++ decimal n) was.off is.off)
    (change (codes "m" ++ decimal n) was.stored is.stored) (change (codes "o" ++ decimal n) was.overrun is.overrun))

levels_none : (n : ℕ) (s : Signals) → level_changes n s s ≡ []
levels_none n s =
    sym (behind_levels (seen_changes n s s) (change (codes "a" ++ decimal n) s.active s.active)
    (change (codes "f" ++ decimal n) s.off s.off) (change (codes "m" ++ decimal n) s.stored s.stored)
    (change (codes "o" ++ decimal n) s.overrun s.overrun))
    ∙ none_both (seen_changes n s s) (state_changes n s s)
    (none_both _ _ (change_none (codes "d" ++ decimal n) (is_recessive s.driven))
    (change_none (codes "s" ++ decimal n) (is_recessive s.seen)))
    (states_none n s s refl refl refl refl)

-- the text stays where nothing changed
stays : (text more : List ℕ) → more ≡ [] → text ≡ text ++ more
stays text more none = sym (append-nil text) ∙ ap (λ l. text ++ l) (sym none)

pub states_stay : (n : ℕ) (old new : Signals) (text : List ℕ) → old.active ≡ new.active → old.off ≡ new.off →
    old.stored ≡ new.stored → old.overrun ≡ new.overrun → text ≡ text ++ state_changes n old new
states_stay n old new text active off stored overrun =
    stays text (state_changes n old new) (states_none n old new active off stored overrun)

numbers_none : (n : ℕ) (g h : Gauges) (b c : Bool) → g ≡ h → b ≡ c → number_changes n g h b c ≡ []
numbers_none n g h b c same struck =
    none_both _ _ (none_both _ _ (none_both _ _
    (number_same (codes "t" ++ decimal n) g.tec h.tec (ap (λ (x : Gauges). x.tec) same))
    (number_same (codes "r" ++ decimal n) g.rec h.rec (ap (λ (x : Gauges). x.rec) same)))
    (change_same (codes "x" ++ decimal n) b c struck))
    (number_same (codes "p" ++ decimal n) g.phase h.phase (ap (λ (x : Gauges). x.phase) same))

pub numbers_stay : (n : ℕ) (old new : Gauges) (was is : Bool) (text : List ℕ) → old ≡ new → was ≡ is →
    text ≡ text ++ number_changes n old new was is
numbers_stay n old new was is text same struck =
    stays text (number_changes n old new was is) (numbers_none n old new was is same struck)

nodes_none : (bus : Bool) (n i k : ℕ) (ts us : List Probe) (r : EachRelated (ProbeRested n) ts us) →
    numbered (node_changes bus bus) k (states n (suc i) ts us r) ≡ []
nodes_none bus n i k [] [] r = refl
nodes_none bus n i k [] (u ∷ us) r = absurd r
nodes_none bus n i k (t ∷ ts) [] r = absurd r
nodes_none bus n i k (t ∷ ts) (u ∷ us) r =
    none_both _ _
    (none_both _ _ (levels_none k t.cursor.shows)
    (numbers_none k t.meter.shows t.meter.shows (differ bus (is_recessive t.cursor.shows.seen))
    (differ bus (is_recessive t.cursor.shows.seen)) refl refl))
    (nodes_none bus n i (k + 1) ts us r.1)

same_levels : (n i : ℕ) (ts us : List Probe) (r : EachRelated (ProbeRested n) ts us) →
    driven_before (states n (suc i) ts us r) ≡ driven_now (states n (suc i) ts us r)
same_levels n i [] [] r = refl
same_levels n i [] (u ∷ us) r = absurd r
same_levels n i (t ∷ ts) [] r = absurd r
same_levels n i (t ∷ ts) (u ∷ us) r = ap (λ l. t.cursor.shows.driven ∷ l) (same_levels n i ts us r.1)

pub all_none : (n i : ℕ) (ts us : List Probe) (r : EachRelated (ProbeRested n) ts us) →
    all_changes (states n (suc i) ts us r) ≡ []
all_none n i ts us r =
    let now = states n (suc i) ts us r in
    let bus = is_recessive (wired (driven_now now)) in
    ap (λ levels. changes_on (is_recessive (wired levels)) bus now) (same_levels n i ts us r)
    ∙ none_both _ _ (change_none (codes "w") bus) (nodes_none bus n i 0 ts us r)
