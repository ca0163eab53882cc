-- A replay goes on past a bit that tells nothing.
use Rattle.std.proofs.Common.{◌≡◌, ℕ, ◌+◌, ◌<◌, ◌≤◌, ◌^◌, Bool, false, Option, Some, None, List, []}
use Rattle.std.proofs.Common.{refl, sym, ap, ◌∙◌, subst, append-nil}
use Rattle.std.specs.Coded.{le_prop}
use Rattle.can_levels.specs.declared.level.Level.{Level}
use Rattle.can_levels.specs.declared.segment.Segment.{Segment}
use Rattle.can_node_rules.specs.declared.bit_events.BitEvents.{BitEvents}
use Rattle.can_node_rules.specs.declared.counters.Counters.{Counters}
use Rattle.can_node.specs.declared.node.Node.{Node}
use Rattle.can_node_rules.specs.declared.request.Request.{Request}
use Rattle.can_node_rules.specs.Context.{ContextValue, is_transmitter}
use Rattle.can_node.specs.NextField.{ShowsSegment}
use Rattle.can_node.specs.Stands.{StandsAt, DrivesNext, Samples, ShowsSame, is_receiving}
use Rattle.can_node_rules.specs.Outcomes.{nothing}
use Rattle.can_node.proofs.Machine.Shown.{phase_shown}
use Rattle.sja_journal.specs.NodeWords.{NodeEntry, FinishedPiece}
use Rattle.sja_journal.specs.declared.entry.Entry.{Entry}
use Rattle.sja_journal.specs.declared.entry.Entry.TheVariants.{Bit}
use Rattle.sja_journal.specs.Free.{IsFree}
use Rattle.sja_journal.specs.Records.{record_of}
use Rattle.sja_replay.specs.declared.bit_event.BitEvent.{BitEvent}
use Rattle.sja_replay.specs.declared.replay.Replay.{Replay}
use Rattle.sja_replay.specs.declared.short_bit.ShortBit.{ShortBit}
use Rattle.sja_replay.specs.declared.view.View.{View}
use Rattle.sja_replay.specs.Inside.Walking.{IsTakenFrom, IsBrought, IsClosed}
use Rattle.sja_replay.specs.Replaying.{IsAt}
use Rattle.sja_replay.specs.Short.{IsNoStart, IsInShort, LooksAt, PassesBit}
use Rattle.sja_replay.specs.Viewing.{Shows}
use Rattle.sja_replay.proofs.BitTaken.Bits.{bit_event, has_bit, told_bit}
use Rattle.sja_replay.proofs.BitTaken.Walks.{past_none, goes_on, goes_bit, tells_bit}

-- ---- what the node shows before the bit and after it

-- with this request
abbrev pub view_with : ShortBit → Option Request → View
view_with q held = record {
  phase = q.phase;
  segment = q.segment;
  transmits = q.transmits;
  counters = q.counters;
  held = held;
  flag = q.flag;
}

abbrev view_before : Node → ShortBit → View
view_before node q = view_with q node.context.held

abbrev view_after : Node → ShortBit → Option Segment → View
view_after node q s = record {
  phase = q.phase;
  segment = s;
  transmits = is_transmitter node.context.role;
  counters = q.counters;
  held = node.context.held;
  flag = node.context.flag;
}

shows_before : (node : Node) (driven seen : Level) (q : ShortBit) → LooksAt node driven seen q →
    Shows node (view_before node q)
shows_before node driven seen q l = λ entries found h.
    let k = l.counters entries found h in record {
      phase = l.phase entries found h;
      segment = l.segment entries found h;
      transmits = l.transmits entries found h;
      tec = k.0;
      rec = k.1;
      off = k.2;
      held = ap (λ (c : ContextValue). c.held) h.shows;
      flag = l.flag entries found h;
    }

shows_after : (old new : Node) (i : List NodeEntry) (found : List FinishedPiece) (driven seen : Level) (q : ShortBit)
    (s : Option Segment) → StandsAt old i found → LooksAt old driven seen q → ShowsSame old new → ShowsSegment new s →
    Shows new (view_after new q s)
shows_after old new i found driven seen q s was l same segment = λ entries more h.
    let k = l.counters i found was in record {
      phase = l.phase i found was ∙ sym (phase_shown old i found was) ∙ sym same.phase
          ∙ phase_shown new entries more h;
      segment = segment entries more h;
      transmits = ap (λ (c : ContextValue). is_transmitter c.role) h.shows;
      tec = k.0 ∙ sym (ap (λ (c : ContextValue). c.tec) was.shows) ∙ sym (ap (λ (n : Counters). n.tec) same.counters)
          ∙ ap (λ (c : ContextValue). c.tec) h.shows;
      rec = k.1 ∙ sym (ap (λ (c : ContextValue). c.rec) was.shows) ∙ sym (ap (λ (n : Counters). n.rec) same.counters)
          ∙ ap (λ (c : ContextValue). c.rec) h.shows;
      off = k.2 ∙ sym (ap (λ (c : ContextValue). c.off) was.shows) ∙ sym (ap (λ (n : Counters). n.off) same.counters)
          ∙ ap (λ (c : ContextValue). c.off) h.shows;
      held = ap (λ (c : ContextValue). c.held) h.shows;
      flag = ap (λ (c : ContextValue). c.flag) h.shows;
    }

-- so it is a bit in short
pub in_short : (q : ShortBit) (h : BitEvent) (held : Option Request) (receiving : Bool) → h.driven ≡ q.driven →
    h.seen ≡ q.seen → h.aborted ≡ false → h.before ≡ view_with q held → h.events ≡ nothing receiving →
    h.after.phase ≡ q.phase → h.after.counters ≡ q.counters → h.reception ≡ None → IsNoStart q → IsInShort h q
in_short q h held receiving driven seen aborted before told phase counters reception quiet = record {
  driven = driven;
  seen = seen;
  aborted = aborted;
  phase = ap (λ (v : View). v.phase) before;
  segment = ap (λ (v : View). v.segment) before;
  transmits = ap (λ (v : View). v.transmits) before;
  counters = ap (λ (v : View). v.counters) before;
  flag = ap (λ (v : View). v.flag) before;
  told = told ∙ ap nothing (sym (ap (λ (e : BitEvents). e.receiving) told));
  phase_stays = phase;
  counters_stay = counters;
  reception = reception;
  no_start = quiet;
}

-- ---- past the bit

-- with the same node a replay is the same one, whatever says that its free bytes fit
pub same_node : (r : Replay) (node : Node) (fits : r.free ≤ 64) → node ≡ r.node →
    record r { node = node; fits = fits } ≡ r
same_node r node fits same =
    ap (λ n. record r { node = n; fits = fits }) same
    ∙ ap (λ (p : r.free ≤ 64). record r { fits = p }) (le_prop fits r.fits)

-- with equal nodes too
pub same_but : (r : Replay) (node other : Node) (fits : r.free ≤ 64) → node ≡ other →
    record r { node = node; fits = fits } ≡ record r { node = other }
same_but r node other fits same =
    ap (λ n. record r { node = n; fits = fits }) same
    ∙ ap (λ (p : r.free ≤ 64). record r { node = other; fits = p }) (le_prop fits r.fits)

-- only the node and the number of bits have changed
pub record HasSampled (old mid : Replay) : Type 0 where
  pub bits : mid.bits ≡ old.bits + 1
  pub few : mid.bits < 2 ^ 32
  pub aborted : mid.aborted ≡ old.aborted
  pub off : mid.off ≡ old.off
  pub free : mid.free ≡ old.free
  pub entries : mid.entries ≡ old.entries

-- the next entry was taken then
pub passed_bit : (old mid new : Replay) (driven seen x : Level) (q : ShortBit) (s : Option Segment)
    (took : Option Entry) (j : List Entry) → IsAt old j → old.ahead ≡ Some (Bit driven seen) → old.aborted ≡ false →
    DrivesNext old.node x → x ≡ driven → LooksAt old.node driven seen q →
    Samples old.node mid.node seen (nothing (is_receiving old.node)) → ShowsSame old.node mid.node →
    ShowsSegment mid.node s → IsNoStart q → HasSampled old mid → IsTakenFrom mid new took → PassesBit old new j q
passed_bit old mid new driven seen x q s took j at ahead unmarked drives is l samples same segment quiet k t =
    let e : BitEvents = nothing (is_receiving old.node) in
    let from : Replay = record old { ahead = new.ahead; entries = new.entries } in
    let to : Replay = record from { node = mid.node; bits = mid.bits; aborted = false } in
    let before : View = view_before old.node q in
    let after : View = view_after mid.node q s in
    let h : BitEvent = bit_event from driven seen before e after None in
    let taken : IsTakenFrom old from (Some (Bit driven seen)) = record {
      same = record { node = refl; bits = refl; aborted = refl };
      off = refl;
      free = refl;
      given = sym ahead;
      left = t.left ∙ k.entries;
      looked = t.looked;
    } in
    let closes : (p : List Entry) → IsFree p old.free → IsClosed to new p e None = λ p free.
    (let P : ℕ → Type 0 = λ n. IsFree p n in
    let Q : List Entry → Type 0 = λ i. IsFree i new.free in
    record {
      brought = [];
      closes = record { verdict = []; has = (refl, refl); are = refl; whole = refl };
      free = subst Q (sym (append-nil p)) (subst P (sym (t.free ∙ k.free)) free);
      off = t.off ∙ k.off;
      same = record { node = t.same.node; bits = t.same.bits; aborted = t.same.aborted ∙ k.aborted ∙ unmarked };
      looked = t.looked;
    }) in
    let brings : (i : List Entry) → IsAt from i → IsBrought from new i driven seen h = λ i here.
    told_bit from to new i driven seen x before e after None here drives is samples
    (shows_before old.node driven seen q l)
    (shows_after old.node mid.node (record_of j) at.found driven seen q s at.stands l same segment)
    (λ p free looked. closes p free)
    (has_bit from mid.node mid.bits _ k.bits k.few) in
    let past = past_none old j at in
    record {
      happened = h;
      short = in_short q h old.node.context.held (is_receiving old.node) (sym l.driven_is) (sym l.seen_is) unmarked
          refl refl refl refl refl quiet;
      goes = goes_bit old old from new j driven seen h (goes_on old old j past) taken brings;
      tells = tells_bit old old from new j driven seen h past taken brings;
      number = refl;
    }
