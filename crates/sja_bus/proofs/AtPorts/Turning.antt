-- The turn of a bit.
use Rattle.std.proofs.Common.{◌≡◌, ◌+◌, Bool, false, List, [], ◌∷◌, ◌++◌, refl, sym, ap, ◌∙◌, subst}
use Rattle.std.specs.Prelude.{not}
use Rattle.can_levels.specs.declared.level.Level.{Level}
use Rattle.can_node_rules.specs.declared.bit_events.BitEvents.{BitEvents}
use Rattle.can_node_rules.specs.declared.counters.Counters.{Counters}
use Rattle.can_node.specs.declared.node.Node.{Node}
use Rattle.can_node_rules.specs.Bits.{Bit as Levels}
use Rattle.can_node_rules.specs.Context.{ContextValue, is_transmitter}
use Rattle.can_node_rules.specs.Record.{RecordEntry as Event}
use Rattle.can_node_rules.specs.Record.RecordEntry.{OneBit as Took}
use Rattle.can_node_rules.specs.FinishedPieces.{FinishedPiece, counted, none_yet}
use Rattle.can_node_rules.specs.NextBit.{now_in}
use Rattle.can_node.specs.Stands.{StandsAt, Samples, DrivesNext, ShowsSame, ShowsPhase}
use Rattle.can_node_rules.specs.Outcomes.{entries_of, closed_by, nothing}
use Rattle.can_node.specs.Stands.{is_receiving, shown_phase}
use Rattle.can_node.proofs.Machine.Shown.{phase_shown}
use Rattle.sja_journal.specs.declared.entry.Entry.{Entry}
use Rattle.sja_journal.specs.declared.entry.Entry.TheVariants.{Bit}
use Rattle.sja_journal.specs.Places.{place_of}
use Rattle.sja_journal.specs.Records.{record_of}
use Rattle.sja_journal.proofs.JournalEntries.Entering.{place_push}
use Rattle.sja_regs.specs.declared.bus_turn.BusTurn.{BusTurn}
use Rattle.sja_journal.specs.BitEntries.{HasBit}
use Rattle.sja_journal.specs.Entries.{off_left}
use Rattle.sja_bus_rules.specs.Telling.{SaysAlone, IsTurn, is_overrun}
use Rattle.sja_bus.specs.Inside.Following.{Follows}
use Rattle.sja_bus.specs.Inside.Turning.{Drops, SaysAs, TurnOf, is_dropped}
use Rattle.sja_bus.specs.declared.bus_node.BusNode.{BusNode}
use Rattle.sja_bus.specs.declared.pending_event.PendingEvent.TheVariants.{Nothing}
use Rattle.sja_bus.specs.Inside.BusNodes.{IsSound}
use Rattle.can_node.specs.NextField.{ShowsRole}
use Rattle.can_node_rules.proofs.OneCut.SameCuts.{same_now, same_phase}
use Rattle.sja_journal.proofs.Growing.BitRecords.{entries_split, record_bit}

-- ---- the turn

-- the node at a record, and the role that was told
record StandsAfter (new : Node) (r : List Event) (pieces : List FinishedPiece) (receiving : Bool) : Type 0 where
  pub stands : StandsAt new r pieces
  pub role : receiving ≡ not (is_transmitter (now_in stands.cut).role)

-- the counters that the turn says, and bus-off, are those of every record
abbrev pub SaysCounters : Node → BusTurn → Type 0
SaysCounters node turn = (entries : List Event) (found : List FinishedPiece) (h : StandsAt node entries found) →
    (turn.txerr ≡ (now_in h.cut).tec) × (turn.rxerr ≡ (now_in h.cut).rec) × (turn.off ≡ (now_in h.cut).off)

pub turn_is : (old new : Node) (j k : List Entry) (x seen : Level) (e : BitEvents) (bit : HasBit j x seen k)
    (changed dropped : Bool) (turn : BusTurn) →
    DrivesNext old x → Samples old new seen e → Follows old j → e.went_off ≡ bit.off → turn.events ≡ e →
    turn.activation ≡ (place_of k).activation →
    SaysCounters new turn → ShowsPhase new turn.phase → turn.overrun ≡ is_overrun bit.verdict → turn.aborted ≡ dropped →
    Drops changed j dropped →
    IsTurn changed j x seen k bit turn
turn_is old new j k x seen e bit changed dropped turn drives samples h off events activation counters phase
    overrun aborted drops =
    let b : Levels = record { driven = x; seen = seen } in
    let r = record_of j in
    let leads = samples r h.found h.stands x (drives r h.found h.stands) in
    let pieces = h.found ++ closed_by (counted none_yet (r ++ Took b ∷ [])) leads.step in
    let P : List Event → Type 0 = λ l. StandsAfter new l pieces e.receiving in
    let same : r ++ entries_of b e ≡ record_of k = entries_split r b e.went_off
    ∙ ap (λ w. (r ++ Took b ∷ []) ++ off_left w) off ∙ sym (record_bit j k x seen bit) in
    let after : StandsAfter new (record_of k) pieces e.receiving =
    subst P same (record { stands = leads.stands; role = leads.role }) in
    let c = counters (record_of k) pieces after.stands in
    record {
      found = h.found;
      cut = h.stands.cut;
      step = leads.step;
      events = events ∙ leads.told;
      after = after.stands.cut;
      says = record {
        found = pieces;
        cut = after.stands.cut;
        activation = activation;
        txerr = c.0;
        rxerr = c.1;
        off = c.2;
        phase = phase (record_of k) pieces after.stands;
        receiving = ap (λ (v : BitEvents). v.receiving) events ∙ after.role;
      };
      off = ap (λ (v : BitEvents). v.went_off) events ∙ off;
      overrun = overrun;
      aborted = aborted ∙ drops h.found h.stands.cut;
    }

-- ---- a bit in which nothing happened

-- what a node says that is at the end of this journal
abbrev pub still : Node → List Entry → BusTurn
still node j = record {
  activation = (place_of j).activation;
  events = nothing (is_receiving node);
  txerr = node.context.counters.tec;
  rxerr = node.context.counters.rec;
  off = node.context.counters.off;
  phase = shown_phase node;
  aborted = false;
  overrun = false;
}

pub still_alone : (node : Node) (j : List Entry) → Follows node j → SaysAlone j (still node j)
still_alone node j h =
    let s = h.stands.shows in record {
      says = record {
        found = h.found;
        cut = h.stands.cut;
        activation = refl;
        txerr = ap (λ (c : ContextValue). c.tec) s;
        rxerr = ap (λ (c : ContextValue). c.rec) s;
        off = ap (λ (c : ContextValue). c.off) s;
        phase = phase_shown node (record_of j) h.found h.stands;
        receiving = ap (λ (c : ContextValue). not (is_transmitter c.role)) s;
      };
      events = refl;
      aborted = refl;
      overrun = refl;
    }

-- two turns that say the same are one
pub says_same : (t u : BusTurn) → t.events ≡ u.events → SaysAs t u → t ≡ u
says_same t u events beside = λ i. record {
  activation = beside.activation i;
  events = events i;
  txerr = beside.txerr i;
  rxerr = beside.rxerr i;
  off = beside.off i;
  phase = beside.phase i;
  aborted = beside.aborted i;
  overrun = beside.overrun i;
}

-- so are two that say what stands there, and nothing else
pub alone_once : (j : List Entry) (t u : BusTurn) → SaysAlone j t → SaysAlone j u → t ≡ u
alone_once j t u a b =
    let r = record_of j in let p = a.says in let q = b.says in
    let now = same_now r p.found q.found p.cut q.cut in
    let receiving : t.events.receiving ≡ u.events.receiving = p.receiving
    ∙ ap (λ (c : ContextValue). not (is_transmitter c.role)) now ∙ sym q.receiving in
    says_same t u (a.events ∙ ap nothing receiving ∙ sym b.events) (record {
      activation = p.activation ∙ sym q.activation;
      receiving = receiving;
      txerr = p.txerr ∙ ap (λ (c : ContextValue). c.tec) now ∙ sym q.txerr;
      rxerr = p.rxerr ∙ ap (λ (c : ContextValue). c.rec) now ∙ sym q.rxerr;
      off = p.off ∙ ap (λ (c : ContextValue). c.off) now ∙ sym q.off;
      phase = p.phase ∙ same_phase r p.found q.found p.cut q.cut ∙ sym q.phase;
      aborted = a.aborted ∙ sym b.aborted;
      overrun = a.overrun ∙ sym b.overrun;
    })

-- what a bus node says that is told all, where nothing happened
pub stands_alone : (s : BusNode) (turn : BusTurn) (sends : Bool) → IsSound s → s.untold ≡ Nothing →
    ShowsRole s.node sends → TurnOf s (nothing (not sends)) false turn → SaysAlone s.journal.entries turn
stands_alone s turn sends sound calm role t =
    let h = sound.follows in let r = record_of s.journal.entries in let c = t.counters r h.found h.stands in
    let receiving = ap (λ (v : BitEvents). v.receiving) t.events_are in record {
      says = record {
        found = h.found;
        cut = h.stands.cut;
        activation = t.activation ∙ sym sound.reads.begun;
        txerr = c.0;
        rxerr = c.1;
        off = c.2;
        phase = t.phase r h.found h.stands;
        receiving = receiving ∙ ap not (role r h.found h.stands);
      };
      events = t.events_are ∙ ap nothing (sym receiving);
      aborted = t.aborted ∙ ap is_dropped calm;
      overrun = t.overrun_is;
    }

-- it is the turn of such a bit
pub still_turn : (old new : Node) (j k : List Entry) (x seen : Level) (bit : HasBit j x seen k)
    (changed dropped : Bool) → DrivesNext old x →
    Samples old new seen (nothing (is_receiving old)) → ShowsSame old new → Follows old j → k ≡ j ++ Bit x seen ∷ [] →
    false ≡ bit.off → false ≡ is_overrun bit.verdict →
    dropped ≡ false → Drops changed j dropped → IsTurn changed j x seen k bit (still old j)
still_turn old new j k x seen bit changed dropped drives samples same h whole off overrun none drops =
    turn_is old new j k x seen (nothing (is_receiving old)) bit changed dropped (still old j) drives samples h off refl
    (sym (ap (λ l. (place_of l).activation) whole ∙ ap (λ p. p.activation) (place_push j (Bit x seen))))
    (λ entries found s. (
      ap (λ (c : Counters). c.tec) (sym same.counters) ∙ ap (λ (c : ContextValue). c.tec) s.shows,
      ap (λ (c : Counters). c.rec) (sym same.counters) ∙ ap (λ (c : ContextValue). c.rec) s.shows,
      ap (λ (c : Counters). c.off) (sym same.counters) ∙ ap (λ (c : ContextValue). c.off) s.shows,
    ))
    (λ entries found s. sym same.phase ∙ phase_shown new entries found s)
    overrun (sym none) drops

-- ---- what is to be told
