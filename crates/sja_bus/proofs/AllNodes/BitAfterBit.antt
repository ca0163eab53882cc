-- One bit after another in which nothing is taken and nothing aborted.
use Rattle.std.proofs.Common.{◌≡◌, ℕ, suc, ◌+◌, ◌-◌, ◌<◌, ◌≤◌, false, None, List, [], ◌∷◌, length}
use Rattle.std.proofs.Common.{replicate, inl, inr, refl, sym, ap, ◌∙◌, subst, arith}
use Rattle.std.specs.Prelude.{slice_index_or, ◌↔◌, ◌⊎◌}
use Rattle.can_levels.specs.declared.level.Level.{Level}
use Rattle.can_node.specs.Stands.{ShowsRest}
use Rattle.sja_journal.specs.Links.{HaveLinks}
use Rattle.sja_link.specs.declared.bus_end.BusEnd.{Ghosts as Ends}
use Rattle.lemmas.specs.Related.{EachRelated}
use Rattle.sja_regs.specs.declared.orders.Orders.{Orders}
use Rattle.sja_regs.specs.declared.bus_turn.BusTurn.{BusTurn}
use Rattle.sja_steps.specs.declared.strike.Strike.{Strike}
use Rattle.sja_steps.specs.Striking.{Strikes}
use Rattle.sja_bus.specs.declared.board.Board.{Ghosts as Ports}
use Rattle.sja_journal.specs.declared.bus_fault.BusFault.{BusFault}
use Rattle.sja_bus.specs.declared.struck_nodes.StruckNodes.{StruckNodes}
use Rattle.sja_bus.specs.declared.bus_node.BusNode.{BusNode}
use Rattle.sja_bus.specs.Inside.StrikesByBit.{IsAmong}
use Rattle.sja_bus.specs.Boards.{KeepsOthers}
use Rattle.sja_bus_rules.specs.Buses.{BusValue}
use Rattle.sja_bus_rules.specs.Reasons.{room_for, StopsBit}
use Rattle.sja_bus.specs.Moment.{Moment, OneBit}
use Rattle.sja_bus.specs.Several.{SomeWork, AreBits}
use Rattle.sja_bus.specs.Several.AreBits.{no_bit, one_more}
use Rattle.sja_bus.specs.Inside.Refusing.{HaveRoom, BusNodeBreaks}
use Rattle.sja_bus.specs.Inside.Rows.{AreBegun, AreReady, EachBusNode, BusNodeTurns, GoesAll, IsBus, journals_of}
use Rattle.sja_bus.specs.Inside.RunningOn.{NoneAborts, moment_of, bus_of, AnyBit}
use Rattle.sja_bus.specs.Inside.Whole.{IsRowBit}
use Rattle.sja_bus.proofs.ItemsTaken.BreakingBusNodes.{stops_bit}
use Rattle.sja_bus.proofs.AllNodes.Journals.{keeps_all, is_bit, all_told}
use Rattle.sja_bus.proofs.AllNodes.Begins.{on_links}
use Rattle.sja_bus.proofs.WholeBus.Logs.{none_untold}
use Rattle.sja_bus.proofs.AllNodes.Many.{goes_all_refl}
use Rattle.sja_bus.proofs.Resting.Rests.{rests_at}
use Rattle.sja_bus.proofs.AllNodes.Running.{count_is, bus_run}
use Rattle.sja_bus.proofs.AllNodes.RunningOn.{opens_none}

-- some node works
pub some_work : (bus_nodes : List BusNode) → AreReady bus_nodes → (k : ℕ) × (k < length bus_nodes)
    × ((s : BusNode) → ShowsRest (slice_index_or bus_nodes k s).node false) → SomeWork (journals_of bus_nodes)
some_work bus_nodes ready which =
    let c = count_is bus_nodes in let near = which.1 in
    let few : which.0 < length (journals_of bus_nodes) = omega (arith, near, c) in
    (which.0, few, rests_at bus_nodes false which.0 ready few which.2)

-- by the bus, its links and its ports
pub one_bit : {E B : Type 0} (e : Ends E) (b : Ports B) (script : List Strike) (starts : ℕ) (steps : List ℕ)
    (n next left less : ℕ)
    (struck : StruckNodes) (bus_nodes after : List BusNode) (links links_after : List E) (board now : B) →
    next ≡ n + 1 →
    less + 1 ≡ left → length after ≡ length bus_nodes → length bus_nodes ≤ 8 →
    ((node : ℕ) → node < 8 → IsAmong node struck ↔ Strikes script n node) →
    IsRowBit (b.orders_are board) (b.told board now) (b.kept board now) struck bus_nodes after →
    EachRelated e.same links links_after → KeepsOthers b.ports b.kept (length bus_nodes) board now →
    GoesAll e.same e.stands bus_nodes after links links_after → AreBegun starts after →
    IsBus script n bus_nodes → IsBus script next after →
    ((k : ℕ) → k < length bus_nodes → b.facts now k) → OneBit e b (moment_of script starts steps n left bus_nodes links
    board)
    (moment_of script starts steps next less after links_after now)
one_bit e b script starts steps n next left less struck bus_nodes after links links_after board now is_next is_less len
    few at row sames others goes begun bus bus_after are =
    let nodes : length after ≡ length (journals_of bus_nodes) = len ∙ sym (count_is bus_nodes) in
    let K : ℕ → Type 0 = λ m. KeepsOthers b.ports b.kept m board now in
    let told = b.told board now in let kept = b.kept board now in record {
      keeps = record {
        sames = sames;
        others = subst K (sym (count_is bus_nodes)) others;
        script = refl;
        starts = refl;
        steps = refl;
        nodes = count_is after ∙ nodes;
      };
      run = is_next;
      left = is_less;
      kept = keeps_all e.same e.stands bus_nodes after links links_after len goes;
      within = on_links starts after begun;
      bit = is_bit (b.orders_are board) told kept script n struck bus_nodes after len few at bus.calm row;
      told = none_untold after (all_told told kept struck bus_nodes after len row) ∙ ap (λ m. replicate m false) nodes;
      right = refl;
      lawful = bus_run script next after bus_after;
      facts = λ k few. are k (let n = count_is bus_nodes in omega (arith, few, n));
    }

-- what holds of the port of each node goes on with a bit
pub facts_of_bit : {B : Type 0} (b : Ports B) →
    ((was now : B) (k : ℕ) → b.ports now ≡ b.ports was → k < b.ports was →
    b.kept was now k ⊎ ((turn : BusTurn) × b.told was now k turn) → b.facts was k → b.facts now k) →
    (struck : StruckNodes) (level : Level) (bus_nodes after : List BusNode) (board now : B) →
    length bus_nodes ≤ b.ports board →
    KeepsOthers b.ports b.kept (length bus_nodes) board now →
    EachBusNode (BusNodeTurns (b.told board now) (b.kept board now) struck level) bus_nodes after →
    ((k : ℕ) → k < length bus_nodes → b.facts board k) → (k : ℕ) → k < length bus_nodes → b.facts now k
facts_of_bit {B} b go_on struck level bus_nodes after board now ports others turns facts k few =
    go_on board now k others.0 (omega (arith, ports, few)) (each bus_nodes turns k few) (facts k few)
  where
    each : (before : List BusNode) →
        EachBusNode (BusNodeTurns (b.told board now) (b.kept board now) struck level) before after →
        (k : ℕ) → k < length before → b.kept board now k ⊎ ((turn : BusTurn) × b.told board now k turn)
    each [] turn k near = absurd (omega (arith, near))
    each (s ∷ before) turn k near = let bit = turn k s near in elim bit.port [
      | inl told ↦ inr (bit.turn, told)
      | inr passed ↦ inl passed.0
    ]

-- ---- several

-- none so far
pub none_yet : {E B : Type 0} (One : ℕ → Moment E B → Moment E B → Type 0) (Before : Moment E B → Type 0)
    (script : List Strike) (starts : ℕ) (steps : List ℕ) (from left : ℕ) (bus_nodes : List BusNode) (links : List E)
    (board : B) →
    AreBits One Before (moment_of script starts steps from left bus_nodes links board) 0
    (moment_of script starts steps (from + 0) (left - 0) bus_nodes links board)
none_yet One Before script starts steps from left bus_nodes links board =
    let f : from ≡ from + 0 = omega arith in let l : left ≡ left - 0 = omega arith in
    let P : ℕ → Type 0 = λ n. AreBits One Before (moment_of script starts steps from left bus_nodes links board) 0
    (moment_of script starts steps n left bus_nodes links board) in
    let Q : ℕ → Type 0 = λ n. AreBits One Before (moment_of script starts steps from left bus_nodes links board) 0
    (moment_of script starts steps (from + 0) n bus_nodes links board) in
    subst Q l (subst P f (no_bit (moment_of script starts steps from left bus_nodes links board)))

-- one more
pub more_bits : {E B : Type 0} (One : ℕ → Moment E B → Moment E B → Type 0) (Before : Moment E B → Type 0)
    (was mid now : Moment E B) (n next : ℕ) → next ≡ n + 1 →
    AreBits One Before was n mid → Before mid → One n mid now → AreBits One Before was next now
more_bits One Before was mid now n next is bits before one =
    let e : suc n ≡ next = omega (arith, is) in
    let P : ℕ → Type 0 = λ k. AreBits One Before was k now in
    subst P e (one_more was mid now n bits before one)

-- after one bit more
pub bits_on : {E B : Type 0} (e : Ends E) (b : Ports B) (Before : Moment E B → Type 0) (was : Moment E B)
    (script : List Strike) (starts : ℕ) (steps : List ℕ) (from run most left : ℕ) (struck : StruckNodes)
    (bus_nodes after : List BusNode) (links links_after : List E) (board now : B) → run < most → most ≤ left →
    length after ≡ length bus_nodes → length bus_nodes ≤ 8 →
    ((node : ℕ) → node < 8 → IsAmong node struck ↔ Strikes script (from + run) node) →
    IsRowBit (b.orders_are board) (b.told board now) (b.kept board now) struck bus_nodes after →
    EachRelated e.same links links_after → KeepsOthers b.ports b.kept (length bus_nodes) board now →
    GoesAll e.same e.stands bus_nodes after links links_after → AreBegun starts after →
    IsBus script (from + run) bus_nodes → IsBus script (from + (run + 1)) after →
    ((k : ℕ) → k < length bus_nodes → b.facts now k) →
    Before (moment_of script starts steps (from + run) (left - run) bus_nodes links board) →
    AreBits (AnyBit e b) Before was run (moment_of script starts steps (from + run) (left - run) bus_nodes links board)
    →
    AreBits (AnyBit e b) Before was (run + 1)
    (moment_of script starts steps (from + (run + 1)) (left - (run + 1)) after links_after now)
bits_on e b Before was script starts steps from run most left struck bus_nodes after links links_after board now early
    enough len few at row sames others goes begun bus bus_after are holds bits =
    more_bits (AnyBit e b) Before was (moment_of script starts steps (from + run) (left - run) bus_nodes links board)
    (moment_of script starts steps (from + (run + 1)) (left - (run + 1)) after links_after now) run (run + 1) refl
    bits holds
    (one_bit e b script starts steps (from + run) (from + (run + 1)) (left - run) (left - (run + 1)) struck bus_nodes
    after links
    links_after board now (omega arith) (omega (arith, early, enough)) len few at row sames others
    goes begun bus bus_after are)

-- the bit of one broke off
pub stops_on : {E : Type 0} (e : Ends E) (orders_are : ℕ → Orders → Type 0) (script : List Strike) (starts : ℕ)
    (steps : List ℕ) (run left bits : ℕ) (bus_nodes after : List BusNode) (links links_after : List E) (f : BusFault)
    (now : BusValue) → ((x : E) → e.same x x) → ((x y : E) → e.same x y → e.links y ≡ e.links x) →
    now.journals ≡ journals_of after → run + left ≡ bits → length after ≡ length bus_nodes →
    length links ≡ length bus_nodes → AreBegun starts bus_nodes → HaveLinks e.links starts links →
    HaveRoom (room_for bits steps) bus_nodes → NoneAborts orders_are (length bus_nodes) →
    BusNodeBreaks e bus_nodes after links f →
    StopsBit e orders_are (bus_of script starts steps run left bus_nodes) now links links_after f
stops_on e orders_are script starts steps run left bits bus_nodes after links links_after f now same_refl same_links
    journals all len ends begun many rooms none breaks =
    stops_bit e orders_are script starts steps run left bits None bus_nodes after links links_after f now same_links
    journals all len ends begun many rooms
    (inr (record {
      opened = bus_nodes;
      between = links;
      count = refl;
      opens = λ m s few. let o = none m few in opens_none (orders_are m)
          (slice_index_or bus_nodes m s).journal.entries o.0 o.1 o.2;
      goes = goes_all_refl e.same e.stands same_refl bus_nodes links;
      begins = λ m s few d n far was. was;
      rooms = λ n h. h;
      breaks = breaks;
    }))
