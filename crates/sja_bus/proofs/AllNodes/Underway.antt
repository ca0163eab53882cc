-- One node more of a bus has its bit.
use Rattle.std.proofs.Common.{◌≡◌, ◌≢◌, ℕ, ◌+◌, ◌<◌, Bool, List, [], ◌∷◌, length, refl, sym, ◌∙◌, subst, arith}
use Rattle.std.specs.Prelude.{slice_index_or, slice_set}
use Rattle.std.proofs.Math.ListN.{length-set}
use Rattle.std.proofs.lemmas.List.{set-get_or}
use Rattle.can_levels.specs.declared.level.Level.{Level}
use Rattle.sja_journal.specs.Lists.{Lists}
use Rattle.sja_link.specs.declared.bus_end.BusEnd.{Ghosts as Ends}
use Rattle.sja_link.specs.BusLedgers.{link_of}
use Rattle.sja_regs.specs.declared.bus_turn.BusTurn.{BusTurn}
use Rattle.sja_bus.specs.declared.board.Board.{Ghosts as Ports}
use Rattle.sja_bus.specs.declared.struck_nodes.StruckNodes.{StruckNodes}
use Rattle.sja_bus.specs.declared.bus_node.BusNode.{BusNode}
use Rattle.sja_bus.specs.Inside.BusNodeBits.{HadBit, KeepsInBit}
use Rattle.sja_bus.specs.Inside.Turning.{Turns}
use Rattle.sja_bus.specs.Inside.Rows.{AreReady, BusNodeTurns, seen_by}
use Rattle.sja_bus.specs.Inside.Underway.{IsUnderway}
use Rattle.sja_bus.proofs.AllNodes.Many.{goes_all_refl, goes_all_one, ready_one, done_none, done_one, done_before}
use Rattle.sja_bus.proofs.ItemsTaken.Refusing.{rooms_one}
use Rattle.sja_bus.proofs.AtPorts.TurnsTold.{turns_by}

-- none had it
pub underway_none : {E B : Type 0} (same : E → E → Type 0) (stands : E → ℕ → Lists → Type 0) → ((x : E) → same x x) →
    (ports : B → ℕ) (told : B → B → ℕ → BusTurn → Type 0) (kept : B → B → ℕ → Type 0) → ((a : B) (m : ℕ) → kept a a m) →
    (struck : StruckNodes) (level : Level) (bus_nodes : List BusNode) (links : List E) (board : B) →
    AreReady bus_nodes →
    IsUnderway same stands ports told kept struck level bus_nodes links board 0 bus_nodes links board
underway_none same stands same_refl ports told kept kept_refl struck level bus_nodes links board ready = record {
  ready = ready;
  count = refl;
  goes = goes_all_refl same stands same_refl bus_nodes links;
  rooms = λ n h. h;
  done = done_none (BusNodeTurns (told board board) (kept board board) struck level) bus_nodes;
  ports_are = refl;
  others = λ m far. kept_refl board m;
}

-- one more had it
pub underway_one : {E B : Type 0} (e : Ends E) (b : Ports B) → ((x : E) → e.same x x) →
    ((x y z : E) → e.same x y → e.same y z → e.same x z) →
    ((x y z : B) (m : ℕ) → b.kept x y m → b.kept y z m → b.kept x z m) →
    ((x y z : B) (m : ℕ) (t : BusTurn) → b.told x y m t → b.kept y z m → b.told x z m t) →
    ((x y z : B) (m : ℕ) (t : BusTurn) → b.kept x y m → b.told y z m t → b.told x z m t) →
    (struck : StruckNodes) (level seen : Level) (before bus_nodes : List BusNode) (given links : List E)
    (was board now : B) (k : ℕ) {told : Bool} (s new : BusNode) (d end : E) → k < length bus_nodes → k < length links →
    seen ≡ seen_by struck level k →
    KeepsInBit e b (slice_index_or bus_nodes k s) new (slice_index_or links k d) end board now →
    HadBit e b told seen (slice_index_or bus_nodes k s) new (slice_index_or links k d) end board now →
    IsUnderway e.same e.stands b.ports b.told b.kept struck level before given was k bus_nodes links board →
    IsUnderway e.same e.stands b.ports b.told b.kept struck level before given was (k + 1) (slice_set bus_nodes k new)
    (slice_set links k end) now
underway_one e b same_refl same_trans kept_trans told_first told_last struck level seen before bus_nodes given links was
    board now k s new d end here near sees keeps had u =
    let old = slice_index_or bus_nodes k s in
    let n : (link_of old.ledger).node ≡ k = (u.ready k s here).own in
    let count = u.count in
    let P : ℕ → Type 0 = λ m. Turns (b.told board now m) (b.kept board now m) seen old new in
    let Q : Level → Type 0 = λ x. Turns (b.told board now k) (b.kept board now k) x old new in
    let turned = turns_by (λ t is. told_last was board now k t (u.others k (omega arith)) is)
    (λ is. kept_trans was board now k (u.others k (omega arith)) is)
    (subst Q sees (subst P n had.turns)) in
    let far : (m : ℕ) → m ≢ k → b.kept board now m = λ m ne. keeps.others m (λ is. ne (is ∙ n)) in record {
      ready = ready_one bus_nodes k new here u.ready (record { ready = had.ready; own = keeps.stays.node ∙ n });
      count = length-set bus_nodes k new ∙ u.count;
      goes = goes_all_one e.same e.stands same_refl same_trans before bus_nodes given links k s new d end here near
          u.count
          u.goes had.goes;
      rooms = λ m h. rooms_one m bus_nodes k s new here keeps.stays.room (u.rooms m h);
      done = done_one (BusNodeTurns (b.told was now) (b.kept was now) struck level) k before bus_nodes s new
          (omega (arith, here, count)) u.count turned
          (done_before k before bus_nodes (λ m near x y.
          turns_by {seen = seen_by struck level m} {old = x} {new = y}
          (λ t is. told_first was board now m t is (far m (omega (arith, near))))
          (λ is. kept_trans was board now m is (far m (omega (arith, near))))) u.done);
      ports_are = keeps.ports ∙ u.ports_are;
      others = λ m l. kept_trans was board now m (u.others m (omega (arith, l))) (far m (omega (arith, l)));
    }

-- one more had it, in which its end was as it is
pub underway_still : {E B : Type 0} (e : Ends E) (b : Ports B) → ((x : E) → e.same x x) →
    ((x y z : E) → e.same x y → e.same y z → e.same x z) →
    ((x y z : B) (m : ℕ) → b.kept x y m → b.kept y z m → b.kept x z m) →
    ((x y z : B) (m : ℕ) (t : BusTurn) → b.told x y m t → b.kept y z m → b.told x z m t) →
    ((x y z : B) (m : ℕ) (t : BusTurn) → b.kept x y m → b.told y z m t → b.told x z m t) →
    (struck : StruckNodes) (level seen : Level) (before bus_nodes : List BusNode) (given links : List E)
    (was board now : B) (k : ℕ) {told : Bool} (s new : BusNode) → k < length bus_nodes → k < length links →
    seen ≡ seen_by struck level k →
    ((end : E) → KeepsInBit e b (slice_index_or bus_nodes k s) new end end board now) →
    ((end : E) → HadBit e b told seen (slice_index_or bus_nodes k s) new end end board now) →
    IsUnderway e.same e.stands b.ports b.told b.kept struck level before given was k bus_nodes links board →
    IsUnderway e.same e.stands b.ports b.told b.kept struck level before given was (k + 1) (slice_set bus_nodes k new)
    links now
underway_still e b same_refl same_trans kept_trans told_first told_last struck level seen before bus_nodes given [] was
    board now k s new here near sees keeps had u = absurd (omega (arith, near))
underway_still {E} {B} e b same_refl same_trans kept_trans told_first told_last struck level seen before bus_nodes given
    (x ∷ rest) was board now k s new here near sees keeps had u =
    let links = x ∷ rest in let end = slice_index_or links k x in
    let U : List E → Type 0 = λ l. IsUnderway e.same e.stands b.ports b.told b.kept struck level before given was
    (k + 1) (slice_set bus_nodes k new) l now in
    subst U (set-get_or links k x)
    (underway_one e b same_refl same_trans kept_trans told_first told_last struck level seen before bus_nodes given
    links
    was board now k s new x end here near sees (keeps end) (had end) u)

-- the same where bus nodes, links and board are equal to those
pub underway_at : {E B : Type 0} (same : E → E → Type 0) (stands : E → ℕ → Lists → Type 0) (ports : B → ℕ)
    (told : B → B → ℕ → BusTurn → Type 0) (kept : B → B → ℕ → Type 0) (struck : StruckNodes) (level : Level)
    (before bus_nodes then : List BusNode) (given links : List E) (was board : B) (k : ℕ) → then ≡ bus_nodes →
    links ≡ given → board ≡ was →
    IsUnderway same stands ports told kept struck level before given was k bus_nodes given was →
    IsUnderway same stands ports told kept struck level before given was k then links board
underway_at {E} {B} same stands ports told kept struck level before bus_nodes then given links was board k s l b u =
    let P : List BusNode → Type 0 = λ x. IsUnderway same stands ports told kept struck level before
    given was k x links board in
    let Q : List E → Type 0 = λ x. IsUnderway same stands ports told kept struck level before
    given was k bus_nodes x board in
    let R : B → Type 0 = λ x. IsUnderway same stands ports told kept struck level before given was k bus_nodes given x
    in
    subst P (sym s) (subst Q (sym l) (subst R (sym b) u))
