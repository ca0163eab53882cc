-- All bus nodes of a bus, of which those before a place have had their turn.
use Rattle.std.proofs.Common.{◌≡◌, ℕ, suc, ◌+◌, ◌<◌, List, length, sym, ◌∙◌, arith}
use Rattle.std.specs.Prelude.{slice_index_or, slice_set}
use Rattle.sja_journal.specs.Written.{Room}
use Rattle.sja_journal.specs.Lists.{Lists}
use Rattle.sja_bus.specs.declared.bus_node.BusNode.{BusNode}
use Rattle.lemmas.specs.Related.{EachRelated}
use Rattle.lemmas.proofs.Related.{each_at}
use Rattle.sja_journal.specs.Links.{AreEnds}
use Rattle.sja_link.specs.Moving.{Goes}
use Rattle.sja_bus.specs.Inside.BusNodes.{IsReady}
use Rattle.sja_bus.specs.Inside.AtLinks.{HasEnd, KeepsEnd}
use Rattle.sja_bus.specs.Inside.Rows.{AreReady, AreOnBus, GoesAll, Done}
use Rattle.sja_bus.specs.Inside.Refusing.{HaveRoom}
use Rattle.sja_bus.proofs.AllNodes.Many.{goes_all_refl, goes_all_one, ready_one, ends_kept, dry_one, done_none}
use Rattle.sja_bus.proofs.AllNodes.Many.{done_one}
use Rattle.sja_bus.proofs.ItemsTaken.Refusing.{rooms_one}

-- each is ready and has the end of its links, as long as every end is the same one still
pub has_end : {E : Type 0} (node_of : E → ℕ) (same : E → E → Type 0) →
    ((x y : E) → same x y → node_of y ≡ node_of x) → (n : ℕ) (bus_nodes : List BusNode) (given links : List E) (k : ℕ)
    (s : BusNode) (d : E) → length bus_nodes ≡ n → k < n → EachRelated same given links → AreEnds node_of n given →
    AreReady bus_nodes → HasEnd node_of (slice_index_or bus_nodes k s) (slice_index_or links k d)
has_end node_of same f n bus_nodes given links k s d many here sames ends ready =
    let is = ready k s (omega (arith, here, many)) in record {
      own = each_at same node_of f given links k d sames ∙ ends.own k d here ∙ sym is.own;
      ready = is.ready;
    }

-- the same nodes later on, at the same links and with as many ports
pub stay_on_bus : {E : Type 0} (node_of : E → ℕ) (same : E → E → Type 0) →
    ((x y : E) → same x y → node_of y ≡ node_of x) → (bus_nodes after : List BusNode) (links now : List E) (n m : ℕ) →
    length after ≡ length bus_nodes → EachRelated same links now → m ≡ n → AreReady after →
    AreOnBus node_of bus_nodes links n → AreOnBus node_of after now m
stay_on_bus node_of same f bus_nodes after links now n m len sames as_many ready h =
    let few = h.few in let ports = h.ports in record {
      few = omega (arith, few, len);
      ends = ends_kept node_of same f links now (length bus_nodes) (length after) len sames h.ends;
      ready = ready;
      ports = omega (arith, ports, len, as_many);
    }

-- those before this place took what their links show, so that the links that they read show nothing, and the others are
-- as they were: what each did to its journal, and what is to be told of it
pub record HaveTaken {E : Type 0} (same : E → E → Type 0) (stands : E → ℕ → Lists → Type 0)
    (shows_nothing : E → ℕ → Type 0) (Does Tells : ℕ → BusNode → BusNode → Type 0) (before : List BusNode)
    (given : List E)
    (k : ℕ) (bus_nodes : List BusNode) (links : List E) : Type 0 where
  pub ready : AreReady bus_nodes
  pub dry : (m : ℕ) (s : BusNode) (d : E) → m < k →
      shows_nothing (slice_index_or links m d) (suc (slice_index_or bus_nodes m s).ended)
  pub goes : GoesAll same stands before bus_nodes given links
  pub rooms : (n : ℕ → Room) → HaveRoom n before → HaveRoom n bus_nodes
  pub done : Done Does k before bus_nodes
  pub untold : Done Tells k before bus_nodes

pub taken_none : {E : Type 0} (same : E → E → Type 0) (stands : E → ℕ → Lists → Type 0) (dry : E → ℕ → Type 0) →
    ((x : E) → same x x) → (Does Tells : ℕ → BusNode → BusNode → Type 0) (bus_nodes : List BusNode)
    (links : List E) → AreReady bus_nodes →
    HaveTaken same stands dry Does Tells bus_nodes links 0 bus_nodes links
taken_none same stands dry same_refl Does Tells bus_nodes links ready = record {
  ready = ready;
  dry = λ m s d none. absurd (omega arith);
  goes = goes_all_refl same stands same_refl bus_nodes links;
  rooms = λ n h. h;
  done = done_none Does bus_nodes;
  untold = done_none Tells bus_nodes;
}

-- one more took what its links show
pub taken_one : {E : Type 0} (same : E → E → Type 0) (stands : E → ℕ → Lists → Type 0) (dry : E → ℕ → Type 0) →
    ((x : E) → same x x) → ((x y z : E) → same x y → same y z → same x z) → (Does Tells : ℕ → BusNode → BusNode →
    Type 0)
    (before bus_nodes : List BusNode) (given links : List E) (k : ℕ) (s new : BusNode) (d end : E) →
    k < length bus_nodes →
    k < length links → length bus_nodes ≡ length before →
    KeepsEnd same (slice_index_or bus_nodes k s) new (slice_index_or links k d) end → IsReady new →
    Goes same stands (slice_index_or links k d) end (slice_index_or bus_nodes k s).journal.entries new.journal.entries →
    dry end (suc new.ended) →
    Does k (slice_index_or bus_nodes k s) new → Tells k (slice_index_or bus_nodes k s) new →
    HaveTaken same stands dry Does Tells before given k bus_nodes links →
    HaveTaken same stands dry Does Tells before given (k + 1) (slice_set bus_nodes k new) (slice_set links k end)
taken_one same stands dry same_refl same_trans Does Tells before bus_nodes given links k s new d end here near count
    stays
    is_ready goes shows does tells so_far =
    let own = (so_far.ready k s here).own in let was : k < length before = omega (arith, here, count) in record {
      ready = ready_one bus_nodes k new here so_far.ready (record { ready = is_ready; own = stays.node ∙ own });
      dry = dry_one dry bus_nodes links k new end here near shows so_far.dry;
      goes = goes_all_one same stands same_refl same_trans before bus_nodes given links k s new d end here near count
          so_far.goes goes;
      rooms = λ n h. rooms_one n bus_nodes k s new here stays.room (so_far.rooms n h);
      done = done_one Does k before bus_nodes s new was count does so_far.done;
      untold = done_one Tells k before bus_nodes s new was count tells so_far.untold;
    }
