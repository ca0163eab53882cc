-- A bus node that stays at its links.
use Rattle.std.proofs.Common.{◌≡◌, ℕ, refl, sym, ◌∙◌}
use Rattle.sja_bus.specs.declared.bus_node.BusNode.{BusNode}
use Rattle.sja_bus.specs.Inside.AtLinks.{HasEnd, KeepsEnd}
use Rattle.sja_bus.specs.Inside.BusNodes.{IsReady}

pub stays_refl : {E : Type 0} (same : E → E → Type 0) → ((x : E) → same x x) → (s : BusNode) (end : E) →
    KeepsEnd same s s end end
stays_refl same r s end = record { is_same = r end; node = refl; room = refl }

pub stays_trans : {E : Type 0} (same : E → E → Type 0) → ((x y z : E) → same x y → same y z → same x z) →
    (s t u : BusNode) (x y z : E) → KeepsEnd same s t x y → KeepsEnd same t u y z → KeepsEnd same s u x z
stays_trans same t_same s t u x y z p q = record {
  is_same = t_same x y z p.is_same q.is_same;
  node = q.node ∙ p.node;
  room = q.room ∙ p.room;
}

-- the end that was kept is that of the bus node's node still
pub has_still : {E : Type 0} (node_of : E → ℕ) (same : E → E → Type 0) →
    ((x y : E) → same x y → node_of y ≡ node_of x) → (s new : BusNode) (end after : E) → HasEnd node_of s end →
    KeepsEnd same s new end after → IsReady new → HasEnd node_of new after
has_still node_of same keeps s new end after at stays ready = record {
  own = keeps end after stays.is_same ∙ at.own ∙ sym stays.node;
  ready = ready;
}
