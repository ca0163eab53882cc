-- The bus's ends of the links of all nodes, from one call to the next.
use Rattle.std.proofs.Common.{◌≡◌, ℕ, List, refl, sym, ◌∙◌, arith}
use Rattle.std.specs.Prelude.{slice_index_or}
use Rattle.std.proofs.lemmas.List.Elements.{AllZip-get_or}
use Rattle.std.proofs.lemmas.Slice.Zip.{AllZip-long}
use Rattle.lemmas.specs.Related.{EachRelated}
use Rattle.lemmas.proofs.Related.{each_at, each_refl, each_trans}
use Rattle.sja_journal.specs.Links.{AreEnds, HaveLinks}
use Rattle.sja_rings.specs.declared.node_bus.NodeBus.{NodeBus}
use Rattle.sja_rings.specs.Ends.{SameBus, link_of_bus}
use Rattle.sja_rings.specs.Carrying.{bus_refl, bus_trans}
use Rattle.sja_rings.specs.NodeRings.{links_of_bus, node_of_bus, rings_of_bus, SameNodeBus}
use Rattle.sja_thread_promises.specs.Gathering.{IsBusEnd, AreBusEnds}

-- each is the same as itself, and that carries over
node_refl : (b : NodeBus) → SameNodeBus b b
node_refl b = (refl, each_refl SameBus bus_refl (rings_of_bus b))

node_trans : (a b c : NodeBus) → SameNodeBus a b → SameNodeBus b c → SameNodeBus a c
node_trans a b c p q =
    (q.0 ∙ p.0, each_trans SameBus bus_trans (rings_of_bus a) (rings_of_bus b) (rings_of_bus c) p.1 q.1)

pub sames_refl : (links : List NodeBus) → EachRelated SameNodeBus links links
sames_refl links = each_refl SameNodeBus node_refl links

pub sames_trans : (a b c : List NodeBus) → EachRelated SameNodeBus a b → EachRelated SameNodeBus b c →
    EachRelated SameNodeBus a c
sames_trans a b c p q = each_trans SameNodeBus node_trans a b c p q

-- it is still that of its node's links
end_kept : (node : ℕ) (b c : NodeBus) → SameNodeBus b c → IsBusEnd node b → IsBusEnd node c
end_kept node b c same e = record {
  own = same.0 ∙ e.own;
  count = AllZip-long SameBus (rings_of_bus b) (rings_of_bus c) same.1 ∙ e.count;
  links = λ a x less.
      each_at SameBus link_of_bus (λ p q s. s.0) (rings_of_bus b) (rings_of_bus c) a x same.1 ∙ e.links a x less;
}

pub ends_kept : (nodes : ℕ) (old new : List NodeBus) → EachRelated SameNodeBus old new → AreBusEnds nodes old →
    AreBusEnds nodes new
ends_kept nodes old new sames e = record {
  count = AllZip-long SameNodeBus old new sames ∙ e.count;
  each = λ node b less.
      end_kept node (slice_index_or old node b) (slice_index_or new node b)
      (AllZip-get_or SameNodeBus old new node b b sames (let c = e.count in omega (arith, c, less)))
      (e.each node b less);
}

-- there is one for each node of as many journals
pub are_ends : (nodes journals : ℕ) (links : List NodeBus) → journals ≡ nodes → AreBusEnds nodes links →
    AreEnds node_of_bus journals links
are_ends nodes journals links same e = record {
  count = let c = e.count in omega (arith, c, same);
  own = λ node b less. (e.each node b (omega (arith, less, same))).own;
}

-- and each has as many links as the bus knows of
pub have_links : (nodes starts : ℕ) (links : List NodeBus) → starts ≡ 64 → AreBusEnds nodes links →
    HaveLinks links_of_bus starts links
have_links nodes starts links is e k b less =
    (e.each k b (let c = e.count in omega (arith, c, less))).count ∙ sym is
