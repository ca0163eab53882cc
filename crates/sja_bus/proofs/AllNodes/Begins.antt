-- Activations that begin, node by node: none whose link its end doesn't have, and so no more than there are links for.
use Rattle.std.proofs.Common.{◌≡◌, ℕ, ◌<◌, List, [], ◌∷◌, length, refl, sym, ap, ◌∙◌, subst, arith}
use Rattle.std.specs.Prelude.{slice_index_or}
use Rattle.std.proofs.lemmas.List.{get_or_default as or_same}
use Rattle.lemmas.specs.Related.{EachRelated}
use Rattle.lemmas.proofs.Related.{each_at}
use Rattle.sja_regs.specs.declared.orders.Orders.{Orders}
use Rattle.sja_regs.specs.declared.bus_turn.BusTurn.{BusTurn}
use Rattle.can_levels.specs.declared.level.Level.{Level}
use Rattle.sja_journal.specs.declared.entry.Entry.{Entry}
use Rattle.sja_journal.specs.declared.entry.Entry.TheVariants.{Bit}
use Rattle.sja_journal.specs.Activations.{HasActivations}
use Rattle.sja_journal.specs.Links.{AreEnds, HaveLinks}
use Rattle.sja_journal.specs.Opening.{BeginsWithin, begun_in}
use Rattle.sja_journal.proofs.Growing.Activations.{has_activations}
use Rattle.sja_journal.proofs.Growing.Begins.{begins_none, begun_bit, begun_push}
use Rattle.sja_bus_rules.specs.Buses.{AreOnLinks}
use Rattle.sja_bus.specs.declared.bus_node.BusNode.{BusNode}
use Rattle.sja_bus.specs.declared.struck_nodes.StruckNodes.{StruckNodes}
use Rattle.sja_bus.specs.UntilTold.{HasBitsMore}
use Rattle.sja_bus.specs.UntilTold.HasBitsMore.{none, one_more}
use Rattle.sja_bus.specs.Inside.Rows.{AreBegun, EachBusNode, BusNodeBegins, BusNodeHasBits, BusNodeOpens, BusNodeTakes}
use Rattle.sja_bus.specs.Inside.Rows.{BusNodeTurns}
use Rattle.sja_bus.specs.Inside.Rows.{journals_of, seen_by}
use Rattle.sja_bus.proofs.AllNodes.Running.{journal_is, count_is}

-- what a bus node took, or took and aborted, with it
abbrev pub BusNodeTakesWithin : {E : Type 0} → (E → ℕ) → List E → ℕ → BusNode → BusNode → Type 0
BusNodeTakesWithin links_of links m old new = BusNodeTakes m old new × BusNodeBegins links_of links m old new

abbrev pub BusNodeOpensWithin : {E : Type 0} → (ℕ → Orders → Type 0) → (E → ℕ) → List E → ℕ → BusNode → BusNode → Type 0
BusNodeOpensWithin orders_are links_of links m old new =
    BusNodeOpens orders_are m old new × BusNodeBegins links_of links m old new

-- by the end that stood at the place of a bus node at first, which is the same one still
pub begins_at : {E : Type 0} (same : E → E → Type 0) (links_of : E → ℕ) →
    ((x y : E) → same x y → links_of y ≡ links_of x) → (given links : List E) (k : ℕ) (d : E) (old new : BusNode) →
    EachRelated same given links → k < length links →
    BeginsWithin (links_of (slice_index_or links k d)) old.journal.entries new.journal.entries →
    BusNodeBegins links_of given k old new
begins_at same links_of f given links k d old new sames near h x =
    let P : ℕ → Type 0 = λ n. BeginsWithin n old.journal.entries new.journal.entries in
    subst P (ap links_of (or_same links k d x near) ∙ each_at same links_of f given links k x sames) h

-- a bit of all begins none
pub begins_turned : {E : Type 0} (links_of : E → ℕ) (links : List E) (was_told : ℕ → BusTurn → Type 0)
    (was_kept : ℕ → Type 0) (struck : StruckNodes) (level : Level) (bus_nodes opened after : List BusNode) →
    length opened ≡ length bus_nodes → EachBusNode (BusNodeBegins links_of links) bus_nodes opened →
    EachBusNode (BusNodeTurns was_told was_kept struck level) opened after →
    EachBusNode (BusNodeBegins links_of links) bus_nodes after
begins_turned links_of links was_told was_kept struck level bus_nodes opened after count begins turns m s few d n far
    was =
    let old = slice_index_or opened m s in let new = slice_index_or after m s in
    let turn = turns m s (omega (arith, few, count)) in
    begins_none (links_of (slice_index_or links m d)) old.journal.entries new.journal.entries
    (begun_bit old.journal.entries new.journal.entries old.drives (seen_by struck level m) turn.bit) n far
    (begins m s few d n far was)

-- ---- no more have begun than there are links for

-- after what was taken, where each end has so many links
pub begun_then : {E : Type 0} (links_of : E → ℕ) (starts : ℕ) (links : List E) (bus_nodes after : List BusNode) →
    length links ≡ length bus_nodes → length after ≡ length bus_nodes → HaveLinks links_of starts links →
    EachBusNode (BusNodeBegins links_of links) bus_nodes after → AreBegun starts bus_nodes → AreBegun starts after
begun_then links_of starts [] bus_nodes after ends len have begins was k s few = absurd (omega (arith, ends, len, few))
begun_then links_of starts (d ∷ links) bus_nodes after ends len have begins was k s few =
    let here : k < length bus_nodes = omega (arith, len, few) in
    let many = have k d (omega (arith, ends, here)) in
    begins k s here d starts (omega (arith, many)) (was k s here)

-- as many ends as bus nodes are those of a bus with these journals
pub ends_count : {E : Type 0} (node_of : E → ℕ) (journals : List (List Entry)) (bus_nodes : List BusNode)
    (links : List E) →
    journals_of bus_nodes ≡ journals → AreEnds node_of (length journals) links → length links ≡ length bus_nodes
ends_count node_of journals bus_nodes links seen ends =
    ends.count ∙ sym (ap (λ (l : List (List Entry)). length l) seen) ∙ count_is bus_nodes

-- after a bit
pub begun_turned : (starts : ℕ) (was_told : ℕ → BusTurn → Type 0) (was_kept : ℕ → Type 0) (struck : StruckNodes)
    (level : Level) (bus_nodes after : List BusNode) → length after ≡ length bus_nodes →
    EachBusNode (BusNodeTurns was_told was_kept struck level) bus_nodes after → AreBegun starts bus_nodes →
    AreBegun starts after
begun_turned starts was_told was_kept struck level bus_nodes after len turns was k s few =
    let old = slice_index_or bus_nodes k s in let new = slice_index_or after k s in
    let here : k < length bus_nodes = omega (arith, len, few) in
    let same = begun_bit old.journal.entries new.journal.entries old.drives (seen_by struck level k)
    (turns k s here).bit in
    let before = was k s here in omega (arith, same, before)

-- after bits and nothing else
begun_more : (j k : List Entry) → HasBitsMore j k → begun_in k ≡ begun_in j
begun_more j _ none = refl
begun_more j _ (one_more k driven seen more tells) =
    begun_push k (Bit driven seen) (λ p. refl) ∙ begun_more j k more

pub begun_bits : (starts : ℕ) (bus_nodes after : List BusNode) → length after ≡ length bus_nodes →
    EachBusNode BusNodeHasBits bus_nodes after → AreBegun starts bus_nodes → AreBegun starts after
begun_bits starts bus_nodes after len more was k s few =
    let old = slice_index_or bus_nodes k s in let new = slice_index_or after k s in
    let here : k < length bus_nodes = omega (arith, len, few) in
    let same = begun_more old.journal.entries new.journal.entries (more k s here) in
    let before = was k s here in omega (arith, same, before)

-- by the journals of all
pub on_links : (starts : ℕ) (bus_nodes : List BusNode) → AreBegun starts bus_nodes →
    AreOnLinks starts (journals_of bus_nodes)
on_links starts [] begun node few = absurd (omega arith)
on_links starts (s ∷ bus_nodes) begun node few =
    let all = s ∷ bus_nodes in let count = count_is all in
    let near : node < length all = omega (arith, few, count) in
    subst (HasActivations starts) (sym (journal_is all node s near))
    (has_activations starts (slice_index_or all node s).journal.entries (begun node s near))
