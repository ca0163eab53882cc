use Rattle.std.proofs.Common.{rules, ◌≡◌, length, ap, sym, ◌∙◌, slice_set, arith, length-set}
use Rattle.sja_link.specs.declared.link_id.LinkId.{LinkId}
use Rattle.sja_regs.specs.declared.registers.Registers.{Registers}
use Rattle.sja_driver.specs.Drivers.{link_in, next_link, node_in}
use Rattle.two_drivers.proofs.Links.{AreOfTwo, when_new, when_one, when_same, own_node, written}
use Rattle.two_drivers.proofs.passed_on.Goals.{After-index_mut, After-send, After-as_mut_slice}
use Rattle.two_drivers.proofs.passed_on.Goals as goal

-- the bus has two nodes and links for one start of each, and the board two ports
two_nodes : (c : After-index_mut) → length c.in_ok-bus.bus.journals ≡ 2
two_nodes c = search rules

one_start : (c : After-index_mut) → c.in_ok-bus.bus.starts ≡ 1
one_start c = search rules

two_ports : (c : After-index_mut) → length c.in_ok-board.board.ports.items ≡ 2
two_ports c = search rules

-- the links are those of two nodes after the sender's calls, and as the bus gets them
sent : (c : After-send) → AreOfTwo (slice_set c.in_ok-links.links.items 0 c.send.new.links)
sent c = when_one _ _ _ _ (search rules) c.index_mut.ensures.value
    (c.send.ensures.node, c.send.ensures.starts) (when_new _ (search rules))

given : (c : After-as_mut_slice) → AreOfTwo (slice_set c.in_ok-links.links.items 0 c.send.new.links) →
    AreOfTwo c.as_mut_slice.result.now
given c sent = rw c.as_mut_slice.ensures.value
    (when_one _ _ _ _ (search rules) c.index_mut-3.ensures.value c.start.ensures.same sent)

pub send-requires : goal.send-requires
send-requires c =
    let links = c.in_ok-links.links.items in
    own_node links 0 _ (when_new links (search rules)) (omega arith) c.index_mut.ensures.value

pub start-requires : goal.start-requires
start-requires c = λ left.
    let own : node_in c.new-2.result ≡ 1 = search rules in
    let are = sent (goal.at.start-requires c).After-send in
    own_node _ 1 _ are (omega arith) c.index_mut-3.ensures.value ∙ sym own

pub bits-requires-clause-ends : goal.bits-requires-clause-ends
bits-requires-clause-ends c =
    let at = goal.at.bits-requires-clause-ends c in
    let nodes = two_nodes at.After-index_mut in rw nodes (given at.After-as_mut_slice (sent at.After-send)).ends

pub bits-requires-clause-links : goal.bits-requires-clause-links
bits-requires-clause-links c =
    let at = goal.at.bits-requires-clause-links c in
    let starts = one_start at.After-index_mut in rw starts (given at.After-as_mut_slice (sent at.After-send)).many

pub bits-requires-clause-ports : goal.bits-requires-clause-ports
bits-requires-clause-ports c =
    let at = goal.at.bits-requires-clause-ports c in
    omega (arith, two_nodes at.After-index_mut, two_ports at.After-index_mut, length-set {A = Registers})

pub index_mut-requires-5 : goal.index_mut-requires-5
index_mut-requires-5 c =
    let at = goal.at.index_mut-requires-5 c in
    omega (arith, c.as_mut_slice.ensures.len, (given at.After-as_mut_slice (sent at.After-send)).ends.count)

pub release_message-requires : goal.release_message-requires
release_message-requires c =
    let at = goal.at.release_message-requires c in
    let own : link_in c.in-Ok.receiver ≡ next_link c.new-2.result = search rules in
    let next : next_link c.new-2.result ≡ record { node = 1; activation = 1 } = search rules in
    let here = written _ c.bits.new.links _ 1 c.index_mut-5.result.now (search rules)
    c.index_mut-5.ensures.value in
    let are = when_same _ _ c.bits.ensures.keeps.sames (given at.After-as_mut_slice (sent at.After-send)) in
    own_node _ 1 _ are (omega arith) here ∙ sym (ap (λ (l : LinkId). l.node) (own ∙ next))
