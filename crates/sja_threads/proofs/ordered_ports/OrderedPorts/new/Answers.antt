use Rattle.std.proofs.Common.{rules, ◌≡◌, ◌∷◌, ℕ, List, [], drop, sym, ap, ◌∙◌, subst}
use Rattle.std.specs.Vec.Iter.{into_iter_items}
use Rattle.std.proofs.lemmas.List.Elements.{All-push}
use Rattle.sja_promises.proofs.NodeLog.Logging.{next_of}
use Rattle.sja_threads.specs.Inside.Boards.{NoneTold}
use Rattle.sja_threads.specs.Inside.Names.{IsNamed}
use Rattle.sja_threads.proofs.Twin.Named.{get_mapped}
use Rattle.sja_threads.proofs.ordered_ports.OrderedPorts.new.Goals as goal

pub port_of_node-port-requires-clause-turns : goal.port_of_node-port-requires-clause-turns
port_of_node-port-requires-clause-turns g c =
    let list = c.in-Some.list in
    let left = into_iter_items c.next.new.self in
    let n = c.loop-list.node in
    let is : drop n c.args.lists.items ≡ list ∷ left = sym c.loop-list.invariant.rest ∙ c.in-Some.ensures.steps.0 in
    subst (λ (names : List ℕ). IsNamed names n list.turns.name) c.requires.turns
    (get_mapped (λ l. l.turns.name) c.args.lists.items left n list is)

pub port_of_node-port-requires-clause-acts : goal.port_of_node-port-requires-clause-acts
port_of_node-port-requires-clause-acts g c =
    let list = c.in-Some.list in
    let left = into_iter_items c.next.new.self in
    let n = c.loop-list.node in
    let is : drop n c.args.lists.items ≡ list ∷ left = sym c.loop-list.invariant.rest ∙ c.in-Some.ensures.steps.0 in
    subst (λ (names : List ℕ). IsNamed names n list.acts.name) c.requires.acts
    (get_mapped (λ l. l.acts.name) c.args.lists.items left n list is)

pub loop-list-preserved : goal.loop-list-preserved
loop-list-preserved g c =
    let inv = c.loop-list.invariant in
    let list = c.in-Some.list in
    let left = into_iter_items c.next.new.self in
    let n = c.loop-list.node in
    let is : drop n c.args.lists.items ≡ list ∷ left = sym inv.rest ∙ c.in-Some.ensures.steps.0 in
    let told = c.push_reserved-in-loop-list in
    let one = c.port_of_node-port in record {
      at = search rules;
      ports = search rules;
      told = search rules;
      port_room = search rules;
      told_room = search rules;
      rest = sym (next_of c.args.lists.items left n list list is).1;
      none = subst (λ l. NoneTold l) (sym told.ensures.items)
          (All-push (λ t. t.known.list ≡ []) c.loop-list.told.items one.result.1 inv.none one.ensures);
    }
