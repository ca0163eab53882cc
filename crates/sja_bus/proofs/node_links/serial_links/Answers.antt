use Rattle.std.proofs.Common.{◌+◌, List, rules, arith, subst, sym}
use Rattle.sja_link.specs.Deques.{Deques}
use Rattle.sja_link.specs.NewLinks.{AreNewLinks}
use Rattle.sja_bus.proofs.Links.Linking.{links_more}
use Rattle.sja_bus.proofs.node_links.serial_links.Goals as goal

pub loop-node-init : goal.loop-node-init
loop-node-init c = record {
  room = search rules;
  made = record { count = search rules; each = λ k d none. absurd (omega (arith, none)) };
}

pub loop-node-preserved : goal.loop-node-preserved
loop-node-preserved c =
    let inv = c.loop-node.invariant in
    let more = links_more c.args.starts c.loop-node.links.items c.in_ok-new.field-0 c.loop-node.node
    c.in_ok-new.ensures inv.made in
    let P : List Deques → Type 0 = λ l. AreNewLinks (c.loop-node.node + 1) c.args.starts l in record {
      room = search rules;
      made = subst P (sym {A = List Deques} c.push_reserved.ensures.items) more;
    }
