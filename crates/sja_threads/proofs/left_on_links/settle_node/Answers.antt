use Rattle.std.proofs.Common.{◌≡◌, ◌∷◌, ◌+◌, ◌≤◌, ℕ, List, [], length, refl, sym, ◌∙◌, subst, arith}
use Rattle.std.proofs.Common.{inl, inr, rules}
use Rattle.std.specs.Prelude.{◌⊎◌, Err}
use Rattle.lemmas.proofs.Results.{err_is}
use Rattle.sja_log.specs.declared.run_fault.RunFault.TheVariants.{Memory, Unsettled}
use Rattle.std.proofs.lemmas.List.{nil_from_length}
use Rattle.std.specs.Vec.Iter.{into_iter_items}
use Rattle.sja_link.specs.declared.older_down.OlderDown.{OlderDown}
use Rattle.sja_rings.specs.Ends.{OneLink}
use Rattle.sja_rings.specs.NodeRings.{rings_of_bus, rings_of_driver}
use Rattle.sja_promises.proofs.NodeLog.Logging.{next_of}
use Rattle.sja_threads.specs.Inside.Settling.{IsLeftOn, LeavesUnsettled}
use Rattle.sja_threads.proofs.End.CameFrom.{unsettled_link}
use Rattle.sja_threads.proofs.End.GoneThrough.{all_gone, both_next, next_both, none_beside, related_at}
use Rattle.sja_threads.proofs.End.LeftOnLinks.{AreLeftSoFar, left_all, link_push, none_left}
use Rattle.sja_threads.proofs.End.LinksOver.{as_many}
use Rattle.sja_threads.proofs.left_on_links.settle_node.Goals as goal

pub loop-link-init : goal.loop-link-init
loop-link-init c = record {
  few = omega arith;
  rest = search rules;
  ends = search rules;
  left = subst (λ (l : List OlderDown). AreLeftSoFar c.args.bus c.args.driver 0 l) (sym c.new-left.ensures)
      (none_left c.args.bus c.args.driver);
}

-- there is one of the driver's ends
pub unreachable-requires : goal.unreachable-requires
unreachable-requires c =
    let inv = c.loop-link.invariant in
    let ends = c.loop-link.ends in
    none_beside (rings_of_bus c.args.bus) (rings_of_driver c.args.driver) c.loop-link.activation
    (into_iter_items c.next.new.self) c.in-Some.link (as_many c.args.bus c.args.driver c.requires)
    (sym inv.rest ∙ c.in-Some.ensures.steps.0)
    (sym inv.ends ∙ nil_from_length (into_iter_items ends) (sym ends.rest.ok.0 ∙ c.in_default.ensures.cases.0))

pub settle_link-requires : goal.settle_link-requires
settle_link-requires c =
    let inv = c.loop-link.invariant in
    both_next OneLink (rings_of_bus c.args.bus) (rings_of_driver c.args.driver) c.loop-link.activation _ _
    c.in-Some.link c.in-Some-next.end (sym inv.rest ∙ c.in-Some.ensures.steps.0)
    (sym inv.ends ∙ c.in-Some-next.ensures.items)
    (related_at OneLink (rings_of_bus c.args.bus) (rings_of_driver c.args.driver) c.requires.1)

pub loop-link-preserved : goal.loop-link-preserved
loop-link-preserved c =
    let inv = c.loop-link.invariant in
    let n = c.loop-link.activation in
    let buses = rings_of_bus c.args.bus in
    let drivers = rings_of_driver c.args.driver in
    let link = c.in-Some.link in
    let end = c.in-Some-next.end in
    let e_links = sym inv.rest ∙ c.in-Some.ensures.steps.0 in
    let e_ends = sym inv.ends ∙ c.in-Some-next.ensures.items in
    let left_links = into_iter_items c.next.new.self in
    let left_ends = into_iter_items c.next-in-loop-link.new.self in
    let links = next_of buses left_links n link link e_links in
    let here = c.in_ok-settle_link.ensures.left in
    let less = links.2 in record {
      few = omega (arith, less);
      rest = sym links.1;
      ends = sym (next_of drivers left_ends n end end e_ends).1;
      left = subst (λ (l : List OlderDown). AreLeftSoFar c.args.bus c.args.driver (n + 1) l) (sym here.2)
          (link_push c.args.bus c.args.driver n c.loop-link.left here.0 inv.left
          (next_both (λ b d. IsLeftOn b d here.0) buses drivers n left_links left_ends link end e_links e_ends here.1));
    }

pub returns-clause-left : goal.returns-clause-left
returns-clause-left c =
    let inv = c.loop-link.invariant in
    let n = c.loop-link.activation in
    let buses = rings_of_bus c.args.bus in
    let it = c.loop-link.link-iterator in
    let most = all_gone buses (into_iter_items it) n inv.rest
    (nil_from_length (into_iter_items it) (sym it.rest.ok.0 ∙ c.in-None.ensures.steps.0)) in
    let few = inv.few in
    let same : n ≡ length buses = omega (arith, most, few) in
    left_all c.args.bus c.args.driver c.loop-link.left c.requires
    (subst (λ (k : ℕ). AreLeftSoFar c.args.bus c.args.driver k c.loop-link.left) same inv.left)

pub returns-in_err-settle_link-clause-fault : goal.returns-in_err-settle_link-clause-fault
returns-in_err-settle_link-clause-fault c =
    let inv = c.loop-link.invariant in
    let f = c.in_err-settle_link.field-0.0 in
    let is : c.from_residual.result ≡ Err f = search rules in
    err_is (λ x. (x ≡ Memory) ⊎ ((x ≡ Unsettled) × LeavesUnsettled c.args.bus c.args.driver)) c.from_residual.result f
    is
    (elim c.in_err-settle_link.ensures.fault [
      | inl memory ↦ inl memory
      | inr left ↦ inr (
        left.0,
        unsettled_link c.args.bus c.args.driver (rings_of_bus c.args.bus) (rings_of_driver c.args.driver)
            c.loop-link.activation (into_iter_items c.next.new.self) (into_iter_items c.next-in-loop-link.new.self)
            c.in-Some.link c.in-Some-next.end refl refl (sym inv.rest ∙ c.in-Some.ensures.steps.0)
            (sym inv.ends ∙ c.in-Some-next.ensures.items) left.1,
      )
    ])
