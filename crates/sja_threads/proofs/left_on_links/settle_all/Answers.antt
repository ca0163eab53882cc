use Rattle.std.proofs.Common.{◌≡◌, ◌∷◌, ◌++◌, ◌+◌, ◌≤◌, ℕ, List, [], length, drop, sym, ap, ◌∙◌, subst, arith}
use Rattle.std.proofs.Common.{inl, inr, rules}
use Rattle.std.specs.Prelude.{◌⊎◌, Err}
use Rattle.lemmas.proofs.Results.{err_is}
use Rattle.sja_log.specs.declared.run_fault.RunFault.TheVariants.{Memory, Unsettled}
use Rattle.std.proofs.lemmas.List.{length-append, nil_from_length}
use Rattle.std.specs.Vec.Iter.{into_iter_items}
use Rattle.sja_link.specs.declared.older_down.OlderDown.{OlderDown}
use Rattle.sja_link.specs.Deques.{left_on}
use Rattle.sja_rings.specs.NodeRings.{OneNode}
use Rattle.sja_promises.proofs.NodeLog.Logging.{next_of}
use Rattle.sja_threads.specs.Inside.Settling.{IsLeftOnAll, AreLeftOn, SomeUnsettled}
use Rattle.sja_threads.proofs.End.CameFrom.{unsettled_node}
use Rattle.sja_threads.proofs.End.GoneThrough.{all_gone, both_next, next_both}
use Rattle.sja_threads.proofs.End.LeftOnLinks.{left_push}
use Rattle.sja_threads.proofs.left_on_links.settle_all.Goals as goal

pub settle_node-requires : goal.settle_node-requires
settle_node-requires c =
    let inv = c.loop-link.invariant in
    both_next OneNode c.args.links.items c.args.ends.items (length c.loop-link.lists.items) _ _ c.in-Some.link
    c.in-Some-next.end (sym inv.rest ∙ c.in-Some.ensures.steps.0) (sym inv.ends ∙ c.in-Some-next.ensures.items)
    c.requires.pairs

pub loop-link-preserved : goal.loop-link-preserved
loop-link-preserved c =
    let inv = c.loop-link.invariant in
    let lists = c.loop-link.lists.items in
    let n = length lists in
    let link = c.in-Some.link in
    let end = c.in-Some-next.end in
    let x = c.in_ok-settle_node.field-0 in
    let e_links = sym inv.rest ∙ c.in-Some.ensures.steps.0 in
    let e_ends = sym inv.ends ∙ c.in-Some-next.ensures.items in
    let left_links = into_iter_items c.next.new.self in
    let left_ends = into_iter_items c.next-in-loop-link.new.self in
    let links = next_of c.args.links.items left_links n link link e_links in
    let ends = next_of c.args.ends.items left_ends n end end e_ends in
    let more : c.push.new.self.items ≡ lists ++ x ∷ [] = c.in_ok-push.ensures.items in
    let many : length c.push.new.self.items ≡ n + 1 = ap (λ (l : List (List OlderDown)). length l) more
    ∙ length-append lists (x ∷ []) in
    let less = links.2 in record {
      few = omega (arith, many, less);
      rest = sym links.1 ∙ ap (λ k. drop k c.args.links.items) (sym many);
      ends = sym ends.1 ∙ ap (λ k. drop k c.args.ends.items) (sym many);
      left =
          subst (λ (k : ℕ). AreLeftOn c.args.links.items c.args.ends.items k c.push.new.self.items) (sym many)
          (subst (λ (l : List (List OlderDown)). AreLeftOn c.args.links.items c.args.ends.items (n + 1) l) (sym more)
          (left_push c.args.links.items c.args.ends.items n lists x inv.left
          (next_both (λ b d. IsLeftOnAll b d (λ a. left_on x a)) c.args.links.items c.args.ends.items n left_links
          left_ends link end e_links e_ends c.in_ok-settle_node.ensures.left)));
    }

pub returns-clause-left : goal.returns-clause-left
returns-clause-left c =
    let inv = c.loop-link.invariant in
    let n = length c.loop-link.lists.items in
    let it = c.loop-link.link-iterator in
    let most = all_gone c.args.links.items (into_iter_items it) n inv.rest
    (nil_from_length (into_iter_items it) (sym it.rest.ok.0 ∙ c.in-None.ensures.steps.0)) in
    let few = inv.few in
    let same : n ≡ length c.args.links.items = omega (arith, most, few) in
    subst (λ (k : ℕ). AreLeftOn c.args.links.items c.args.ends.items k c.loop-link.lists.items) same inv.left

pub returns-in_err-settle_node-clause-fault : goal.returns-in_err-settle_node-clause-fault
returns-in_err-settle_node-clause-fault c =
    let inv = c.loop-link.invariant in
    let f = c.in_err-settle_node.field-0.0 in
    let is : c.from_residual.result ≡ Err f = search rules in
    err_is (λ x. (x ≡ Memory) ⊎ ((x ≡ Unsettled) × SomeUnsettled c.args.links.items c.args.ends.items))
    c.from_residual.result f is
    (elim c.in_err-settle_node.ensures.fault [
      | inl memory ↦ inl memory
      | inr left ↦ inr (
        left.0,
        unsettled_node c.args.links.items c.args.ends.items (length c.loop-link.lists.items)
            (into_iter_items c.next.new.self) (into_iter_items c.next-in-loop-link.new.self) c.in-Some.link
            c.in-Some-next.end (sym inv.rest ∙ c.in-Some.ensures.steps.0)
            (sym inv.ends ∙ c.in-Some-next.ensures.items) left.1,
      )
    ])
