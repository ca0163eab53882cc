use Rattle.std.proofs.Common.{rules, ◌≡◌, ℕ, ◌+◌, ◌<◌, List, length, sym, ap, ◌∙◌, subst, arith, inl, inr}
use Rattle.std.specs.Prelude.{slice_index_or}
use Rattle.std.proofs.lemmas.Bool.{cases_eq}
use Rattle.std.proofs.lemmas.List.{get_or_default}
use Rattle.sja_link.specs.declared.older_down.OlderDown.{OlderDown}
use Rattle.sja_link.specs.Deques.{Deques, down_on, KeepsOlder}
use Rattle.sja_serial.proofs.WholeRun.Left.{IsLeftOf, left_all, left_push}
use Rattle.sja_serial.proofs.left_on_links.all_left_down.Goals as goal

pub loop-of_node-init : goal.loop-of_node-init
loop-of_node-init c = record {
  room = search rules;
  left = record { many = search rules; each = λ node activation d less. absurd (omega (arith, less)) };
  kept = λ node d less. absurd (omega (arith, less));
}

pub loop-of_node-preserved : goal.loop-of_node-preserved
loop-of_node-preserved c =
    let inv = c.loop-of_node.invariant in let links = c.args.links.now in let n = c.loop-of_node.of_node-index in
    let less : n < length links = c.loop-of_node-test.true in
    let is : (d : Deques) → c.of_node-item.result ≡ slice_index_or links n d = λ d.
    c.of_node-item.is ∙ get_or_default links n c.of_node-item.result d less in
    record {
      room = search rules;
      left = subst (λ (l : List (List OlderDown)). IsLeftOf links (n + 1) l) (sym c.push_reserved.ensures.items)
          (left_push links n c.loop-of_node.lists.items c.in_ok-left.left inv.left (λ activation d.
          c.in_ok-left.ensures.each activation ∙ ap (λ (s : Deques). down_on s activation) (is d)));
      kept = λ node d few. elim (cases_eq n node) [
        | inl e ↦ subst (λ (k : ℕ). KeepsOlder (slice_index_or links k d)) e
            (subst (λ (s : Deques). KeepsOlder s) (is d) c.in_ok-left.ensures.kept)
        | inr differ ↦ inv.kept node d (omega (arith, few, differ))
      ];
    }

pub returns-clause-kept : goal.returns-clause-kept
returns-clause-kept c = let all : c.loop-of_node.of_node-index ≡ length c.args.links.now = search rules in
    λ node d less. c.loop-of_node.invariant.kept node d (omega (arith, all, less))

pub returns-clause-lists : goal.returns-clause-lists
returns-clause-lists c = left_all c.args.links.now c.loop-of_node.of_node-index c.loop-of_node.lists.items
    c.loop-of_node.invariant.left (search rules)
