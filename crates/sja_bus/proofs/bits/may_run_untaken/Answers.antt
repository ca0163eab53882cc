use Rattle.std.proofs.Common.{◌≡◌, ℕ, ◌<◌, false, length, rules, sym, ap, subst, ◌∙◌, inl, inr}
use Rattle.lemmas.proofs.Numbers.{earlier_or_last}
use Rattle.sja_link.specs.BusLedgers.{link_of}
use Rattle.sja_bus.specs.declared.bus_node.BusNode.{BusNode}
use Rattle.sja_bus.proofs.bits.may_run_untaken.Goals as goal

pub loop-k-preserved : goal.loop-k-preserved
loop-k-preserved g c =
    let k = c.loop-k.k in let bus_node = c.index-bus_nodes-k.result in
    let few : k < length c.args.bus_nodes.now = search rules in
    let node : c.number.result ≡ k =
    c.number.ensures ∙ ap (λ (x : BusNode). (link_of x.ledger).node) c.index-bus_nodes-k.is
    ∙ (c.requires.ready k bus_node few).own in
    let O : ℕ → Type 0 = λ m. g.B.Board.orders_are c.args.board.now m c.orders.result in
    let asked : O k = subst O node c.orders.ensures.orders in
    let F : ℕ → Type 0 = λ m. g.B.Board.facts c.args.board.now m in
    let fact : F k = subst F node c.orders.ensures.facts in
    let none : c.orders.result.abort ≡ false = search rules in
    record {
      orders = λ m h. elim (earlier_or_last m k h) [
        | inl before ↦ c.loop-k.invariant.orders m before
        | inr now ↦ (c.orders.result, subst O (sym now) asked, none)
      ];
      facts = λ m h. elim (earlier_or_last m k h) [
        | inl before ↦ c.loop-k.invariant.facts m before
        | inr now ↦ subst F (sym now) fact
      ];
    }
