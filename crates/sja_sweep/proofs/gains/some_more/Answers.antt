use Rattle.std.proofs.Common.{rules, ◌≡◌, ◌<◌, ◌||◌, List, ℕ, [], length, true, false, take, ap, ap₂, sym, ◌∙◌, arith}
use Rattle.std.proofs.Common.{nat_lt}
use Rattle.std.proofs.lemmas.List.{get_or_read, take_all}
use Rattle.std.proofs.lemmas.List.Folds.{list_any_at, list_any_more}
use Rattle.std.specs.List.{list_any}
use Rattle.sja_sweep.specs.Nodes.{activation_at}
use Rattle.sja_sweep.specs.Kinds.{is_got_more, times_got}
use Rattle.sja_sweep.proofs.gains.some_more.Goals as goal

pub loop-message-preserved : goal.loop-message-preserved
loop-message-preserved c =
    let i = c.loop-message.message-index in
    let p = λ (m : List ℕ). nat_lt (times_got m (activation_at c.args.others.now c.args.place))
    (times_got m (activation_at c.args.activations.now c.args.place)) in
    let less : i < length c.args.messages.now = omega arith in
    let item = get_or_read c.args.messages.now i c.message-item.result less c.message-item.is [] in
    let not_here : p c.message-item.result ≡ false = search rules in
    list_any_more p c.args.messages.now i [] less
    ∙ ap₂ (λ a b. a || b) c.loop-message.invariant (sym (ap p item) ∙ not_here)

pub returns-then-times_got : goal.returns-then-times_got
returns-then-times_got c =
    let i = c.loop-message.message-index in
    let p = λ (m : List ℕ). nat_lt (times_got m (activation_at c.args.others.now c.args.place))
    (times_got m (activation_at c.args.activations.now c.args.place)) in
    let less : i < length c.args.messages.now = omega arith in
    let item = get_or_read c.args.messages.now i c.message-item.result less c.message-item.is [] in
    let here : p c.message-item.result ≡ true = search rules in
    sym (list_any_at p c.args.messages.now i [] less (sym (ap p item) ∙ here))
