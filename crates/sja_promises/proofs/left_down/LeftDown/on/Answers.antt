use Rattle.std.proofs.Common.{◌≡◌, ◌+◌, ◌++◌, length, ap, ◌∙◌}
use Rattle.sja_link.specs.Deques.{all_down, left_on}
use Rattle.sja_promises.proofs.Account.OffLinks.{whole_left, left_all, left_in_parts, here_in_parts}
use Rattle.sja_promises.proofs.left_down.LeftDown.on.Goals as goal

pub returns : goal.returns
returns c =
    let links = c.args.links.now in
    let parts = c.as_slices.result in let at_hand = c.as_slices-2.result in
    let others : c.push_all-2.new.self ≡ links.older ++ all_down links.first links.others =
    left_in_parts links c.in_ok-copies.field-0.items c.push_all.new.self c.push_all-2.new.self parts.0.now
    parts.1.now c.first.result (c.first-2.result + length parts.0.now)
    (c.in_ok-copies.ensures ∙ c.in_ok-older.ensures.older)
    (c.as_slices.ensures.items ∙ c.others.ensures.others) c.first.ensures.first
    (ap (λ n. n + length parts.0.now) c.first-2.ensures.first)
    c.in_ok-push_all.ensures c.in_ok-push_all-2.ensures in
    let whole : c.push-2.new.self ≡ whole_left links =
    here_in_parts links c.push_all-2.new.self c.push.new.self c.push-2.new.self at_hand.0.now at_hand.1.now
    c.at.result c.at-2.result
    (c.as_slices-2.ensures.items ∙ c.down.ensures ∙ ap (λ q. q.down) c.here.ensures)
    c.at.ensures c.at-2.ensures others c.in_ok-push.ensures.pushed c.in_ok-push-2.ensures.pushed in record {
      whole = whole;
      each = λ a. ap (λ l. left_on l a) whole ∙ left_all links c.others.ensures.place a;
      kept = c.in_ok-older.ensures.kept;
      endless = λ is. cc;
    }
