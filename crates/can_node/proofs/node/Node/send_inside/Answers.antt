use Rattle.std.proofs.Common.{◌≡◌, ◌+◌, ◌-◌, ◌<◌, ◌≤◌, ℕ, List, [], ◌∷◌, ◌++◌, length, take, drop, slice_range}
use Rattle.std.proofs.Common.{rules, refl, sym, ap, ◌∙◌, subst, arith}
use Rattle.std.proofs.lemmas.List.{drop-set-lt, drop-drop, length-set, take_more_set}
use Rattle.lemmas.proofs.Lists.{length_range, take-range}
use Rattle.can_levels.specs.declared.level.Level.{Level}
use Rattle.can_bits.specs.declared.shift.Shift.{Shift}
use Rattle.can_bits.specs.Sending.{TakesInside}
use Rattle.can_bits.proofs.PackedLevels.{near_along}
use Rattle.can_node.proofs.Machine.SendingAlike.{HasSentAlike, alike_itself, more_sent, none_sent}
use Rattle.can_node.specs.Together.{SendsBits, sending_as}
use Rattle.can_node.specs.Together.SendsBits.{no_bit}
use Rattle.can_node.proofs.node.Node.send_inside.Goals as goal
use Rattle.can_node.proofs.node.Node.send_inside.Goals.{then-loop-count-test+else-take_inside, else-loop-count-test}

pub returns-then-not-is_sending-clause-sends : goal.returns-then-not-is_sending-clause-sends
returns-then-not-is_sending-clause-sends c = no_bit

pub loop-count-init : goal.loop-count-init
loop-count-init c = record {
  few = omega arith;
  same = refl;
  rest = refl;
  near = omega arith;
  sent = λ n other few h. none_sent c.args.self.now n other h;
}

pub loop-count-preserved : goal.loop-count-preserved
loop-count-preserved c =
    let old = c.args.self.now in let l = c.loop-count in let inv = l.invariant in
    let few : l.count < length l.levels = search rules in
    let mid = c.take_inside.new.self in
    let new = c.send_along-count.new.self in
    let levels = c.send_along-count.new.levels in
    let end = c.send_along-count.result in
    let along = c.send_along-count.ensures in
    let took = c.if-take_inside.true in
    let takes : TakesInside l.shift l.next mid = record {
      right = λ seen h. (c.take_inside.ensures.exactly seen h).0 took;
      stands = c.take_inside.ensures.takes took;
      inside = c.take_inside.ensures.inside took;
      near = c.take_inside.ensures.near;
    } in
    let next = c.next_of-next.result in
    let xs : List Level = slice_range levels (l.count + 1) end in
    let first : List Level = take l.count l.levels ++ l.next ∷ [] in
    let sent : take end levels ≡ first ++ xs =
    take-range levels (l.count + 1) end along.more
    ∙ ap (λ q. q ++ xs) (along.front ∙ take_more_set l.levels l.count l.next few) in
    let size : length levels ≡ length l.levels = along.count ∙ length-set l.levels l.count l.next in
    let more = along.more in let room = along.few (omega (arith, few, length-set l.levels l.count l.next)) in
    let within : end ≤ length levels = omega (arith, room, along.count) in
    let many : l.count + 1 + length xs ≡ end =
    omega (arith, more, length_range levels (l.count + 1) end more within) in
    let near_new = near_along old.body mid new xs along.sends in
    let place = inv.near in let near = takes.near in
    let rest = end - l.count in
    let parts : end ≡ l.count + rest = omega (arith, more) in
    record {
      few = within;
      same = size ∙ inv.same;
      rest = along.rest ∙ drop-set-lt end l.levels l.count l.next (omega (arith, more))
          ∙ ap (λ n. drop n l.levels) parts ∙ sym (drop-drop rest l.count l.levels) ∙ ap (λ q. drop rest q) inv.rest
          ∙ drop-drop rest l.count c.args.levels.now ∙ ap (λ n. drop n c.args.levels.now) (sym parts);
      near = omega (arith, place, near, near_new, many);
      sent = λ n other most h.
          let begun = inv.sent n other (omega (arith, most, more)) h in
          let made = more_sent old other n l.count l.shift mid new l.next (take l.count l.levels) xs h begun place takes
          along.sends (omega (arith, many, most)) in
          let Next : Level → Type 0 = λ x. HasSentAlike new x (l.count + 1 + length xs) (first ++ xs) n other in
          let Many : ℕ → Type 0 = λ k. HasSentAlike new next k (first ++ xs) n other in
          let Sent : List Level → Type 0 = λ q. HasSentAlike new next end q n other in
          subst Sent (sym sent) (subst Many many (subst Next (sym c.next_of-next.ensures.packed) made));
    }

-- a level that isn't taken leaves the reader as it was
last_shift : (c : goal.After-next-2-1) → c.loop-count-test.shift ≡ c.loop-count.shift
last_shift c = elim c.loop-count-test.branch [
  | then-loop-count-test+else-take_inside w ↦ w.shift-is ∙ w.take_inside.ensures.same w.if-take_inside.false
  | else-loop-count-test w ↦ w.shift-is
]

pub returns-clause-sends : goal.returns-clause-sends
returns-clause-sends c =
    let old = c.args.self.now in let l = c.loop-count in
    let sent : List Level = take l.count l.levels in
    let so_far = l.invariant.sent (l.count + 1) old (omega arith)
    (alike_itself old (l.count + 1) (sym c.is_sending.ensures ∙ c.if-not-is_sending.false)) in
    let Next : Level → Type 0 = λ x. SendsBits old sent (record old { shift = l.shift; next = x }) in
    let Last : Shift → Type 0 = λ s. SendsBits old sent (record old { shift = s; next = l.next }) in
    subst Last (sym (last_shift c)) (subst Next (so_far.drives (omega arith)) so_far.bits)

pub returns-clause-alike : goal.returns-clause-alike
returns-clause-alike c n other some most h =
    let l = c.loop-count in
    let sent : List Level = take l.count l.levels in
    let so_far = l.invariant.sent n other most h in
    let Next : Level → Type 0 = λ x. SendsBits other sent (record other { shift = l.shift; next = x }) in
    let Last : Shift → Type 0 = λ s. SendsBits other sent (sending_as other s) in
    subst Last (sym (last_shift c)) (subst Next (so_far.anew some) so_far.bits)
