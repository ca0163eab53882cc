use Rattle.std.proofs.Common.{◌≡◌, ◌+◌, ◌<◌, ℕ, List, [], ◌∷◌, ◌++◌, length, take, drop}
use Rattle.std.proofs.Common.{rules, refl, sym, ap, ◌∙◌, subst, arith, inl, inr}
use Rattle.std.proofs.lemmas.List.{append-nil, drop-set-lt, drop-drop, length-set, take_more_set}
use Rattle.can_levels.specs.declared.level.Level.{Level}
use Rattle.can_bits.specs.declared.shift.Shift.{Shift}
use Rattle.can_bits.specs.Sending.{TakesInside}
use Rattle.can_bits.specs.Sending.SendsAlong.{nothing}
use Rattle.can_node.proofs.Machine.SendingAlike.{HasSentAlike, alike_itself, more_sent, none_sent}
use Rattle.can_node.specs.Together.{NotBoth, SendsBits, TakesBits, sending_as}
use Rattle.can_node.specs.Together.SendsBits.{no_bit}
use Rattle.can_node.specs.Together.TakesBits.{takes_more, takes_none}
use Rattle.can_node.proofs.node.Node.send_beside.Goals as goal
use Rattle.can_node.proofs.node.Node.send_beside.Goals.{then-loop-count-test+else-take_both, else-loop-count-test}

pub returns-then-not-is_sending-clause-sends : goal.returns-then-not-is_sending-clause-sends
returns-then-not-is_sending-clause-sends c = no_bit

pub returns-then-not-is_sending-clause-takes : goal.returns-then-not-is_sending-clause-takes
returns-then-not-is_sending-clause-takes c = takes_none

pub loop-count-init : goal.loop-count-init
loop-count-init c = record {
  few = omega arith;
  same = refl;
  rest = refl;
  near = omega arith;
  sent = λ n other few h. none_sent c.args.self.now n other h;
  takes = takes_none;
}

pub loop-count-preserved : goal.loop-count-preserved
loop-count-preserved c =
    let old = c.args.self.now in let l = c.loop-count in let inv = l.invariant in
    let few : l.count < length l.levels = search rules in
    let new = c.take_both.new.one in let took = c.if-take_both.true in
    let takes : TakesInside l.shift l.next new = c.take_both.ensures.one took in
    let first : List Level = take l.count l.levels ++ l.next ∷ [] in
    let sent = take_more_set l.levels l.count l.next few in
    let size = length-set l.levels l.count l.next in
    let place = inv.near in let near = takes.near in
    record {
      few = omega (arith, few, size);
      same = size ∙ inv.same;
      rest = drop-set-lt (l.count + 1) l.levels l.count l.next (omega arith) ∙ sym (drop-drop 1 l.count l.levels)
          ∙ ap (λ q. drop 1 q) inv.rest ∙ drop-drop 1 l.count c.args.levels.now;
      near = omega (arith, place, near);
      sent = λ n other most h.
          let made = more_sent old other n l.count l.shift new new l.next (take l.count l.levels) [] h
          (inv.sent n other (omega (arith, most)) h) place takes nothing (omega (arith, most)) in
          let Next : Level → Type 0 = λ x. HasSentAlike new x (l.count + 1 + 0) (first ++ []) n other in
          let Sent : List Level → Type 0 = λ q. HasSentAlike new c.next_of-next.result (l.count + 1) q n other in
          let Many : ℕ → Type 0 = λ k. HasSentAlike new c.next_of-next.result k (first ++ []) n other in
          subst Sent (append-nil first ∙ sym sent) (subst Many (omega arith)
          (subst Next (sym c.next_of-next.ensures.packed) made));
      takes = let Taken : List Level → Type 0 = λ q. TakesBits c.args.beside.now q c.take_both.new.other in
          subst Taken (sym sent) (takes_more l.beside c.take_both.new.other (take l.count l.levels) l.next inv.takes
          (c.take_both.ensures.other took));
    }

-- a level that isn't taken leaves the reader as it was
last_shift : (c : goal.After-next-2-1) → c.loop-count-test.shift ≡ c.loop-count.shift
last_shift c = elim c.loop-count-test.branch [
  | then-loop-count-test+else-take_both w ↦ w.shift-is ∙ (w.take_both.ensures.same w.if-take_both.false).0
  | else-loop-count-test w ↦ w.shift-is
]

pub returns-clause-sends : goal.returns-clause-sends
returns-clause-sends c =
    let old = c.args.self.now in let l = c.loop-count in
    let sent : List Level = take l.count l.levels in
    let so_far = l.invariant.sent (l.count + 1) old (omega arith)
    (alike_itself old (l.count + 1) (sym c.is_sending.ensures ∙ c.if-not-is_sending.false)) in
    let Next : Level → Type 0 = λ x. SendsBits old sent (record old { shift = l.shift; next = x }) in
    let Last : Shift → Type 0 = λ s. SendsBits old sent (record old { shift = s; next = l.next }) in
    subst Last (sym (last_shift c)) (subst Next (so_far.drives (omega arith)) so_far.bits)

pub returns-clause-alike : goal.returns-clause-alike
returns-clause-alike c n other some most h =
    let l = c.loop-count in
    let sent : List Level = take l.count l.levels in
    let so_far = l.invariant.sent n other most h in
    let Next : Level → Type 0 = λ x. SendsBits other sent (record other { shift = l.shift; next = x }) in
    let Last : Shift → Type 0 = λ s. SendsBits other sent (sending_as other s) in
    subst Last (sym (last_shift c)) (subst Next (so_far.anew some) so_far.bits)

-- the next one is taken by both as long as there is room
pub returns-clause-longest : goal.returns-clause-longest
returns-clause-longest c = elim c.loop-count-test.branch [
  | then-loop-count-test+else-take_both w ↦
      let l = c.loop-count in let none = w.take_both.ensures.same w.if-take_both.false in
      let One : Shift → Type 0 = λ s. NotBoth s l.beside l.next in
      let Other : Shift → Type 0 = λ s. NotBoth c.loop-count-test.shift s l.next in
      inr (inr (subst Other (sym (w.beside-is ∙ none.1)) (subst One (sym (last_shift c)) none.2)))
  | else-loop-count-test w ↦
      let l = c.loop-count in let all = w.loop-count-test.false in let few = l.invariant.few in
      let same = l.invariant.same in inl (omega (arith, all, few, same))
]
