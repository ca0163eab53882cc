use Rattle.std.proofs.Common.{◌≡◌, ◌<◌, ◌+◌, ◌-◌, ◌*◌, ◌%◌, ◌^◌, ◌∙◌}
use Rattle.std.proofs.Common.{length, slice_range, refl, ap, sym, subst, arith, rules}
use Rattle.std.proofs.lemmas.Bool.{ltb-true}
use Rattle.std.proofs.lemmas.List.{length-set, take-set-le}
use Rattle.can_bits.specs.declared.shift.Shift.{Shift}
use Rattle.can_bits.specs.Sending.{SendsAlong, place_of}
use Rattle.can_bits.proofs.Reader.Along.{sends_none, inside_is}
use Rattle.can_bits.proofs.Reader.Chosen.{IsChosen, stuff_chosen, bit_chosen, chosen_as}
use Rattle.can_bits.proofs.Reader.Chosen.{past_none, sends_more, runs_on, rest_more}
use Rattle.can_bits.proofs.shift.Shift.send_along.Goals as goal
use Rattle.can_bits.proofs.shift.Shift.send_along.Goals.{then-shift-eq-RUN, else-shift-eq-RUN}

pub returns-then-not-is_before-clause-sends : goal.returns-then-not-is_before-clause-sends
returns-then-not-is_before-clause-sends c =
    sends_none c.args.body.now c.args.self.now c.args.levels.now c.args.from

pub loop-level-init : goal.loop-level-init
loop-level-init c =
    let s = c.args.self.now in
    let t = c.if-not-is_past_sof.false in
    let is = c.is_past_sof.ensures in
    let count : (s.count + (c.args.from - c.args.from)) % 256 ≡ s.count = search rules in
    let P : Shift → Type 0 = λ (n : Shift).
    SendsAlong c.args.body.now s (slice_range c.args.levels.now c.args.from c.args.from) n in
    let some = is.begun t in
    let before = ltb-true _ _ (sym c.is_before.ensures ∙ c.if-not-is_before.false) in
    let room = past_none (place_of s) c.plain_end-end.result before c.plain_end-end.ensures.fits in
    record {
      sends = subst P (inside_is s ((s.count + (c.args.from - c.args.from)) % 256) (is.no_fault t) (is.in_part t) count)
          (sends_none c.args.body.now s c.args.levels.now c.args.from);
      no_fault = is.no_fault t;
      in_part = is.in_part t;
      count = refl;
      begun = omega (arith, some);
      most = is.most t;
      mark = refl;
      grown = omega arith;
      shows = λ k small _ within. c.digits_of-digits.ensures k small within room;
      more = omega arith;
      few = λ within. within;
      front = refl;
      rest = refl;
    }

pub loop-level-preserved : goal.loop-level-preserved
loop-level-preserved c =
    let l = c.loop-level in
    let s = l.shift in
    let body = c.args.body.now in
    let old = c.args.self.now in
    let chosen = c.if-shift-eq-RUN in
    let stop = place_of old + 64 in
    let n = chosen.shift in
    let x = chosen.level in
    let inv = l.invariant in
    let ensures = c.plain_end-end.ensures in
    let end = c.plain_end-end.result in
    let before : place_of s < end = ltb-true _ _ (sym c.is_before-in-loop-level.ensures ∙ c.loop-level-test.true) in
    let marked = past_none (place_of s) end before ensures.mark in
    let within = past_none (place_of s) end before ensures.length in
    let near = ensures.near in
    let grown = inv.grown in
    let mark = inv.mark in
    let byte = c.plain_end-end.type_inv in
    let fits : l.digits < 2 ^ 64 = search rules in
    let h : IsChosen body s n x chosen.digits stop = elim chosen.branch [
      | then-shift-eq-RUN w ↦
          let y = w.opposite-level.result in
          chosen_as body s n s x y chosen.digits l.digits stop w.shift-is w.level-is w.digits-is
          (stuff_chosen body s y l.digits stop w.if-shift-eq-RUN.true w.opposite-level.ensures
          (omega (arith, before, marked, mark)) inv.shows)
      | else-shift-eq-RUN w ↦
          let m = record s { gathered = w.push_before_mark.new.self } in
          let push = w.push_before_mark.ensures in
          let place = push.place in
          chosen_as body s n m x w.of-level.result chosen.digits (2 * (l.digits % 2 ^ 63)) stop
          w.shift-is w.level-is w.digits-is (bit_chosen body s m w.of-level.result l.digits stop w.if-shift-eq-RUN.false
          w.of-level.ensures fits (omega (arith, before, near)) (omega (arith, grown))
          (omega (arith, before, within)) refl push.bit push.mark (omega (arith, place, before, byte))
          (omega (arith, before, marked, mark)) inv.shows)
    ] in
    let kept = h.kept in
    let same = c.run_after.ensures.same in
    let fresh = c.run_after.ensures.other in
    let room : l.place < length l.levels = search rules in
    let (some, most) = runs_on body s n x chosen.digits stop c.run_after.result h inv.most same fresh in
    let later = h.later in
    let order = inv.more in
    record {
      sends = sends_more body old s n l.levels c.args.from l.place x chosen.digits stop c.run_after.result h inv.sends
          inv.begun same fresh inv.more room;
      no_fault = ap (λ (t : Shift). t.wrong) kept ∙ inv.no_fault;
      in_part = ap (λ (t : Shift). t.frame_part) kept ∙ inv.in_part;
      count = ap (λ (t : Shift). t.count) kept ∙ inv.count;
      begun = some;
      most = most;
      mark = h.mark ∙ mark;
      grown = omega (arith, grown, later);
      shows = h.shows;
      more = omega (arith, order);
      few = λ within. omega (arith, room, length-set l.levels l.place x);
      front = take-set-le c.args.from l.levels l.place x inv.more ∙ inv.front;
      rest = rest_more l.levels c.args.levels.now l.place x inv.rest;
    }
