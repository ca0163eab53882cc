use Rattle.std.proofs.Common.{◌+◌, ◌≤◌, ◌++◌, ◌∷◌, [], length, ap, ◌∙◌, arith}
use Rattle.sja_replay.specs.Replaying.{left_of}
use Rattle.sja_sweep.proofs.TriedRuns.ErrorLemmas.{errors_begun, errors_more, errors_over}
use Rattle.sja_sweep.proofs.trial_run.errors_of.Goals as goal

pub loop-bit_event-init : goal.loop-bit_event-init
loop-bit_event-init c =
    errors_begun c.args.journal.now.entries c.of-replay.result c.new-errors.result.items c.of-replay.ensures.at
    c.of-replay.ensures.left c.new-errors.ensures.items

pub loop-bit_event-smaller : goal.loop-bit_event-smaller
loop-bit_event-smaller c =
    let so_far = c.loop-bit_event.invariant in
    let on = c.in-Some.ensures.some so_far.before so_far.at in
    let fewer : length (left_of c.next.new.self) + 1 ≤ length (left_of c.loop-bit_event.replay) = on.fewer in
    omega (arith, fewer)

pub loop-bit_event-preserved : goal.loop-bit_event-preserved
loop-bit_event-preserved c =
    errors_more c.args.journal.now.entries c.loop-bit_event.replay c.next.new.self c.loop-bit_event.errors.items
    c.push.new.self.items c.in-Some.bit_event c.loop-bit_event.invariant c.in-Some.ensures.some
    (c.in_ok-push.ensures.items ∙ ap (λ e. c.loop-bit_event.errors.items ++ e ∷ []) c.error_in.ensures)

pub returns : goal.returns
returns c =
    errors_over c.args.journal.now.entries c.loop-bit_event.replay c.loop-bit_event.errors.items
    c.loop-bit_event.invariant c.in_default.ensures.none
