use Rattle.std.proofs.Common.{◌≡◌, ◌+◌, ◌<◌, ◌++◌, ◌∙◌, true, false, string_bytes, sym, ap, append-nil, rules}
use Rattle.text_trace.proofs.SoFar.Lines.{done_end}
use Rattle.text_trace.proofs.DriverSteps.StepOrders.{put_first, put_early}
use Rattle.text_trace.proofs.node_steps.NodeSteps.put.Goals as goal

pub returns-then-is_quiet : goal.returns-then-is_quiet
returns-then-is_quiet c =
    let quiet : c.is_quiet.result ≡ true = search rules in
    sym (append-nil (string_bytes c.args.text.now))
    ∙ ap (λ t. string_bytes c.args.text.now ++ t) (sym (c.is_quiet.ensures quiet c.args.node))

pub loop-place-init : goal.loop-place-init
loop-place-init c =
    put_first c.args.bit c.args.node c.first_at-place.result c.args.self.now.steps.now c.args.self.now.done.now
    (string_bytes c.args.text.now) c.first_at-place.ensures

pub returns-then-bit-done : goal.returns-then-bit-done
returns-then-bit-done c =
    let early : c.args.bit < c.index-self-place.result.bits = rw c.index-self-place.is c.if-bit-done.true in
    put_early c.args.bit c.args.node c.loop-place.place c.args.self.now.steps.now c.args.self.now.done.now
    c.index-self-place.result (string_bytes c.loop-place.text) _ c.if-place-self.true c.index-self-place.is
    early (c.args.self.now.ascends c.if-self.true) c.loop-place.invariant

pub returns-else-place-self : goal.returns-else-place-self
returns-else-place-self c =
    done_end false c.args.bit c.args.node c.loop-place.place (c.loop-place.place + 1) c.args.self.now.steps.now
    c.args.self.now.done.now _ _ c.if-place-self.false c.loop-place.invariant
