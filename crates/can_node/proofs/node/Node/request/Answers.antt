use Rattle.std.proofs.Common.{◌++◌, ◌∷◌, [], refl, sym, subst, arith, ◌∙◌, ◌≡◌, None, Some}
use Rattle.can_frame.specs.Frame.{IsFrame}
use Rattle.can_bits.specs.Packing.{IsSentBody}
use Rattle.can_node.specs.declared.context.Context.{Context}
use Rattle.can_node.specs.declared.node.Node.{Node}
use Rattle.can_node_rules.specs.declared.request.Request.{Request}
use Rattle.can_node.specs.Standing.{HasBody}
use Rattle.can_node_rules.specs.Record.RecordEntry.{Send}
use Rattle.can_node.proofs.Machine.Shown.{DrivesBy, stands_up}
use Rattle.can_node.proofs.Machine.Requests.{sent_stands, awake_now, none_held, held_now}
use Rattle.can_node.proofs.node.Node.request.Goals as goal

-- src/node.rt: `kept` by `grind`, so that another level is refused by values
pub returns : goal.returns
returns c =
    let old = c.args.self.now in
    let asked : Request = c.args.request in
    let context : Context = record old.context { held = Some asked } in
    let P : Request → Type 0 = λ r. IsFrame r.frame × IsSentBody c.of-self.result r.frame in
    let body : HasBody context c.of-self.result = λ request e. let same : asked ≡ request = cc in
    subst P same (c.of-self.ensures.valid, c.of-self.ensures.packs) in
    let new : Node = record old { context = context; body = c.of-self.result; next = _ } in
    let kept : c.next_level-self.result ≡ new.next = grind arith in
    let free = none_held old.context.held (sym c.is_some.ensures ∙ c.if-is_some.false) in (
      λ entries found h.
          stands_up new (entries ++ Send asked ∷ []) found
          (sent_stands old new asked c.in_default.not-InReset free refl refl refl entries found h)
          body (subst (λ x. DrivesBy new x) kept c.next_level-self.ensures),
      λ entries found h. (
        awake_now old entries found h c.in_default.not-InReset,
        held_now old entries found h None free,
      ),
    )
