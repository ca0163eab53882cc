use Rattle.std.proofs.Common.{◌≡◌, refl, ap, sym, arith, ◌∙◌, ◌++◌, ◌∷◌, []}
use Rattle.can_levels.specs.declared.level.Level.TheVariants.{Recessive}
use Rattle.can_node.specs.declared.node.Node.{Node}
use Rattle.can_node_rules.specs.Context.{ContextValue}
use Rattle.can_node_rules.specs.Record.RecordEntry.{Stop}
use Rattle.can_node.specs.Standing.{HasBody}
use Rattle.can_node.proofs.Machine.Calls.{stopped_stands}
use Rattle.can_node.proofs.Machine.Shown.{stands_up, reset_drives}
use Rattle.can_node.proofs.node.Node.stop.Goals as goal

-- src/node.rt: `silent` by `grind`, so that another level is refused by values
pub returns-clause-enters : goal.returns-clause-enters
returns-clause-enters c =
    let old = c.args.self.now in
    let free : HasBody c.stop.new.self old.body =
    λ request e. let none = sym (ap (λ (d : ContextValue). d.held) c.stop.ensures) ∙ e in absurd cc in
    let node : Node = record { context = c.stop.new.self; stage = _; shift = old.shift; body = old.body; next = _ } in
    let silent : node.next ≡ Recessive = grind arith in
    λ entries found h.
    stands_up node (entries ++ Stop ∷ []) found (stopped_stands old node entries found refl c.stop.ensures h) free
    (reset_drives node node.next refl silent)
