use Rattle.std.proofs.Common.{refl, ap, sym, ◌∙◌, ◌++◌, ◌∷◌, []}
use Rattle.can_node.specs.declared.node.Node.{Node}
use Rattle.can_node.specs.declared.stage.Stage.TheVariants.{Integrating}
use Rattle.can_node_rules.specs.Context.{ContextValue}
use Rattle.can_node_rules.specs.Record.RecordEntry.{Start}
use Rattle.can_node.specs.Standing.{context_of}
use Rattle.can_node.proofs.Machine.Calls.{started_stands}
use Rattle.can_node_rules.proofs.OneCut.Resets.{start_holds}
use Rattle.can_node.proofs.Machine.Shown.{stands_up, integrating_drives}
use Rattle.can_node.proofs.node.Node.start.Goals as goal

-- src/node.rt
pub returns : goal.returns
returns c = λ entries found h.
    let old = c.args.self.now in
    let node : Node = record { context = c.start.new.self; stage = _; shift = old.shift; body = old.body; next = _ } in
    let holds = ap (λ (d : ContextValue). d.held) c.start.ensures
    ∙ start_holds c.args.config (context_of old.context) in
    stands_up node (entries ++ Start c.args.config ∷ []) found
    (started_stands old node c.args.config entries found c.requires.reset c.start.ensures
    (ap (λ n. Integrating n 0) c.integration_count.ensures) h)
    (λ request e. h.body request (sym holds ∙ e))
    (integrating_drives node node.next c.integration_count.result 0 refl refl)
