use Rattle.std.proofs.Common.{sym, subst, ◌++◌, ◌∷◌, []}
use Rattle.can_node.specs.declared.after_bit.AfterBit.{AfterBit}
use Rattle.can_node_rules.specs.Context.{ContextValue}
use Rattle.can_node.specs.Standing.{context_of}
use Rattle.can_node.specs.Inside.Turns.{AtAfter}
use Rattle.can_node.proofs.Machine.Held.{HoldsBack, ended_held}
use Rattle.can_node.proofs.node.Node.go_to.Goals as goal

-- src/next_place.rt
pub returns-in-Ended-clause-at : goal.returns-in-Ended-clause-at
returns-in-Ended-clause-at c = λ d now place bits b few body same made.
    let K = context_of c.args.self.now.context in
    let new = c.begin_place.new.self in
    let Back : ContextValue → Type 0 = λ k. HoldsBack K k in
    let back = subst Back (sym (c.end_piece.ensures few)) (ended_held c.in-Ended.ending K) in
    let P : AfterBit → Type 0 = λ a. AtAfter a new.stage new.shift d (context_of new.context) place (bits ++ b ∷ []) in
    subst P (sym c.in-Ended.is) (c.begin_place.ensures.at K (λ request e. body request (back request e))
    (c.end_piece.ensures few))
