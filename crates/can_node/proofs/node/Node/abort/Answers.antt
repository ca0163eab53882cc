use Rattle.std.proofs.Common.{◌++◌, ◌∷◌, [], ◌≡◌, refl, arith, sym, ap, ◌∙◌, None, true, false, if◌then◌else◌}
use Rattle.can_node_rules.specs.declared.abort_outcome.AbortOutcome.TheVariants.{Unchanged, Marked}
use Rattle.can_node.specs.declared.node.Node.{Node}
use Rattle.can_node_rules.specs.Context.{ContextValue}
use Rattle.can_node_rules.specs.Record.RecordEntry.{Abort}
use Rattle.can_node.specs.Standing.{context_of}
use Rattle.can_node.proofs.Machine.Between.{changed}
use Rattle.can_node.proofs.Machine.Shown.{stands_up}
use Rattle.can_node.proofs.Machine.Requests.{marked_stands, dropped_stands, abort_is, going_is}
use Rattle.can_node.proofs.node.Node.abort.Goals as goal

-- src/node.rt
pub returns-then-not-is_in_progress : goal.returns-then-not-is_in_progress
returns-then-not-is_in_progress c =
    let old = c.args.self.now in
    let new : Node = record old { context = record old.context { held = None }; next = c.next_level-self.result } in
    let going = going_is old c.is_in_progress.result false c.if-not-is_in_progress.true c.is_in_progress.ensures in (
      λ entries found h.
          stands_up new (entries ++ Abort ∷ []) found
          (dropped_stands old new c.in-Some.field-0 c.in-Some.is going refl refl refl entries found h)
          (λ request e. absurd cc) c.next_level-self.ensures,
      λ entries found h. abort_is old entries found h c.in-Some.field-0 false old.context.aborted c.in-Some.is
          (sym (going entries found h)) refl,
    )

pub returns-then-drops : goal.returns-then-drops
returns-then-drops c =
    let old = c.args.self.now in
    let going = going_is old c.is_in_progress.result true c.if-not-is_in_progress.false c.is_in_progress.ensures in
    let drops = sym (c.drops.ensures.some c.in-Some.field-0 c.in-Some.is) ∙ c.if-drops.true in (
      refl,
      λ entries found h.
          ap (λ t. if t then Unchanged else Marked) (sym drops)
          ∙ abort_is old entries found h c.in-Some.field-0 true old.context.aborted c.in-Some.is
          (sym (going entries found h)) refl,
    )

-- `marks` by `grind`, so that another context is refused by values
pub returns-else-drops : goal.returns-else-drops
returns-else-drops c =
    let old = c.args.self.now in
    let new : Node = record old {
      context = record old.context { held = _; aborted = _ };
      next = c.next_level-self-else-drops.result;
    } in
    let marks : context_of new.context ≡ changed (context_of old.context) old.context.held true = grind arith in
    let going = going_is old c.is_in_progress.result true c.if-not-is_in_progress.false c.is_in_progress.ensures in
    let drops = sym (c.drops.ensures.some c.in-Some.field-0 c.in-Some.is) ∙ c.if-drops.false in (
      λ entries found h.
          stands_up new (entries ++ Abort ∷ []) found
          (marked_stands old new c.in-Some.field-0 c.in-Some.is going marks refl refl entries found h)
          (λ request e. h.body request (sym (ap (λ (d : ContextValue). d.held) marks) ∙ e))
          c.next_level-self-else-drops.ensures,
      λ entries found h.
          ap (λ t. if t then Unchanged else Marked) (sym drops)
          ∙ abort_is old entries found h c.in-Some.field-0 true old.context.aborted c.in-Some.is
          (sym (going entries found h)) refl,
    )
