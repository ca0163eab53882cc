use Rattle.std.proofs.Common.{◌∙◌, ◌++◌, ◌∷◌, [], ap}
use Rattle.sja_placed_strikes.specs.declared.aim.Aim.{Aim}
use Rattle.sja_placed_strikes.proofs.Gathers.{aims_more}
use Rattle.sja_placed_strikes.proofs.aims.push_aims.Goals as goal

pub loop-index-preserved : goal.loop-index-preserved
loop-index-preserved c =
    aims_more c.args.strike.now c.args.aims.now.items c.loop-index.aims.items _ c.loop-index.index
    c.loop-index.invariant
    (c.in_ok-push-in-First.ensures.items
    ∙ ap (λ (a : Aim). c.loop-index.aims.items ++ a ∷ []) c.aim_at-in-loop-index.ensures)
