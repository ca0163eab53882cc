use Rattle.text_wave.proofs.SoFar.Written.{scope_written}
use Rattle.text_wave.proofs.declarations.put_scope.Goals as goal

pub returns : goal.returns
returns c = λ bus story.
    scope_written bus c.args.number story _ _ _ _ _ c.in_ok-put_opening.ensures
    (c.in_ok-put_levels.ensures story.node) (c.in_ok-put_numbers.ensures bus story) c.in_ok-writeln.ensures.bytes
