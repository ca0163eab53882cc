use Rattle.std.proofs.Common.{◌≡◌, ◌+◌, length, ap, arith, rules}
use Rattle.std.proofs.lemmas.List.{length-append}
use Rattle.can_levels.specs.declared.level.Level.{Level}
use Rattle.can_bits.proofs.line.line_of.Goals as goal

-- `whole` proves nothing here: by it a wrong body is refused with values
pub returns : goal.returns
returns c =
    let whole : length c.push_tail.new.line.items ≡ length c.push_stuffed.new.line.items + 10 =
    omega (arith, ap length c.push_tail.ensures, length-append {A = Level}) in
    search rules
