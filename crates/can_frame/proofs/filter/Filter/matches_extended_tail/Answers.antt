use Rattle.std.proofs.Common.{◌≡◌, arith, rules}
use Rattle.can_frame.specs.Message.{bit}
use Rattle.can_frame.proofs.filter.Filter.matches_extended_tail.Goals as goal

-- one bit is compared with RTR
pub returns-then-low : goal.returns-then-low
returns-then-low c =
    let rtr : c.from.result ≡ bit c.args.frame.now.rtr = search rules in (
      λ t. (
        search rules,
        search rules,
        λ i within compared. let same = c.matches-rtr.ensures.0 t i (omega arith) (cc) in cc,
      ),
      search rules,
    )
