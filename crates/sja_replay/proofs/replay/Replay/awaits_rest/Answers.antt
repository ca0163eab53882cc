use Rattle.std.proofs.Common.{◌≡◌, true, false, Some, subst, rules}
use Rattle.can_levels.specs.declared.level.Level.{Level}
use Rattle.can_levels.specs.declared.level.Level.TheVariants.{Recessive}
use Rattle.can_node.specs.Stands.{DrivesNext, ShowsRest}
use Rattle.sja_journal.specs.RestBits.{rest_bit}
use Rattle.sja_replay.proofs.replay.Replay.awaits_rest.Goals as goal

pub returns : goal.returns
returns c = λ yes.
    let ahead : c.args.self.now.ahead ≡ Some rest_bit = search rules in
    let P : Level → Type 0 = λ l. DrivesNext c.args.self.now.node l in
    record {
      ahead = ahead;
      unmarked = c.if-self.false;
      rests = rw c.if-not-at_rest.false at c.at_rest.ensures;
      drives = subst P (c.is_same.ensures.yes yes) c.drive.ensures;
    }
