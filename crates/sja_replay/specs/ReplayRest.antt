-- Bits of a node at rest, gone over at once (this project's own rule).
use Rattle.std.specs.Prelude.{◌≡◌, ◌+◌, ◌<◌, ◌≤◌, ◌^◌, ℕ, true, false, Some, drop}
use Rattle.can_levels.specs.declared.level.Level.TheVariants.{Recessive}
use Rattle.can_node.specs.Stands.{DrivesNext, ShowsRest}
use Rattle.sja_journal.specs.RestBits.{rest_bit, rest_before}
use Rattle.sja_replay.specs.declared.replay.Replay.{Replay}

-- the node is at rest and drives recessive, no abort came, and a bit in which it did and saw recessive comes next
pub record AwaitsRest (r : Replay) : Type 0 where
  pub ahead : r.ahead ≡ Some rest_bit
  pub unmarked : r.aborted ≡ false
  pub rests : ShowsRest r.node true
  pub drives : DrivesNext r.node Recessive

-- and so many such bits come behind that one
pub record RestsFor (r : Replay) (n : ℕ) : Type 0 where
  pub awaits : AwaitsRest r
  pub bits : n ≤ rest_before r.entries
  pub few : r.bits + n < 2 ^ 32

-- the same replay past so many bits: the node is as it was, and the entry that is looked at is such a bit still
abbrev pub rested : ℕ → Replay → Replay
rested n r = record r { bits = r.bits + n; entries = drop n r.entries }
