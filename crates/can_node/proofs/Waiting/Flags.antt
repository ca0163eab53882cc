-- Flags of either level: how they begin, and that they go on.
use Rattle.std.proofs.Common.{◌≡◌, ℕ, List, [], replicate, refl, arith}
use Rattle.can_levels.specs.declared.level.Level.{Level}
use Rattle.can_levels.specs.declared.level.Level.TheVariants.{Dominant, Recessive}
use Rattle.can_levels.specs.Stuffing.{EndsInEqual}
use Rattle.can_node_rules.specs.Bits.{Bit}
use Rattle.can_node_rules.specs.Context.{ContextValue, flag_level}
use Rattle.can_node_rules.specs.Pieces.Place.{AtFlag}
use Rattle.can_node_rules.specs.Cut.{IsUnfinished}
use Rattle.can_node_rules.specs.UnfinishedPieces.{IsInFlag}
use Rattle.can_node_rules.proofs.Waiting.Firsts.{first_by_length}
use Rattle.can_node.proofs.Waiting.DominantFlags.{open_dominant_flag}
use Rattle.can_node.proofs.Waiting.PassiveFlags.{six_long, open_passive_flag}

-- no bit came yet, in a flag of either level
flags_at : (c : ContextValue) (level last : Level) → IsInFlag level 0 last c []
flags_at c Dominant last = record { few = omega arith; whole = refl }
flags_at c Recessive last = record {
  levels = [];
  whole = refl;
  few = omega arith;
  none = λ e. refl;
  waits = first_by_length (EndsInEqual 6) (replicate 6 last) six_long ([], last, refl);
}

-- the same by what the node drives
pub flags_from : (c : ContextValue) (last : Level) → IsInFlag (flag_level c) 0 last c []
flags_from c last = flags_at c (flag_level c) last

-- by the flag's level
open_flag : (level : Level) (n : ℕ) (last : Level) (c : ContextValue) (bits : List Bit) → flag_level c ≡ level →
    IsInFlag level n last c bits → IsUnfinished c AtFlag bits
open_flag Dominant n last c bits drives h = open_dominant_flag n c bits drives h
open_flag Recessive n last c bits drives h = open_passive_flag n last c bits drives h

-- by what the node drives
pub open_flagging : (n : ℕ) (last : Level) (c : ContextValue) (bits : List Bit) →
    IsInFlag (flag_level c) n last c bits →
    IsUnfinished c AtFlag bits
open_flagging n last c bits h = open_flag (flag_level c) n last c bits refl h
