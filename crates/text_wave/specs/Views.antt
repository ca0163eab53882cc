-- What a node shows in each bit, by what its bits brought, as numbers (this project's own rule).
use Rattle.std.specs.Prelude.{ℕ, zero, suc, Option, Some, None, List, [], ◌∷◌}
use Rattle.can_node_rules.specs.declared.flag_kind.FlagKind.{FlagKind}
use Rattle.can_node_rules.specs.declared.flag_kind.FlagKind.TheVariants.{ActiveError, PassiveError, Overload}
use Rattle.can_node_rules.specs.declared.phase.Phase.{Phase}
use Rattle.can_node_rules.specs.declared.phase.Phase.TheVariants.{Reset, Waiting, Idle, Frame, Flag, Delimiter}
use Rattle.can_node_rules.specs.declared.phase.Phase.TheVariants.{Intermission, Suspension}
use Rattle.sja_replay.specs.declared.bit_event.BitEvent.{BitEvent}
use Rattle.sja_replay.specs.declared.view.View.{View}

-- ---- in which bit

-- what a node shows in bit k of these bits, counted from 0, where it showed this before the first of them: in each bit
-- what it showed before that bit was sampled, and behind the last one what it showed after that
abbrev pub view_from : Option View → ℕ → List BitEvent → Option View
view_from first k [] = first
view_from first zero (h ∷ hs) = Some h.before
view_from first (suc k) (h ∷ hs) = view_from (Some h.after) k hs

-- of all bits of a node; where none is told, there is nothing to show
abbrev pub view_in : ℕ → List BitEvent → Option View
view_in k hs = view_from None k hs

-- ---- as numbers; a node of which nothing is to be shown is as after power-on

-- the error counters (Bosch CAN 2.0 part A section 7)
abbrev pub tec_of : Option View → ℕ
tec_of None = 0
tec_of (Some v) = v.counters.tec

abbrev pub rec_of : Option View → ℕ
rec_of None = 0
rec_of (Some v) = v.counters.rec

-- an error flag, active or passive, is told from an overload flag (Bosch CAN 2.0 part A sections 3.1.3 and 3.1.4)
abbrev pub flag_code : FlagKind → ℕ
flag_code ActiveError = 4
flag_code PassiveError = 4
flag_code Overload = 5

-- where the node is with the bit
abbrev pub phase_code : Phase → FlagKind → ℕ
phase_code Reset flag = 0
phase_code Waiting flag = 1
phase_code Idle flag = 2
phase_code Frame flag = 3
phase_code Flag flag = flag_code flag
phase_code Delimiter flag = 6
phase_code Intermission flag = 7
phase_code Suspension flag = 8

abbrev pub phase_of : Option View → ℕ
phase_of None = 0
phase_of (Some v) = phase_code v.phase v.flag
