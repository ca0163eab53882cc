-- What is known of a node beside the place where it stands: its context (this project's own rule; sources as named).
use Rattle.std.specs.Prelude.{◌&&◌, ◌||◌, ℕ, Bool, true, false, nat_le, if◌then◌else◌, Option, Some, None}
use Rattle.can_levels.specs.declared.level.Level.{Level}
use Rattle.can_levels.specs.declared.level.Level.TheVariants.{Dominant, Recessive}
use Rattle.can_node_rules.specs.declared.role.Role.{Role}
use Rattle.can_node_rules.specs.declared.role.Role.TheVariants.{Transmitter, Receiver}
use Rattle.can_node_rules.specs.declared.flag_kind.FlagKind.{FlagKind}
use Rattle.can_node_rules.specs.declared.flag_kind.FlagKind.TheVariants.{ActiveError, PassiveError, Overload}
use Rattle.can_node_rules.specs.declared.request.Request.{Request}

-- which piece may stand at a place, and what it changes, hangs on these
pub record ContextValue : Type 0 where
  -- listen only mode: the node drives nothing. Self test mode: an own frame needs no acknowledgement (SJA1000 data
  -- sheet, 6.4.3, mode register)
  pub listen : Bool
  pub self_test : Bool
  -- the request that is held, and whether it was aborted in progress (SJA1000 data sheet, 6.4.4, command register)
  pub held : Option Request
  pub aborted : Bool
  -- transmitter or receiver (Bosch CAN 2.0 part A section 3.2)
  pub role : Role
  -- the transmit error counter, the receive error counter, and whether bus-off stands (part A section 7)
  pub tec : ℕ
  pub rec : ℕ
  pub off : Bool
  -- the flag that is due, or that came last (part A sections 3.1.3 and 3.1.4)
  pub flag : FlagKind
  -- an error passive transmitter's step for a missing acknowledgement is owed, until it sees a dominant level in its
  -- flag (part A section 7, rule 3, exception 1)
  pub ack_step_owed : Bool

-- before anything happened: both counters at 0, no request (this project's own rule)
abbrev pub fresh : ContextValue
fresh = record {
  listen = false;
  self_test = false;
  held = None;
  aborted = false;
  role = Receiver;
  tec = 0;
  rec = 0;
  off = false;
  flag = ActiveError;
  ack_step_owed = false;
}

-- whether the role is that of the transmitter
abbrev pub is_transmitter : Role → Bool
is_transmitter Transmitter = true
is_transmitter Receiver = false

-- error passive: a counter is at least 128 (Bosch CAN 2.0 part A section 7, rules 9 and 11)
abbrev pub is_passive : ContextValue → Bool
is_passive c = nat_le 128 c.tec || nat_le 128 c.rec

-- suspend transmission is owed: an error passive transmitter waits eight bits more after intermission (part A section
-- 3.1.5)
abbrev pub owes_suspension : ContextValue → Bool
owes_suspension c = is_transmitter c.role && is_passive c

-- how many recessive levels interframe space has before the bus is idle: three of intermission, and eight of suspend
-- transmission where it is owed (part A section 3.1.5)
abbrev pub interframe_count : ContextValue → ℕ
interframe_count c = if owes_suspension c then 11 else 3

-- whether a request is held
abbrev pub is_held : Option Request → Bool
is_held None = false
is_held (Some request) = true

-- an active error flag and an overload flag are dominant, a passive error flag is recessive (part A sections 3.1.3 and
-- 3.1.4)
abbrev pub level_of_flag : FlagKind → Level
level_of_flag ActiveError = Dominant
level_of_flag PassiveError = Recessive
level_of_flag Overload = Dominant

-- what the node drives in its flag; a node that only listens drives recessive (SJA1000 data sheet, 6.4.3)
abbrev pub flag_level : ContextValue → Level
flag_level c = if c.listen then Recessive else level_of_flag c.flag

-- how often eleven successive recessive levels are waited for after a start: once (ISO 11898-1, bus integration), and
-- 128 times while bus-off stands (part A section 7, rule 12)
abbrev pub integration_count : ContextValue → ℕ
integration_count c = if c.off then 128 else 1
