-- How a session of a program in C begins (this project's own rule).
use Rattle.std.specs.Prelude.{◌≡◌, ◌⊎◌, ◌==◌, ◌&&◌, ℕ, Bool, true, false, [], replicate}
use Rattle.sja_calls.specs.declared.call_fault.CallFault.{CallFault}
use Rattle.sja_calls.specs.declared.call_fault.CallFault.TheVariants.{Version, Bits, Nodes, Memory}
use Rattle.sja_calls.specs.declared.state.State.{State}
use Rattle.sja_calls.specs.declared.state.State.TheVariants.{Going, Ended, Lost}
use Rattle.sja_plan.specs.Growing.{plan_of}
use Rattle.sja_plan.specs.Limits.{most_bits, most_steps}
use Rattle.sja_session.specs.Beginning.{IsVersion, IsBitCount, IsNodeCount, MayBegin, IsOutside, most_room}
use Rattle.sja_session.specs.Beginning.{endless_bits, endless_room, fresh_bus}
use Rattle.sja_session.specs.Sessions.{SessionValue, IsAt, written}

-- one without an end is asked for: version 3, and 0 bits
abbrev pub asks_endless : ℕ → ℕ → Bool
asks_endless version bits = (version == 3) && (bits == 0)

-- a session to which nothing happened, of this version, with so many bits and so many nodes, and room for as much as a
-- plan of its version has at most
pub record IsNewOf (s : SessionValue) (version bits nodes : ℕ) : Type 0 where
  pub may : MayBegin version bits nodes
  pub at : IsAt s (replicate nodes [])
  pub bus : s.run.bus ≡ fresh_bus version bits nodes (most_steps version)
  pub wrote : written s ≡ plan_of version bits (replicate nodes []) [] []
  pub room : s.room ≡ most_room version

-- a session without an end to which nothing happened, with so many nodes
pub record IsNewEndless (s : SessionValue) (nodes : ℕ) : Type 0 where
  pub may : IsNodeCount nodes
  pub at : IsAt s (replicate nodes [])
  pub bus : s.run.bus ≡ fresh_bus 4 endless_bits nodes endless_room.steps
  pub wrote : written s ≡ plan_of 3 endless_bits (replicate nodes []) [] []
  pub room : s.room ≡ endless_room

-- the one that is asked for
abbrev pub IsNewBy : Bool → SessionValue → ℕ → ℕ → ℕ → Type 0
IsNewBy true s version bits nodes = IsNewEndless s nodes
IsNewBy false s version bits nodes = IsNewOf s version bits nodes

abbrev pub IsNew : ℕ → ℕ → ℕ → State → Type 0
IsNew version bits nodes (Going s) = IsNewBy (asks_endless version bits) s version bits nodes
IsNew version bits nodes (Ended plan log) = ⊥
IsNew version bits nodes Lost = ⊥

-- so many bits may be asked for: those of a session with an end, or none of one without
abbrev pub MayAsk : ℕ → ℕ → Type 0
MayAsk version bits = IsBitCount version bits ⊎ (asks_endless version bits ≡ true)

-- why there is none: the first of these that isn't within the limits, or that memory was refused
abbrev pub IsNoSession : ℕ → ℕ → ℕ → CallFault → Type 0
IsNoSession version bits nodes Version = IsOutside 3 version
IsNoSession version bits nodes Bits =
    IsVersion version × IsOutside (most_bits version) bits × (asks_endless version bits ≡ false)
IsNoSession version bits nodes Nodes = IsVersion version × MayAsk version bits × IsOutside 8 nodes
IsNoSession version bits nodes Memory = IsVersion version × MayAsk version bits × IsNodeCount nodes
IsNoSession version bits nodes fault = ⊥
