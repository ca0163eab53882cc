-- How a session of `sja live` begins (this project's own rule).
use Rattle.std.specs.Prelude.{◌≡◌, ◌==◌, ◌&&◌, ℕ, Bool, [], replicate, if◌then◌else◌}
use Rattle.sja_live.specs.declared.opening.Opening.{Opening}
use Rattle.sja_plan.specs.Growing.{plan_of}
use Rattle.sja_session.specs.Beginning.{endless_bits, endless_room, fresh_bus, most_room}
use Rattle.sja_session.specs.Sessions.{SessionValue, IsAt, written}
use Rattle.sja_session.specs.declared.session_room.SessionRoom.{SessionRoom}

-- in version 3 no bits ask for a session without an end
abbrev pub is_endless : Opening → Bool
is_endless o = (o.version == 3) && (o.bits == 0)

-- by which version its run goes: without an end by one that no plan has
abbrev pub version_of : Opening → ℕ
version_of o = if is_endless o then 4 else o.version

-- how many bits a session has that is opened so, and for what it has room: with an end for as much as a plan of its
-- version has at most
abbrev pub bits_of : Opening → ℕ
bits_of o = if is_endless o then endless_bits else o.bits

abbrev pub room_of : Opening → SessionRoom
room_of o = if is_endless o then endless_room else most_room o.version

-- a session as it is opened, to which nothing happened
pub record IsNewOf (s : SessionValue) (o : Opening) : Type 0 where
  pub at : IsAt s (replicate o.nodes [])
  pub bus : s.run.bus ≡ fresh_bus (version_of o) (bits_of o) o.nodes (room_of o).steps
  pub wrote : written s ≡ plan_of o.version (bits_of o) (replicate o.nodes []) [] []
  pub room : s.room ≡ room_of o
