-- Which nodes a script strikes in which bits (this project's own rule).
use Rattle.std.specs.Prelude.{◌≡◌, ◌+◌, ◌*◌, ◌<◌, ℕ, List}
use Rattle.std.specs.List.{Contains}
use Rattle.sja_steps.specs.declared.strike.Strike.{Strike}

-- so many bits after its first one the strike comes again: so often it is repeated, counted from 0
pub record IsRepeated (s : Strike) (later : ℕ) : Type 0 where
  pub time : ℕ
  pub few : time < s.times
  pub now : time * s.every ≡ later

-- the strike is of this node, and at one of its times, counted from 0, it meets this bit
pub record Hits (s : Strike) (bit node : ℕ) : Type 0 where
  pub of_node : s.node ≡ node
  pub time : ℕ
  pub few : time < s.times
  pub now : s.bit + time * s.every ≡ bit

-- some strike of the script hits this node in this bit
pub record Strikes (script : List Strike) (bit node : ℕ) : Type 0 where
  pub strike : Strike
  pub in_script : Contains script strike
  pub hits : Hits strike bit node
