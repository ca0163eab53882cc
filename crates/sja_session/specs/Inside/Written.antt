-- What is written of a plan and of turns (this project's own rule).
use Rattle.std.specs.Prelude.{◌≡◌, ◌≤◌, ◌<◌, ◌⊎◌, ◌^◌, nat_lt, if◌then◌else◌, ℕ, [], length, replicate, zero, suc, List}
use Rattle.sja_journal.specs.BoundedHistories.{HistoryValue}
use Rattle.sja_plan.specs.Growing.{plan_of}
use Rattle.sja_plan.specs.Limits.{most_bits}
use Rattle.sja_plan.specs.Plan.{PlanValue}
use Rattle.sja_plan.specs.declared.turn.Turn.{Turn}
use Rattle.sja_plan.specs.declared.turn.Turn.TheVariants.{Bus}
use Rattle.sja_steps.specs.declared.strike.Strike.{Strike}
use Rattle.sja_session.specs.declared.session_room.SessionRoom.{SessionRoom}
use Rattle.sja_session.specs.Beginning.{IsRoom}
use Rattle.sja_session.specs.Turning.{with_turn}

-- a plan of the same version, bits, nodes and strikes as another, without its steps and turns
abbrev pub bare_plan : PlanValue → PlanValue
bare_plan p = plan_of p.version p.bits (replicate (length p.nodes) []) [] p.strikes

-- a plan has neither steps nor turns
abbrev pub IsBare : PlanValue → Type 0
IsBare p = p ≡ bare_plan p

-- turns, in their order, and so many bits more: some are a turn of the bus, and none are no turn
abbrev pub with_bits : List Turn → ℕ → List Turn
with_bits turns zero = turns
with_bits turns (suc n) = with_turn turns (Bus (suc n))

-- a plan may be gone by for so many bits, with such a room: for its own, within its limits; or for more than it may
-- have, where it is of version 3 and has no strikes
pub record MayGoBy (p : PlanValue) (count : ℕ) (room : SessionRoom) : Type 0 where
  pub bits : (count ≡ p.bits) ⊎ ((most_bits p.version < count) × (p.strikes ≡ []) × (p.version ≡ 3))
  pub few : count ≤ 2 ^ 62
  pub counted : room.steps ≤ 2 ^ 56
  pub turns : room.turns ≤ 200000
  pub limits : count ≤ most_bits p.version → IsRoom p.version room

-- for how many strikes it has room beside a plan that it goes by for so many bits
abbrev pub beside_for : PlanValue → ℕ → ℕ
beside_for p bits = if nat_lt p.bits bits then 2 ^ 56 else 0

-- a session goes by a plan for its own bits, and holds no strikes beside it; or for more than it may have
abbrev pub GoesBy : PlanValue → ℕ → HistoryValue Strike → Type 0
GoesBy p bits struck = ((bits ≡ p.bits) × (struck.items ≡ []))
    ⊎ ((most_bits p.version < bits) × (p.strikes ≡ []) × (struck.room ≡ 2 ^ 56))
