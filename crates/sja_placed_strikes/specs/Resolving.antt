-- Which plan comes of one whose strikes are by place: run by run, the place that comes first in time is struck (this
-- project's own rule).
use Rattle.std.specs.Prelude.{◌≡◌, ◌≤◌, ◌⊎◌, ℕ, Option, Some, None, List, [], ◌∷◌, ◌++◌, length, Contains}
use Rattle.sja_plan.specs.declared.placed_strike.PlacedStrike.{PlacedStrike}
use Rattle.sja_plan.specs.Plan.{PlanValue, times_in}
use Rattle.sja_plan.specs.Limits.{most_strikes}
use Rattle.sja_plan.specs.Struck.{struck_at}
use Rattle.sja_log.specs.Log.{RunValue}
use Rattle.sja_promises.specs.Runs.{IsSerialRun}
use Rattle.sja_log.specs.declared.run_fault.RunFault.TheVariants.{Memory as NoMemory}
use Rattle.text_frames.specs.FrameStories.{NodeStory, AreFrames}
use Rattle.sja_placed_strikes.specs.declared.aim.Aim.{Aim}
use Rattle.sja_placed_strikes.specs.declared.place_fault.PlaceFault.{PlaceFault}
use Rattle.sja_placed_strikes.specs.declared.place_fault.PlaceFault.TheVariants.{NoPlace, StrikeCount, Run, Memory}
use Rattle.sja_placed_strikes.specs.Counting.{AreMany}
use Rattle.sja_placed_strikes.specs.Aims.{aims_in, bit_at}

-- a run of a plan in one thread has these frames
pub record HasFrames (p : PlanValue) (found : List NodeStory) : Type 0 where
  pub log : RunValue
  pub run : IsSerialRun p log
  pub are : AreFrames log found

-- in the run of a plan with the strikes that are known this place is at this bit, and none of those that are left is at
-- an earlier one
pub record ComesFirst (p : PlanValue) (left : List Aim) (a : Aim) (bit : ℕ) : Type 0 where
  pub found : List NodeStory
  pub run : HasFrames p found
  pub here : bit_at found p.bits a ≡ Some bit
  pub first : (other : Aim) (at : ℕ) → Contains left other → bit_at found p.bits other ≡ Some at → bit ≤ at

-- from a plan and places that are to be struck, a plan is come to that has some of them, and those are left. Each one
-- is struck once, at the bit where it is in the run of the plan with all strikes that were known before
pub data ComesTo (p : PlanValue) (aims : List Aim) : PlanValue → List Aim → Type 0 where
  begun : ComesTo p aims p aims
  struck : {q : PlanValue} (before after : List Aim) (a : Aim) (bit : ℕ) → ComesTo p aims q (before ++ a ∷ after) →
      ComesFirst q (before ++ a ∷ after) a bit → ComesTo p aims (struck_at q a.node bit) (before ++ after)

-- the plan with each of its strikes by place struck at its bit
abbrev pub IsResolved : PlanValue → List PlacedStrike → PlanValue → Type 0
IsResolved p placed q = ComesTo p (aims_in placed) q []

-- the SOF of the last one of these frames; where there is none, this
abbrev pub last_sof_or : Option ℕ → List NodeStory → Option ℕ
last_sof_or last [] = last
last_sof_or last (s ∷ found) = last_sof_or (Some s.story.sof) found

abbrev pub last_sof : List NodeStory → Option ℕ
last_sof found = last_sof_or None found

-- a plan is come to whose run has none of the places that are left. This is the number of the strike that has the first
-- one left, how many frames that run has, and the SOF of the last of them
pub record HasNoPlace (p : PlanValue) (placed : List PlacedStrike) (item frames : ℕ) (last : Option ℕ) : Type 0 where
  pub plan : PlanValue
  pub left : Aim
  pub others : List Aim
  pub found : List NodeStory
  pub comes : ComesTo p (aims_in placed) plan (left ∷ others)
  pub run : HasFrames plan found
  pub none : (a : Aim) → Contains (left ∷ others) a → bit_at found plan.bits a ≡ None
  pub item_is : item ≡ left.item
  pub frames_is : frames ≡ length found
  pub last_is : last ≡ last_sof found

-- a plan is come to that has no room for one strike more
pub record HasNoRoom (p : PlanValue) (placed : List PlacedStrike) : Type 0 where
  pub plan : PlanValue
  pub left : Aim
  pub others : List Aim
  pub comes : ComesTo p (aims_in placed) plan (left ∷ others)
  pub full : most_strikes plan.version ≤ times_in plan.strikes

-- why no plan comes of it
abbrev pub IsPlaceFault : PlanValue → List PlacedStrike → PlaceFault → Type 0
IsPlaceFault p placed (NoPlace item frames last) = HasNoPlace p placed item frames last
IsPlaceFault p placed StrikeCount = AreMany p.bits placed ⊎ HasNoRoom p placed
IsPlaceFault p placed (Run f) = f ≡ NoMemory
IsPlaceFault p placed Memory = Unit {0}
