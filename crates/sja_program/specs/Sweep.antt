-- What `sweep` prints and refuses, by what the input held before and holds after (this project's own rule).
use Rattle.std.specs.Prelude.{◌≡◌, ◌<◌, ◌≤◌, ℕ, false, List, Option, if◌then◌else◌, length}
use Rattle.sja_plan.specs.Limits.{most_strikes}
use Rattle.sja_plan.specs.Plan.{PlanValue, times_in}
use Rattle.sja_placed_strikes.specs.PlanRead.{IsRunPlan}
use Rattle.sja_plan.specs.Struck.{struck_at}
use Rattle.sja_plan_text.specs.Written.{IsPlanText, IsTooLong}
use Rattle.sja_sweep.specs.declared.sweeping.Sweeping.{Sweeping}
use Rattle.sja_sweep.specs.Sweeps.{IsSweep, IsRefused, NamesNoNode, HasNoRoom}
use Rattle.sja_command_line.specs.declared.sweep_words.SweepWords.{SweepWords}
use Rattle.text_codec.specs.declared.command_refusal.CommandRefusal.{CommandRefusal}
use Rattle.text_codec.specs.declared.command_refusal.CommandRefusal.TheVariants as refusal
use Rattle.text_codec.specs.declared.sweep_refusal.SweepRefusal.{SweepRefusal}
use Rattle.text_codec.specs.declared.sweep_refusal.SweepRefusal.TheVariants.{NoNode, TooMany, StrikeCount, Bit, TooLong}
use Rattle.text_codec.specs.declared.sweep_refusal.SweepRefusal.TheVariants.{NoBit}
use Rattle.sja_program.specs.Input.{IsRead}
use Rattle.sja_program.specs.Run.{RefusesRun}

-- ---- the sweep

-- what is asked of a sweep by these words
abbrev pub sweeping_of : SweepWords → Sweeping
sweeping_of w = record {
  node = w.node;
  first = w.first;
  last = w.last;
  pairs = w.pairs;
  asked = record { changed = w.changed; ecc = false; twice = w.twice; lost = w.lost; stuck = w.stuck };
  meant = w.meant;
}

-- there is such a sweep of the plan, and the text is its lines, or its rows where these are asked for
abbrev pub IsSwept : SweepWords → PlanValue → List ℕ → Type 0
IsSwept w plan text =
    (lines : List ℕ) × (rows : List ℕ) × IsSweep plan (sweeping_of w) lines rows
    × (text ≡ (if w.rows then rows else lines))

-- why there is no such sweep of the plan
abbrev pub RefusesSwept : SweepWords → PlanValue → SweepRefusal → Type 0
RefusesSwept w plan NoNode = NamesNoNode plan (sweeping_of w)
RefusesSwept w plan (TooMany runs bits) = IsRefused plan (sweeping_of w) runs bits
RefusesSwept w plan StrikeCount = HasNoRoom plan (sweeping_of w)
RefusesSwept w plan Bit = ⊥
RefusesSwept w plan TooLong = ⊥
RefusesSwept w plan (NoBit bits) = ⊥

-- ---- the plan with a strike more

-- the text is that of the plan with a strike more, of this node in this bit
abbrev pub IsStruck : ℕ → ℕ → PlanValue → List ℕ → Type 0
IsStruck node bit plan text = (node < length plan.nodes) × IsPlanText (struck_at plan node bit) text

-- the node is there, and a strike's text says the bit, whose number has at most seven digits
abbrev pub NamesBit : ℕ → ℕ → PlanValue → Type 0
NamesBit node bit plan = (node < length plan.nodes) × (bit ≤ 9999999)

-- why there is no such text, the first of these that holds: the node isn't there; no text says the bit; the plan has
-- all its strikes; its text would be too long
abbrev pub RefusesStruck : ℕ → ℕ → PlanValue → SweepRefusal → Type 0
RefusesStruck node bit plan NoNode = length plan.nodes ≤ node
RefusesStruck node bit plan Bit = (node < length plan.nodes) × (9999999 < bit)
RefusesStruck node bit plan StrikeCount =
    NamesBit node bit plan × (most_strikes plan.version ≤ times_in plan.strikes)
RefusesStruck node bit plan TooLong =
    NamesBit node bit plan × (times_in plan.strikes < most_strikes plan.version) × IsTooLong (struck_at plan node bit)
RefusesStruck node bit plan (TooMany runs bits) = ⊥
RefusesStruck node bit plan (NoBit bits) = ⊥

-- ---- of the plan on the input

-- why there is no text of that plan: this, or, as for its run, there is no plan, or memory was refused
abbrev pub RefusesOfPlan :
    (PlanValue → SweepRefusal → Type 0) → Option (List ℕ) → Option (List ℕ) → CommandRefusal → Type 0
RefusesOfPlan May before after (refusal.Sweep why) =
    (bytes : List ℕ) × (plan : PlanValue) × IsRead before after bytes × IsRunPlan bytes plan × May plan why
RefusesOfPlan May before after other = RefusesRun before after other
