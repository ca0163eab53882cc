-- In how many frames strikes by place strike (this project's own rule).
use Rattle.std.specs.Prelude.{◌*◌, ◌<◌, ◌≤◌, ◌⊎◌, ℕ, List}
use Rattle.lemmas.specs.Gathering.{total}
use Rattle.sja_plan.specs.declared.placed_strike.PlacedStrike.{PlacedStrike}
use Rattle.sja_plan.specs.declared.struck_frames.StruckFrames.{StruckFrames}
use Rattle.sja_plan.specs.declared.struck_frames.StruckFrames.TheVariants.{Numbered, First}

-- of one strike
abbrev pub frame_count : StruckFrames → ℕ
frame_count (Numbered number) = 1
frame_count (First times) = times

-- of all
abbrev pub place_count : List PlacedStrike → ℕ
place_count placed = total (λ (s : PlacedStrike). frame_count s.frames) placed

-- they are at most 1,000, and as many runs of so many bits come to at most 100,000,000
abbrev pub AreFew : ℕ → List PlacedStrike → Type 0
AreFew bits placed = (place_count placed ≤ 1000) × (place_count placed * bits ≤ 100000000)

-- or they are more
abbrev pub AreMany : ℕ → List PlacedStrike → Type 0
AreMany bits placed = (1000 < place_count placed) ⊎ (100000000 < place_count placed * bits)
