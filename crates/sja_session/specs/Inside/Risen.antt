-- Lines that rose, as they were looked at (this project's own rule).
use Rattle.std.specs.Prelude.{◌&&◌, ℕ, Bool, false, List, slice_index_or}
use Rattle.sja_session.specs.Watching.{rise}

-- of a place: it is watched, and was false and is true
abbrev pub risen : List Bool → List Bool → List Bool → ℕ → Bool
risen watched before now k =
    slice_index_or watched k false && rise (slice_index_or before k false) (slice_index_or now k false)
