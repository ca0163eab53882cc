-- What stands behind the `#` of a text.
use Rattle.std.specs.Prelude.{◌≡◌, ◌<◌, ℕ, Bool, List, length, slice_index, All}
use Rattle.can_frame.specs.Frame.{data_count}
use Rattle.can_notation.specs.Digits.{capital}
use Rattle.can_notation.specs.Text.{remote_mark}

-- kind, DLC and data bytes are those of some frame
pub record IsRest (rtr : Bool) (dlc : ℕ) (bytes : List ℕ) : Type 0 where
  pub dlc_small : dlc < 16
  pub count : length bytes ≡ data_count rtr dlc
  pub fit : All (λ byte. byte < 256) bytes

-- it begins with `R`, in either case
abbrev pub BeginsRemote : List ℕ → Type 0
BeginsRemote behind = (0 < length behind) × (capital (slice_index behind 0) ≡ remote_mark)
