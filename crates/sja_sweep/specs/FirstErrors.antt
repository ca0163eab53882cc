-- The first error that a run has and the run without the strike hasn't (this project's own rule).
use Rattle.std.specs.Prelude.{ℕ, Bool, true, false, nat_lt, if◌then◌else◌, Option, Some, None, List, [], length}
use Rattle.std.specs.Prelude.{map, fold, find, slice_index_or}
use Rattle.std.specs.List.{range_with_len}
use Rattle.std.specs.Option.{option_map}
use Rattle.can_node_rules.specs.declared.cause.Cause.{Cause}
use Rattle.sja_sweep.specs.declared.first_error.FirstError.{FirstError}

-- the error of a bit, counted from 0; past the end there is none
abbrev pub error_at : List (Option Cause) → ℕ → Option Cause
error_at errors bit = slice_index_or errors bit None

-- those of a node, counted from 0
abbrev pub errors_of_node : List (List (Option Cause)) → ℕ → List (Option Cause)
errors_of_node all k = slice_index_or all k []

-- whether a bit has an error, where it has none without the strike
abbrev pub is_new : Option Cause → Option Cause → Bool
is_new None None = false
is_new None (Some now) = true
is_new (Some without) now = false

abbrev pub is_new_at : List (Option Cause) → List (Option Cause) → ℕ → Bool
is_new_at without now bit = is_new (error_at without bit) (error_at now bit)

-- the first such bit of a node
abbrev pub first_bit : List (Option Cause) → List (Option Cause) → Option ℕ
first_bit without now = find (is_new_at without now) (range_with_len 0 (length now))

-- the error of a node in a bit
abbrev pub error_of : ℕ → List (Option Cause) → ℕ → Option FirstError
error_of k errors bit = option_map (λ cause. record { node = k; bit = bit; cause = cause }) (error_at errors bit)

-- the first such error of a node
abbrev pub error_by : ℕ → List (Option Cause) → Option ℕ → Option FirstError
error_by k errors None = None
error_by k errors (Some bit) = error_of k errors bit

abbrev pub first_of_node : List (List (Option Cause)) → List (List (Option Cause)) → ℕ → Option FirstError
first_of_node without now k =
    error_by k (errors_of_node now k) (first_bit (errors_of_node without k) (errors_of_node now k))

-- the earlier one of two, and the first one where they are in one bit
abbrev pub earlier : Option FirstError → Option FirstError → Option FirstError
earlier None q = q
earlier (Some p) None = Some p
earlier (Some p) (Some q) = if nat_lt q.bit p.bit then Some q else Some p

-- the first of all nodes; of several in one bit that of the first node
abbrev pub first_error : List (List (Option Cause)) → List (List (Option Cause)) → Option FirstError
first_error without now = fold earlier None (map (first_of_node without now) (range_with_len 0 (length now)))
