-- What the driver's ledger shows of the messages that it holds (SJA1000 data sheet, 6.4.14, receive buffer).
use Rattle.std.specs.Prelude.{◌≡◌, ℕ, Bool, true, false, Option, Some, None, Result, Ok, Err, List, slice_get, length}
use Rattle.std.specs.Borrow.{Bor}
use Rattle.can_frame.specs.declared.buffer_view.BufferView.{BufferView}
use Rattle.sja_link.specs.declared.lost_window.LostWindow.{LostWindow}

-- the message behind an answer's reference
abbrev pub window_in : Result (Option (Bor (List ℕ))) LostWindow → Result (Option (List ℕ)) LostWindow
window_in (Ok None) = Ok None
window_in (Ok (Some m)) = Ok (Some m.now)
window_in (Err fault) = Err fault

-- after bus-off there is no window; else it shows the first message held, or none
abbrev pub Shows : Bool → List (List ℕ) → Result (Option (List ℕ)) LostWindow → Type 0
Shows off held (Ok first) = (off ≡ false) × (first ≡ slice_get held 0)
Shows off held (Err fault) = off ≡ true

-- what a read of the registers sees: the first message held and their number, and nothing once bus-off is known
abbrev pub seen_of : Bool → List (List ℕ) → BufferView
seen_of true held = record { first = None; count = 0 }
seen_of false held = record { first = slice_get held 0; count = length held }
