-- How a call of a page went, and the statuses by which a page knows it (this project's own rule): the program's exit
-- statuses are its own, 0 to 2.
use Rattle.std.specs.Prelude.{ℕ}
use Rattle.sja_page.specs.declared.outcome.Outcome.{Outcome}
use Rattle.sja_page.specs.declared.outcome.Outcome.TheVariants.{Ended, LeftOver, NoRoom, NoMemory}

abbrev pub status_of : Outcome → ℕ
status_of (Ended status) = status
status_of LeftOver = 3
status_of NoRoom = 4
status_of NoMemory = 5
