-- Levels, and the lines that frames make: digits, CRC sequence, body, stuff bits, and the whole line.
-- What levels say: where the fields stand, what they are, and of which frame a whole body is.
-- Lines read: a whole list of levels, or one level at a time.
-- Places of the arbitration field.
-- Levels kept as one number.
pub mod Packing
-- What a reader of one level at a time was given, and what its private fields stand for.
pub mod Inside
pub mod Shifts
-- What a transmitter sends next.
pub mod Sending

-- ---- the face: the lemmas that proofs of other crates cite
-- face: proofs.PackedLevels.{IsNextOf, near_along}
