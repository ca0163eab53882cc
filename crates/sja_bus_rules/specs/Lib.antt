-- ---- the wire
pub mod Wire
-- ---- what comes before a bit, and what a port is told of it
pub mod Opens
pub mod Telling
-- ---- what holds of every bus
pub mod Lawful
pub mod Buses
pub mod OutOfRoom
pub mod Reasons
pub mod WholeRecords

-- ---- the face: the lemmas that proofs of other crates cite
-- face: proofs.Wires.{no_journal}
