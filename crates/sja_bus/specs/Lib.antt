-- ---- what holds of every bus
pub mod BusRest
pub mod BusPlaces
-- ---- the ports of the nodes
pub mod Boards
-- ---- all nodes of a bus
pub mod TakingAll
pub mod Moment
-- ---- bits that are run at once, and one after another
pub mod Stretches
pub mod Several
pub mod UntilTold
-- ---- how the code keeps a bus: definitions of the private contracts alone
pub mod Inside

-- ---- the face: the lemmas that proofs of other crates cite
-- face: proofs.AllNodes.Many.{ends_kept, links_kept}
