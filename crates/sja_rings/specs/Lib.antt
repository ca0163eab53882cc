pub mod Ends
pub mod NodeRings
pub mod Ended
pub mod Left
pub mod Carrying

-- ---- the face: the lemmas that proofs of other crates cite
-- face: proofs.OnePair.{still_one_node}
-- face: proofs.RingsOfNode.{here}
