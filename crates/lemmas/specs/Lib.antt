pub mod Gathering
pub mod Picking
pub mod Related

-- ---- the face: the lemmas that proofs of other crates cite
-- face: proofs
