pub mod Limits
pub mod Plan
pub mod Struck
pub mod Shorter
pub mod Growing

-- ---- the face: the lemmas that proofs of other crates cite
-- face: proofs.PlanLimits.ByVersion.{bits_most, steps_most}
