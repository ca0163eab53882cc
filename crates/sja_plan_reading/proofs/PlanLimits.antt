-- The limits of a plan, in any version.
pub mod WithinLimits
pub mod OfDocuments
