-- The limits of a plan, in any version.
pub mod ByVersion
