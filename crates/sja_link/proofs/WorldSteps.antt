-- The world of one link.
pub mod WorldBudget
pub mod Worlds
