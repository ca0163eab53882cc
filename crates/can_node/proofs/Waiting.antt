-- bus integration, flags, delimiters and interframe space
pub mod DominantFlags
pub mod PassiveFlags
pub mod Flags
pub mod Beginnings
