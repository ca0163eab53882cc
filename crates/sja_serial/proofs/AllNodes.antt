-- All nodes, each at its place.
pub mod Several
pub mod Newly
