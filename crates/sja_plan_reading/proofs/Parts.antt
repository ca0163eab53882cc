-- The nodes of a plan, and its steps.
pub mod Nodes
pub mod Items
