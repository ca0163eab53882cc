-- The lines of a node, and of several nodes, in order.
pub mod Walks
pub mod Shorts
pub mod Passing
pub mod Nodes
pub mod Orders
