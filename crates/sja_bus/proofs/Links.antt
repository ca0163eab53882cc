-- The links of a node and of all nodes.
pub mod AtLinks
pub mod BusNodeParts
pub mod Linking
pub mod WrittenBack
