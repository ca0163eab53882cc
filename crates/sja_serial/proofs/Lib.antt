-- a node, bits, all nodes, and the turns of a whole run
pub mod OneNode
pub mod ManyBits
pub mod AllNodes
pub mod WholeRun
pub mod TypedActs
