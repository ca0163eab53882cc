pub mod Journals
pub mod OneNode
pub mod AllNodes
pub mod WholeRun
pub mod Listed
pub mod RunsTold
